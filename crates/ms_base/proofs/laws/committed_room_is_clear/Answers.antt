use Rattle.ms_base.proofs.granules.CommittedRoomLemmas.{committed_room_is_clear}
use Rattle.ms_base.proofs.laws.committed_room_is_clear.Goals as goal

pub returns : goal.returns
returns c = λ pool m words h some few sound. committed_room_is_clear pool m words h some few sound
