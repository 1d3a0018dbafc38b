use Rattle.std.proofs.lemmas.List.Elements.{All-contains}
use Rattle.ms_base.specs.FreeParts.{IsFreePart, free_parts}
use Rattle.ms_base.proofs.free.RoomLemmas.{listed_is_free}
use Rattle.ms_base.proofs.granules.CommittedRoomLemmas.{enough_by_size}
use Rattle.ms_base.proofs.laws.enough_is_by_size.Goals as goal

pub returns : goal.returns
returns c = λ pool part words sound listed some few. enough_by_size pool part words sound
    (All-contains (IsFreePart pool.held pool.slots) (free_parts pool.held pool.slots) part
    (listed_is_free pool.held pool.slots) listed) some few
