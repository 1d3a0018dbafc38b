use Rattle.ms_member.proofs.ServedLemmas.{all_own}
use Rattle.ms_member.proofs.member.Member.share.Goals as goal

-- all seats of the new pool are its own
pub first-requires : goal.first-requires
first-requires c = all_own c.in-Ok-new.shared _ c.in-Ok.pool _ c.in-Ok-new.ensures.seats
