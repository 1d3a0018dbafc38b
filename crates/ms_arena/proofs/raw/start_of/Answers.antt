use Rattle.std.proofs.Common.{refl}
use Rattle.ms_arena.proofs.raw.start_of.Goals as goal

pub returns-in-Some-clause-serves : goal.returns-in-Some-clause-serves
returns-in-Some-clause-serves g c = λ live. rw c.in-Some.ensures.placed (refl, refl, refl)
