use Rattle.std.proofs.Common.{inl, inr, refl}
use Rattle.ms_c.proofs.steps.nizgrabul_new_loader.Goals as goal

-- the kind is that of the number
pub returns-in-Some : goal.returns-in-Some
returns-in-Some c = inl (record { kind = c.in-Some.kind; kind_is = c.in-Some.ensures.some; steps = c.step.ensures })

-- there is none
pub returns-in-None : goal.returns-in-None
returns-in-None c = inr (record { unknown = c.in-None.ensures.none; answer_is = refl; after_is = refl })
