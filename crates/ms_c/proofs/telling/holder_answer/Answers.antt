use Rattle.std.proofs.Common.{ℕ, Option, None, Some, IfNone, refl}
use Rattle.ms_c.proofs.telling.holder_answer.Goals as goal

-- What is so is so where nobody is told.
where_none : (P : Type 0) (holder : Option ℕ) → P → IfNone holder P
where_none P None so = so
where_none P (Some name) so = tt

pub returns-in-None-clause-none : goal.returns-in-None-clause-none
returns-in-None-clause-none c = where_none _ c.args.holder refl
