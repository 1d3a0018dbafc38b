use Rattle.std.proofs.Common.{ap, sym}
use Rattle.ms_base.specs.declared.kind.Space.{Space}
use Rattle.ms_base.specs.Spaces.{by_space, first_class_slot}
use Rattle.ms_pool.proofs.lender.Lender.slots_of.Goals as goal

pub returns-in-Class-clause-first : goal.returns-in-Class-clause-first
returns-in-Class-clause-first c = sym (ap (λ (space : Space). by_space space 0 first_class_slot) c.in-Class.is)
