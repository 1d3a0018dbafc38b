use Rattle.std.proofs.Common.{ℕ, sym, ap}
use Rattle.std.proofs.lemmas.List.FromFn.{length-range_with_len}
use Rattle.ms_base.specs.declared.refusal.Refusal.TheVariants.{ReserveLimit}
use Rattle.ms_pool.proofs.lender.Lender.reserve_limit.Goals as goal

pub returns-in-Class : goal.returns-in-Class
returns-in-Class c =
    rw (c.class_slots.ensures, c.class_slots-in-Class.ensures, c.in-Class.is)
    (ap (λ (n : ℕ). ReserveLimit n c.args.self.now.nodes.class_slots)
    (sym (length-range_with_len 64 c.args.self.now.nodes.class_slots)))
