use Rattle.std.proofs.lemmas.List.FromFn.{length-range_with_len}
use Rattle.ms_pool.proofs.lender.Lender.new_slot.Goals as goal

pub returns-in-Class-clause-full : goal.returns-in-Class-clause-full
returns-in-Class-clause-full c = rw c.in-Class.is (length-range_with_len 64 c.args.self.now.nodes.class_slots)
