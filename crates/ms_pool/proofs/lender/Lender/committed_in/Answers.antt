use Rattle.std.proofs.Common.{◌*◌, ◌/◌, sym, ◌∙◌}
use Rattle.ms_pool.proofs.counts.CommittedCountLemmas.{IsCountedIn, counted_in, slots_between}
use Rattle.ms_pool.proofs.lender.Lender.committed_in.Goals as goal
use Rattle.ms_pool.proofs.lender.Lender.committed_in.Goals.{After-missing}

counted : (c : After-missing) → IsCountedIn c.args.space c.args.self.now.nodes
    (c.from.result * (1048576 / c.granule-each.result)) c.missing.result
counted c =
    counted_in c.args.space c.args.self.now.nodes c.from-2.result c.from.result c.granule-each.result c.missing.result
    c.requires.nodes (c.from-2.ensures ∙ c.slots_of-first.ensures.first)
    (c.from.ensures ∙ slots_between c.args.space c.args.self.now.nodes.class_slots _ _ c.slots_of-first.ensures.first
    c.slots_of-first.ensures.end)
    (c.granule-each.ensures ∙ sym c.requires.granule) c.missing.ensures

pub overflow_sub-result : goal.overflow_sub-result
overflow_sub-result c = (counted (goal.at.overflow_sub-result c).After-missing).fits

pub returns : goal.returns
returns c = (counted (goal.at.returns c).After-missing).rest
