use Rattle.std.proofs.Common.{◌∙◌}
use Rattle.ms_pool.proofs.maps.FoundLemmas.{all_found, all_left, one_less}
use Rattle.ms_pool.proofs.mapping.found_in.Goals as goal

pub loop-part-init : goal.loop-part-init
loop-part-init c =
    rw (c.into_iter-part-iterator.ensures.into_iter_gives ∙ c.free_leaves-part-items.ensures) (all_left c.args.tree.now)

pub note-requires : goal.note-requires
note-requires c =
    let so_far = rw c.in-Some.ensures.steps at c.loop-part.invariant in
    record { placed = so_far.parts.0.0; within = so_far.parts.0.1 }

pub loop-part-preserved : goal.loop-part-preserved
loop-part-preserved c =
    one_less c.args.tree.now c.in-Some.part c.next.new.self _ _ _ _
    (rw c.in-Some.ensures.steps at c.loop-part.invariant) c.note.ensures

pub returns : goal.returns
returns c = all_found c.args.tree.now _ _ (rw c.in-None.ensures.steps.0 at c.loop-part.invariant)
