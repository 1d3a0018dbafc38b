use Rattle.std.proofs.Common.{arith}
use Rattle.ms_loaders.specs.System.{states_of}
use Rattle.ms_loaders.proofs.sums.DetailLemmas.{loader_is, details_lead_on}
use Rattle.ms_loaders.proofs.collecting.gather_loaders.Goals as goal

pub loop-name-preserved : goal.loop-name-preserved
loop-name-preserved c =
    let name = c.in-Some.name.now in
    let state = c.in-Some.loader.now.state in
    let left = states_of c.next.new.self in
    let all = states_of c.args.loaders.now in
    let so_far = rw c.in-Some.ensures.steps at c.loop-name.invariant in
    let row =
    loader_is name state _ c.totals.result.0 c.totals.result.1 c.kind.ensures
    c.totals.ensures.sums c.totals.ensures.class_sums in
    record {
      rows = details_lead_on _ _ _ (name, state) left all so_far.rows c.push_reserved.ensures.items row;
      room = omega (arith, so_far.room, c.push_reserved.ensures.len, c.push_reserved.ensures.capacity);
    }
