use Rattle.std.proofs.Common.{◌∙◌, ap}
use Rattle.ms_base.specs.Policy.{granule_of}
use Rattle.ms_base.specs.declared.kind.Space.TheVariants.{NonClass, Class}
use Rattle.ms_loaders.specs.System.{machine_of}
use Rattle.ms_loaders.proofs.sums.FitLemmas.{machine_is_good}
use Rattle.ms_loaders.proofs.sums.TotalsLemmas.{are_few, as_many, committed_few, pool_tells, space_is, sums_are}
use Rattle.ms_loaders.proofs.system.System.totals.Goals as goal

pub gather-requires : goal.gather-requires
gather-requires c =
    let its = c.self.inside in
    record {
      few = are_few (machine_of its.pool its.loaders)
          (machine_is_good its.pool its.loaders c.self.invariant.together);
    }

pub space_totals-requires : goal.space_totals-requires
space_totals-requires c =
    let its = c.self.inside in
    committed_few NonClass (machine_of its.pool its.loaders) _ _ its.pool.opened
    (machine_is_good its.pool its.loaders c.self.invariant.together)
    (c.all_totals-pool.ensures.sums
    ∙ pool_tells its.pool its.loaders c.self.invariant.together NonClass its.pool.opened)
    (c.granule-words.ensures ∙ ap granule_of c.self.invariant.policy_is)

pub space_totals-requires-2 : goal.space_totals-requires-2
space_totals-requires-2 c =
    let its = c.self.inside in
    committed_few Class (machine_of its.pool its.loaders) _ _ its.pool.class_opened
    (machine_is_good its.pool its.loaders c.self.invariant.together)
    (c.all_totals-class_pool.ensures.sums
    ∙ pool_tells its.pool its.loaders c.self.invariant.together Class its.pool.class_opened)
    (c.granule-words.ensures ∙ ap granule_of c.self.invariant.policy_is)

pub returns : goal.returns
returns c =
    let its = c.self.inside in
    let m = machine_of its.pool its.loaders in
    let gathered = c.in_ok-gathered.ensures.gathered in
    let words = c.granule-words.ensures ∙ ap granule_of c.self.invariant.policy_is in
    let first = c.space_totals.ensures ∙ space_is NonClass m _ _ its.pool.opened _
    (c.all_totals-pool.ensures.sums
    ∙ pool_tells its.pool its.loaders c.self.invariant.together NonClass its.pool.opened) words gathered.space in
    let second = c.space_totals-2.ensures ∙ space_is Class m _ _ its.pool.class_opened _
    (c.all_totals-class_pool.ensures.sums
    ∙ pool_tells its.pool its.loaders c.self.invariant.together Class its.pool.class_opened) words
    gathered.class_space in
    rw (← c.self.view_is) (sums_are m _ _ _ _ (c.len.ensures.count ∙ as_many its.loaders) first second gathered.rows)
