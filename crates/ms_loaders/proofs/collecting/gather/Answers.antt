use Rattle.std.proofs.Common.{◌∙◌, ap, arith}
use Rattle.ms_base.specs.declared.kind.Kind.{Kind}
use Rattle.ms_base.specs.declared.kind.Space.TheVariants.{NonClass, Class}
use Rattle.ms_loaders.specs.System.{states_of}
use Rattle.ms_loaders.specs.Collecting.{row_made}
use Rattle.ms_loaders.proofs.sums.CollectLemmas.{few_so_far, fits_so_far, is_few, leads_on, row_is, rows_lead_on}
use Rattle.ms_loaders.proofs.collecting.gather.Goals as goal

pub with-space-requires : goal.with-space-requires
with-space-requires c =
    let so_far = rw c.in-Some.ensures.steps at c.loop-name.invariant.space in
    let left = states_of c.next.new.self in
    record {
      few = few_so_far NonClass _ _ _ _ left _ so_far c.totals.ensures.sums c.requires.few;
      fits = fits_so_far NonClass _ _ _ _ left _ so_far c.totals.ensures.sums c.requires.few;
    }

pub with-class_space-requires : goal.with-class_space-requires
with-class_space-requires c =
    let so_far = rw c.in-Some.ensures.steps at c.loop-name.invariant.class_space in
    let left = states_of c.next.new.self in
    record {
      few = few_so_far Class _ _ _ _ left _ so_far c.totals.ensures.class_sums c.requires.few;
      fits = fits_so_far Class _ _ _ _ left _ so_far c.totals.ensures.class_sums c.requires.few;
    }

pub loader_row-requires : goal.loader_row-requires
loader_row-requires c =
    let so_far = rw c.in-Some.ensures.steps at c.loop-name.invariant in
    let left = states_of c.next.new.self in
    let its = is_few NonClass _ _ _ _ left _ so_far.space c.totals.ensures.sums c.requires.few in
    let theirs = is_few Class _ _ _ _ left _ so_far.class_space c.totals.ensures.class_sums c.requires.few in record {
      few = omega (arith, its.chunks, theirs.chunks);
      small = omega (arith, c.totals.ensures.small);
      fits = omega (arith, its.used, theirs.used);
    }

pub loop-name-preserved : goal.loop-name-preserved
loop-name-preserved c =
    let name = c.in-Some.name.now in
    let state = c.in-Some.loader.now.state in
    let left = states_of c.next.new.self in
    let all = states_of c.args.loaders.now in
    let its = c.totals.ensures.sums in
    let theirs = c.totals.ensures.class_sums in
    let so_far = rw c.in-Some.ensures.steps at c.loop-name.invariant in
    let with = c.with-space.ensures in
    let with_class = c.with-class_space.ensures in
    let row =
    c.loader_row.ensures
    ∙ ap (λ (kind : Kind). row_made name kind c.totals.result.0 c.totals.result.1) c.kind.ensures
    ∙ row_is name state c.totals.result.0 c.totals.result.1 its theirs in
    record {
      space = leads_on NonClass _ _ c.totals.result.0 name state left all so_far.space its with.chunks with.used
          with.live with.free_blocks;
      class_space =
          leads_on Class _ _ c.totals.result.1 name state left all so_far.class_space theirs with_class.chunks
          with_class.used with_class.live with_class.free_blocks;
      rows = rows_lead_on _ _ _ (name, state) left all so_far.rows c.push_reserved.ensures.items row;
      room = omega (arith, so_far.room, c.push_reserved.ensures.len, c.push_reserved.ensures.capacity);
    }
