use Rattle.std.proofs.Common.{ap, arith, length, sym, ◌∙◌, subst}
use Rattle.std.specs.List.{AllByRecursion}
use Rattle.std.proofs.lemmas.List.Elements.{recursion_from_All}
use Rattle.ms_base.specs.Names.{AreNamed}
use Rattle.ms_run.specs.Shares.{IsMannedShare}
use Rattle.std.proofs.lemmas.List.{nil_from_length}
use Rattle.ms_run.proofs.sharing.DifferLemmas.{begin_apart, next_differs, still_differ}
use Rattle.ms_run.proofs.sharing.TakenApartLemmas.{taken_none, taken_more, all_taken}
use Rattle.ms_run.proofs.gathering.take_apart.Goals as goal

pub loop-share-init : goal.loop-share-init
loop-share-init c =
    let room = c.in_ok-seats.ensures in let more = c.in_ok-meters.ensures in let all =
    c.into_iter-share-iterator.ensures.into_iter_gives.0 in (
      taken_none _ _ _ _ _ room.items more.items c.new-loaders.ensures all,
      omega (arith, room.len, room.capacity, c.len.ensures, ap length all, c.args.shares.ok.0),
      omega (arith, more.len, more.capacity, c.len-2.ensures, ap length all, c.args.shares.ok.0),
      begin_apart c.requires.apart.0 _ _ _ c.requires.apart.1 c.new-loaders.ensures all,
      subst AreNamed (sym c.new-loaders.ensures) (λ k h. absurd (omega arith)),
      subst (AllByRecursion IsMannedShare) (sym all) (recursion_from_All IsMannedShare _ c.requires.manned),
    )

pub push_reserved-requires : goal.push_reserved-requires
push_reserved-requires c = omega (arith, c.loop-share.invariant.1, ap length c.in-Some.ensures.steps.0)

pub push_reserved-requires-in-loop-share : goal.push_reserved-requires-in-loop-share
push_reserved-requires-in-loop-share c = omega (arith, c.loop-share.invariant.2, ap length c.in-Some.ensures.steps.0)

pub join-requires-clause-others : goal.join-requires-clause-others
join-requires-clause-others c = next_differs _ c.in-Some.share _ _ c.in-Some.ensures.steps.0 c.loop-share.invariant.3

pub join-requires-clause-part_named : goal.join-requires-clause-part_named
join-requires-clause-part_named c =
    (subst (AllByRecursion IsMannedShare) c.in-Some.ensures.steps.0 c.loop-share.invariant.5).0.names

pub loop-share-preserved : goal.loop-share-preserved
loop-share-preserved c =
    let next = c.in-Some.ensures.steps.0 in let pushed = c.push_reserved.ensures in let metered =
    c.push_reserved-in-loop-share.ensures in (
      taken_more _ _ _ _ _ _ _ _ _ c.in-Some.share c.loop-share.invariant.0 next pushed.items metered.items
          c.in_ok-loaders.ensures.joined,
      omega (arith, c.loop-share.invariant.1, ap length next, pushed.len, pushed.capacity),
      omega (arith, c.loop-share.invariant.2, ap length next, metered.len, metered.capacity),
      still_differ _ _ c.in-Some.share _ _ next c.loop-share.invariant.3 c.in_ok-loaders.ensures.joined,
      c.in_ok-loaders.ensures.named,
      (subst (AllByRecursion IsMannedShare) next c.loop-share.invariant.5).1,
    )

pub returns-clause-seats : goal.returns-clause-seats
returns-clause-seats c =
    (all_taken _ _ c.loop-share.loaders _ _ c.loop-share.invariant.0
    (nil_from_length _ (sym c.loop-share.share-iterator.rest.ok.0 ∙ c.in-None.ensures.steps.0))).0

pub returns-clause-loaders : goal.returns-clause-loaders
returns-clause-loaders c =
    (all_taken _ _ c.loop-share.loaders _ _ c.loop-share.invariant.0
    (nil_from_length _ (sym c.loop-share.share-iterator.rest.ok.0 ∙ c.in-None.ensures.steps.0))).1

pub returns-clause-meters : goal.returns-clause-meters
returns-clause-meters c =
    (all_taken _ _ c.loop-share.loaders _ _ c.loop-share.invariant.0
    (nil_from_length _ (sym c.loop-share.share-iterator.rest.ok.0 ∙ c.in-None.ensures.steps.0))).2
