use Rattle.std.proofs.Common.{refl, sym, ap, subst, ◌∙◌, arith, ◌+◌}
use Rattle.std.proofs.lemmas.Bool.{not-false}
use Rattle.ms_base.specs.declared.kind.Space.TheVariants.{NonClass}
use Rattle.ms_base.specs.Held.{has_chunk_in}
use Rattle.ms_commit.specs.Nodes.{NodesState}
use Rattle.ms_pool.specs.declared.lender.Lender.{Lender}
use Rattle.ms_pool.specs.Ledger.{held_in}
use Rattle.ms_pool.specs.Keeping.{ledger_of}
use Rattle.ms_pool.proofs.counts.CountedLemmas.{counted_on}
use Rattle.ms_pool.proofs.returns.ReleasedChunkLemmas.{not_true}
use Rattle.ms_pool.proofs.PurgingLemmas.{no_more_slots}
use Rattle.ms_pool.proofs.PurgedToLemmas.{IsPurgedTo, drops_next, kept_once_purged, passes}
use Rattle.ms_pool.proofs.PurgingLemmas.{purged_at_first, purged_at_last, skips_held}
use Rattle.ms_pool.proofs.PurgedToLemmas.{skipped_to}
use Rattle.ms_pool.proofs.lender.Lender.purge.Goals.{then-is_whole, else-is_whole}
use Rattle.ms_pool.proofs.lender.Lender.purge.Goals as goal

pub loop-slot-init : goal.loop-slot-init
loop-slot-init c = record {
  purged = record {
    trees = refl;
    lent = refl;
    limits = refl;
    policy = refl;
    purged = purged_at_first (ledger_of c.args.self.now) c.requires.kept.sound;
  };
  within = omega arith;
}

pub loop-slot-preserved : goal.loop-slot-preserved
loop-slot-preserved c =
    let old = c.args.self.now in
    let mid = c.loop-slot.self in
    let slot = c.in-Some.slot in
    let before : IsPurgedTo old mid slot = skipped_to old mid c.loop-slot.from slot c.in-Some.ensures.from
    c.loop-slot.invariant.purged c.in-Some.ensures.lowest in
    record {
      purged = elim c.if-is_whole.branch [
        | then-is_whole w ↦ drops_next old mid _ slot c.requires.kept before c.in-Some.ensures.below
            (w.self-is ∙ ap (λ (n : NodesState). record mid { nodes = n }) w.unreserve.ensures)
            (not_true (has_chunk_in (held_in NonClass (ledger_of mid)) slot)
            (sym c.is_whole.ensures ∙ w.if-is_whole.true))
        | else-is_whole w ↦ subst (λ (l : Lender). IsPurgedTo old l (slot + 1)) (sym w.self-is)
            (passes old mid slot before (skips_held (ledger_of old) (ledger_of mid) slot before.purged
            (not-false (has_chunk_in (held_in NonClass (ledger_of mid)) slot)
            (sym c.is_whole.ensures ∙ w.if-is_whole.false))))
      ];
      within = omega (arith, c.in-Some.ensures.below);
    }

pub overflow_sub-result : goal.overflow_sub-result
overflow_sub-result c =
    let fewer =
    no_more_slots (ledger_of c.args.self.now) (ledger_of c.loop-slot.self) c.loop-slot.from
    c.loop-slot.invariant.purged.purged in
    omega (arith, fewer, c.reserved.ensures.count, c.reserved-before.ensures.count)

pub returns-clause-purged : goal.returns-clause-purged
returns-clause-purged c =
    let fewer =
    no_more_slots (ledger_of c.args.self.now) (ledger_of c.loop-slot.self) c.loop-slot.from
    c.loop-slot.invariant.purged.purged in (
      omega (arith, fewer, c.reserved.ensures.count, c.reserved-before.ensures.count),
      purged_at_last (ledger_of c.args.self.now) (ledger_of c.loop-slot.self) 64 c.requires.kept.sound refl
          (skipped_to c.args.self.now c.loop-slot.self c.loop-slot.from 64 c.loop-slot.invariant.within
          c.loop-slot.invariant.purged (λ k low high. c.in_default.ensures.none k low)).purged,
    )

pub returns-clause-kept : goal.returns-clause-kept
returns-clause-kept c =
    kept_once_purged c.args.self.now c.loop-slot.self 64 c.requires.kept
    (skipped_to c.args.self.now c.loop-slot.self c.loop-slot.from 64 c.loop-slot.invariant.within
    c.loop-slot.invariant.purged (λ k low high. c.in_default.ensures.none k low)) refl c.reserved.ensures.sound

pub returns-clause-counted : goal.returns-clause-counted
returns-clause-counted c =
    counted_on c.args.self.now c.loop-slot.self c.loop-slot.invariant.purged.trees c.loop-slot.invariant.purged.lent
    c.requires.counted

pub unreserve-requires-clause-reserved : goal.unreserve-requires-clause-reserved
unreserve-requires-clause-reserved c = c.in-Some.ensures.reserved

pub unreserve-requires-clause-below : goal.unreserve-requires-clause-below
unreserve-requires-clause-below c = c.in-Some.ensures.below
