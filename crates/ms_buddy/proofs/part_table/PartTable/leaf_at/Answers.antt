-- A leaf of the level is free by its bit, or lent by what stands at its entry, and one of some
-- level there is.
use Rattle.std.proofs.Common.{◌≡◌, ◌≤◌, ◌<◌, ℕ, Some, true, false, sym, ap, subst, ◌∙◌, inl, inr, arith}
use Rattle.std.specs.Prelude.{◌==◌}
use Rattle.std.specs.List.{find}
use Rattle.std.proofs.lemmas.Bool.{cases_lt}
use Rattle.std.proofs.lemmas.Bool.Decides.{nat_tests}
use Rattle.std.proofs.lemmas.Nat.Bits.{bit_at-lt}
use Rattle.ms_base.specs.Level.{highest_level}
use Rattle.ms_buddy.specs.Counts.{holder_of, number_of}
use Rattle.ms_buddy.specs.FreeBits.{bit_of}
use Rattle.ms_buddy.specs.Leaves.{covers, free_of, is_lent, span_at}
use Rattle.ms_buddy.proofs.CallLemmas.{InRoot, holder_found, holder_listed}
use Rattle.ms_buddy.proofs.LentPartLemmas.{holder_at_entry, lends_there, some_level}
use Rattle.ms_buddy.proofs.searches.FoundLemmas.{alike}
use Rattle.ms_buddy.proofs.FreeLeafLemmas.{free_of-kept}
use Rattle.ms_buddy.proofs.part_table.PartTable.leaf_at.Goals as goal

is_one : (n : ℕ) → (n == 1) ≡ true → n ≡ 1
is_one n e = grind (arith, nat_tests)

is_none : (n : ℕ) → n < 2 → (n == 1) ≡ false → n ≡ 0
is_none n h e = grind (arith, nat_tests, h)

pub returns-then-has-clause-leaf : goal.returns-then-has-clause-leaf
returns-then-has-clause-leaf g c =
    let kept = c.self.invariant in
    let at = span_at c.args.offset c.loop-level.level in
    let low : c.loop-level.level ≤ highest_level = omega (arith, c.loop-level-test.true) in
    let root : InRoot kept.node c.self.inside.free.words at =
    record { tree = kept.tree.tree; marked = kept.tree.marked; in_root = c.requires } in
    let set = ap (bit_of c.self.inside.free.words) (sym c.number.ensures.same) ∙ is_one _ (sym c.if-has.ensures) in
    sym (ap (find (covers c.args.offset)) (free_of-kept _ _ _ _ _ kept ∙ ap free_of c.self.view_is))
    ∙ holder_found kept.node _ at c.loop-level.level root (holder_listed kept.node _ at c.loop-level.level root low set)
    ∙ ap Some (sym (alike c.part.result (holder_of c.loop-level.level at)
    (c.part.ensures.start ∙ c.start_of_holder-start.ensures.start) c.part.ensures.level))

pub lent_at-requires-clause-whole : goal.lent_at-requires-clause-whole
lent_at-requires-clause-whole g c =
    rw c.start_of_holder-start.ensures.start
    (holder_at_entry c.loop-level.level c.args.offset (omega (arith, c.loop-level-test.true)) c.requires)

pub returns-in-Some-clause-leaf : goal.returns-in-Some-clause-leaf
returns-in-Some-clause-leaf g c =
    let at = span_at c.args.offset c.loop-level.level in
    let own = alike c.part-in-Some.result (holder_of c.loop-level.level at)
    (c.part-in-Some.ensures.start ∙ c.start_of_holder-start.ensures.start) c.part-in-Some.ensures.level in
    rw own (lends_there c.args.self.now (free_of c.args.self.now) at c.loop-level.level c.in-Some.leaf
    (rw c.start_of_holder-start.ensures.start at c.in-Some.ensures.lent))

pub loop-level-preserved : goal.loop-level-preserved
loop-level-preserved g c = record {
  free = λ level h. elim (cases_lt level c.loop-level.level) [
    | inl below ↦ c.loop-level.invariant.free level below
    | inr past ↦ subst (λ (n : ℕ). bit_of c.self.inside.free.words (number_of (span_at c.args.offset n)) ≡ 0)
        (omega (arith, past, h))
        (ap (bit_of c.self.inside.free.words) (sym c.number.ensures.same)
        ∙ is_none _ (bit_at-lt _ _) (sym c.if-has.ensures))
  ];
  lent = λ level h. elim (cases_lt level c.loop-level.level) [
    | inl below ↦ c.loop-level.invariant.lent level below
    | inr past ↦ subst (λ (n : ℕ). is_lent c.args.self.now (holder_of n (span_at c.args.offset n)) ≡ false)
        (omega (arith, past, h)) (rw c.start_of_holder-start.ensures.start at c.in_default.ensures.none)
  ];
}

pub unreachable-requires : goal.unreachable-requires
unreachable-requires g c =
    some_level _ _ _ _ _ c.self.invariant c.args.offset c.requires
    (λ level h. c.loop-level.invariant.free level (omega (arith, h, c.loop-level-test.false)))
    (λ level h. ap (λ leaves. is_lent leaves (holder_of level (span_at c.args.offset level))) c.self.view_is
    ∙ c.loop-level.invariant.lent level (omega (arith, h, c.loop-level-test.false)))
