-- The bit of the part says whether it is a free leaf, and its entry whether it is lent.
use Rattle.std.proofs.Common.{◌≡◌, ◌<◌, ◌≤◌, ℕ, ◌+◌, false, List, ap, sym, subst, ◌∙◌, ◌∷◌, arith}
use Rattle.std.specs.Prelude.{◌==◌, IsTrue}
use Rattle.std.specs.List.{AllByRecursion, list_any}
use Rattle.ms_base.specs.declared.span.Span.{Span}
use Rattle.ms_base.specs.Level.{size_of}
use Rattle.ms_buddy.specs.FreeBits.{bit_of}
use Rattle.ms_buddy.specs.Leaves.{LentLeaf, free_of, from_on, is_lent, is_same, span_at}
use Rattle.ms_buddy.specs.Row.{AreSmaller}
use Rattle.ms_buddy.specs.Tree.{free_in}
use Rattle.ms_buddy.proofs.CallLemmas.{at_entry}
use Rattle.ms_buddy.proofs.FreeLeafLemmas.{free_of-kept}
use Rattle.ms_buddy.proofs.bits.FreeBitLemmas.{free_by_bit}
use Rattle.ms_buddy.proofs.bits.FreeNumberLemmas.{IsRootSpan, free_spans, root_part}
use Rattle.ms_buddy.proofs.searches.FoundLemmas.{free_rising}
use Rattle.ms_buddy.proofs.searches.SeenLemmas.{free_seen, lends_part, lent_seen, smaller, smallest_seen}
use Rattle.ms_buddy.proofs.part_table.PartTable.look.Given.{Over}
use Rattle.ms_buddy.proofs.part_table.PartTable.look.Goals as goal
use Rattle.ms_buddy.proofs.part_table.PartTable.look.Goals.{After-has, After-self}

-- The free leaves of the node that is kept are those of the table.
kept_free : (g : Over) (c : After-self g) → free_in 0 0 c.self.invariant.node ≡ free_of c.args.self.now
kept_free g c = free_of-kept _ _ _ _ _ c.self.invariant ∙ ap free_of c.self.view_is

-- What the bit says.
told : (g : Over) (c : After-has g)
    → c.has.result ≡ list_any (is_same (span_at c.args.start c.args.level)) (free_in 0 0 c.self.invariant.node)
told g c = c.has.ensures ∙ ap (λ n. bit_of c.self.inside.free.words n == 1) c.number.ensures.same
    ∙ free_by_bit c.self.invariant.node c.self.inside.free.words (span_at c.args.start c.args.level)
    c.self.invariant.tree.tree c.self.invariant.tree.marked c.requires.of_root

-- Where it isn't set the free leaves that meet the part are smaller.
none_larger : (g : Over) (c : After-has g) → c.has.result ≡ false
    → free_in 0 0 c.self.invariant.node ≡ free_of c.args.self.now
    → AreSmaller c.args.level c.args.start (free_of c.args.self.now)
none_larger g c clear free =
    smaller c.args.level c.args.start (free_of c.args.self.now) c.requires.of_root
    (subst (AllByRecursion IsRootSpan) free
    (free_spans 0 0 c.self.invariant.node c.self.invariant.tree.tree root_part)) c.requires.within
    (subst (λ (parts : List Span). list_any (is_same (span_at c.args.start c.args.level)) parts ≡ false) free
    (sym (told g c) ∙ clear))

pub returns-then-has : goal.returns-then-has
returns-then-has g c =
    let free = kept_free g (goal.at.returns-then-has g c).After-self in
    subst (λ (parts : List Span). from_on c.args.start parts
    ≡ span_at c.args.start c.args.level ∷ from_on (c.args.start + size_of c.args.level) parts) free
    (free_seen c.self.invariant.node c.args.level c.args.start c.self.invariant.tree.tree
    (free_rising 0 0 c.self.invariant.node c.self.invariant.tree.tree)
    (sym (told g (goal.at.returns-then-has g c).After-has) ∙ c.if-has.true))

pub returns-then-level-eq12 : goal.returns-then-level-eq12
returns-then-level-eq12 g c =
    let free = kept_free g (goal.at.returns-then-level-eq12 g c).After-self in
    let smaller = none_larger g (goal.at.returns-then-level-eq12 g c).After-has c.if-has.false free in
    rw c.if-level-eq12.true (smallest_seen c.args.start (free_of c.args.self.now)
    (subst (AllByRecursion IsRootSpan) free
    (free_spans 0 0 c.self.invariant.node c.self.invariant.tree.tree root_part)) (rw c.if-level-eq12.true at smaller))

pub lent_at-requires-clause-whole : goal.lent_at-requires-clause-whole
lent_at-requires-clause-whole g c =
    at_entry c.args.level c.args.start c.requires.of_root.level_fits c.requires.of_root.aligned

pub returns-in-Some : goal.returns-in-Some
returns-in-Some g c =
    let free = kept_free g (goal.at.returns-in-Some g c).After-self in
    subst (λ (parts : List Span). from_on c.args.start parts ≡ from_on (c.args.start + size_of c.args.level) parts) free
    (lent_seen c.self.invariant.node c.args.level c.args.start c.self.invariant.tree.tree
    (subst (λ (leaves : List LentLeaf). IsTrue (is_lent leaves (span_at c.args.start c.args.level)))
    (sym (c.self.invariant.lent_is ∙ c.self.view_is))
    (lends_part c.args.self.now c.args.level c.args.start _ c.in-Some.ensures.lent)))

pub returns-in-None : goal.returns-in-None
returns-in-None g c = (
  below c.args.level c.requires.of_root.level_fits c.if-level-eq12.false,
  none_larger g (goal.at.returns-in-None g c).After-has c.if-has.false
      (kept_free g (goal.at.returns-in-None g c).After-self),
)
  where
    below : (a : ℕ) → a ≤ 12 → (a ≡ 12 → ⊥) → a < 12
    below a h other = omega (arith, other)
