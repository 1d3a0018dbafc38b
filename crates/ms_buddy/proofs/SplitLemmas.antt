-- A split and its halves: what is asked of a node is asked of the half where the part is, and what
-- happens to the half happens to the node. For each walk down the tree.
use Rattle.std.proofs.Common.{◌≡◌, ◌<◌, ◌≤◌, ℕ, ◌+◌, ◌-◌, Bool, true, false, not, cond, ◌&&◌, ◌||◌, List, [], ◌∷◌, ◌++◌}
use Rattle.std.proofs.Common.{Some, refl, sym, ap, subst, ◌∙◌, arith}
use Rattle.std.specs.Prelude.{◌==◌, IsTrue, IsFalse}
use Rattle.std.specs.List.{AllByRecursion, find}
use Rattle.std.proofs.lemmas.List.{map-append}
use Rattle.std.proofs.lemmas.List.Folds.{list_any-append, find-append}
use Rattle.std.proofs.lemmas.List.Elements.{filter-append}
use Rattle.std.proofs.lemmas.Bool.Decides.{nat_tests}
use Rattle.ms_base.specs.declared.span.Span.{Span}
use Rattle.ms_base.specs.Level.{size_of, highest_level}
use Rattle.ms_buddy.specs.Tree.{Node}
use Rattle.ms_buddy.specs.Tree.{Split}
use Rattle.ms_buddy.specs.Leaves.{LentLeaf, span_of, is_same, is_lent, covers, with_front}
use Rattle.ms_buddy.specs.Leaves.{with_parent, without_leaf}
use Rattle.ms_buddy.specs.Tree.{is_free, IsTree, lent_in, free_in, lent_in_halves}
use Rattle.ms_buddy.specs.Tree.{free_in_halves}
use Rattle.ms_buddy.proofs.WalkLemmas.{NonePass, any-none, filter-none, map-none, find-none, none_above, none_below}
use Rattle.ms_buddy.proofs.WalkLemmas.{none_covers_below, LiesIn, LeafIn, lent_lies_in}

-- What is known of two halves of a part, which have that many words each.
pub record AtHalves (level start half : ℕ) (lower upper : Node) : Type 0 where
  pub low_tree : IsTree (level + 1) lower
  pub high_tree : IsTree (level + 1) upper
  pub size : half ≡ size_of (level + 1)

-- What is known at a split.
pub record AtSplit (level start half : ℕ) (node lower upper : Node) : Type 0 where
  pub low : level < highest_level
  pub one : IsFalse (is_free lower && is_free upper)
  pub halves : AtHalves level start half lower upper
  pub lent : lent_in level start node ≡ lent_in_halves level start lower upper
  pub free : free_in level start node ≡ free_in_halves level start lower upper

-- What is known at two halves of a node.
pub at_split : (level start : ℕ) (lower upper : Node) → IsTree level (Split lower upper)
    → AtSplit level start (size_of (level + 1)) (Split lower upper) lower upper
at_split level start lower upper tree = record {
  low = tree.0;
  one = tree.1;
  halves = record { low_tree = tree.2; high_tree = tree.3; size = refl };
  lent = refl;
  free = refl;
}

-- A part that is lent in a node lies in it.
pub lent_part_lies_in : (part : Span) (level start : ℕ) (node : Node) → IsTree level node
    → IsTrue (is_lent (lent_in level start node) part)
    → LiesIn start (start + size_of level) part
lent_part_lies_in part level start node tree e =
    of_list (lent_in level start node) (lent_lies_in level start node tree) e
  where
    same : (a b c d : ℕ) → ((a == b) && (c == d)) ≡ true → (a ≡ b) × (c ≡ d)
    same a b c d e = (grind (arith, nat_tests), grind (arith, nat_tests))

    moved : (leaf : LentLeaf) → is_same part (span_of leaf) ≡ true → LeafIn start (start + size_of level) leaf
        → LiesIn start (start + size_of level) part
    moved leaf e lies = let both = same leaf.start part.start leaf.level part.level e in record {
      from = rw (← both.0) lies.from;
      to = rw (← both.0, ← both.1) lies.to;
    }

    of_list : (xs : List LentLeaf) → AllByRecursion (LeafIn start (start + size_of level)) xs → is_lent xs part ≡ true
        → LiesIn start (start + size_of level) part
    of_list [] all e = absurd (cc)
    of_list (leaf ∷ xs) all e = elim (is_same part (span_of leaf)) as (λ b.
        is_same part (span_of leaf) ≡ b → (b || is_lent xs part) ≡ true → LiesIn start (start + size_of level) part) [
          | true ↦ λ f e. moved leaf f all.0
          | false ↦ λ f e. of_list xs all.1 e
        ] refl e

-- A part that is lent in two halves is lent in the half where it starts.
pub lower_lent : (part : Span) (level start half : ℕ) (lower upper : Node)
    → AtHalves level start half lower upper → part.start < start + half
    → IsTrue (is_lent (lent_in_halves level start lower upper) part)
    → IsTrue (is_lent (lent_in (level + 1) start lower) part)
lower_lent part level start half lower upper s h e =
    or_left (is_lent (lent_in (level + 1) start lower) part)
    (is_lent (lent_in (level + 1) (start + size_of (level + 1)) upper) part)
    (any-none (λ leaf. is_same part (span_of leaf)) (lent_in (level + 1) (start + size_of (level + 1)) upper)
    (none_above part (level + 1) (start + size_of (level + 1)) upper s.high_tree (omega (arith, s.size))))
    (sym (list_any-append (λ (leaf : LentLeaf). is_same part (span_of leaf))
    (lent_in (level + 1) start lower) (lent_in (level + 1) (start + size_of (level + 1)) upper)) ∙ e)
  where
    or_left : (x y : Bool) → y ≡ false → (x || y) ≡ true → x ≡ true
    or_left true y e f = refl
    or_left false y e f = absurd (cc)

pub upper_lent : (part : Span) (level start half : ℕ) (lower upper : Node)
    → AtHalves level start half lower upper → start + half ≤ part.start
    → IsTrue (is_lent (lent_in_halves level start lower upper) part)
    → IsTrue (is_lent (lent_in (level + 1) (start + half) upper) part)
upper_lent part level start half lower upper s h e =
    or_right (is_lent (lent_in (level + 1) start lower) part) (is_lent (lent_in (level + 1) (start + half) upper) part)
    (any-none (λ leaf. is_same part (span_of leaf)) (lent_in (level + 1) start lower)
    (none_below part (level + 1) start lower s.low_tree (omega (arith, s.size))))
    (sym (list_any-append (λ (leaf : LentLeaf). is_same part (span_of leaf)) (lent_in (level + 1) start lower)
    (lent_in (level + 1) (start + half) upper))
    ∙ ap (λ (n : ℕ). is_lent (lent_in (level + 1) start lower ++ lent_in (level + 1) (start + n) upper) part) s.size
    ∙ e)
  where
    or_right : (x y : Bool) → x ≡ false → (x || y) ≡ true → y ≡ true
    or_right true y e f = absurd (cc)
    or_right false y e f = f

-- A change of one leaf: it acts on each part of a list apart, and leaves those without the leaf.
pub record ActsAt (part : Span) (change : List LentLeaf → List LentLeaf) : Type 0 where
  pub joined : (xs ys : List LentLeaf) → change (xs ++ ys) ≡ change xs ++ change ys
  pub others : (xs : List LentLeaf) → NonePass (λ leaf. is_same part (span_of leaf)) xs → change xs ≡ xs

pub front_acts : (part : Span) (front : ℕ) → ActsAt part (with_front part front)
front_acts part front = record {
  joined = λ xs ys. map-append
      (λ (leaf : LentLeaf). cond (is_same part (span_of leaf)) (record leaf { front = front }) leaf) xs ys;
  others = λ xs none. map-none (λ leaf. is_same part (span_of leaf)) (λ leaf. record leaf { front = front }) xs none;
}

pub parent_acts : (part : Span) (front : ℕ) → ActsAt part (with_parent part front)
parent_acts part front = record {
  joined = λ xs ys. map-append
      (λ (leaf : LentLeaf). cond (is_same part (span_of leaf)) (record leaf { level = leaf.level - 1; front = front })
      leaf) xs ys;
  others = λ xs none. map-none (λ leaf. is_same part (span_of leaf))
      (λ leaf. record leaf { level = leaf.level - 1; front = front }) xs none;
}

pub without_acts : (part : Span) → ActsAt part (without_leaf part)
without_acts part = record {
  joined = λ xs ys. filter-append (λ (leaf : LentLeaf). not (is_same part (span_of leaf))) xs ys;
  others = λ xs none. filter-none (λ leaf. is_same part (span_of leaf)) xs none;
}

-- What changes the half where the leaf is changes the two halves.
pub lower_changed : (level start half : ℕ) (lower upper now : Node) (part : Span)
    (change : List LentLeaf → List LentLeaf) → ActsAt part change
    → AtHalves level start half lower upper → part.start < start + half
    → lent_in (level + 1) start now ≡ change (lent_in (level + 1) start lower)
    → lent_in_halves level start now upper ≡ change (lent_in_halves level start lower upper)
lower_changed level start half lower upper now part change acts s h e = sym
    (acts.joined (lent_in (level + 1) start lower) (lent_in (level + 1) (start + size_of (level + 1)) upper)
    ∙ ap (λ (ys : List LentLeaf). change (lent_in (level + 1) start lower) ++ ys)
    (acts.others (lent_in (level + 1) (start + size_of (level + 1)) upper)
    (none_above part (level + 1) (start + size_of (level + 1)) upper s.high_tree (omega (arith, s.size))))
    ∙ ap (λ (xs : List LentLeaf). xs ++ lent_in (level + 1) (start + size_of (level + 1)) upper) (sym e))

pub upper_changed : (level start half : ℕ) (lower upper now : Node) (part : Span)
    (change : List LentLeaf → List LentLeaf) → ActsAt part change
    → AtHalves level start half lower upper → start + half ≤ part.start
    → lent_in (level + 1) (start + half) now ≡ change (lent_in (level + 1) (start + half) upper)
    → lent_in_halves level start lower now ≡ change (lent_in_halves level start lower upper)
upper_changed level start half lower upper now part change acts s h e = sym
    (acts.joined (lent_in (level + 1) start lower) (lent_in (level + 1) (start + size_of (level + 1)) upper)
    ∙ ap (λ (xs : List LentLeaf). xs ++ change (lent_in (level + 1) (start + size_of (level + 1)) upper))
    (acts.others (lent_in (level + 1) start lower)
    (none_below part (level + 1) start lower s.low_tree (omega (arith, s.size))))
    ∙ ap (λ (ys : List LentLeaf). lent_in (level + 1) start lower ++ ys)
    (sym (subst (λ (n : ℕ). lent_in (level + 1) (start + n) now ≡ change (lent_in (level + 1) (start + n) upper)) s.size
    e)))

-- A free leaf that covers an offset in a half is found in the two halves.
pub lower_found : (offset level start : ℕ) (lower upper : Node) (part : Span)
    → find (covers offset) (free_in (level + 1) start lower) ≡ Some part
    → find (covers offset) (free_in_halves level start lower upper) ≡ Some part
lower_found offset level start lower upper part e =
    find-append (covers offset) (free_in (level + 1) start lower)
    (free_in (level + 1) (start + size_of (level + 1)) upper) ∙ rw e refl

pub upper_found : (offset level start half : ℕ) (lower upper : Node) (part : Span)
    → IsTree (level + 1) lower → half ≡ size_of (level + 1)
    → start + half ≤ offset → find (covers offset) (free_in (level + 1) (start + half) upper) ≡ Some part
    → find (covers offset) (free_in_halves level start lower upper) ≡ Some part
upper_found offset level start half lower upper part tree size h e =
    find-append (covers offset) (free_in (level + 1) start lower)
    (free_in (level + 1) (start + size_of (level + 1)) upper)
    ∙ rw (
      find-none (covers offset) (free_in (level + 1) start lower)
          (none_covers_below offset (level + 1) start lower tree (omega (arith, size))),
      subst (λ (n : ℕ). find (covers offset) (free_in (level + 1) (start + n) upper) ≡ Some part) size e,
    ) refl
