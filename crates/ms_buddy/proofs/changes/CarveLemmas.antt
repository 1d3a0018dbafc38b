-- A part lies in one free leaf of two halves exactly where it does of the half where it lies, and
-- its leaf takes its place there. For carving.
use Rattle.std.proofs.Common.{◌≡◌, ◌<◌, ◌≤◌, ℕ, ◌+◌, Bool, true, false, cond, ◌&&◌, ◌||◌, List, [], ◌∷◌, ◌++◌, refl}
use Rattle.std.proofs.Common.{sym, ap, subst, ◌∙◌, inl, inr, arith}
use Rattle.std.specs.Prelude.{nat_le, nat_lt, IsTrue, IsFalse}
use Rattle.std.specs.List.{AllByRecursion, list_any}
use Rattle.std.proofs.lemmas.List.Folds.{list_any-append}
use Rattle.std.proofs.lemmas.Bool.Decides.{nat_tests}
use Rattle.ms_base.specs.declared.span.Span.{Span}
use Rattle.ms_base.specs.Interval.{meet, lies_in}
use Rattle.ms_base.specs.Level.{size_of, highest_level}
use Rattle.ms_base.specs.Part.{IsPart}
use Rattle.ms_base.proofs.free.PartLemmas.{parts_are_nested_or_apart}
use Rattle.ms_buddy.specs.Counts.{holder_of}
use Rattle.ms_buddy.specs.Leaves.{LentLeaf, is_same, fits_in, span_at, words_of, with_leaf}
use Rattle.ms_buddy.specs.Tree.{Node}
use Rattle.ms_buddy.specs.Tree.{IsInside, IsRootPart, MayBeLent, IsTree, lent_in, free_in, lent_in_halves, free_in_halves}
use Rattle.ms_buddy.proofs.TreeHalvesLemmas.{holder_is, size_of-some, size_of-halves, lower_part, upper_part}
use Rattle.ms_buddy.proofs.WalkLemmas.{LiesIn, LeafIn, lent_lies_in, free_lies_in, all_weaker, any-none}
use Rattle.ms_buddy.proofs.WalkLemmas.{none_free_above, none_free_below}
use Rattle.ms_buddy.proofs.SplitLemmas.{AtHalves}

-- A part that starts in a part of a lower level ends in it.
pub ends_in : (part : Span) (level start : ℕ) → IsPart part.start part.level → IsPart start level → level ≤ part.level
    → start ≤ part.start → part.start < start + size_of level → part.start + size_of part.level ≤ start + size_of level
ends_in part level start small large h from below =
    elim (parts_are_nested_or_apart start level part.start part.level large small h) [
      | inl lies ↦ nested start (size_of level) part.start (size_of part.level) lies
      | inr apart ↦
          absurd (overlap start (size_of level) part.start (size_of part.level) from below (size_of-some part.level) apart)
    ]
  where
    nested : (a s b t : ℕ) → IsTrue (lies_in (b, t) (a, s)) → b + t ≤ a + s
    nested a s b t e = grind (arith, nat_tests)

    overlap : (a s b t : ℕ) → a ≤ b → b < a + s → 0 < t → IsFalse (meet a s b t) → ⊥
    overlap a s b t h k l e = grind (arith, nat_tests)

-- A part of a greater level lies in the half where it starts.
pub lower_inside : (part : Span) (level start half : ℕ) → IsRootPart level start → level < part.level
    → IsPart part.start part.level → IsInside level start part
    → half ≡ size_of (level + 1) → part.start < start + half → IsInside (level + 1) start part
lower_inside part level start half of_root h is_part inside size below = record {
  low = omega arith;
  from = inside.from;
  to = ends_in part (level + 1) start is_part (half_part.level_fits, half_part.aligned) (omega arith) inside.from
      (omega (arith, size));
}
  where
    half_part : IsRootPart (level + 1) start
    half_part = lower_part level start of_root (omega (arith, is_part.0))

pub upper_inside : (part : Span) (level start half : ℕ) → level < part.level → part.level ≤ highest_level
    → IsInside level start part
    → half ≡ size_of (level + 1) → start + half ≤ part.start → IsInside (level + 1) (start + half) part
upper_inside part level start half h k inside size above = record {
  low = omega arith;
  from = above;
  to = omega (arith, size, size_of-halves level (omega arith), inside.to);
}

-- A part that may be lent below a split may be in the half where it starts.
pub lower_may : (part : Span) (level start half front : ℕ) → MayBeLent level start part front → level < part.level
    → half ≡ size_of (level + 1) → part.start < start + half → MayBeLent (level + 1) start part front
lower_may part level start half front may h size below = record {
  of_root = lower_part level start may.of_root (omega (arith, may.is_part.0));
  is_part = may.is_part;
  inside = lower_inside part level start half may.of_root h may.is_part may.inside size below;
  fits = may.fits;
}

pub upper_may : (part : Span) (level start half front : ℕ) → MayBeLent level start part front → level < part.level
    → half ≡ size_of (level + 1) → start + half ≤ part.start → MayBeLent (level + 1) (start + half) part front
upper_may part level start half front may h size above = record {
  of_root = upper_part level start (start + half) may.of_root (omega (arith, may.is_part.0)) (omega (arith, size));
  is_part = may.is_part;
  inside = upper_inside part level start half h may.is_part.0 may.inside size above;
  fits = may.fits;
}

-- A part lies in no part past its start, and in none that ends before it does.
fits_not_above : (part other : Span) (middle high : ℕ) → part.start < middle → LiesIn middle high other
    → lies_in (words_of part) (words_of other) ≡ false
fits_not_above part other middle high h lies =
    apart other.start part.start (nat_le (part.start + size_of part.level) (other.start + size_of other.level))
    (omega (arith, lies.from))
  where
    apart : (a b : ℕ) (c : Bool) → b < a → (nat_le a b && c) ≡ false
    apart a b c h = grind (arith, nat_tests)

fits_not_below : (part other : Span) (low middle : ℕ) → middle < part.start + size_of part.level
    → LiesIn low middle other → lies_in (words_of part) (words_of other) ≡ false
fits_not_below part other low middle h lies =
    apart (nat_le other.start part.start) (part.start + size_of part.level) (other.start + size_of other.level)
    (omega (arith, lies.to))
  where
    apart : (c : Bool) (a b : ℕ) → b < a → (c && nat_le a b) ≡ false
    apart c a b h = grind (arith, nat_tests)

none_fit_above : (part : Span) (level middle : ℕ) (upper : Node) → IsTree level upper
    → part.start < middle → fits_in part (free_in level middle upper) ≡ false
none_fit_above part level middle upper tree h =
    any-none (λ other. lies_in (words_of part) (words_of other)) (free_in level middle upper)
    (all_weaker (LiesIn middle (middle + size_of level)) (λ other. lies_in (words_of part) (words_of other) ≡ false)
    (λ other lies. fits_not_above part other middle (middle + size_of level) h lies) (free_in level middle upper)
    (free_lies_in level middle upper tree))

none_fit_below : (part : Span) (level start : ℕ) (lower : Node) → IsTree level lower
    → start + size_of level < part.start + size_of part.level
    → fits_in part (free_in level start lower) ≡ false
none_fit_below part level start lower tree h =
    any-none (λ other. lies_in (words_of part) (words_of other)) (free_in level start lower)
    (all_weaker (LiesIn start (start + size_of level)) (λ other. lies_in (words_of part) (words_of other) ≡ false)
    (λ other lies. fits_not_below part other start (start + size_of level) h lies) (free_in level start lower)
    (free_lies_in level start lower tree))

or_false : (x y : Bool) → y ≡ false → (x || y) ≡ x
or_false true y e = refl
or_false false y e = e

-- The whole of two halves lies in no free leaf of theirs.
pub whole_fits_not : (part : Span) (level start half : ℕ) (lower upper : Node)
    → AtHalves level start half lower upper → level < highest_level → IsInside level start part
    → part.level ≡ level → fits_in part (free_in_halves level start lower upper) ≡ false
whole_fits_not part level start half lower upper s low inside e =
    list_any-append (λ (other : Span). lies_in (words_of part) (words_of other))
    (free_in (level + 1) start lower) (free_in (level + 1) (start + size_of (level + 1)) upper)
    ∙ rw (
      none_fit_below part (level + 1) start lower s.low_tree
          (omega (arith, size_of-halves level low, size_of-some (level + 1), ap size_of e, inside.from)),
      none_fit_above part (level + 1) (start + size_of (level + 1)) upper s.high_tree
          (omega (arith, size_of-some (level + 1), ap size_of e, inside.to)),
    ) refl

-- What lies in a half fits in two halves where it fits in the half.
pub lower_fits : (part : Span) (level start half : ℕ) (lower upper : Node)
    → AtHalves level start half lower upper → part.start < start + half
    → fits_in part (free_in_halves level start lower upper) ≡ fits_in part (free_in (level + 1) start lower)
lower_fits part level start half lower upper s h =
    list_any-append (λ (other : Span). lies_in (words_of part) (words_of other))
    (free_in (level + 1) start lower) (free_in (level + 1) (start + size_of (level + 1)) upper)
    ∙ or_false (fits_in part (free_in (level + 1) start lower))
    (fits_in part (free_in (level + 1) (start + size_of (level + 1)) upper))
    (none_fit_above part (level + 1) (start + size_of (level + 1)) upper s.high_tree (omega (arith, s.size)))

pub upper_fits : (part : Span) (level start half : ℕ) (lower upper : Node)
    → AtHalves level start half lower upper → start + half ≤ part.start
    → fits_in part (free_in_halves level start lower upper) ≡ fits_in part (free_in (level + 1) (start + half) upper)
upper_fits part level start half lower upper s h =
    list_any-append (λ (other : Span). lies_in (words_of part) (words_of other))
    (free_in (level + 1) start lower) (free_in (level + 1) (start + size_of (level + 1)) upper)
    ∙ rw (none_fit_below part (level + 1) start lower s.low_tree (omega (arith, s.size, size_of-some part.level)))
    (ap (λ (n : ℕ). fits_in part (free_in (level + 1) (start + n) upper)) (sym s.size))

-- It is one of their free leaves where it is one of the half's.
pub lower_is_free : (part : Span) (level start half : ℕ) (lower upper : Node)
    → AtHalves level start half lower upper → part.start < start + half
    → list_any (is_same part) (free_in_halves level start lower upper)
    ≡ list_any (is_same part) (free_in (level + 1) start lower)
lower_is_free part level start half lower upper s h =
    list_any-append (is_same part) (free_in (level + 1) start lower)
    (free_in (level + 1) (start + size_of (level + 1)) upper)
    ∙ or_false (list_any (is_same part) (free_in (level + 1) start lower))
    (list_any (is_same part) (free_in (level + 1) (start + size_of (level + 1)) upper))
    (any-none (is_same part) (free_in (level + 1) (start + size_of (level + 1)) upper)
    (none_free_above part (level + 1) (start + size_of (level + 1)) upper s.high_tree (omega (arith, s.size))))

pub upper_is_free : (part : Span) (level start half : ℕ) (lower upper : Node)
    → AtHalves level start half lower upper → start + half ≤ part.start
    → list_any (is_same part) (free_in_halves level start lower upper)
    ≡ list_any (is_same part) (free_in (level + 1) (start + half) upper)
upper_is_free part level start half lower upper s h =
    list_any-append (is_same part) (free_in (level + 1) start lower)
    (free_in (level + 1) (start + size_of (level + 1)) upper)
    ∙ rw (any-none (is_same part) (free_in (level + 1) start lower)
    (none_free_below part (level + 1) start lower s.low_tree (omega (arith, s.size))))
    (ap (λ (n : ℕ). list_any (is_same part) (free_in (level + 1) (start + n) upper)) (sym s.size))

-- A part that may be lent in a node starts in it.
pub held_by_node : (part : Span) (level start front : ℕ) → MayBeLent level start part front
    → holder_of level part ≡ span_at start level
held_by_node part level start front may =
    holder_is level start part may.of_root may.inside.from (omega (arith, may.inside.to, size_of-some part.level))

-- A leaf takes its place before all that start past it, and after all that start before it.
leaf_before : (added : LentLeaf) (middle high : ℕ) (ys : List LentLeaf) → added.start < middle
    → AllByRecursion (LeafIn middle high) ys → with_leaf added ys ≡ added ∷ ys
leaf_before added middle high [] h all = refl
leaf_before added middle high (y ∷ ys) h all = rw (not_below y.start added.start (omega (arith, all.0.from))) refl
  where
    not_below : (a b : ℕ) → b < a → nat_lt a b ≡ false
    not_below a b h = grind (arith, nat_tests)

leaf_in_lower : (added : LentLeaf) (middle high : ℕ) (xs ys : List LentLeaf) → added.start < middle
    → AllByRecursion (LeafIn middle high) ys
    → with_leaf added (xs ++ ys) ≡ with_leaf added xs ++ ys
leaf_in_lower added middle high [] ys h all = leaf_before added middle high ys h all
leaf_in_lower added middle high (x ∷ xs) ys h all =
    elim (nat_lt x.start added.start) as (λ b.
    cond b (x ∷ with_leaf added (xs ++ ys)) (added ∷ x ∷ (xs ++ ys))
    ≡ cond b (x ∷ with_leaf added xs) (added ∷ x ∷ xs) ++ ys) [
      | true ↦ ap (λ (zs : List LentLeaf). x ∷ zs) (leaf_in_lower added middle high xs ys h all)
      | false ↦ refl
    ]

leaf_in_upper : (added : LentLeaf) (low middle : ℕ) (xs ys : List LentLeaf) → middle ≤ added.start
    → AllByRecursion (LeafIn low middle) xs
    → with_leaf added (xs ++ ys) ≡ xs ++ with_leaf added ys
leaf_in_upper added low middle [] ys h all = refl
leaf_in_upper added low middle (x ∷ xs) ys h all =
    rw (below x.start added.start (omega (arith, all.0.to, size_of-some x.level)))
    (ap (λ (zs : List LentLeaf). x ∷ zs) (leaf_in_upper added low middle xs ys h all.1))
  where
    below : (a b : ℕ) → a < b → nat_lt a b ≡ true
    below a b h = grind (arith, nat_tests)

pub lower_added : (added : LentLeaf) (level start half : ℕ) (lower upper now : Node)
    → AtHalves level start half lower upper → added.start < start + half
    → lent_in (level + 1) start now ≡ with_leaf added (lent_in (level + 1) start lower)
    → lent_in_halves level start now upper ≡ with_leaf added (lent_in_halves level start lower upper)
lower_added added level start half lower upper now s h e =
    ap (λ (xs : List LentLeaf). xs ++ lent_in (level + 1) (start + size_of (level + 1)) upper) e
    ∙ sym (leaf_in_lower added (start + size_of (level + 1)) (start + size_of (level + 1) + size_of (level + 1))
    (lent_in (level + 1) start lower)
    (lent_in (level + 1) (start + size_of (level + 1)) upper)
    (omega (arith, s.size)) (lent_lies_in (level + 1) (start + size_of (level + 1)) upper s.high_tree))

pub upper_added : (added : LentLeaf) (level start half : ℕ) (lower upper now : Node)
    → AtHalves level start half lower upper → start + half ≤ added.start
    → lent_in (level + 1) (start + half) now ≡ with_leaf added (lent_in (level + 1) (start + half) upper)
    → lent_in_halves level start lower now ≡ with_leaf added (lent_in_halves level start lower upper)
upper_added added level start half lower upper now s h e =
    ap (λ (ys : List LentLeaf). lent_in (level + 1) start lower ++ ys)
    (subst (λ (n : ℕ). lent_in (level + 1) (start + n) now ≡ with_leaf added (lent_in (level + 1) (start + n) upper))
    s.size e)
    ∙ sym (leaf_in_upper added start (start + size_of (level + 1)) (lent_in (level + 1) start lower)
    (lent_in (level + 1) (start + size_of (level + 1)) upper) (omega (arith, s.size))
    (lent_lies_in (level + 1) start lower s.low_tree))
