-- To which level a part merges: its buddies are free below it, and there the buddy isn't. For
-- releasing.
use Rattle.std.proofs.Common.{◌≡◌, ◌<◌, ◌≤◌, ℕ, zero, suc, ◌+◌, ◌*◌, ◌-◌, ◌%◌, ◌^◌, Bool, true, false, List, [], ◌∷◌, refl, sym, ap, subst, ◌∙◌}
use Rattle.std.proofs.Common.{inl, inr, arith}
use Rattle.std.specs.Prelude.{◌==◌, ◌&&◌, ◌||◌, nat_lt}
use Rattle.std.specs.List.{list_any}
use Rattle.std.proofs.lemmas.Bool.{cases_eq, cases_lt}
use Rattle.std.proofs.lemmas.Bool.Decides.{nat_tests}
use Rattle.std.proofs.lemmas.Nat.{pow-add}
use Rattle.ms_base.specs.declared.span.Span.{Span}
use Rattle.ms_base.specs.Level.{size_of, highest_level}
use Rattle.ms_buddy.specs.Counts.{IsParted, beside, buddy_of, count_of_number, holder_of, number_of, one_at}
use Rattle.ms_buddy.specs.FreeBits.{AreFreeBits, bit_of}
use Rattle.ms_buddy.specs.Leaves.{is_same, span_at}
use Rattle.ms_buddy.specs.Tree.{Node, Free, Lent, Split, IsRootPart, IsTree, free_in, is_free}
use Rattle.ms_buddy.proofs.TreeHalvesLemmas.{holder_is, lower_part, size_of-halves, size_of-some, upper_part}
use Rattle.ms_buddy.proofs.SplitLemmas.{at_split}
use Rattle.ms_buddy.proofs.changes.CarveLemmas.{ends_in, lower_is_free, upper_is_free}
use Rattle.ms_buddy.proofs.changes.EnlargeLemmas.{not_free_whole}
use Rattle.ms_buddy.proofs.changes.CarvedLemmas.{clash}
use Rattle.ms_buddy.proofs.bits.BesideLemmas.{next_beside, none_is_whole}
use Rattle.ms_buddy.proofs.bits.BuddyLemmas.{lower_is_buddy, past, upper_is_buddy}
use Rattle.ms_buddy.proofs.bits.FreeBitLemmas.{listed}
use Rattle.ms_buddy.proofs.bits.FreeNumberLemmas.{IsRootSpan, free_spans, leaf_apart, root_part}
use Rattle.ms_buddy.proofs.bits.NumberLemmas.{holder_part, number_below}

is_true : (b : Bool) → (b ≡ false → ⊥) → b ≡ true
is_true true never = refl
is_true false never = absurd (never refl)

both_true : (a b : Bool) → a ≡ true → b ≡ true → (a && b) ≡ true
both_true a b e f = rw (e, f) refl

-- No part of a tree has two free halves.
pub no_twins : (level start : ℕ) (node : Node) (above at : ℕ) → IsTree level node → IsRootPart level start
    → level ≤ above → above < highest_level → IsRootPart above at → start ≤ at → at < start + size_of level
    → list_any (is_same (span_at at (above + 1))) (free_in level start node) ≡ true
    → list_any (is_same (span_at (at + size_of (above + 1)) (above + 1))) (free_in level start node) ≡ true → ⊥
no_twins level start Free above at tree of_root deep low there from below one other =
    not_deeper level above (start == at) deep one
  where
    not_deeper : (level above : ℕ) (b : Bool) → level ≤ above → ((b && (level == above + 1)) || false) ≡ true → ⊥
    not_deeper level above b h e = grind (arith, nat_tests)
no_twins level start (Lent owner front) above at tree of_root deep low there from below one other = absurd (cc)
no_twins level start (Split lower upper) above at tree of_root deep low there from below one other =
    let s = at_split level start lower upper tree in
    elim (cases_eq above level) [
      | inl same ↦
          let here : at ≡ start = starts level start at of_root (subst (λ (n : ℕ). IsRootPart n at) same there) from below in
          clash (is_free lower && is_free upper)
          (both_true (is_free lower) (is_free upper)
          (is_true (is_free lower) (λ split. clash _ (sym (lower_is_free (span_at at (above + 1)) level start _ lower upper
          s.halves (omega (arith, here, size_of-some (level + 1)))) ∙ one)
          (subst (λ (n : ℕ). list_any (is_same (span_at n (above + 1))) (free_in (level + 1) start lower) ≡ false) (sym here)
          (subst (λ (n : ℕ). list_any (is_same (span_at start (n + 1))) (free_in (level + 1) start lower) ≡ false) (sym same)
          (not_free_whole (level + 1) start lower split)))))
          (is_true (is_free upper) (λ split. clash _ (sym (upper_is_free (span_at (at + size_of (above + 1)) (above + 1)) level
          start _ lower upper s.halves (omega (arith, here, ap (λ (n : ℕ). size_of (n + 1)) same))) ∙ other)
          (subst (λ (n : ℕ). list_any (is_same (span_at (n + size_of (above + 1)) (above + 1)))
          (free_in (level + 1) (start + size_of (level + 1)) upper) ≡ false) (sym here)
          (subst (λ (n : ℕ). list_any (is_same (span_at (start + size_of (n + 1)) (n + 1)))
          (free_in (level + 1) (start + size_of (level + 1)) upper) ≡ false) (sym same)
          (not_free_whole (level + 1) (start + size_of (level + 1)) upper split))))))
          s.one
      | inr differ ↦ elim (cases_lt at (start + size_of (level + 1))) [
        | inl under ↦ no_twins (level + 1) start lower above at tree.2 (lower_part level start of_root s.low)
            (omega (arith, deep, differ)) low there from under
            (sym (lower_is_free (span_at at (above + 1)) level start _ lower upper s.halves under) ∙ one)
            (sym (lower_is_free (span_at (at + size_of (above + 1)) (above + 1)) level start _ lower upper s.halves
            (within level start above at of_root s.low (omega (arith, deep, differ)) low there from under)) ∙ other)
        | inr over ↦ no_twins (level + 1) (start + size_of (level + 1)) upper above at tree.3
            (upper_part level start _ of_root s.low refl) (omega (arith, deep, differ)) low there over
            (omega (arith, below, size_of-halves level s.low))
            (sym (upper_is_free (span_at at (above + 1)) level start _ lower upper s.halves over) ∙ one)
            (sym (upper_is_free (span_at (at + size_of (above + 1)) (above + 1)) level start _ lower upper s.halves
            (omega (arith, over))) ∙ other)
      ]
    ]
  where
    starts : (level start at : ℕ) → IsRootPart level start → IsRootPart level at → start ≤ at → at < start + size_of level
        → at ≡ start
    starts level start at of_root there from below =
        omega (arith, there.aligned, ap (λ (part : Span). part.start) (holder_is level start (span_at at level) of_root from below))

    within : (level start above at : ℕ) → IsRootPart level start → level < highest_level → level + 1 ≤ above
        → above < highest_level → IsRootPart above at → start ≤ at → at < start + size_of (level + 1)
        → at + size_of (above + 1) < start + size_of (level + 1)
    within level start above at of_root low deep less there from under =
        let half = lower_part level start of_root low in
        omega (
          arith,
          ends_in (span_at at above) (level + 1) start (there.level_fits, there.aligned) (half.level_fits, half.aligned) deep
              from under,
          size_of-halves above less,
          size_of-some (above + 1),
        )

-- The buddy of the part of a level is beside the way to it from above.
is_beside : (times level at lent : ℕ) → level + times < lent → lent ≤ highest_level → at < 524288
    → 0 < count_of_number (buddy_of (number_of (span_at at (level + times + 1))))
    (beside (holder_of level (span_at at lent)) (span_at at lent))
is_beside zero level at lent deep low below =
    subst (λ (n : ℕ). 0 < count_of_number (buddy_of (number_of (span_at at n)))
    (beside (holder_of level (span_at at lent)) (span_at at lent))) next
    (omega (
      arith,
      next_beside level at lent (buddy_of (number_of (span_at at (level + 1)))) (omega (arith, deep)) low below,
      own (buddy_of (number_of (span_at at (level + 1)))),
    ))
  where
    next : level + 1 ≡ level + 0 + 1
    next = omega arith

    own : (n : ℕ) → one_at n n ≡ 1
    own n = grind (arith, nat_tests)
is_beside (suc times) level at lent deep low below =
    let rest = is_beside times (level + 1) at lent (omega (arith, deep)) low below in
    let same : level + 1 + times + 1 ≡ level + suc times + 1 = omega arith in
    omega (
      arith,
      next_beside level at lent (buddy_of (number_of (span_at at (level + suc times + 1)))) (omega (arith, deep)) low below,
      subst (λ (n : ℕ). 0 < count_of_number (buddy_of (number_of (span_at at n)))
          (beside (holder_of (level + 1) (span_at at lent)) (span_at at lent))) same rest,
    )

-- What is known of a part that was released to a level, and of the level that its bits tell.
pub record Merges (words : List ℕ) (before after : Node) (part : Span) (free merge : ℕ) : Type 0 where
  pub tree : IsTree 0 after
  pub marked : AreFreeBits words (free_in 0 0 before)
  pub in_root : part.start < 524288
  pub parted : IsParted (free_in 0 0 after) (holder_of free part) part (free_in 0 0 before)
  pub there : list_any (is_same (holder_of free part)) (free_in 0 0 after) ≡ true
  pub low : merge ≤ part.level
  pub apart : 0 < merge → bit_of words (buddy_of (number_of (span_at part.start merge))) ≡ 0
  pub merged : (below : ℕ) → merge < below → below ≤ part.level
      → bit_of words (buddy_of (number_of (span_at part.start below))) ≡ 1

-- A number that the part of a level has is none of those of the halves below it.
pub none_beside_it : (free number : ℕ) (part : Span) → free ≤ part.level → part.level ≤ highest_level → part.start < 524288
    → number < 2 * 2 ^ free → count_of_number number (beside (holder_of free part) part) ≡ 0
none_beside_it free number part order low below small =
    none_is_whole (part.level - free) free (part.start - part.start % size_of free) part.start number
    (omega (arith, order, low)) (holder_part free part (omega (arith, order, low)) below)
    (omega (arith, small, pow-add 2 free 1))

-- The part merges as far as its bits tell: no less far,
not_low : (words : List ℕ) (before after : Node) (part : Span) (free merge : ℕ)
    → Merges words before after part free merge → free < merge → ⊥
not_low words before after part free merge m less = elim (cases_lt 0 (count_of_number number (holder_of free part ∷ []))) [
  | inl some ↦ omega (
    arith,
    is,
    leaf_apart (holder_of free part) part number
        (holder_part free part (omega (arith, m.parted.order, m.parted.low)) m.in_root) m.parted.order m.parted.low some,
  )
  | inr none ↦ omega (arith, is, none, m.parted.numbered number, m.marked number, m.apart (omega (arith, less)))
]
  where
    number : ℕ
    number = buddy_of (number_of (span_at part.start merge))

    is : 0 < count_of_number number (beside (holder_of free part) part)
    is = subst (λ (n : ℕ). 0 < count_of_number (buddy_of (number_of (span_at part.start n)))
        (beside (holder_of free part) part)) (omega (arith, less))
        (is_beside (merge - free - 1) free part.start part.level (omega (arith, less, m.low)) m.parted.low m.in_root)

-- and no further.
listed_after : (words : List ℕ) (before after : Node) (part twin : Span) (above merge : ℕ)
    → Merges words before after part (above + 1) merge → merge < above + 1 → IsRootSpan twin → twin.level ≡ above + 1
    → buddy_of (number_of (span_at part.start (above + 1))) ≡ number_of twin
    → list_any (is_same twin) (free_in 0 0 after) ≡ true
listed_after words before after part twin above merge m more of_root level buddy =
    sym (listed twin (free_in 0 0 after) of_root (free_spans 0 0 after m.tree root_part))
    ∙ some (count_of_number (number_of twin) (free_in 0 0 after))
    (omega (
      arith,
      m.parted.numbered (number_of twin),
      m.marked (number_of twin),
      ap (λ (n : ℕ). bit_of words n) buddy,
      m.merged (above + 1) more m.parted.order,
      none_beside_it (above + 1) (number_of twin) part m.parted.order m.parted.low m.in_root
          (omega (arith, number_below twin.level twin.start of_root, ap (λ (n : ℕ). 2 ^ n) level)),
    ))
  where
    some : (n : ℕ) → 0 < n → nat_lt 0 n ≡ true
    some n h = grind (arith, nat_tests)

not_high : (words : List ℕ) (before after : Node) (part : Span) (above merge : ℕ)
    → Merges words before after part (above + 1) merge → merge < above + 1 → ⊥
not_high words before after part above merge m more = elim (cases_lt part.start (start + size_of (above + 1))) [
  | inl under ↦ no_twins 0 0 after above start m.tree root_part (omega arith) low of_root (omega arith) (omega (arith, of_root.in_root, size_of-some above))
      (subst (λ (own : Span). list_any (is_same own) (free_in 0 0 after) ≡ true)
      (holder_is (above + 1) start part (lower_part above start of_root low) from under) m.there)
      (listed_after words before after part (span_at (start + size_of (above + 1)) (above + 1)) above merge m more
      (upper_part above start _ of_root low refl) refl (upper_is_buddy above start part.start of_root low from under))
  | inr over ↦ no_twins 0 0 after above start m.tree root_part (omega arith) low of_root (omega arith) (omega (arith, of_root.in_root, size_of-some above))
      (listed_after words before after part (span_at start (above + 1)) above merge m more
      (lower_part above start of_root low) refl (lower_is_buddy above start part.start of_root low over below))
      (subst (λ (own : Span). list_any (is_same own) (free_in 0 0 after) ≡ true)
      (holder_is (above + 1) (start + size_of (above + 1)) part (upper_part above start _ of_root low refl) over
      (omega (arith, below, size_of-halves above low))) m.there)
]
  where
    start : ℕ
    start = part.start - part.start % size_of above

    low : above < highest_level
    low = omega (arith, m.parted.order, m.parted.low)

    of_root : IsRootPart above start
    of_root = holder_part above part (omega (arith, low)) m.in_root

    from : start ≤ part.start
    from = omega arith

    below : part.start < start + size_of above
    below = past part.start (size_of above) (size_of-some above)

pub merge_is : (words : List ℕ) (before after : Node) (part : Span) (free merge : ℕ)
    → Merges words before after part free merge → free ≡ merge
merge_is words before after part free merge m = elim (cases_lt free merge) [
  | inl less ↦ absurd (not_low words before after part free merge m less)
  | inr least ↦ elim (cases_lt merge free) [
    | inr most ↦ omega (arith, least, most)
    | inl more ↦
        let up : free ≡ free - 1 + 1 = omega (arith, more) in
        absurd (not_high words before after part (free - 1) merge
        (subst (λ (n : ℕ). Merges words before after part n merge) up m) (omega (arith, more)))
  ]
]
