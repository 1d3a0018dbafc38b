-- The free leaves of a level in a root, one after the other: the first that passes a test is found
-- by asking for the next one, from the start on and then past each that fails it.
use Rattle.std.proofs.Common.{◌≡◌, ◌<◌, ◌≤◌, ℕ, ◌+◌, ◌*◌, Bool, true, false, cond, not, ◌&&◌, ◌||◌, ◌==◌, List, [], ◌∷◌}
use Rattle.std.proofs.Common.{◌++◌, get_or, map, refl, sym, ap, subst, ◌∙◌, arith, Option, Some, None}
use Rattle.std.specs.Prelude.{nat_le}
use Rattle.std.specs.List.{AllByRecursion, find}
use Rattle.std.specs.List.Sorted.{IsStrictlyIncreasing, IsStrictlySortedBy}
use Rattle.std.specs.Ordering.{nat_cmp}
use Rattle.std.specs.declared.cmp.Ordering.TheVariants.{Less}
use Rattle.std.proofs.lemmas.Bool.Decides.{nat_tests}
use Rattle.std.proofs.lemmas.Map.Keys.{sorted_from_strictly_increasing}
use Rattle.ms_base.specs.declared.span.Span.{Span}
use Rattle.ms_base.specs.Level.{root_words, highest_level}
use Rattle.ms_base.specs.Laws.Free.{start_of}
use Rattle.ms_base.specs.FreeParts.{free_parts, free_within}
use Rattle.ms_base.proofs.free.RisingLemmas.{free_parts_rise}
use Rattle.ms_buddy.proofs.TreeHalvesLemmas.{size_of-some}
use Rattle.ms_buddy.specs.Leaves.{LentLeaf, chunk_of, free_of, is_of, is_of_from}
use Rattle.ms_pool.specs.Searching.{are_among, first_in, part_in}
use Rattle.ms_pool.proofs.searches.EnoughLemmas.{InRootPart, free_lie_in}

-- Each part starts below those after it.
abbrev pub StartsRise : List Span → Type 0
StartsRise [] = Unit {0}
StartsRise (part ∷ parts) = AllByRecursion (λ later. part.start < later.start) parts × StartsRise parts

all_before : (P : Span → Type 0) (xs ys : List Span) → AllByRecursion P (xs ++ ys) → AllByRecursion P xs
all_before P [] ys all = tt
all_before P (x ∷ xs) ys all = (all.0, all_before P xs ys all.1)

rise_before : (xs ys : List Span) → StartsRise (xs ++ ys) → StartsRise xs
rise_before [] ys rise = tt
rise_before (x ∷ xs) ys rise = (all_before (λ later. x.start < later.start) xs ys rise.0, rise_before xs ys rise.1)

above_here : (at : ℕ) (parts : List Span) → AllByRecursion (λ y. nat_cmp at y ≡ Less) (map start_of parts)
    → AllByRecursion (λ later. at < later.start) parts
above_here at [] all = tt
above_here at (part ∷ parts) all = (below at part.start all.0, above_here at parts all.1)
  where
    below : (a b : ℕ) → nat_cmp a b ≡ Less → a < b
    below a b e = grind (arith, nat_tests)

rise_sorted : (parts : List Span) → IsStrictlySortedBy nat_cmp (map start_of parts) → StartsRise parts
unfolding IsStrictlySortedBy
rise_sorted [] sorted = tt
rise_sorted (part ∷ parts) sorted = (above_here part.start parts sorted.0, rise_sorted parts sorted.1)

-- The free leaves of a root rise.
pub free_rise : (tree : List LentLeaf) → StartsRise (free_of tree)
unfolding free_of
free_rise tree =
    rise_before (free_within (map chunk_of tree) highest_level 0) (free_within (map chunk_of tree) highest_level root_words)
    (rise_before
    (free_within (map chunk_of tree) highest_level 0 ++ free_within (map chunk_of tree) highest_level root_words) []
    (rise_sorted (free_parts (map chunk_of tree) (0 ∷ []))
    (sorted_from_strictly_increasing (map start_of (free_parts (map chunk_of tree) (0 ∷ [])))
    (free_parts_rise (map chunk_of tree) (0 ∷ []) one_slot))))
  where
    one_slot : IsStrictlyIncreasing (0 ∷ [])
    one_slot k h = absurd (omega arith)

-- Parts of a level from an offset on that pass a test.
abbrev pub passes_from : (Span → Bool) → ℕ → ℕ → Span → Bool
passes_from passes level from part = is_of_from level from part && passes part

-- Tests that agree on the parts of a list find the same.
find_same : (p q : Span → Bool) (P : Span → Type 0) (parts : List Span) → AllByRecursion P parts
    → ((part : Span) → P part → p part ≡ q part) → find p parts ≡ find q parts
find_same p q P [] all agree = refl
find_same p q P (part ∷ parts) all agree =
    ap (λ b. cond b (Some part) (find p parts)) (agree part all.0)
    ∙ ap (λ o. cond (q part) (Some part) o) (find_same p q P parts all.1 agree)

pub any_start : (passes : Span → Bool) (level : ℕ) (parts : List Span)
    → find (passes_from passes level 0) parts ≡ find (λ part. is_of level part && passes part) parts
any_start passes level [] = refl
any_start passes level (part ∷ parts) =
    ap (λ b. cond b (Some part) (find (passes_from passes level 0) parts))
    (all_from (part.level == level) part.start (passes part))
    ∙ ap (λ o. cond (is_of level part && passes part) (Some part) o) (any_start passes level parts)
  where
    all_from : (b : Bool) (n : ℕ) (c : Bool) → ((b && nat_le 0 n) && c) ≡ (b && c)
    all_from b n c = grind (arith, nat_tests)

-- A part that is found passes the test, and what all have.
found_passes : (p : Span → Bool) (P : Span → Type 0) (parts : List Span) (found : Span) → AllByRecursion P parts
    → find p parts ≡ Some found → (p found ≡ true) × P found
found_passes p P [] found all e = absurd (cc)
found_passes p P (part ∷ parts) found all e =
    elim (p part) as (λ b. p part ≡ b → cond b (Some part) (find p parts) ≡ Some found → (p found ≡ true) × P found) [
      | true ↦ λ f e. let same : part ≡ found = cc in (subst (λ x. p x ≡ true) same f, subst P same all.0)
      | false ↦ λ f e. found_passes p P parts found all.1 e
    ] refl e

pub record IsNext (level from : ℕ) (leaf : Span) : Type 0 where
  pub same : leaf.level ≡ level
  pub past : from ≤ leaf.start
  pub inside : leaf.start < root_words

pub is_next : (level from : ℕ) (parts : List Span) (leaf : Span) → AllByRecursion InRootPart parts
    → find (is_of_from level from) parts ≡ Some leaf → IsNext level from leaf
is_next level from parts leaf all e =
    let found = found_passes (is_of_from level from) InRootPart parts leaf all e in
    let both = of_test leaf.level level from leaf.start found.0 in
    record { same = both.0; past = both.1; inside = omega (arith, found.1, size_of-some leaf.level) }
  where
    of_test : (a b c d : ℕ) → ((a == b) && nat_le c d) ≡ true → (a ≡ b) × (c ≤ d)
    of_test a b c d e = (grind (arith, nat_tests), grind (arith, nat_tests))

-- A turn of the search: the next leaf passes, or it fails and those past it are left, or there is
-- none.
pub turn_passes : (passes : Span → Bool) (level from : ℕ) (parts : List Span) (leaf : Span)
    → find (is_of_from level from) parts ≡ Some leaf → passes leaf ≡ true
    → find (passes_from passes level from) parts ≡ Some leaf
turn_passes passes level from [] leaf e f = absurd (cc)
turn_passes passes level from (part ∷ parts) leaf e f =
    elim (is_of_from level from part) as (λ b. cond b (Some part) (find (is_of_from level from) parts) ≡ Some leaf
    → cond (b && passes part) (Some part) (find (passes_from passes level from) parts) ≡ Some leaf) [
      | true ↦ λ e. let same : part ≡ leaf = cc in rw (ap passes same ∙ f) e
      | false ↦ λ e. turn_passes passes level from parts leaf e f
    ] e

pub turn_ends : (passes : Span → Bool) (level from : ℕ) (parts : List Span) → find (is_of_from level from) parts ≡ None
    → find (passes_from passes level from) parts ≡ None
turn_ends passes level from [] e = refl
turn_ends passes level from (part ∷ parts) e =
    elim (is_of_from level from part) as (λ b. cond b (Some part) (find (is_of_from level from) parts) ≡ None
    → cond (b && passes part) (Some part) (find (passes_from passes level from) parts) ≡ None) [
      | true ↦ λ e. absurd (cc)
      | false ↦ λ e. turn_ends passes level from parts e
    ] e

-- Past the part that was found, those after it are the same that were from the offset on.
past_found : (passes : Span → Bool) (level from : ℕ) (part : Span) (parts : List Span) → from ≤ part.start
    → AllByRecursion (λ later. part.start < later.start) parts
    → find (passes_from passes level from) parts ≡ find (passes_from passes level (part.start + 1)) parts
past_found passes level from part parts h all =
    find_same (passes_from passes level from) (passes_from passes level (part.start + 1))
    (λ later. part.start < later.start) parts all
    (λ later k. both (later.level == level) from part.start later.start (passes later) h k)
  where
    both : (b : Bool) (from at later : ℕ) (c : Bool) → from ≤ at → at < later
        → ((b && nat_le from later) && c) ≡ ((b && nat_le (at + 1) later) && c)
    both b from at later c h k = grind (arith, nat_tests)

-- A part that fails the test of the offset fails that of a later one.
fails_later : (level from later : ℕ) (part : Span) → from ≤ later → is_of_from level from part ≡ false
    → is_of_from level later part ≡ false
fails_later level from later part h e = later_too (part.level == level) from later part.start h e
  where
    later_too : (b : Bool) (from later at : ℕ) → from ≤ later → (b && nat_le from at) ≡ false
        → (b && nat_le later at) ≡ false
    later_too true from later at h e = grind (arith, nat_tests)
    later_too false from later at h e = refl

pub turn_goes_on : (passes : Span → Bool) (level from : ℕ) (parts : List Span) (leaf : Span) → StartsRise parts
    → from ≤ leaf.start → find (is_of_from level from) parts ≡ Some leaf
    → passes leaf ≡ false
    → find (passes_from passes level from) parts ≡ find (passes_from passes level (leaf.start + 1)) parts
turn_goes_on passes level from [] leaf rise h e f = refl
turn_goes_on passes level from (part ∷ parts) leaf rise h e f =
    elim (is_of_from level from part) as (λ b. is_of_from level from part ≡ b
    → cond b (Some part) (find (is_of_from level from) parts) ≡ Some leaf
    → cond (b && passes part) (Some part) (find (passes_from passes level from) parts)
    ≡ cond (passes_from passes level (leaf.start + 1) part) (Some part)
    (find (passes_from passes level (leaf.start + 1)) parts)) [
      | true ↦ λ b e. let same : part ≡ leaf = cc in
          ap (λ t. cond t (Some part) (find (passes_from passes level from) parts)) (ap passes same ∙ f)
          ∙ past_found passes level from part parts (subst (λ (x : Span). from ≤ x.start) (sym same) h) rise.0
          ∙ ap (λ (n : ℕ). find (passes_from passes level (n + 1)) parts) (ap (λ (x : Span). x.start) same)
          ∙ ap (λ t. cond t (Some part) (find (passes_from passes level (leaf.start + 1)) parts))
          (sym (fails (is_of_from level (leaf.start + 1) part) (passes part) (ap passes same ∙ f)))
      | false ↦ λ b e. turn_goes_on passes level from parts leaf rise.1 h e f
          ∙ ap (λ t. cond (t && passes part) (Some part) (find (passes_from passes level (leaf.start + 1)) parts))
          (sym (fails_later level from (leaf.start + 1) part (omega (arith, h)) b))
    ] refl e
  where
    fails : (a b : Bool) → b ≡ false → (a && b) ≡ false
    fails true b e = e
    fails false b e = refl

-- What is found in a root that is moved up, from what is found at word 0.
abbrev pub raised : ℕ → Option Span → Option Span
raised root (Some part) = Some (part_in root part)
raised root None = None

find_raised : (p : Span → Bool) (root : ℕ) (parts : List Span)
    → find p (map (part_in root) parts) ≡ raised root (find (λ part. p (part_in root part)) parts)
find_raised p root [] = refl
find_raised p root (part ∷ parts) =
    elim (p (part_in root part)) as (λ b. cond b (Some (part_in root part)) (find p (map (part_in root) parts))
    ≡ raised root (cond b (Some part) (find (λ part. p (part_in root part)) parts))) [
      | true ↦ refl
      | false ↦ find_raised p root parts
    ]

-- The words of a leaf are committed, where they have to be.
abbrev pub is_enough_in : List ℕ → ℕ → ℕ → Bool → ℕ → Span → Bool
is_enough_in numbers granule words committed root part =
    not committed || are_among numbers granule (part.start + root * root_words) words

pub first_in-from : (numbers : List ℕ) (granule words : ℕ) (committed : Bool) (level root : ℕ) (tree : List LentLeaf)
    → first_in numbers granule words committed level root tree
    ≡ raised root (find (passes_from (is_enough_in numbers granule words committed root) level 0) (free_of tree))
unfolding first_in
first_in-from numbers granule words committed level root tree =
    find_raised (λ part. (part.level == level) && (not committed || are_among numbers granule part.start words)) root
    (free_of tree)
    ∙ ap (raised root) (sym (any_start (is_enough_in numbers granule words committed root) level (free_of tree)))

-- A turn of the loop: the leaf that is next in the tree of a root, and where it lies.
pub record IsTurn (trees : List (List LentLeaf)) (root level from : ℕ) (leaf : Span) : Type 0 where
  pub found : find (is_of_from level from) (free_of (get_or trees root [])) ≡ Some leaf
  pub next : IsNext level from leaf

pub at_turn : (trees : List (List LentLeaf)) (root level from : ℕ) (tree : List LentLeaf) (next : Option Span)
    (leaf : Span) → tree ≡ get_or trees root []
    → next ≡ find (is_of_from level from) (free_of tree) → next ≡ Some leaf → IsTurn trees root level from leaf
at_turn trees root level from tree next leaf read is some =
    let found : find (is_of_from level from) (free_of (get_or trees root [])) ≡ Some leaf =
    sym (is ∙ ap (λ (t : List LentLeaf). find (is_of_from level from) (free_of t)) read) ∙ some in
    record {
      found = found;
      next = is_next level from (free_of (get_or trees root [])) leaf (free_lie_in (get_or trees root [])) found;
    }
