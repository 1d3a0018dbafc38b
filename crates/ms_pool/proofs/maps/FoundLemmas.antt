-- What the free leaves of a root's tree say of its cells: a cell is free where one meets it, and
-- lent but where it lies in one. `note` and `found_in` use these.
use Rattle.std.proofs.Common.{◌≡◌, ◌≤◌, ◌<◌, ℕ, ◌+◌, ◌*◌, ◌/◌, Bool, true, false, not, ◌&&◌, ◌||◌}
use Rattle.std.proofs.Common.{List, [], ◌∷◌, get_or, map, replicate, refl, sym, ap, ap₂, ◌∙◌}
use Rattle.std.proofs.Common.{arith, inl, inr}
use Rattle.std.specs.Prelude.{nat_le, nat_lt}
use Rattle.std.specs.List.{AllByRecursion, list_any}
use Rattle.std.proofs.lemmas.Bool.{cases_lt, or_parts}
use Rattle.std.proofs.lemmas.Bool.Decides.{nat_tests}
use Rattle.std.proofs.lemmas.List.{get_or-replicate}
use Rattle.std.proofs.lemmas.List.Elements.{All-weaker, recursion_from_All}
use Rattle.ms_base.specs.declared.span.Chunk.{Chunk}
use Rattle.ms_base.specs.declared.span.Span.{Span}
use Rattle.ms_base.specs.FreeParts.{free_within}
use Rattle.ms_base.specs.Held.{meets_chunk}
use Rattle.ms_base.specs.Interval.{lies_in, meet}
use Rattle.ms_base.specs.Level.{root_words, size_of, highest_level}
use Rattle.ms_base.specs.Part.{IsPart}
use Rattle.ms_base.proofs.free.FreeLemmas.{IsFreeWithin, clear_is_in_free, has_part, listed_are_free}
use Rattle.ms_base.proofs.free.HalvesLemmas.{size_falls_strictly, size_some}
use Rattle.ms_base.proofs.free.PartLemmas.{parts_are_nested_or_apart}
use Rattle.ms_buddy.specs.Leaves.{LentLeaf, chunk_of, free_of, words_of}
use Rattle.ms_pool.specs.Mapping.{AreFound, AreNoted, meets_free, meets_lent, words_of_cell, cell_words, root_cells}

-- The cells that a free leaf meets are those from the one of its first word to the one of its
-- last.
abbrev pub is_from : ℕ → ℕ → ℕ → Bool
is_from first end k = nat_le first k && nat_lt k end

pub meets_from : (start words first end k : ℕ) → 1 ≤ words → first ≡ start / 8192 → end ≡ (start + words + 8191) / 8192
    → is_from first end k ≡ meet start words (k * cell_words) cell_words
meets_from start words first end k some low high =
    by_bounds (omega (arith, low)) (omega (arith, low)) (omega (arith, high)) (omega (arith, high))
  where
    by_bounds : first * 8192 ≤ start → start < first * 8192 + 8192 → start + words ≤ end * 8192
        → end * 8192 < start + words + 8192 → is_from first end k ≡ meet start words (k * cell_words) cell_words
    by_bounds a b c d = grind (arith, nat_tests)

-- One of them lies in the leaf where the leaf has the words of a cell.
pub lies_from : (part : Span) (k : ℕ) → IsPart part.start part.level
    → (meet part.start (size_of part.level) (k * cell_words) cell_words && nat_le cell_words (size_of part.level))
    ≡ lies_in (words_of_cell k) (words_of part)
lies_from part k placed = elim (cases_lt 6 part.level) [
  | inl small ↦ too_small part.start (size_of part.level) (k * cell_words)
      (size_falls_strictly 6 part.level small placed.0)
  | inr large ↦ elim (parts_are_nested_or_apart part.start part.level (k * cell_words) 6 placed
      (omega arith, omega arith) large) [
        | inl nested ↦ inside part.start (size_of part.level) (k * cell_words) nested
        | inr apart ↦ outside part.start (size_of part.level) (k * cell_words) apart
      ]
]
  where
    too_small : (start words at : ℕ) → words < 8192
        → (meet start words at 8192 && nat_le 8192 words) ≡ lies_in (at, 8192) (start, words)
    too_small start words at h = grind (arith, nat_tests)

    inside : (start words at : ℕ) → lies_in (at, 8192) (start, words) ≡ true
        → (meet start words at 8192 && nat_le 8192 words) ≡ lies_in (at, 8192) (start, words)
    inside start words at h = grind (arith, nat_tests, h)

    outside : (start words at : ℕ) → meet start words at 8192 ≡ false
        → (meet start words at 8192 && nat_le 8192 words) ≡ lies_in (at, 8192) (start, words)
    outside start words at h = grind (arith, nat_tests, h)

-- What is noted of the cells from the first up to one.
pub record AreUpTo (whole : Bool) (first end : ℕ) (lent_old free_old lent_new free_new : List Bool) : Type 0 where
  pub lent : (k : ℕ) → k < root_cells
      → get_or lent_new k false ≡ (get_or lent_old k false && not (is_from first end k && whole))
  pub free : (k : ℕ) → k < root_cells
      → get_or free_new k false ≡ (get_or free_old k false || is_from first end k)

-- All of them: what the leaf says of each cell.
pub all_noted : (part : Span) (words first end : ℕ) (lent free l f : List Bool) → IsPart part.start part.level
    → words ≡ size_of part.level → first ≡ part.start / 8192 → end ≡ (part.start + words + 8191) / 8192
    → AreUpTo (nat_le cell_words words) first end lent free l f → AreNoted part lent free l f
all_noted part words first end lent free l f placed size low high all = record {
  lent = λ k h. all.lent k h ∙ ap (λ b. get_or lent k false && not b)
      (ap (λ b. b && nat_le cell_words words) (meeting k)
      ∙ ap (λ (w : ℕ). meet part.start (size_of part.level) (k * cell_words) cell_words && nat_le cell_words w) size
      ∙ lies_from part k placed);
  free = λ k h. all.free k h ∙ ap (λ b. get_or free k false || b) (meeting k);
}
  where
    meeting : (k : ℕ) → is_from first end k ≡ meet part.start (size_of part.level) (k * cell_words) cell_words
    meeting k = meets_from part.start (size_of part.level) first end k (size_some part.level) low
        (high ∙ ap (λ (w : ℕ). (part.start + w + 8191) / 8192) size)

-- A cell lies in one of the parts.
abbrev pub lies_in_any : ℕ → List Span → Bool
lies_in_any k parts = list_any (λ (part : Span). lies_in (words_of_cell k) (words_of part)) parts

-- What is found so far and what the free leaves that are left say come to what all of them say.
abbrev pub IsInRoot : Span → Type 0
IsInRoot part = IsPart part.start part.level × (part.start + size_of part.level ≤ root_words)

pub record AreLeft (leaves : List LentLeaf) (left : List Span) (l f : List Bool) : Type 0 where
  pub lent : (k : ℕ) → k < root_cells
      → (get_or l k false && not (lies_in_any k left)) ≡ not (lies_in_any k (free_of leaves))
  pub free : (k : ℕ) → k < root_cells
      → (get_or f k false || meets_free left (k * cell_words) cell_words)
      ≡ meets_free (free_of leaves) (k * cell_words) cell_words
  pub parts : AllByRecursion IsInRoot left

free_are_in_root : (leaves : List LentLeaf) → AllByRecursion IsInRoot (free_of leaves)
unfolding free_of
free_are_in_root leaves = recursion_from_All IsInRoot (free_within (map chunk_of leaves) highest_level 0)
    (All-weaker (IsFreeWithin (map chunk_of leaves) 0 (0 + size_of 0)) IsInRoot
    (λ part free. (free.placed, free.upto)) (free_within (map chunk_of leaves) highest_level 0)
    (listed_are_free (map chunk_of leaves) highest_level 0 (omega arith) refl refl))

pub all_left : (leaves : List LentLeaf)
    → AreLeft leaves (free_of leaves) (replicate root_cells true) (replicate root_cells false)
all_left leaves = record {
  lent = λ k h. ap (λ b. b && not (lies_in_any k (free_of leaves))) (get_or-replicate root_cells k true false h);
  free = λ k h. ap (λ b. b || meets_free (free_of leaves) (k * cell_words) cell_words)
      (get_or-replicate root_cells k false false h);
  parts = free_are_in_root leaves;
}

pub one_less : (leaves : List LentLeaf) (part : Span) (left : List Span) (l f l' f' : List Bool)
    → AreLeft leaves (part ∷ left) l f → AreNoted part l f l' f' → AreLeft leaves left l' f'
one_less leaves part left l f l' f' so_far noted = record {
  lent = λ k h. ap (λ b. b && not (lies_in_any k left)) (noted.lent k h)
      ∙ parted (get_or l k false) (lies_in (words_of_cell k) (words_of part)) (lies_in_any k left)
      ∙ so_far.lent k h;
  free = λ k h. ap (λ b. b || meets_free left (k * cell_words) cell_words) (noted.free k h)
      ∙ joined (get_or f k false) (meet part.start (size_of part.level) (k * cell_words) cell_words)
      (meets_free left (k * cell_words) cell_words)
      ∙ so_far.free k h;
  parts = so_far.parts.1;
}
  where
    parted : (a b c : Bool) → ((a && not b) && not c) ≡ (a && not (b || c))
    parted true true c = refl
    parted true false c = refl
    parted false b c = refl

    joined : (a b c : Bool) → ((a || b) || c) ≡ (a || (b || c))
    joined true b c = refl
    joined false b c = refl

-- Where a cell lies in a free part it meets no chunk, and where it meets none it lies in one.
abbrev IsClearOf : List Chunk → Span → Type 0
IsClearOf chunks part = meets_chunk chunks part.start part.level ≡ false

clear_cell : (chunks : List Chunk) (a n b m : ℕ) → lies_in (b, m) (a, n) ≡ true → meets_lent chunks a n ≡ false
    → meets_lent chunks b m ≡ false
clear_cell [] a n b m inside clear = refl
clear_cell (c ∷ chunks) a n b m inside clear =
    let both = or_parts (meet c.start (size_of c.level) a n) (meets_lent chunks a n) clear in
    ap₂ (λ x y. x || y) (narrower c.start (size_of c.level) inside both.0) (clear_cell chunks a n b m inside both.1)
  where
    narrower : (start size : ℕ) → lies_in (b, m) (a, n) ≡ true → meet start size a n ≡ false
        → meet start size b m ≡ false
    narrower start size h k = grind (arith, nat_tests, h, k)

clear_in_any : (chunks : List Chunk) (parts : List Span) (k : ℕ) → AllByRecursion (IsClearOf chunks) parts
    → lies_in_any k parts ≡ true → meets_lent chunks (k * cell_words) cell_words ≡ false
clear_in_any chunks [] k all e = absurd (cc)
clear_in_any chunks (part ∷ parts) k all e =
    go (lies_in (words_of_cell k) (words_of part)) refl e (clear_in_any chunks parts k all.1)
  where
    go : (b : Bool) → lies_in (words_of_cell k) (words_of part) ≡ b → (b || lies_in_any k parts) ≡ true
        → (lies_in_any k parts ≡ true → meets_lent chunks (k * cell_words) cell_words ≡ false)
        → meets_lent chunks (k * cell_words) cell_words ≡ false
    go true is h later =
        clear_cell chunks part.start (size_of part.level) (k * cell_words) cell_words is all.0
    go false is h later = later h

any_lies : (k : ℕ) (parts : List Span) → list_any (has_part (record { start = k * cell_words; level = 6 })) parts ≡ true
    → lies_in_any k parts ≡ true
any_lies k [] e = e
any_lies k (part ∷ parts) e =
    go (nat_le part.level 6) (lies_in (words_of_cell k) (words_of part)) e (any_lies k parts)
  where
    go : (a b : Bool) → ((a && b) || list_any (has_part (record { start = k * cell_words; level = 6 })) parts) ≡ true
        → (list_any (has_part (record { start = k * cell_words; level = 6 })) parts ≡ true
        → lies_in_any k parts ≡ true)
        → (b || lies_in_any k parts) ≡ true
    go a true h later = refl
    go true false h later = later h
    go false false h later = later h

pub lent_or_free : (leaves : List LentLeaf) (k : ℕ) → k < root_cells
    → not (lies_in_any k (free_of leaves)) ≡ meets_lent (map chunk_of leaves) (k * cell_words) cell_words
unfolding free_of
lent_or_free leaves k h =
    go (meets_lent chunks (k * cell_words) cell_words) refl (lies_in_any k (free_within chunks highest_level 0)) refl
  where
    chunks : List Chunk
    chunks = map chunk_of leaves

    clear : AllByRecursion (IsClearOf chunks) (free_within chunks highest_level 0)
    clear = recursion_from_All (IsClearOf chunks) (free_within chunks highest_level 0)
        (All-weaker (IsFreeWithin chunks 0 (0 + size_of 0)) (IsClearOf chunks) (λ part free. free.empty)
        (free_within chunks highest_level 0) (listed_are_free chunks highest_level 0 (omega arith) refl refl))

    go : (a : Bool) → meets_lent chunks (k * cell_words) cell_words ≡ a → (b : Bool)
        → lies_in_any k (free_within chunks highest_level 0) ≡ b → not b ≡ a
    go true lent false lies = refl
    go false lent true lies = refl
    go true lent true lies =
        absurd (cc (lent, clear_in_any chunks (free_within chunks highest_level 0) k clear lies))
    go false lent false lies =
        absurd (cc (
          lies,
          any_lies k (free_within chunks highest_level 0)
              (clear_is_in_free chunks (record { start = k * cell_words; level = 6 })
              (omega arith, omega arith) lent highest_level 0
              (omega arith) refl (record { wide = omega arith; from = omega arith; upto = omega (arith, h) })),
        ))

pub all_found : (leaves : List LentLeaf) (l f : List Bool) → AreLeft leaves [] l f → AreFound leaves l f
all_found leaves l f left = record {
  lent = λ k h. sym (kept (get_or l k false)) ∙ left.lent k h ∙ lent_or_free leaves k h;
  free = λ k h. sym (same (get_or f k false)) ∙ left.free k h;
}
  where
    kept : (b : Bool) → (b && true) ≡ b
    kept true = refl
    kept false = refl

    same : (b : Bool) → (b || false) ≡ b
    same true = refl
    same false = refl
