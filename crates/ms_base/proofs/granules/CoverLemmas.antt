-- Held chunks and free parts cover each word of the reserved nodes once. The law on covering uses
-- this.
use Rattle.std.proofs.Common.{◌≡◌, ◌≤◌, ℕ, suc, ◌+◌, ◌-◌, ◌*◌, ◌/◌, Bool, true, false, not, ◌&&◌, ◌||◌, List, [], ◌∷◌}
use Rattle.std.proofs.Common.{◌++◌, map, refl, sym, ap, ◌∙◌, inl, inr, arith}
use Rattle.std.specs.Prelude.{◌==◌}
use Rattle.std.specs.List.{All, AllByRecursion, list_any, list_all, flat_map}
use Rattle.std.specs.List.Sorted.{IsStrictlyIncreasing, IsStrictlySortedBy}
use Rattle.std.specs.Ordering.{nat_cmp}
use Rattle.std.specs.declared.cmp.Ordering.TheVariants.{Less}
use Rattle.std.proofs.lemmas.Bool.{and_parts, or_parts, or_from, or_cases, or_left, or_right, false_from_ne_true}
use Rattle.std.proofs.lemmas.Bool.{not_from_true, eqb-true, eq-eqb, ne_eqb, cases_eq}
use Rattle.std.proofs.lemmas.Bool.Decides.{nat_tests}
use Rattle.std.proofs.lemmas.List.{map-append}
use Rattle.std.proofs.lemmas.List.Elements.{All-head, All-tail}
use Rattle.std.proofs.lemmas.List.Sums.{sum_by-append}
use Rattle.std.proofs.lemmas.Map.Keys.{sorted_from_strictly_increasing}
use Rattle.ms_base.specs.declared.policy.Policy.{Policy}
use Rattle.ms_base.specs.declared.span.Chunk.{Chunk}
use Rattle.ms_base.specs.declared.span.Span.{Span}
use Rattle.ms_base.specs.Interval.{meet, lies_in}
use Rattle.ms_base.specs.Level.{size_of, highest_level}
use Rattle.ms_base.specs.Part.{IsPart, slot_of, is_reserved, node_words}
use Rattle.ms_base.specs.Held.{AreHeld, words_of, meets_chunk}
use Rattle.ms_base.specs.FreeParts.{free_within, free_in_slot, free_parts}
use Rattle.ms_base.specs.Laws.Free.{words_of_part, runs_in_roots}
use Rattle.ms_base.proofs.free.HalvesLemmas.{words_over, IsStart, size_of_halves}
use Rattle.ms_base.proofs.free.FreeLemmas.{part_over, meets_over, by_halves}
use Rattle.ms_base.proofs.free.RoomLemmas.{root_of, roots_are_whole}
use Rattle.ms_base.proofs.free.LargestLemmas.{inside_bounds}
use Rattle.ms_base.proofs.granules.GranuleLemmas.{ends_in_node}
use Rattle.ms_base.proofs.granules.FreeGranuleLemmas.{meeting_lies_in}
use Rattle.ms_base.proofs.runs.PermutedLemmas.{one_if}
use Rattle.ms_base.proofs.granules.TimesLemmas.{has_word, times, once_where_apart}

-- The word lies in a held chunk.
abbrev is_held : ℕ → List Chunk → Bool
is_held word held = list_any (has_word word) (map words_of held)

-- A word of a part that meets no chunk lies in none.
clear_has_no_word : (held : List Chunk) (word start level : ℕ) → meets_chunk held start level ≡ false
    → has_word word (start, size_of level) ≡ true → is_held word held ≡ false
clear_has_no_word [] word start level clear here = refl
clear_has_no_word (chunk ∷ held) word start level clear here =
    let both =
    or_parts (meet chunk.start (size_of chunk.level) start (size_of level)) (meets_chunk held start level) clear in
    or_from (has_word word (words_of chunk)) (is_held word held)
    (not_in chunk.start (size_of chunk.level) start (size_of level) word both.0 here)
    (clear_has_no_word held word start level both.1 here)
  where
    not_in : (c t a s w : ℕ) → meet c t a s ≡ false → lies_in (w, 1) (a, s) ≡ true → lies_in (w, 1) (c, t) ≡ false
    not_in c t a s w e h = grind (arith, nat_tests)

abbrev AreParts : List Chunk → Type 0
AreParts held = All (λ chunk. IsPart chunk.start chunk.level) held

-- A word of the smallest part lies in a chunk that meets it.
meeting_has_word : (held : List Chunk) (word start : ℕ) → AreParts held → IsStart 0 start
    → meets_chunk held start highest_level ≡ true
    → has_word word (start, size_of highest_level) ≡ true → is_held word held ≡ true
meeting_has_word [] word start parts whole meets here = absurd (cc)
meeting_has_word (chunk ∷ held) word start parts whole meets here =
    elim (or_cases (meet chunk.start (size_of chunk.level) start (size_of highest_level))
    (meets_chunk held start highest_level) meets) [
      | inl one ↦ or_left (has_word word (words_of chunk)) (is_held word held)
          (let around =
          meeting_lies_in chunk.start chunk.level start highest_level placed (omega arith, whole) placed.0 one in
          still_in word chunk.start (size_of chunk.level) start (size_of highest_level) around.0 around.1 here)
      | inr later ↦ or_right (has_word word (words_of chunk)) (is_held word held)
          (meeting_has_word held word start (All-tail (λ chunk. IsPart chunk.start chunk.level) chunk held parts) whole
          later here)
    ]
  where
    placed : IsPart chunk.start chunk.level
    placed = All-head (λ chunk. IsPart chunk.start chunk.level) chunk held parts

    still_in : (w c t a s : ℕ) → c ≤ a → a + s ≤ c + t → lies_in (w, 1) (a, s) ≡ true → lies_in (w, 1) (c, t) ≡ true
    still_in w c t a s h m e = grind (arith, nat_tests)

-- The words of parts that stand in two lists.
times_joined : (word : ℕ) (xs ys : List Span)
    → times word (map words_of_part (xs ++ ys)) ≡ times word (map words_of_part xs) + times word (map words_of_part ys)
times_joined word xs ys =
    ap (times word) (map-append words_of_part xs ys)
    ∙ sum_by-append (λ r. one_if (has_word word r)) (map words_of_part xs) (map words_of_part ys)

-- The word lies in the run, and in no held chunk.
abbrev is_free : ℕ → List Chunk → ℕ × ℕ → Bool
is_free word held run = has_word word run && not (is_held word held)

free_in_halves : (word start half size : ℕ) (b : Bool) → size ≡ half + half
    → one_if (lies_in (word, 1) (start, half) && b) + one_if (lies_in (word, 1) (start + half, half) && b)
    ≡ one_if (lies_in (word, 1) (start, size) && b)
free_in_halves word start half size b e = grind (arith, nat_tests)

-- The parts have the word once where it lies in the part with so many levels below it and in no
-- held chunk, and else not at all.
abbrev CoverOver : List Chunk → ℕ → ℕ → ℕ → List Span → Type 0
CoverOver held word below start parts =
    times word (map words_of_part parts) ≡ one_if (is_free word held (start, words_over below))

-- A part that meets no chunk covers its words.
itself_covers : (held : List Chunk) (word below start : ℕ) → meets_over held below start ≡ false
    → CoverOver held word below start (part_over below start ∷ [])
itself_covers held word below start clear =
    elim (has_word word run) as (λ b. has_word word run ≡ b → 0 + one_if b ≡ one_if (b && not (is_held word held))) [
      | true ↦ λ here. ap (λ b. one_if (not b))
          (sym (clear_has_no_word held word start (highest_level - below) clear here))
      | false ↦ λ past. refl
    ] refl
  where
    run : ℕ × ℕ
    run = (start, words_over below)

-- None of the words of the smallest part is free where it meets a chunk.
smallest_is_held : (held : List Chunk) (word start : ℕ) → AreParts held → IsStart 0 start
    → meets_over held 0 start ≡ true → is_free word held (start, words_over 0) ≡ false
smallest_is_held held word start parts whole meets =
    elim (has_word word run) as (λ b. has_word word run ≡ b → (b && not (is_held word held)) ≡ false) [
      | true ↦ λ here. not_from_true (is_held word held) (meeting_has_word held word start parts whole meets here)
      | false ↦ λ past. refl
    ] refl
  where
    run : ℕ × ℕ
    run = (start, words_over 0)

-- The free parts of a part cover each of its words that lies in no held chunk.
covered_within : (held : List Chunk) (word : ℕ) → AreParts held → (below start : ℕ)
    → below ≤ highest_level → IsStart below start
    → CoverOver held word below start (free_within held below start)
covered_within held word parts = by_halves held (CoverOver held word) (record {
  none = λ start whole meets. ap one_if (sym (smallest_is_held held word start parts whole meets));
  itself = λ below start h whole clear. itself_covers held word below start clear;
  halves = λ below start lower upper h whole meets first second. times_joined word lower upper ∙ omega (
    arith,
    first,
    second,
    free_in_halves word start (words_over below) (words_over (suc below)) (not (is_held word held))
        (size_of_halves below h),
  );
})

-- A word lies in a slot's node exactly where the slot is its own.
in_node : (word slot : ℕ) → lies_in (word, 1) (slot * node_words, node_words) ≡ (slot == slot_of word)
in_node word slot = elim (cases_eq slot (slot_of word)) [
  | inl same ↦ is_in word (slot * node_words) node_words (omega (arith, same)) (omega (arith, same))
      ∙ sym (eq-eqb slot (slot_of word) same)
  | inr other ↦ false_from_ne_true (lies_in (word, 1) (slot * node_words, node_words))
      (λ here. other (slot_is (inside_bounds word 1 (slot * node_words) node_words here)))
      ∙ sym (ne_eqb slot (slot_of word) other)
]
  where
    is_in : (w a n : ℕ) → a ≤ w → w + 1 ≤ a + n → lies_in (w, 1) (a, n) ≡ true
    is_in w a n h k = grind (arith, nat_tests)

    slot_is : (slot * node_words ≤ word) × (word + 1 ≤ slot * node_words + node_words) → slot ≡ word / node_words
    slot_is bounds = omega (arith, bounds.0, bounds.1)

-- The free parts of a slot cover each word of its node that lies in no held chunk.
covered_in_slot : (held : List Chunk) (word slot : ℕ) → AreParts held
    → times word (map words_of_part (free_in_slot held slot))
    ≡ one_if ((slot == slot_of word) && not (is_held word held))
covered_in_slot held word slot parts =
    times_joined word (free_within held highest_level (root_of slot))
    (free_within held highest_level (root_of slot + size_of 0))
    ∙ omega (
      arith,
      covered_within held word parts highest_level (root_of slot) (omega arith) (roots_are_whole slot).0,
      covered_within held word parts highest_level (root_of slot + size_of 0) (omega arith) (roots_are_whole slot).1,
      free_in_halves word (root_of slot) (size_of 0) node_words (not (is_held word held)) refl,
    )
    ∙ ap (λ b. one_if (b && not (is_held word held))) (in_node word slot)

-- A slot below all others is none of them.
not_among : (slot other : ℕ) (slots : List ℕ) → slot ≡ other → AllByRecursion (λ y. nat_cmp slot y ≡ Less) slots
    → is_reserved slots other ≡ false
not_among slot other [] e above = refl
not_among slot other (y ∷ slots) e above =
    or_from (y == other) (is_reserved slots other) (differs slot other y e above.0)
    (not_among slot other slots e above.1)
  where
    differs : (a b y : ℕ) → a ≡ b → nat_cmp a y ≡ Less → (y == b) ≡ false
    differs a b y e h = grind (arith, nat_tests)

covered_in_slots : (held : List Chunk) (word : ℕ) (slots : List ℕ) → AreParts held → IsStrictlySortedBy nat_cmp slots
    → times word (map words_of_part (flat_map (free_in_slot held) slots))
    ≡ one_if (is_reserved slots (slot_of word) && not (is_held word held))
unfolding IsStrictlySortedBy
covered_in_slots held word [] parts sorted = refl
covered_in_slots held word (slot ∷ slots) parts sorted =
    times_joined word (free_in_slot held slot) (flat_map (free_in_slot held) slots)
    ∙ elim (slot == slot_of word) as (λ b. (slot == slot_of word) ≡ b
    → times word (map words_of_part (free_in_slot held slot)) + times word
    (map words_of_part (flat_map (free_in_slot held) slots))
    ≡ one_if ((b || is_reserved slots (slot_of word)) && not (is_held word held))) [
      | true ↦ λ here. omega (
        arith,
        covered_in_slot held word slot parts,
        ap (λ b. one_if (b && not (is_held word held))) here,
        covered_in_slots held word slots parts sorted.1,
        ap (λ b. one_if (b && not (is_held word held)))
            (not_among slot (slot_of word) slots (eqb-true slot (slot_of word) here) sorted.0),
      )
      | false ↦
          λ past. omega (
            arith,
            covered_in_slot held word slot parts,
            ap (λ b. one_if (b && not (is_held word held))) past,
            covered_in_slots held word slots parts sorted.1,
          )
    ] refl

-- A word of a held chunk lies in a reserved node.
held_is_reserved : (word : ℕ) (slots : List ℕ) (held : List Chunk) → AreParts held
    → list_all (λ (chunk : Chunk). is_reserved slots (slot_of chunk.start)) held ≡ true → is_held word held ≡ true
    → is_reserved slots (slot_of word) ≡ true
held_is_reserved word slots [] parts reserved here = absurd (cc)
held_is_reserved word slots (chunk ∷ held) parts reserved here =
    let both =
    and_parts (is_reserved slots (slot_of chunk.start))
    (list_all (λ (c : Chunk). is_reserved slots (slot_of c.start)) held) reserved in
    elim (or_cases (has_word word (words_of chunk)) (is_held word held) here) [
      | inl one ↦ ap (is_reserved slots) (sym (same_slot (inside_bounds word 1 chunk.start (size_of chunk.level) one)
          (ends_in_node chunk.start chunk.level (All-head (λ c. IsPart c.start c.level) chunk held parts)))) ∙ both.0
      | inr later ↦ held_is_reserved word slots held (All-tail (λ c. IsPart c.start c.level) chunk held parts) both.1
          later
    ]
  where
    same_slot : (chunk.start ≤ word) × (word + 1 ≤ chunk.start + size_of chunk.level)
        → chunk.start + size_of chunk.level ≤ slot_of chunk.start * node_words + node_words
        → chunk.start / node_words ≡ word / node_words
    same_slot bounds ends = omega (arith, bounds.0, bounds.1, ends)

-- Held chunks and free parts together have each word of a reserved node once, and no other word.
pub covered_once : (policy : Policy) (word : ℕ) (held : List Chunk) (slots : List ℕ) → AreHeld policy slots held
    → IsStrictlyIncreasing slots → times word (runs_in_roots held slots) ≡ one_if (is_reserved slots (slot_of word))
covered_once policy word held slots good rising =
    sum_by-append (λ r. one_if (has_word word r)) (map words_of held) (map words_of_part (free_parts held slots))
    ∙ elim (is_held word held) as (λ b. is_held word held ≡ b
    → times word (map words_of held) + times word (map words_of_part (free_parts held slots))
    ≡ one_if (is_reserved slots (slot_of word))) [
      | true ↦ λ here. omega (
        arith,
        once_where_apart word (map words_of held) good.apart,
        free_times,
        ap one_if here,
        ap (λ b. one_if (is_reserved slots (slot_of word) && not b)) here,
        ap one_if (held_is_reserved word slots held good.parts good.reserved here),
        ap one_if (both_false (is_reserved slots (slot_of word))),
      )
      | false ↦ λ past. omega (
        arith,
        once_where_apart word (map words_of held) good.apart,
        free_times,
        ap one_if past,
        ap (λ b. one_if (is_reserved slots (slot_of word) && not b)) past,
        ap one_if (with_true (is_reserved slots (slot_of word))),
      )
    ] refl
  where
    free_times : times word (map words_of_part (free_parts held slots))
        ≡ one_if (is_reserved slots (slot_of word) && not (is_held word held))
    free_times = covered_in_slots held word slots good.parts (sorted_from_strictly_increasing slots rising)

    both_false : (b : Bool) → (b && false) ≡ false
    both_false true = refl
    both_false false = refl

    with_true : (b : Bool) → (b && true) ≡ b
    with_true true = refl
    with_true false = refl
