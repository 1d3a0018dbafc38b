-- At most one loader holds a word: chunks that are held in a space share none, and a word lies in
-- one space. `System::holder` uses this.
use Rattle.std.proofs.Common.{◌≡◌, ◌&&◌, ℕ, ◌==◌, ◌+◌, Bool, true, not, List, [], ◌∷◌, ◌++◌, map, sym}
use Rattle.std.proofs.Common.{◌∙◌, ◌⊎◌, inl, inr, arith}
use Rattle.std.specs.Prelude.{nat_lt}
use Rattle.std.specs.List.{AllByRecursion, list_any}
use Rattle.std.specs.Map.{values_of}
use Rattle.std.proofs.lemmas.Bool.{and_parts, and_from, or_cases, or_left, or_right, eqb-true, ltb-true, lt-ltb, not-true}
use Rattle.std.proofs.lemmas.Bool.{both_ways}
use Rattle.std.proofs.lemmas.List.Elements.{recursion_from_All}
use Rattle.std.proofs.lemmas.List.Folds.{list_any-append}
use Rattle.ms_base.specs.declared.kind.Space.{Space}
use Rattle.ms_base.specs.declared.kind.Space.TheVariants.{NonClass, Class}
use Rattle.ms_base.specs.declared.span.Chunk.{Chunk}
use Rattle.ms_base.specs.Held.{words_of}
use Rattle.ms_base.specs.Interval.{meet, meets_any, are_apart}
use Rattle.ms_base.specs.Level.{size_of}
use Rattle.ms_base.specs.Part.{IsPart, slot_of}
use Rattle.ms_base.specs.Spaces.{IsSlotOf, is_in}
use Rattle.ms_base.specs.State.{LoaderState, arena_of, chunks_held}
use Rattle.ms_base.proofs.arena.BlockLemmas.{not_in_other}
use Rattle.ms_pool.specs.Owners.{is_in_chunk}
use Rattle.ms_loaders.specs.Holder.{holds_word, is_holder}
use Rattle.ms_loader.specs.Loader.{LoaderView, IsSoundView}
use Rattle.ms_loaders.specs.System.{states_of}
use Rattle.ms_loader.proofs.calls.LoaderSpaceLemmas.{chunk_in_space}

-- A chunk that has the word meets each other that has it.
meets_one : (word : ℕ) (c : Chunk) (cs : List Chunk) → is_in_chunk word c ≡ true
    → list_any (is_in_chunk word) cs ≡ true → meets_any (words_of c) (map words_of cs) ≡ true
meets_one word c [] has any = absurd (cc)
meets_one word c (d ∷ cs) has any =
    elim (or_cases (is_in_chunk word d) (list_any (is_in_chunk word) cs) any) [
      | inl here ↦
          let ours = and_parts (nat_lt c.start (word + 1)) (nat_lt word (c.start + size_of c.level)) has in
          let theirs = and_parts (nat_lt d.start (word + 1)) (nat_lt word (d.start + size_of d.level)) here in
          let our_low = ltb-true c.start (word + 1) ours.0 in
          let our_high = ltb-true word (c.start + size_of c.level) ours.1 in
          let their_low = ltb-true d.start (word + 1) theirs.0 in
          let their_high = ltb-true word (d.start + size_of d.level) theirs.1 in
          or_left (meet c.start (size_of c.level) d.start (size_of d.level)) (meets_any (words_of c) (map words_of cs))
          (and_from (nat_lt c.start (d.start + size_of d.level)) (nat_lt d.start (c.start + size_of c.level))
          (lt-ltb c.start (d.start + size_of d.level) (omega (arith, our_low, their_high)))
          (lt-ltb d.start (c.start + size_of c.level) (omega (arith, their_low, our_high))))
      | inr later ↦
          or_right (meet c.start (size_of c.level) d.start (size_of d.level)) (meets_any (words_of c) (map words_of cs))
          (meets_one word c cs has later)
    ]

-- So of chunks that are apart not both parts have the word.
cross : (word : ℕ) (a b : List Chunk) → are_apart (map words_of (a ++ b)) ≡ true → list_any (is_in_chunk word) a ≡ true
    → list_any (is_in_chunk word) b ≡ true → ⊥
cross word [] b apart one other = cc
cross word (c ∷ a) b apart one other =
    let both =
    and_parts (not (meets_any (words_of c) (map words_of (a ++ b)))) (are_apart (map words_of (a ++ b))) apart in
    elim (or_cases (is_in_chunk word c) (list_any (is_in_chunk word) a) one) [
      | inl here ↦ both_ways (meets_any (words_of c) (map words_of (a ++ b)))
          (not-true (meets_any (words_of c) (map words_of (a ++ b))) both.0)
          (meets_one word c (a ++ b) here (list_any-append (is_in_chunk word) a b
          ∙ or_right (list_any (is_in_chunk word) a) (list_any (is_in_chunk word) b) other))
      | inr later ↦ cross word a b both.1 later other
    ]

apart_later : (a b : List Chunk) → are_apart (map words_of (a ++ b)) ≡ true → are_apart (map words_of b) ≡ true
apart_later [] b apart = apart
apart_later (c ∷ a) b apart =
    apart_later a b
    (and_parts (not (meets_any (words_of c) (map words_of (a ++ b)))) (are_apart (map words_of (a ++ b))) apart).1

-- The loader has the name, and holds the word in a space.
abbrev holder_in : Space → ℕ → ℕ → ℕ × LoaderState → Bool
holder_in space name word entry = (entry.0 == name) && list_any (is_in_chunk word) (arena_of space entry.1).chunks

some_chunk : (space : Space) (name word : ℕ) (es : List (ℕ × LoaderState))
    → list_any (holder_in space name word) es ≡ true → list_any (is_in_chunk word) (chunks_held space es) ≡ true
some_chunk space name word [] any = absurd (cc)
some_chunk space name word (e ∷ es) any =
    list_any-append (is_in_chunk word) (arena_of space e.1).chunks (chunks_held space es)
    ∙ elim (or_cases (holder_in space name word e) (list_any (holder_in space name word) es) any) [
      | inl here ↦ or_left (list_any (is_in_chunk word) (arena_of space e.1).chunks)
          (list_any (is_in_chunk word) (chunks_held space es))
          (and_parts (e.0 == name) (list_any (is_in_chunk word) (arena_of space e.1).chunks) here).1
      | inr later ↦ or_right (list_any (is_in_chunk word) (arena_of space e.1).chunks)
          (list_any (is_in_chunk word) (chunks_held space es)) (some_chunk space name word es later)
    ]

one_in_space : (space : Space) (name other word : ℕ) (es : List (ℕ × LoaderState))
    → are_apart (map words_of (chunks_held space es)) ≡ true → list_any (holder_in space name word) es ≡ true
    → list_any (holder_in space other word) es ≡ true → other ≡ name
one_in_space space name other word [] apart one two = absurd (cc)
one_in_space space name other word (e ∷ es) apart one two =
    elim (or_cases (holder_in space name word e) (list_any (holder_in space name word) es) one) [
      | inl its ↦
          let has = and_parts (e.0 == name) (list_any (is_in_chunk word) (arena_of space e.1).chunks) its in
          elim (or_cases (holder_in space other word e) (list_any (holder_in space other word) es) two) [
            | inl theirs ↦ sym (eqb-true e.0 other
                (and_parts (e.0 == other) (list_any (is_in_chunk word) (arena_of space e.1).chunks) theirs).0)
                ∙ eqb-true e.0 name has.0
            | inr later ↦ absurd (cross word (arena_of space e.1).chunks (chunks_held space es) apart has.1
                (some_chunk space other word es later))
          ]
      | inr after ↦ elim (or_cases (holder_in space other word e) (list_any (holder_in space other word) es) two) [
        | inl theirs ↦ absurd (cross word (arena_of space e.1).chunks (chunks_held space es) apart
            (and_parts (e.0 == other) (list_any (is_in_chunk word) (arena_of space e.1).chunks) theirs).1
            (some_chunk space name word es after))
        | inr later ↦ one_in_space space name other word es
            (apart_later (arena_of space e.1).chunks (chunks_held space es) apart) after later
      ]
    ]

-- A loader that holds a word holds it in a space.
by_spaces : (name word : ℕ) (es : List (ℕ × LoaderState)) → list_any (is_holder name word) es ≡ true
    → (list_any (holder_in NonClass name word) es ≡ true) ⊎ (list_any (holder_in Class name word) es ≡ true)
by_spaces name word [] any = absurd (cc)
by_spaces name word (e ∷ es) any =
    elim (or_cases (is_holder name word e) (list_any (is_holder name word) es) any) [
      | inl here ↦
          let has = and_parts (e.0 == name) (holds_word word e.1) here in
          elim (or_cases (list_any (is_in_chunk word) e.1.arena.chunks) (list_any (is_in_chunk word) e.1.class_arena.chunks)
          has.1) [
            | inl its ↦ inl (or_left (holder_in NonClass name word e) (list_any (holder_in NonClass name word) es)
                (and_from (e.0 == name) (list_any (is_in_chunk word) e.1.arena.chunks) has.0 its))
            | inr its ↦ inr (or_left (holder_in Class name word e) (list_any (holder_in Class name word) es)
                (and_from (e.0 == name) (list_any (is_in_chunk word) e.1.class_arena.chunks) has.0 its))
          ]
      | inr later ↦ elim (by_spaces name word es later) [
        | inl its ↦ inl (or_right (holder_in NonClass name word e) (list_any (holder_in NonClass name word) es) its)
        | inr its ↦ inr (or_right (holder_in Class name word e) (list_any (holder_in Class name word) es) its)
      ]
    ]

-- The word lies in that space.
in_chunks : (space : Space) (word : ℕ) (cs : List Chunk)
    → AllByRecursion (λ (chunk : Chunk). IsPart chunk.start chunk.level) cs
    → AllByRecursion (λ (chunk : Chunk). IsSlotOf space (slot_of chunk.start)) cs
    → list_any (is_in_chunk word) cs ≡ true → is_in space word ≡ true
in_chunks space word [] parts slots any = absurd (cc)
in_chunks space word (c ∷ cs) parts slots any =
    elim (or_cases (is_in_chunk word c) (list_any (is_in_chunk word) cs) any) [
      | inl here ↦
          let both = and_parts (nat_lt c.start (word + 1)) (nat_lt word (c.start + size_of c.level)) here in
          let low = ltb-true c.start (word + 1) both.0 in
          chunk_in_space space c word parts.0 slots.0 (omega (arith, low))
          (ltb-true word (c.start + size_of c.level) both.1)
      | inr later ↦ in_chunks space word cs parts.1 slots.1 later
    ]

in_that_space : (space : Space) (name word : ℕ) (loaders : List (ℕ × LoaderView))
    → AllByRecursion IsSoundView (values_of loaders) → list_any (holder_in space name word) (states_of loaders) ≡ true
    → is_in space word ≡ true
in_that_space space name word [] sound any = absurd (cc)
in_that_space space name word (e ∷ es) sound any =
    elim (or_cases (holder_in space name word (e.0, e.1.state)) (list_any (holder_in space name word) (states_of es))
    any) [
      | inl here ↦
          let chunks = (arena_of space e.1.state).chunks in
          in_chunks space word chunks (recursion_from_All _ chunks (sound.0.chunks space).parts)
          (recursion_from_All _ chunks (sound.0.chunks space).inside)
          (and_parts (e.0 == name) (list_any (is_in_chunk word) chunks) here).1
      | inr later ↦ in_that_space space name word es sound.1 later
    ]

-- So loaders that hold one word have one name.
pub one_holder : (loaders : List (ℕ × LoaderView)) (name other word : ℕ)
    → AllByRecursion IsSoundView (values_of loaders)
    → ((space : Space) → are_apart (map words_of (chunks_held space (states_of loaders))) ≡ true)
    → list_any (is_holder name word) (states_of loaders) ≡ true
    → list_any (is_holder other word) (states_of loaders) ≡ true → other ≡ name
one_holder loaders name other word sound apart one two =
    elim (by_spaces name word (states_of loaders) one) [
      | inl its ↦ elim (by_spaces other word (states_of loaders) two) [
        | inl theirs ↦ one_in_space NonClass name other word (states_of loaders) (apart NonClass) its theirs
        | inr theirs ↦ absurd (both_ways (is_in Class word)
            (not_in_other NonClass word (in_that_space NonClass name word loaders sound its))
            (in_that_space Class other word loaders sound theirs))
      ]
      | inr its ↦ elim (by_spaces other word (states_of loaders) two) [
        | inl theirs ↦ absurd (both_ways (is_in Class word)
            (not_in_other NonClass word (in_that_space NonClass other word loaders sound theirs))
            (in_that_space Class name word loaders sound its))
        | inr theirs ↦ one_in_space Class name other word (states_of loaders) (apart Class) its theirs
      ]
    ]
