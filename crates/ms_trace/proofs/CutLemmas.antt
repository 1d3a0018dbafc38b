-- Cutting at a byte undoes joining with it.
use Rattle.std.proofs.Common.{◌≡◌, ℕ, get_or, ◌+◌, ◌<◌, ◌≤◌, min, not, cond, ltb, length, take, drop, Option, Some, None, arith}
use Rattle.std.proofs.Common.{Bool, true, false, eqb, List, [], ◌∷◌, refl, ◌∙◌, ap}
use Rattle.std.proofs.lemmas.Bool.{not-true, ltb-true, ltb-false, lt-ltb, le-ltb}
use Rattle.std.proofs.lemmas.List.{get_or-take, length-take}
use Rattle.std.proofs.lemmas.List.Splits.{slice_split_none, slice_split_at, slice_split_first}
use Rattle.std.proofs.lemmas.List.Sums.{prefix_len_passes, position_or_len_is}
use Rattle.std.specs.List.{All, AllByRecursion, join_with_byte, slice_split, position, position_or_len}
use Rattle.memchr.specs.Find.{IsFirstByte}
use Rattle.ms_trace.specs.Grammar.{fields_of}

-- No byte is a space.
abbrev pub IsSolid : List ℕ → Type 0
IsSolid bytes = All (λ byte. eqb byte 32 ≡ false) bytes

-- Fields without spaces are cut as they were joined.
pub fields_of-join : (first : List ℕ) (rest : List (List ℕ)) → IsSolid first → AllByRecursion IsSolid rest
    → fields_of (join_with_byte 32 (first ∷ rest)) ≡ first ∷ rest
fields_of-join first [] solid all = slice_split_none (λ byte. eqb byte 32) first solid
fields_of-join first (next ∷ rest) solid all =
    slice_split_at (λ byte. eqb byte 32) first 32 (join_with_byte 32 (next ∷ rest)) solid refl
    ∙ ap (λ fields. first ∷ fields) (fields_of-join next rest all.0 all.1)

-- Where the byte isn't found, the text is one part.
not_inside : (inside : Bool) (offset : ℕ) → None ≡ cond inside (Some offset) None → inside ≡ false
not_inside true offset e = cc
not_inside false offset e = refl

pub cut_nowhere : (p : ℕ → Bool) (text : List ℕ) → None ≡ position p text → slice_split p text ≡ text ∷ []
cut_nowhere p text e =
    let past : length text ≤ position_or_len p text = ltb-false _ _ (not_inside _ _ e) in
    slice_split_none p text (λ k d inside. not-true _ (prefix_len_passes (λ byte. not (p byte)) text k d (omega arith)))

-- Where it is found, the first part ends there.
found_inside : (inside : Bool) (offset at : ℕ) → Some at ≡ cond inside (Some offset) None → (inside ≡ true) × (offset ≡ at)
found_inside true offset at e = (refl, cc)
found_inside false offset at e = cc

pub cut_there : (p : ℕ → Bool) (text : List ℕ) (at : ℕ) → Some at ≡ position p text
    → slice_split p text ≡ take at text ∷ slice_split p (drop (at + 1) text)
cut_there p text at e =
    let found : (ltb (position_or_len p text) (length text) ≡ true) × (position_or_len p text ≡ at) =
    found_inside _ _ at e in
    rw found.1 at (slice_split_first p text 0 (ltb-true _ _ found.0))

pub not_true : (b : Bool) → (b ≡ true → ⊥) → b ≡ false
not_true true never = absurd (never refl)
not_true false never = refl

-- The first offset that a search finds, in the words of `position`.
pub position_from_first : (p : ℕ → Bool) (text : List ℕ) (found : Option ℕ) → IsFirstByte p text found
    → found ≡ position p text
position_from_first p text None nowhere =
    let none : position_or_len p text ≡ length text =
    position_or_len_is p text (length text) 0 (omega arith)
    (λ k below. not_true (p (get_or text k 0)) (nowhere k (omega arith) below)) (λ below. absurd (omega (arith, below)))
    in
    rw none (rw (le-ltb (length text) (length text) (omega arith)) refl)
position_from_first p text (Some at) (first, here) =
    let offset : position_or_len p text ≡ at =
    position_or_len_is p text at 0 (omega (arith, first.high))
    (λ k below. not_true (p (get_or text k 0)) (first.before k (omega arith) below)) (λ below. here) in
    rw offset (rw (lt-ltb at (length text) first.high) refl)

-- The first offset in the front of a text is the first in the text.
pub first_in_front : (p : ℕ → Bool) (text : List ℕ) (n at : ℕ) → IsFirstByte p (take n text) (Some at)
    → IsFirstByte p text (Some at)
first_in_front p text n at (first, here) =
    let short : length (take n text) ≡ min n (length text) = length-take n text in
    let inside : at < length (take n text) = first.high in (
      record {
        low = first.low;
        high = omega (arith, short, inside);
        before = λ k low below hit.
            first.before k low below (rw (get_or-take n text k 0 (omega (arith, short, inside, below))) hit);
      },
      rw (get_or-take n text at 0 (omega (arith, short, inside))) at here,
    )
