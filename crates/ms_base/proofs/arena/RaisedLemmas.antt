-- An arena stays sound where a top rises, and the words that it rises over fit there.
use Rattle.std.proofs.Common.{◌≡◌, ◌≤◌, ◌<◌, ◌+◌, ◌-◌, ℕ, zero, suc, Bool, true, false, not, Some, List, [], ◌∷◌, ◌++◌}
use Rattle.std.proofs.Common.{length, map, refl, ◌∙◌, subst, arith, inl, inr}
use Rattle.std.specs.Prelude.{nat_le, slice_get, slice_index}
use Rattle.std.specs.List.{All, AllByRecursion, list_any, list_all, zip}
use Rattle.std.proofs.lemmas.Bool.{and_parts, and_from, or_from, or_left, or_right, or_cases, not-true, le-leb}
use Rattle.std.proofs.lemmas.Bool.{leb-true}
use Rattle.std.proofs.lemmas.Bool.Decides.{nat_tests}
use Rattle.std.proofs.lemmas.List.Elements.{recursion_from_All}
use Rattle.ms_base.specs.declared.policy.Policy.{Policy}
use Rattle.ms_base.specs.declared.span.Chunk.{Chunk}
use Rattle.ms_base.specs.Interval.{meet, meets_any, are_apart, lies_in}
use Rattle.ms_base.specs.Front.{HasFront}
use Rattle.ms_base.specs.Held.{words_of}
use Rattle.ms_base.specs.State.{ArenaState}
use Rattle.ms_base.specs.Good.{topped, is_in_use, IsSound}
use Rattle.ms_base.specs.Place.{tops_with}
use Rattle.ms_base.proofs.runs.ApartLemmas.{meet_turned}
use Rattle.ms_base.proofs.machine.BackedLemmas.{further, in_use_in_front}
use Rattle.ms_base.proofs.machine.BlocksApartLemmas.{some_front, clear_of_others}
use Rattle.ms_base.proofs.arena.KeptLemmas.{Fits}
use Rattle.ms_base.proofs.arena.TopLemmas.{none_topped}

-- A run in use, as a test of a chunk with its top.
abbrev holds : ℕ × ℕ → Chunk × ℕ → Bool
holds run used = lies_in run (used.0.start, used.1)

abbrev is_topped_within : Chunk × ℕ → Bool
is_topped_within used = nat_le used.1 used.0.front

-- What is in use is so still under a higher top.
any_raised : (run : ℕ × ℕ) (chunks : List Chunk) (tops : List ℕ) (index top : ℕ) → slice_index tops index ≤ top
    → list_any (holds run) (zip chunks tops) ≡ true
    → list_any (holds run) (zip chunks (tops_with tops index top)) ≡ true
any_raised run [] tops index top higher h = absurd (cc)
any_raised run (c ∷ chunks) [] index top higher h = absurd (cc)
any_raised run (c ∷ chunks) (t ∷ tops) zero top higher h =
    let rest = list_any (holds run) (zip chunks tops) in
    elim (or_cases (holds run (c, t)) rest h) [
      | inl here ↦ or_left (holds run (c, top)) rest (further run.0 run.1 c.start t top here higher)
      | inr later ↦ or_right (holds run (c, top)) rest later
    ]
any_raised run (c ∷ chunks) (t ∷ tops) (suc index) top higher h =
    let rest = list_any (holds run) (zip chunks (tops_with tops index top)) in
    elim (or_cases (holds run (c, t)) (list_any (holds run) (zip chunks tops)) h) [
      | inl here ↦ or_left (holds run (c, t)) rest here
      | inr later ↦ or_right (holds run (c, t)) rest (any_raised run chunks tops index top higher later)
    ]

-- What lies below the new top is in use.
any_at_index : (run : ℕ × ℕ) (chunks : List Chunk) (tops : List ℕ) (index top : ℕ) (chunk : Chunk)
    → slice_get chunks index ≡ Some chunk → lies_in run (chunk.start, top) ≡ true
    → list_any (holds run) (zip chunks (tops_with tops index top)) ≡ true
any_at_index run [] tops index top chunk found h = absurd (cc)
any_at_index run (c ∷ chunks) [] zero top chunk found h =
    let its : c ≡ chunk = cc in or_left (holds run (c, top)) (list_any (holds run) (zip {X = ℕ} chunks [])) (rw its h)
any_at_index run (c ∷ chunks) (t ∷ tops) zero top chunk found h =
    let its : c ≡ chunk = cc in or_left (holds run (c, top)) (list_any (holds run) (zip chunks tops)) (rw its h)
any_at_index run (c ∷ chunks) [] (suc index) top chunk found h =
    or_right (holds run (c, 0)) (list_any (holds run) (zip chunks (tops_with [] index top)))
    (any_at_index run chunks [] index top chunk found h)
any_at_index run (c ∷ chunks) (t ∷ tops) (suc index) top chunk found h =
    or_right (holds run (c, t)) (list_any (holds run) (zip chunks (tops_with tops index top)))
    (any_at_index run chunks tops index top chunk found h)

-- Tops stay within fronts.
all_raised : (chunks : List Chunk) (tops : List ℕ) (index top : ℕ) (chunk : Chunk) → slice_get chunks index ≡ Some chunk
    → top ≤ chunk.front → list_all is_topped_within (zip chunks tops) ≡ true
    → list_all is_topped_within (zip chunks (tops_with tops index top)) ≡ true
all_raised [] tops index top chunk found within h = absurd (cc)
all_raised (c ∷ chunks) [] zero top chunk found within h =
    let its : c ≡ chunk = cc in
    and_from (nat_le top c.front) (list_all is_topped_within (zip {X = ℕ} chunks []))
    (rw its (le-leb top chunk.front within)) (none_topped is_topped_within chunks)
all_raised (c ∷ chunks) (t ∷ tops) zero top chunk found within h =
    let its : c ≡ chunk = cc in
    and_from (nat_le top c.front) (list_all is_topped_within (zip chunks tops)) (rw its (le-leb top chunk.front within))
    (and_parts (nat_le t c.front) (list_all is_topped_within (zip chunks tops)) h).1
all_raised (c ∷ chunks) [] (suc index) top chunk found within h =
    and_from (nat_le 0 c.front) (list_all is_topped_within (zip chunks (tops_with [] index top)))
    (le-leb 0 c.front (omega arith))
    (all_raised chunks [] index top chunk found within (none_topped is_topped_within chunks))
all_raised (c ∷ chunks) (t ∷ tops) (suc index) top chunk found within h =
    let both = and_parts (nat_le t c.front) (list_all is_topped_within (zip chunks tops)) h in
    and_from (nat_le t c.front) (list_all is_topped_within (zip chunks (tops_with tops index top))) both.0
    (all_raised chunks tops index top chunk found within both.1)

few_tops : (tops : List ℕ) (index top n : ℕ) → length tops ≤ n → index < n → length (tops_with tops index top) ≤ n
few_tops [] zero top n few in' = omega arith
few_tops [] (suc index) top n few in' = omega (arith, few_tops [] index top (n - 1) (omega arith) (omega arith))
few_tops (t ∷ tops) zero top n few in' = few
few_tops (t ∷ tops) (suc index) top n few in' =
    omega (arith, few_tops tops index top (n - 1) (omega arith) (omega arith))

pub index_within : {X : Type 0} (xs : List X) (index : ℕ) (x : X) → slice_get xs index ≡ Some x → index < length xs
index_within [] index x found = absurd (cc)
index_within (y ∷ xs) zero x found = omega arith
index_within (y ∷ xs) (suc index) x found = omega (arith, index_within xs index x found)

pub top_within : (chunks : List Chunk) (tops : List ℕ) (index : ℕ) (chunk : Chunk) → slice_get chunks index ≡ Some chunk
    → list_all is_topped_within (zip chunks tops) ≡ true → slice_index tops index ≤ chunk.front
top_within [] tops index chunk found h = absurd (cc)
top_within (c ∷ chunks) [] index chunk found h = omega arith
top_within (c ∷ chunks) (t ∷ tops) zero chunk found h =
    let its : c ≡ chunk = cc in
    subst (λ (d : Chunk). t ≤ d.front) its
    (leb-true t c.front (and_parts (nat_le t c.front) (list_all is_topped_within (zip chunks tops)) h).0)
top_within (c ∷ chunks) (t ∷ tops) (suc index) chunk found h =
    top_within chunks tops index chunk found
    (and_parts (nat_le t c.front) (list_all is_topped_within (zip chunks tops)) h).1

all_still_used : (arena : ArenaState) (index top : ℕ) (runs : List (ℕ × ℕ)) → slice_index arena.tops index ≤ top
    → list_all (is_in_use arena) runs ≡ true
    → list_all (is_in_use (record arena { tops = tops_with arena.tops index top })) runs ≡ true
all_still_used arena index top [] higher h = refl
all_still_used arena index top (run ∷ runs) higher h =
    let both = and_parts (is_in_use arena run) (list_all (is_in_use arena) runs) h in
    let raised : ArenaState = record arena { tops = tops_with arena.tops index top } in
    and_from (is_in_use raised run) (list_all (is_in_use raised) runs)
    (any_raised run arena.chunks arena.tops index top higher both.0)
    (all_still_used arena index top runs higher both.1)

-- A top rises within its chunk's front.
pub raised_is_sound : (arena : ArenaState) (live : List (ℕ × ℕ)) (index top : ℕ) (chunk : Chunk)
    → slice_get arena.chunks index ≡ Some chunk → slice_index arena.tops index ≤ top → top ≤ chunk.front
    → IsSound arena live → IsSound (record arena { tops = tops_with arena.tops index top }) live
raised_is_sound arena live index top chunk found higher within sound = record {
  apart = sound.apart;
  long = sound.long;
  inside = all_still_used arena index top (live ++ arena.kept) higher sound.inside;
  few = few_tops arena.tops index top (length arena.chunks) sound.few (index_within arena.chunks index chunk found);
  tops = all_raised arena.chunks arena.tops index top chunk found within sound.tops;
  kept = sound.kept;
}

-- The words between a top and the front meet nothing in use.
front_at_index : (run : ℕ × ℕ) (chunks : List Chunk) (index : ℕ) (chunk : Chunk) → slice_get chunks index ≡ Some chunk
    → lies_in run (chunk.start, chunk.front) ≡ true → some_front chunks run ≡ true
front_at_index run [] index chunk found h = absurd (cc)
front_at_index run (c ∷ chunks) zero chunk found h =
    let its : c ≡ chunk = cc in or_left (lies_in run (c.start, c.front)) (some_front chunks run) (rw its h)
front_at_index run (c ∷ chunks) (suc index) chunk found h =
    or_right (lies_in run (c.start, c.front)) (some_front chunks run) (front_at_index run chunks index chunk found h)

above : (a t n r m : ℕ) → lies_in (r, m) (a, t) ≡ true → meet (a + t) n r m ≡ false
above a t n r m h = grind (arith, nat_tests)

above_in_front : (a t n f : ℕ) → t + n ≤ f → lies_in (a + t, n) (a, f) ≡ true
above_in_front a t n f h = grind (arith, nat_tests)

above_is_clear : (policy : Policy) (chunks : List Chunk) (tops : List ℕ) (index n : ℕ) (chunk : Chunk) (run : ℕ × ℕ)
    → AllByRecursion (HasFront policy) chunks → are_apart (map words_of chunks) ≡ true
    → slice_get chunks index ≡ Some chunk → slice_index tops index + n ≤ chunk.front
    → list_all is_topped_within (zip chunks tops) ≡ true → list_any (holds run) (zip chunks tops) ≡ true
    → meet (chunk.start + slice_index tops index) n run.0 run.1 ≡ false
above_is_clear policy [] tops index n chunk run fronts apart found within tops_in h = absurd (cc)
above_is_clear policy (c ∷ chunks) [] index n chunk run fronts apart found within tops_in h = absurd (cc)
above_is_clear policy (c ∷ chunks) (t ∷ tops) zero n chunk run fronts apart found within tops_in h =
    let its : chunk ≡ c = cc in
    let low = and_parts (nat_le t c.front) (list_all is_topped_within (zip chunks tops)) tops_in in
    let none =
    not-true (meets_any (words_of c) (map words_of chunks))
    (and_parts (not (meets_any (words_of c) (map words_of chunks))) (are_apart (map words_of chunks)) apart).0 in
    let fits : t + n ≤ c.front = subst (λ (d : Chunk). t + n ≤ d.front) its within in
    rw its (elim (or_cases (holds run (c, t)) (list_any (holds run) (zip chunks tops)) h) [
      | inl here ↦ above c.start t n run.0 run.1 here
      | inr later ↦ clear_of_others policy c chunks (c.start + t, n) run (above_in_front c.start t n c.front fits)
          fronts.0.within fronts.1 none
          (in_use_in_front run chunks tops low.1 later)
    ])
above_is_clear policy (c ∷ chunks) (t ∷ tops) (suc index) n chunk run fronts apart found within tops_in h =
    let low = and_parts (nat_le t c.front) (list_all is_topped_within (zip chunks tops)) tops_in in
    let both = and_parts (not (meets_any (words_of c) (map words_of chunks))) (are_apart (map words_of chunks)) apart in
    let top = slice_index tops index in
    elim (or_cases (holds run (c, t)) (list_any (holds run) (zip chunks tops)) h) [
      | inl here ↦ meet_turned (chunk.start + top) n run.0 run.1
          ∙ clear_of_others policy c chunks run (chunk.start + top, n)
          (further run.0 run.1 c.start t c.front here (leb-true t c.front low.0)) fronts.0.within fronts.1
          (not-true (meets_any (words_of c) (map words_of chunks)) both.0)
          (front_at_index (chunk.start + top, n) chunks index chunk found
          (above_in_front chunk.start top n chunk.front within))
      | inr later ↦ above_is_clear policy chunks tops index n chunk run fronts.1 both.1 found within low.1 later
    ]

all_clear_above : (policy : Policy) (arena : ArenaState) (index n : ℕ) (chunk : Chunk) (runs : List (ℕ × ℕ))
    → AllByRecursion (HasFront policy) arena.chunks → are_apart (map words_of arena.chunks) ≡ true
    → slice_get arena.chunks index ≡ Some chunk → slice_index arena.tops index + n ≤ chunk.front
    → list_all is_topped_within (topped arena) ≡ true → list_all (is_in_use arena) runs ≡ true
    → meets_any (chunk.start + slice_index arena.tops index, n) runs ≡ false
all_clear_above policy arena index n chunk [] fronts apart found within tops_in h = refl
all_clear_above policy arena index n chunk (run ∷ runs) fronts apart found within tops_in h =
    let both = and_parts (is_in_use arena run) (list_all (is_in_use arena) runs) h in
    or_from (meet (chunk.start + slice_index arena.tops index) n run.0 run.1)
    (meets_any (chunk.start + slice_index arena.tops index, n) runs)
    (above_is_clear policy arena.chunks arena.tops index n chunk run fronts apart found within tops_in both.0)
    (all_clear_above policy arena index n chunk runs fronts apart found within tops_in both.1)

-- So they fit once the top has risen over them.
pub above_fits : (policy : Policy) (arena : ArenaState) (live : List (ℕ × ℕ)) (index n top : ℕ) (chunk : Chunk)
    → All (HasFront policy) arena.chunks → are_apart (map words_of arena.chunks) ≡ true
    → slice_get arena.chunks index ≡ Some chunk → top ≡ slice_index arena.tops index + n → top ≤ chunk.front → 2 ≤ n
    → IsSound arena live
    → Fits (record arena { tops = tops_with arena.tops index top }) live (chunk.start + slice_index arena.tops index, n)
above_fits policy arena live index n top chunk fronts apart found is within long sound = record {
  clear = all_clear_above policy arena index n chunk (live ++ arena.kept)
      (recursion_from_All (HasFront policy) arena.chunks fronts) apart found (omega (arith, is, within)) sound.tops
      sound.inside;
  long = long;
  used = any_at_index (chunk.start + slice_index arena.tops index, n) arena.chunks arena.tops index top chunk found
      (above_in_front chunk.start (slice_index arena.tops index) n top (omega (arith, is)));
}
