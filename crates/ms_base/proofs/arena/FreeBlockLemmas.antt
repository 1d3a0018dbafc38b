-- An arena stays sound where a block is placed in a free block, whose rest is kept.
use Rattle.std.proofs.Common.{◌≡◌, ◌≤◌, ◌+◌, ◌-◌, ℕ, true, false, cond, Some, List, [], ◌∷◌, ◌++◌, refl, ◌∙◌, arith}
use Rattle.std.proofs.Common.{inl, inr}
use Rattle.std.specs.Prelude.{nat_le}
use Rattle.std.specs.List.{list_any}
use Rattle.std.proofs.lemmas.Bool.{or_parts, or_from, or_left, or_right, or_cases, leb-true}
use Rattle.std.proofs.lemmas.Bool.Decides.{nat_tests}
use Rattle.std.proofs.lemmas.List.{append_assoc}
use Rattle.ms_base.specs.declared.span.Chunk.{Chunk}
use Rattle.ms_base.specs.Interval.{meet, meets_any, lies_in}
use Rattle.ms_base.specs.Names.{named, with_new, without}
use Rattle.ms_base.specs.State.{ArenaState}
use Rattle.ms_base.specs.Good.{topped, IsSound}
use Rattle.ms_base.specs.Place.{with_rest, with_used}
use Rattle.ms_base.proofs.runs.ApartLemmas.{list_any-with}
use Rattle.ms_base.proofs.arena.KeptLemmas.{Fits, IsTakenOut, sound_with_live, sound_with_kept, kept_taken_out}

-- A part of a run that fits does.
narrower_clear : (a m k n b l : ℕ) → a ≤ k → k + n ≤ a + m → meet a m b l ≡ false → meet k n b l ≡ false
narrower_clear a m k n b l h i e = grind (arith, nat_tests)

pub part_clear : (run part : ℕ × ℕ) (runs : List (ℕ × ℕ)) → run.0 ≤ part.0 → part.0 + part.1 ≤ run.0 + run.1
    → meets_any run runs ≡ false → meets_any part runs ≡ false
part_clear run part [] low high h = refl
part_clear run part (r ∷ runs) low high h =
    let both = or_parts (meet run.0 run.1 r.0 r.1) (meets_any run runs) h in
    or_from (meet part.0 part.1 r.0 r.1) (meets_any part runs)
    (narrower_clear run.0 run.1 part.0 part.1 r.0 r.1 low high both.0) (part_clear run part runs low high both.1)

narrower_inside : (a m k n b t : ℕ) → a ≤ k → k + n ≤ a + m → lies_in (a, m) (b, t) ≡ true
    → lies_in (k, n) (b, t) ≡ true
narrower_inside a m k n b t h i e = grind (arith, nat_tests)

part_used : (run part : ℕ × ℕ) (used : List (Chunk × ℕ)) → run.0 ≤ part.0 → part.0 + part.1 ≤ run.0 + run.1
    → list_any (λ (u : Chunk × ℕ). lies_in run (u.0.start, u.1)) used ≡ true
    → list_any (λ (u : Chunk × ℕ). lies_in part (u.0.start, u.1)) used ≡ true
part_used run part [] low high h = absurd (cc)
part_used run part (u ∷ used) low high h =
    let rest = list_any (λ (v : Chunk × ℕ). lies_in part (v.0.start, v.1)) used in
    elim (or_cases (lies_in run (u.0.start, u.1)) (list_any (λ (v : Chunk × ℕ). lies_in run (v.0.start, v.1)) used) h) [
      | inl here ↦ or_left (lies_in part (u.0.start, u.1)) rest
          (narrower_inside run.0 run.1 part.0 part.1 u.0.start u.1 low high here)
      | inr later ↦ or_right (lies_in part (u.0.start, u.1)) rest (part_used run part used low high later)
    ]

pub part_fits : (arena : ArenaState) (live : List (ℕ × ℕ)) (run part : ℕ × ℕ) → run.0 ≤ part.0
    → part.0 + part.1 ≤ run.0 + run.1 → 2 ≤ part.1 → Fits arena live run → Fits arena live part
part_fits arena live run part low high long fits = record {
  clear = part_clear run part (live ++ arena.kept) low high fits.clear;
  long = long;
  used = part_used run part (topped arena) low high fits.used;
}

-- A run that fits, and meets none of a live block that comes, fits still.
pub fits_beside : (arena : ArenaState) (b : List (ℕ × ℕ)) (block : ℕ × ℕ) (a : List (ℕ × ℕ)) (run : ℕ × ℕ)
    → meet run.0 run.1 block.0 block.1 ≡ false → Fits arena (b ++ a) run → Fits arena (b ++ block ∷ a) run
fits_beside arena b block a run none fits = record {
  clear = rw (append_assoc b (block ∷ a) arena.kept)
      (list_any-with (λ (r : ℕ × ℕ). meet run.0 run.1 r.0 r.1) b block (a ++ arena.kept)
      ∙ or_from (meet run.0 run.1 block.0 block.1) (meets_any run (b ++ (a ++ arena.kept))) none
      (rw (append_assoc b a arena.kept) at fits.clear));
  long = fits.long;
  used = fits.used;
}

-- The rest of a run is kept where it has two words.
pub rest_is_sound : (arena : ArenaState) (live : List (ℕ × ℕ)) (start words : ℕ)
    → (2 ≤ words → Fits arena live (start, words)) → IsSound arena live
    → IsSound (record arena { kept = with_rest arena.kept start words }) live
rest_is_sound arena live start words fits sound =
    elim (nat_le 2 words) as (λ t. nat_le 2 words ≡ t
    → IsSound (record arena { kept = cond t (with_new arena.kept start words) arena.kept }) live) [
      | true ↦ λ e. sound_with_kept arena live (start, words) (fits (leb-true 2 words e)) sound
      | false ↦ λ e. sound
    ] refl

-- A block at the start of a free block, whose rest is kept.
pub used_is_sound : (arena : ArenaState) (b a : List (ℕ × ℕ)) (run : ℕ × ℕ) (n : ℕ)
    → named arena.kept run.0 ≡ Some run.1 → 2 ≤ n → n ≤ run.1 → IsSound arena (b ++ a)
    → IsSound (with_used arena run n) (b ++ (run.0, n) ∷ a)
used_is_sound arena b a run n has long within sound =
    rest_is_sound without_run (b ++ (run.0, n) ∷ a) (run.0 + n) (run.1 - n)
    (λ some. fits_beside without_run b (run.0, n) a (run.0 + n, run.1 - n) (after run.0 n (run.1 - n))
    (part_fits without_run (b ++ a) run (run.0 + n, run.1 - n) (omega arith) (omega arith) some out.fits))
    (sound_with_live without_run b (run.0, n) a
    (part_fits without_run (b ++ a) run (run.0, n) (omega arith) (omega arith) long out.fits) out.sound)
  where
    without_run : ArenaState
    without_run = record arena { kept = without arena.kept run.0 }

    out : IsTakenOut without_run (b ++ a) run
    out = kept_taken_out arena (b ++ a) run has sound

    after : (s n k : ℕ) → meet (s + n) k s n ≡ false
    after s n k = grind (arith, nat_tests)
