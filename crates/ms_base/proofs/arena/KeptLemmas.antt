-- An arena stays sound where a run comes to or leaves its live blocks or its free blocks; a run
-- that comes meets none of those there, and one that leaves met none.
use Rattle.std.proofs.Common.{◌≡◌, ◌≤◌, ℕ, Bool, true, false, Option, Some, None, List, [], ◌∷◌, ◌++◌, refl, sym, ap}
use Rattle.std.proofs.Common.{◌∙◌, arith}
use Rattle.std.specs.Prelude.{nat_le}
use Rattle.std.specs.List.{list_all}
use Rattle.std.proofs.lemmas.Bool.{and_parts, or_parts, le-leb, leb-true}
use Rattle.std.proofs.lemmas.Bool.Decides.{nat_tests}
use Rattle.std.proofs.lemmas.List.{append_assoc}
use Rattle.std.proofs.lemmas.List.Folds.{list_any-append, list_all-append}
use Rattle.ms_base.specs.Interval.{meet, meets_any}
use Rattle.ms_base.specs.Names.{named, with_new, without}
use Rattle.ms_base.specs.State.{ArenaState}
use Rattle.ms_base.specs.Good.{is_in_use, IsSound}
use Rattle.ms_base.proofs.entries.NameLemmas.{rises_with_new}
use Rattle.ms_base.proofs.entries.EntryLemmas.{Split, split_at, Gap, gap_at, rises_without}
use Rattle.ms_base.proofs.runs.ApartLemmas.{list_all-rest_of, apart-rest_of, list_all-with, list_any-with, apart-with}
use Rattle.ms_base.proofs.machine.BlocksApartLemmas.{middle_is_clear}

-- A run that meets none of an arena's blocks, has two words and lies below a top.
pub record Fits (arena : ArenaState) (live : List (ℕ × ℕ)) (run : ℕ × ℕ) : Type 0 where
  pub clear : meets_any run (live ++ arena.kept) ≡ false
  pub long : 2 ≤ run.1
  pub used : is_in_use arena run ≡ true

-- It may be a live block.
pub sound_with_live : (arena : ArenaState) (b : List (ℕ × ℕ)) (run : ℕ × ℕ) (a : List (ℕ × ℕ)) → Fits arena (b ++ a) run
    → IsSound arena (b ++ a) → IsSound arena (b ++ run ∷ a)
sound_with_live arena b run a fits sound = record {
  apart = rw new (apart-with b run (a ++ arena.kept) (rw old at fits.clear) (rw old at sound.apart));
  long = rw new
      (list_all-with (λ (r : ℕ × ℕ). nat_le 2 r.1) b run (a ++ arena.kept) (le-leb 2 run.1 fits.long)
      (rw old at sound.long));
  inside = rw new (list_all-with (is_in_use arena) b run (a ++ arena.kept) fits.used (rw old at sound.inside));
  few = sound.few;
  tops = sound.tops;
  kept = sound.kept;
}
  where
    old : (b ++ a) ++ arena.kept ≡ b ++ (a ++ arena.kept)
    old = append_assoc b a arena.kept

    new : (b ++ run ∷ a) ++ arena.kept ≡ b ++ run ∷ (a ++ arena.kept)
    new = append_assoc b (run ∷ a) arena.kept

-- No free block starts where a run does that meets none.
none_starts_there : (kept : List (ℕ × ℕ)) (run : ℕ × ℕ) → meets_any run kept ≡ false → 2 ≤ run.1
    → list_all (λ (r : ℕ × ℕ). nat_le 2 r.1) kept ≡ true → named kept run.0 ≡ None
none_starts_there kept run clear long all = none_there (named kept run.0) refl
  where
    meets_itself : (a m n : ℕ) → 2 ≤ m → 2 ≤ n → meet a m a n ≡ true
    meets_itself a m n h k = grind (arith, nat_tests)

    none_there : (o : Option ℕ) → named kept run.0 ≡ o → named kept run.0 ≡ None
    none_there None e = e
    none_there (Some words) e =
        let split = split_at kept run.0 words e in
        let tests = list_any-with (λ (r : ℕ × ℕ). meet run.0 run.1 r.0 r.1) split.before (run.0, words) split.after in
        let none =
        (or_parts (meet run.0 run.1 run.0 words) (meets_any run (split.before ++ split.after))
        (sym tests ∙ (rw split.is at clear))).0 in
        let two = and_parts (nat_le 2 words) (list_all (λ (r : ℕ × ℕ). nat_le 2 r.1) split.after)
        (and_parts (list_all (λ (r : ℕ × ℕ). nat_le 2 r.1) split.before)
        (list_all (λ (r : ℕ × ℕ). nat_le 2 r.1) ((run.0, words) ∷ split.after))
        (sym (list_all-append (λ (r : ℕ × ℕ). nat_le 2 r.1) split.before ((run.0, words) ∷ split.after))
        ∙ (rw split.is at all))).1 in
        let meets = meets_itself run.0 run.1 words long (leb-true 2 words two.0) in
        absurd (cc (none, meets))

-- It may be a free block.
pub sound_with_kept : (arena : ArenaState) (live : List (ℕ × ℕ)) (run : ℕ × ℕ) → Fits arena live run
    → IsSound arena live → IsSound (record arena { kept = with_new arena.kept run.0 run.1 }) live
sound_with_kept arena live run fits sound = record {
  apart = rw new (apart-with (live ++ gap.before) run gap.after (rw old at fits.clear) (rw old at sound.apart));
  long = rw new
      (list_all-with (λ (r : ℕ × ℕ). nat_le 2 r.1) (live ++ gap.before) run gap.after (le-leb 2 run.1 fits.long)
      (rw old at sound.long));
  inside = rw new
      (list_all-with (is_in_use arena) (live ++ gap.before) run gap.after fits.used (rw old at sound.inside));
  few = sound.few;
  tops = sound.tops;
  kept = rises_with_new arena.kept run.0 run.1 sound.kept;
}
  where
    gap : Gap arena.kept run.0
    gap = gap_at arena.kept run.0 (none_starts_there arena.kept run
        (or_parts (meets_any run live) (meets_any run arena.kept)
        (sym (list_any-append (λ (r : ℕ × ℕ). meet run.0 run.1 r.0 r.1) live arena.kept) ∙ fits.clear)).1
        fits.long
        (and_parts (list_all (λ (r : ℕ × ℕ). nat_le 2 r.1) live) (list_all (λ (r : ℕ × ℕ). nat_le 2 r.1) arena.kept)
        (sym (list_all-append (λ (r : ℕ × ℕ). nat_le 2 r.1) live arena.kept) ∙ sound.long)).1)

    old : live ++ arena.kept ≡ (live ++ gap.before) ++ gap.after
    old = ap (λ (l : List (ℕ × ℕ)). live ++ l) gap.is ∙ sym (append_assoc live gap.before gap.after)

    new : live ++ with_new arena.kept run.0 run.1 ≡ (live ++ gap.before) ++ run ∷ gap.after
    new = ap (λ (l : List (ℕ × ℕ)). live ++ l) (gap.made run.1) ∙ sym (append_assoc live gap.before (run ∷ gap.after))

-- A free block is no more: the arena is sound, and the block fits.
pub record IsTakenOut (arena : ArenaState) (live : List (ℕ × ℕ)) (run : ℕ × ℕ) : Type 0 where
  pub sound : IsSound arena live
  pub fits : Fits arena live run

pub kept_taken_out : (arena : ArenaState) (live : List (ℕ × ℕ)) (run : ℕ × ℕ) → named arena.kept run.0 ≡ Some run.1
    → IsSound arena live → IsTakenOut (record arena { kept = without arena.kept run.0 }) live run
kept_taken_out arena live run has sound = record {
  sound = record {
    apart = rw gone (apart-rest_of (live ++ split.before) (run ∷ []) split.after (rw all at sound.apart));
    long = rw gone
        (list_all-rest_of (λ (r : ℕ × ℕ). nat_le 2 r.1) (live ++ split.before) (run ∷ []) split.after
        (rw all at sound.long));
    inside = rw gone
        (list_all-rest_of (is_in_use arena) (live ++ split.before) (run ∷ []) split.after (rw all at sound.inside));
    few = sound.few;
    tops = sound.tops;
    kept = rises_without arena.kept run.0 sound.kept;
  };
  fits = record {
    clear = rw gone (middle_is_clear (live ++ split.before) run split.after (rw all at sound.apart));
    long = leb-true 2 run.1 (one_of (λ (r : ℕ × ℕ). nat_le 2 r.1) (rw all at sound.long));
    used = one_of (is_in_use arena) (rw all at sound.inside);
  };
}
  where
    split : Split arena.kept run.0 run.1
    split = split_at arena.kept run.0 run.1 has

    all : live ++ arena.kept ≡ (live ++ split.before) ++ run ∷ split.after
    all = ap (λ (l : List (ℕ × ℕ)). live ++ l) split.is ∙ sym (append_assoc live split.before (run ∷ split.after))

    gone : live ++ without arena.kept run.0 ≡ (live ++ split.before) ++ split.after
    gone = ap (λ (l : List (ℕ × ℕ)). live ++ l) split.gone ∙ sym (append_assoc live split.before split.after)

    one_of : (p : ℕ × ℕ → Bool) → list_all p ((live ++ split.before) ++ run ∷ split.after) ≡ true → p run ≡ true
    one_of p h =
        (and_parts (p run) (list_all p split.after)
        (and_parts (list_all p (live ++ split.before)) (list_all p (run ∷ split.after))
        (sym (list_all-append p (live ++ split.before) (run ∷ split.after)) ∙ h)).1).0

-- A live block is no more: the same.
pub live_taken_out : (arena : ArenaState) (b : List (ℕ × ℕ)) (run : ℕ × ℕ) (a : List (ℕ × ℕ))
    → IsSound arena (b ++ run ∷ a) → IsTakenOut arena (b ++ a) run
live_taken_out arena b run a sound = record {
  sound = record {
    apart = rw gone (apart-rest_of b (run ∷ []) (a ++ arena.kept) (rw all at sound.apart));
    long = rw gone
        (list_all-rest_of (λ (r : ℕ × ℕ). nat_le 2 r.1) b (run ∷ []) (a ++ arena.kept) (rw all at sound.long));
    inside = rw gone (list_all-rest_of (is_in_use arena) b (run ∷ []) (a ++ arena.kept) (rw all at sound.inside));
    few = sound.few;
    tops = sound.tops;
    kept = sound.kept;
  };
  fits = record {
    clear = rw gone (middle_is_clear b run (a ++ arena.kept) (rw all at sound.apart));
    long = leb-true 2 run.1 (one_of (λ (r : ℕ × ℕ). nat_le 2 r.1) (rw all at sound.long));
    used = one_of (is_in_use arena) (rw all at sound.inside);
  };
}
  where
    all : (b ++ run ∷ a) ++ arena.kept ≡ b ++ run ∷ (a ++ arena.kept)
    all = append_assoc b (run ∷ a) arena.kept

    gone : (b ++ a) ++ arena.kept ≡ b ++ (a ++ arena.kept)
    gone = append_assoc b a arena.kept

    one_of : (p : ℕ × ℕ → Bool) → list_all p (b ++ run ∷ (a ++ arena.kept)) ≡ true → p run ≡ true
    one_of p h =
        (and_parts (p run) (list_all p (a ++ arena.kept))
        (and_parts (list_all p b) (list_all p (run ∷ (a ++ arena.kept)))
        (sym (list_all-append p b (run ∷ (a ++ arena.kept))) ∙ h)).1).0
