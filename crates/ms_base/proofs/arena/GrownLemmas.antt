-- The machine stays good where a chunk grows in place: its front rises, or it becomes its parent,
-- whose other half met no chunk.
use Rattle.std.proofs.Common.{◌≡◌, ◌≤◌, ◌+◌, ◌-◌, ◌*◌, ◌^◌, ℕ, zero, suc, Bool, true, false, ◌&&◌, ◌||◌, Some, List, []}
use Rattle.std.proofs.Common.{◌∷◌, ◌++◌, length, map, refl, sym, ap, ◌∙◌, subst, arith, inl, inr, length-set}
use Rattle.std.specs.Prelude.{nat_le, slice_get, slice_set, ◌⊎◌}
use Rattle.std.specs.List.{list_any, list_all, zip}
use Rattle.std.proofs.lemmas.Nat.{pow-add, pow_pos}
use Rattle.std.proofs.lemmas.Bool.{and_parts, and_from, or_parts, or_from, le-leb, leb-true}
use Rattle.std.proofs.lemmas.Bool.Decides.{nat_tests}
use Rattle.std.proofs.lemmas.List.{map-append, append_assoc}
use Rattle.std.proofs.lemmas.List.Folds.{list_all-append}
use Rattle.std.proofs.lemmas.List.Elements.{recursion_from_All}
use Rattle.ms_base.specs.declared.span.Chunk.{Chunk}
use Rattle.ms_base.specs.Interval.{meet, meets_any, lies_in}
use Rattle.ms_base.specs.Level.{size_of, highest_level}
use Rattle.ms_base.specs.Part.{IsPart, slot_of, is_reserved}
use Rattle.ms_base.specs.Front.{HasFront}
use Rattle.ms_base.specs.Held.{AreHeld, words_of, meets_chunk}
use Rattle.ms_base.specs.declared.kind.Space.{Space}
use Rattle.ms_base.specs.Spaces.{other_space}
use Rattle.ms_base.specs.Names.{with_changed}
use Rattle.ms_base.specs.State.{ArenaState, LoaderState, Machine, arena_of, slots_in, committed_in, committed_now}
use Rattle.ms_base.specs.State.{chunks_held, pool_of, recommitted}
use Rattle.ms_base.specs.Good.{is_in_use, IsSound, IsSoundLoader, IsGood}
use Rattle.ms_base.specs.Transition.{HasLoader, with_loader}
use Rattle.ms_base.proofs.entries.EntryLemmas.{Split, split_at}
use Rattle.ms_base.proofs.runs.ApartLemmas.{All-middle_of, list_any-rest_of, meet_turned}
use Rattle.ms_base.proofs.machine.HeldLemmas.{IsPlaced, held_rest, held_with}
use Rattle.ms_base.proofs.machine.GoodLemmas.{chunks_split}
use Rattle.ms_base.proofs.machine.ChangeLemmas.{changed, good_with_change, slots_same}
use Rattle.ms_base.proofs.machine.BlocksApartLemmas.{middle_is_clear}

-- The chunks before and after an index.
pub record Parted (chunks : List Chunk) (index : ℕ) (was is : Chunk) : Type 0 where
  pub before : List Chunk
  pub after : List Chunk
  pub old : chunks ≡ before ++ was ∷ after
  pub new : slice_set chunks index is ≡ before ++ is ∷ after

pub parted_at : (chunks : List Chunk) (index : ℕ) (was is : Chunk) → slice_get chunks index ≡ Some was
    → Parted chunks index was is
parted_at [] index was is found = absurd (cc)
parted_at (c ∷ chunks) zero was is found =
    let its : c ≡ was =
    cc in record { before = []; after = chunks; old = ap (λ (d : Chunk). d ∷ chunks) its; new = refl }
parted_at (c ∷ chunks) (suc index) was is found =
    let rest = parted_at chunks index was is found in
    record {
      before = c ∷ rest.before;
      after = rest.after;
      old = ap (λ (l : List Chunk). c ∷ l) rest.old;
      new = ap (λ (l : List Chunk). c ∷ l) rest.new;
    }

-- An arena's blocks lie where they did.
same_use : (run : ℕ × ℕ) (chunks : List Chunk) (tops : List ℕ) (index : ℕ) (was is : Chunk)
    → slice_get chunks index ≡ Some was → is.start ≡ was.start
    → list_any (λ (used : Chunk × ℕ). lies_in run (used.0.start, used.1)) (zip (slice_set chunks index is) tops)
    ≡ list_any (λ (used : Chunk × ℕ). lies_in run (used.0.start, used.1)) (zip chunks tops)
same_use run [] tops index was is found same = absurd (cc)
same_use run (c ∷ chunks) [] zero was is found same = refl
same_use run (c ∷ chunks) [] (suc index) was is found same = refl
same_use run (c ∷ chunks) (t ∷ tops) zero was is found same =
    let its : is.start ≡ c.start = cc in
    ap (λ (s : ℕ). lies_in run (s, t) || list_any (λ (used : Chunk × ℕ). lies_in run (used.0.start, used.1))
    (zip chunks tops)) its
same_use run (c ∷ chunks) (t ∷ tops) (suc index) was is found same =
    ap (λ (b : Bool). lies_in run (c.start, t) || b) (same_use run chunks tops index was is found same)

all_same_use : (arena : ArenaState) (index : ℕ) (was is : Chunk) (runs : List (ℕ × ℕ))
    → slice_get arena.chunks index ≡ Some was → is.start ≡ was.start
    → list_all (is_in_use (record arena { chunks = slice_set arena.chunks index is })) runs
    ≡ list_all (is_in_use arena) runs
all_same_use arena index was is [] found same = refl
all_same_use arena index was is (run ∷ runs) found same =
    ap (λ (b : Bool). b && list_all (is_in_use (record arena { chunks = slice_set arena.chunks index is })) runs)
    (same_use run arena.chunks arena.tops index was is found same)
    ∙ ap (λ (b : Bool). is_in_use arena run && b) (all_same_use arena index was is runs found same)

tops_still_within : (chunks : List Chunk) (tops : List ℕ) (index : ℕ) (was is : Chunk)
    → slice_get chunks index ≡ Some was → was.front ≤ is.front
    → list_all (λ (used : Chunk × ℕ). nat_le used.1 used.0.front) (zip chunks tops) ≡ true
    → list_all (λ (used : Chunk × ℕ). nat_le used.1 used.0.front) (zip (slice_set chunks index is) tops) ≡ true
tops_still_within [] tops index was is found higher h = absurd (cc)
tops_still_within (c ∷ chunks) [] zero was is found higher h = refl
tops_still_within (c ∷ chunks) [] (suc index) was is found higher h = refl
tops_still_within (c ∷ chunks) (t ∷ tops) zero was is found higher h =
    let its : c ≡ was = cc in
    let rest = list_all (λ (used : Chunk × ℕ). nat_le used.1 used.0.front) (zip chunks tops) in
    let both = and_parts (nat_le t c.front) rest h in
    and_from (nat_le t is.front) rest
    (le-leb t is.front (omega (arith, leb-true t c.front both.0, ap (λ (d : Chunk). d.front) its, higher))) both.1
tops_still_within (c ∷ chunks) (t ∷ tops) (suc index) was is found higher h =
    let both =
    and_parts (nat_le t c.front) (list_all (λ (used : Chunk × ℕ). nat_le used.1 used.0.front) (zip chunks tops)) h
    in
    and_from (nat_le t c.front)
    (list_all (λ (used : Chunk × ℕ). nat_le used.1 used.0.front) (zip (slice_set chunks index is) tops)) both.0
    (tops_still_within chunks tops index was is found higher both.1)

pub grown_is_sound : (arena : ArenaState) (live : List (ℕ × ℕ)) (index : ℕ) (was is : Chunk)
    → slice_get arena.chunks index ≡ Some was → is.start ≡ was.start → was.front ≤ is.front → IsSound arena live
    → IsSound (record arena { chunks = slice_set arena.chunks index is }) live
grown_is_sound arena live index was is found same higher sound = record {
  apart = sound.apart;
  long = sound.long;
  inside = all_same_use arena index was is (live ++ arena.kept) found same ∙ sound.inside;
  few = omega (arith, sound.few, length-set arena.chunks index is);
  tops = tops_still_within arena.chunks arena.tops index was is found higher sound.tops;
  kept = sound.kept;
}

-- A grown chunk meets none of the others: it is as large as it was, or its other half met none.
pub clear_from_runs : (chunk : Chunk) (others : List Chunk) → meets_any (words_of chunk) (map words_of others) ≡ false
    → meets_chunk others chunk.start chunk.level ≡ false
clear_from_runs chunk [] h = refl
clear_from_runs chunk (c ∷ others) h =
    let both =
    or_parts (meet chunk.start (size_of chunk.level) c.start (size_of c.level))
    (meets_any (words_of chunk) (map words_of others)) h in
    or_from (meet c.start (size_of c.level) chunk.start (size_of chunk.level))
    (meets_chunk others chunk.start chunk.level)
    (meet_turned c.start (size_of c.level) chunk.start (size_of chunk.level) ∙ both.0)
    (clear_from_runs chunk others both.1)

pub both_halves : (a m s z t : ℕ) → 1 ≤ m → t ≡ z + z → meet a m s z ≡ false → meet a m (s + z) z ≡ false
    → meet a m s t ≡ false
both_halves a m s z t some whole h k = grind (arith, nat_tests)

pub parent_clear : (others : List Chunk) (start level parent : ℕ) → size_of parent ≡ size_of level + size_of level
    → meets_chunk others start level ≡ false → meets_chunk others (start + size_of level) level ≡ false
    → meets_chunk others start parent ≡ false
parent_clear [] start level parent whole h k = refl
parent_clear (c ∷ others) start level parent whole h k =
    let low = or_parts (meet c.start (size_of c.level) start (size_of level)) (meets_chunk others start level) h in
    let high =
    or_parts (meet c.start (size_of c.level) (start + size_of level) (size_of level))
    (meets_chunk others (start + size_of level) level) k in
    or_from (meet c.start (size_of c.level) start (size_of parent)) (meets_chunk others start parent)
    (both_halves c.start (size_of c.level) start (size_of level) (size_of parent)
    (omega (arith, pow_pos (19 - c.level))) whole low.0 high.0)
    (parent_clear others start level parent whole low.1 high.1)

pub parent_size : (level parent : ℕ) → level ≤ highest_level → level ≡ parent + 1
    → size_of parent ≡ size_of level + size_of level
parent_size level parent low is = ap (λ (n : ℕ). 2 ^ n) exponent ∙ pow-add 2 1 (19 - level) ∙ double (size_of level)
  where
    exponent : 19 - parent ≡ 1 + (19 - level)
    exponent = omega arith

    double : (n : ℕ) → 2 ^ 1 * n ≡ n + n
    double n = omega arith

-- The chunk keeps its level, or becomes its parent, of which it was the leader and whose other half
-- met no chunk.
abbrev pub GrowsClear : List Chunk → Chunk → Chunk → Type 0
GrowsClear held was is =
    (is.level ≡ was.level)
    ⊎ ((was.level ≡ is.level + 1) × (meets_chunk held (was.start + size_of was.level) was.level ≡ false))

pub good_with_grown : (space : Space) (m : Machine) (name : ℕ) (before other : LoaderState) (index : ℕ) (was is : Chunk)
    → HasLoader m name before → slice_get (arena_of space before).chunks index ≡ Some was
    → (arena_of space other).chunks ≡ slice_set (arena_of space before).chunks index is
    → (arena_of (other_space space) other).chunks ≡ (arena_of (other_space space) before).chunks → IsSoundLoader other
    → IsPart is.start is.level
    → HasFront m.limits.policy is → is.start ≡ was.start → GrowsClear (chunks_held space m.loaders) was is
    → length (committed_now (pool_of space (changed space m name other (slots_in space m))))
    + length (committed_in (other_space space) m) ≤ m.limits.granules
    → IsGood m → IsGood (recommitted (changed space m name other (slots_in space m)))
good_with_grown space m name before other index was is found at chunks elsewhere sound placed front same grows few
    good =
    good_with_change space m name before other slots found elsewhere sound (record {
      held = rw (slots_stay, new) (held_with m.limits.policy slots b is a placed front reserved clear others);
      slots = rw slots_stay (good.pools space).slots;
      below = rw slots_stay (good.pools space).below;
      reserved = rw slots_stay (good.pools space).reserved;
    }) few good
  where
    slots : List ℕ
    slots = slots_in space m

    slots_stay : slots_in space (changed space m name other slots) ≡ slots
    slots_stay = ap (slots_in space) (slots_same space (with_loader m name other))

    own : List Chunk
    own = (arena_of space before).chunks

    split : Split m.loaders name before
    split = split_at m.loaders name before found

    first : List Chunk
    first = chunks_held space split.before

    last : List Chunk
    last = chunks_held space split.after

    parted : Parted own index was is
    parted = parted_at own index was is at

    b : List Chunk
    b = first ++ parted.before

    a : List Chunk
    a = parted.after ++ last

    around : (c : Chunk) → first ++ ((parted.before ++ c ∷ parted.after) ++ last) ≡ b ++ c ∷ a
    around c = ap (λ (l : List Chunk). first ++ l) (append_assoc parted.before (c ∷ parted.after) last)
        ∙ sym (append_assoc first parted.before (c ∷ a))

    old : chunks_held space m.loaders ≡ b ++ was ∷ a
    old = ap (chunks_held space) split.is ∙ chunks_split space split.before split.after name before
        ∙ ap (λ (l : List Chunk). first ++ (l ++ last)) parted.old ∙ around was

    new : chunks_held space (with_changed m.loaders name other) ≡ b ++ is ∷ a
    new = ap (chunks_held space) (split.changed other) ∙ chunks_split space split.before split.after name other
        ∙ ap (λ (l : List Chunk). first ++ (l ++ last)) (chunks ∙ parted.new) ∙ around is

    others : AreHeld m.limits.policy slots (b ++ a)
    others = held_rest m.limits.policy slots b (was ∷ []) a (rw old at (good.pools space).held)

    reserved : is_reserved slots (slot_of is.start) ≡ true
    reserved =
        let p : Chunk → Bool = λ chunk. is_reserved slots (slot_of chunk.start) in
        ap (λ (s : ℕ). is_reserved slots (slot_of s)) same
        ∙ (and_parts (p was) (list_all p a)
        (and_parts (list_all p b) (list_all p (was ∷ a))
        (sym (list_all-append p b (was ∷ a)) ∙ (rw old at (good.pools space).held.reserved))).1).0

    was_clear : meets_chunk (b ++ a) was.start was.level ≡ false
    was_clear =
        clear_from_runs was (b ++ a)
        (rw (map-append words_of b a) (middle_is_clear (map words_of b) (words_of was) (map words_of a)
        (rw (old, map-append words_of b (was ∷ a)) at (good.pools space).held.apart)))

    clear : meets_chunk (b ++ a) is.start is.level ≡ false
    clear = subst (λ (s : ℕ). meets_chunk (b ++ a) s is.level ≡ false) (sym same) (elim grows [
      | inl level ↦ subst (λ (l : ℕ). meets_chunk (b ++ a) was.start l ≡ false) (sym level) was_clear
      | inr parent ↦ parent_clear (b ++ a) was.start was.level is.level
          (parent_size was.level is.level (omega (arith, parent.0, low)) parent.0) was_clear
          (list_any-rest_of
          (λ (c : Chunk). meet c.start (size_of c.level) (was.start + size_of was.level) (size_of was.level)) b
          (was ∷ []) a (rw old at parent.1))
    ])
      where
        low : was.level ≤ highest_level
        low = (recursion_from_All IsPlaced (was ∷ [])
            (All-middle_of IsPlaced b (was ∷ []) a (rw old at (good.pools space).held.parts))).0.0
