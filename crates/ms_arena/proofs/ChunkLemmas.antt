-- What an account knows of its chunks, at one index: the chunk's bounds, that no other starts
-- there, how far it reaches once it grew; and a bound on the words in use.
use Rattle.std.proofs.Common.{◌≡◌, ◌≤◌, ◌<◌, ◌+◌, ◌-◌, ◌*◌, ◌/◌, ◌^◌, ℕ, zero, suc, Bool, true, false, not, Some, List}
use Rattle.std.proofs.Common.{[], ◌∷◌, length, map, refl, sym, ap, ◌∙◌, subst, arith, inl, inr, sum, take}
use Rattle.std.specs.Prelude.{nat_le, slice_get, ◌==◌, if◌then◌else◌}
use Rattle.std.specs.List.{AllByRecursion, list_any, list_all, sum_by, zip}
use Rattle.std.proofs.lemmas.Bool.{and_parts, or_left, or_right, or_cases, not-true, leb-true}
use Rattle.std.proofs.lemmas.Bool.Decides.{nat_tests}
use Rattle.std.proofs.lemmas.List.Elements.{recursion_from_All}
use Rattle.std.proofs.lemmas.List.Sums.{sum_by-cons, sum_by_more}
use Rattle.std.proofs.lemmas.Option.{get_or_from_slice_get}
use Rattle.std.proofs.lemmas.Nat.{pow-add, pow_pos}
use Rattle.ms_base.specs.declared.kind.Space.{Space}
use Rattle.ms_base.specs.declared.kind.Space.TheVariants.{NonClass, Class}
use Rattle.ms_base.specs.declared.policy.Policy.{Policy}
use Rattle.ms_base.specs.declared.span.Chunk.{Chunk}
use Rattle.ms_base.specs.Interval.{meet, meets_any, are_apart, lies_in}
use Rattle.ms_base.specs.Level.{size_of, highest_level}
use Rattle.ms_base.specs.Part.{IsPart, slot_of}
use Rattle.ms_base.specs.Spaces.{IsSlotOf}
use Rattle.ms_base.specs.Held.{words_of}
use Rattle.ms_base.specs.State.{ArenaState}
use Rattle.ms_base.specs.Good.{IsSound, is_in_use}
use Rattle.ms_base.proofs.free.HalvesLemmas.{size_falls}
use Rattle.ms_base.proofs.granules.FrontLemmas.{front_reaches}
use Rattle.ms_pool.specs.Account.{AreChunks, has_chunk_at}
use Rattle.ms_pool.specs.Lending.{MayBeParent, chunk_at, span_of, parent_of, reaching}

-- What holds of all holds of the one at an index.
all_at : {X : Type 0} (P : X → Type 0) (xs : List X) (index : ℕ) (x : X) → AllByRecursion P xs
    → slice_get xs index ≡ Some x → P x
all_at P [] index x all found = absurd (cc)
all_at {X} P (y ∷ xs) zero x all found = let its : y ≡ x = cc in subst P its all.0
all_at P (y ∷ xs) (suc index) x all found = all_at P xs index x all.1 found

-- The bounds of a chunk.
pub record IsBounded (chunk : Chunk) : Type 0 where
  pub level : chunk.level ≤ highest_level
  pub some : 1 ≤ chunk.front
  pub front : chunk.front ≤ size_of chunk.level
  pub size : size_of chunk.level ≤ 2 ^ 19
  pub ends : chunk.start + size_of chunk.level < 2 ^ 27

abbrev IsPlaced : Chunk → Type 0
IsPlaced chunk = IsPart chunk.start chunk.level

abbrev IsInside : Space → Chunk → Type 0
IsInside space chunk = IsSlotOf space (slot_of chunk.start)

abbrev pub HasWords : Chunk → Type 0
HasWords chunk = (1 ≤ chunk.front) × (chunk.front ≤ size_of chunk.level)

slot_below : (space : Space) (slot : ℕ) → IsSlotOf space slot → slot < 80
slot_below NonClass slot h = omega arith
slot_below Class slot h = omega (arith, h.1)

pub size_small : (level : ℕ) → size_of level ≤ 2 ^ 19
size_small level = size_falls 0 level (omega arith)

below : (start size : ℕ) → start / 1048576 < 80 → size ≤ 2 ^ 19 → start + size < 2 ^ 27
below start size h k = omega arith

pub bounded_at : (space : Space) (chunks : List Chunk) (index : ℕ) (chunk : Chunk) → AreChunks space chunks
    → slice_get chunks index ≡ Some chunk → IsBounded chunk
bounded_at space chunks index chunk are found = record {
  level = (all_at IsPlaced chunks index chunk (recursion_from_All IsPlaced chunks are.parts) found).0;
  some = words.0;
  front = words.1;
  size = size_small chunk.level;
  ends = below chunk.start (size_of chunk.level)
      (slot_below space (slot_of chunk.start)
      (all_at (IsInside space) chunks index chunk (recursion_from_All (IsInside space) chunks are.inside) found))
      (size_small chunk.level);
}
  where
    words : HasWords chunk
    words = all_at HasWords chunks index chunk (recursion_from_All HasWords chunks are.fronts) found

not-le : (a b : ℕ) → nat_le a b ≡ false → b < a
not-le a b e = grind (arith, nat_tests)

-- Two chunks that start at one word stand at one index.
meets_itself : (a m n : ℕ) → 1 ≤ m → 1 ≤ n → meet a m a n ≡ true
meets_itself a m n h k = grind (arith, nat_tests)

meets_at : (c : Chunk) (chunks : List Chunk) (index : ℕ) (chunk : Chunk) → slice_get chunks index ≡ Some chunk
    → chunk.start ≡ c.start
    → meets_any (words_of c) (map words_of chunks) ≡ true
meets_at c [] index chunk found same = absurd (cc)
meets_at c (d ∷ chunks) zero chunk found same =
    let its : d.start ≡ c.start = ap (λ (x : Chunk). x.start) (let e : d ≡ chunk = cc in e) ∙ same in
    or_left (meet c.start (size_of c.level) d.start (size_of d.level)) (meets_any (words_of c) (map words_of chunks))
    (rw its (meets_itself c.start (size_of c.level) (size_of d.level) (omega (arith, pow_pos (19 - c.level)))
    (omega (arith, pow_pos (19 - d.level)))))
meets_at c (d ∷ chunks) (suc index) chunk found same =
    or_right (meet c.start (size_of c.level) d.start (size_of d.level)) (meets_any (words_of c) (map words_of chunks))
    (meets_at c chunks index chunk found same)

pub one_index : (chunks : List Chunk) (i j : ℕ) (c d : Chunk) → are_apart (map words_of chunks) ≡ true
    → slice_get chunks i ≡ Some c
    → slice_get chunks j ≡ Some d → c.start ≡ d.start → i ≡ j
one_index [] i j c d apart here there same = absurd (cc)
one_index (x ∷ chunks) zero zero c d apart here there same = refl
one_index (x ∷ chunks) zero (suc j) c d apart here there same =
    let its : x ≡ c = cc in
    let meets = meets_at x chunks j d there (sym same ∙ ap (λ (y : Chunk). y.start) (sym its)) in
    let none =
    not-true (meets_any (words_of x) (map words_of chunks))
    (and_parts (not (meets_any (words_of x) (map words_of chunks))) (are_apart (map words_of chunks)) apart).0 in
    absurd (cc (meets, none))
one_index (x ∷ chunks) (suc i) zero c d apart here there same =
    let its : x ≡ d = cc in
    let meets = meets_at x chunks i c here (same ∙ ap (λ (y : Chunk). y.start) (sym its)) in
    let none =
    not-true (meets_any (words_of x) (map words_of chunks))
    (and_parts (not (meets_any (words_of x) (map words_of chunks))) (are_apart (map words_of chunks)) apart).0 in
    absurd (cc (meets, none))
one_index (x ∷ chunks) (suc i) (suc j) c d apart here there same =
    ap (λ (n : ℕ). suc n)
    (one_index chunks i j c d
    (and_parts (not (meets_any (words_of x) (map words_of chunks))) (are_apart (map words_of chunks)) apart).1 here
    there same)

-- Where a chunk is current, there is a last index.
pub last_there : (chunks : List Chunk) (chunk : Chunk) → slice_get chunks (length chunks - 1) ≡ Some chunk
    → 0 < length chunks
last_there [] chunk found = absurd (cc)
last_there (first ∷ more) chunk found = omega arith

-- The account has a chunk that starts where one of its chunks does.
pub has_its_start : (chunks : List Chunk) (index : ℕ) (chunk : Chunk) → slice_get chunks index ≡ Some chunk
    → has_chunk_at chunks chunk.start ≡ true
has_its_start [] index chunk found = absurd (cc)
has_its_start (c ∷ chunks) zero chunk found =
    let its : c ≡ chunk = cc in
    or_left (c.start == chunk.start) (has_chunk_at chunks chunk.start)
    (equal c.start chunk.start (ap (λ (x : Chunk). x.start) its))
  where
    equal : (a b : ℕ) → a ≡ b → (a == b) ≡ true
    equal a b e = grind (arith, nat_tests)
has_its_start (c ∷ chunks) (suc index) chunk found =
    or_right (c.start == chunk.start) (has_chunk_at chunks chunk.start) (has_its_start chunks index chunk found)

-- A chunk that grew starts where it did, and its front is no lower and reaches as far as was asked.
pub record Reaches (was is : Chunk) (total : ℕ) : Type 0 where
  pub start : is.start ≡ was.start
  pub higher : was.front ≤ is.front
  pub reaches : total ≤ is.front

reaches_by : (policy : Policy) (chunk : Chunk) (total : ℕ) (may : Bool) → IsBounded chunk
    → (size_of chunk.level < total → MayBeParent chunk total may) → (s t : Bool) → nat_le total chunk.front ≡ s
    → nat_le total (size_of chunk.level) ≡ t
    → Reaches chunk
    (if s then chunk else if t then chunk_at policy (span_of chunk) total else chunk_at policy (parent_of chunk) total)
    total
reaches_by policy chunk total may bounds enlarged true t e f =
    record { start = refl; higher = omega arith; reaches = leb-true total chunk.front e }
reaches_by policy chunk total may bounds enlarged false true e f =
    let far = front_reaches policy chunk.level total (leb-true total (size_of chunk.level) f) in
    record { start = refl; higher = omega (arith, not-le total chunk.front e, far); reaches = far }
reaches_by policy chunk total may bounds enlarged false false e f =
    let parent = enlarged (not-le total (size_of chunk.level) f) in
    let far =
    front_reaches policy (chunk.level - 1) total
    (omega (arith, parent.fits, doubled chunk.level parent.no_root bounds.level)) in
    record { start = refl; higher = omega (arith, not-le total chunk.front e, far); reaches = far }
  where
    doubled : (level : ℕ) → 0 < level → level ≤ highest_level → size_of (level - 1) ≡ 2 * size_of level
    doubled level some small = ap (λ (n : ℕ). 2 ^ n) (exponent level some small) ∙ pow-add 2 1 (19 - level)
      where
        exponent : (level : ℕ) → 0 < level → level ≤ highest_level → 19 - (level - 1) ≡ 1 + (19 - level)
        exponent level some small = omega arith

pub reaches : (policy : Policy) (chunk : Chunk) (total : ℕ) (may : Bool) → IsBounded chunk
    → (size_of chunk.level < total → MayBeParent chunk total may) → Reaches chunk (reaching policy chunk total) total
reaches policy chunk total may bounds enlarged =
    reaches_by policy chunk total may bounds enlarged (nat_le total chunk.front) (nat_le total (size_of chunk.level))
    refl refl

-- The words in use are few.
abbrev is_within : Chunk × ℕ → Bool
is_within used = nat_le used.1 used.0.front

sum_small : (chunks : List Chunk) (tops : List ℕ) → AllByRecursion HasWords chunks
    → list_all is_within (zip chunks tops) ≡ true
    → length tops ≤ length chunks → sum tops ≤ length tops * 2 ^ 19
sum_small chunks [] words within few = omega arith
sum_small [] (t ∷ tops) words within few = absurd (omega arith)
sum_small (c ∷ chunks) (t ∷ tops) words within few =
    let both = and_parts (nat_le t c.front) (list_all is_within (zip chunks tops)) within in
    omega (
      arith,
      sum_by-cons (λ (n : ℕ). n) t tops,
      leb-true t c.front both.0,
      words.0.1,
      size_small c.level,
      sum_small chunks tops words.1 both.1 (omega arith),
    )

pub used_small : (space : Space) (arena : ArenaState) (live : List (ℕ × ℕ)) → AreChunks space arena.chunks
    → IsSound arena live
    → sum arena.tops < 2 ^ 51
used_small space arena live are sound =
    omega (
      arith,
      sum_small arena.chunks arena.tops (recursion_from_All HasWords arena.chunks are.fronts) sound.tops
          sound.few,
      sound.few,
      are.few,
    )

-- What is in use ends below 2 ^ 27.
ends_below : (space : Space) (chunks : List Chunk) (tops : List ℕ) (run : ℕ × ℕ) → AllByRecursion HasWords chunks
    → AllByRecursion (IsInside space) chunks
    → list_all is_within (zip chunks tops) ≡ true
    → list_any (λ (used : Chunk × ℕ). lies_in run (used.0.start, used.1)) (zip chunks tops) ≡ true
    → run.0 + run.1 < 2 ^ 27
ends_below space [] tops run words inside within used = absurd (cc)
ends_below space (c ∷ chunks) [] run words inside within used = absurd (cc)
ends_below space (c ∷ chunks) (t ∷ tops) run words inside within used =
    let both = and_parts (nat_le t c.front) (list_all is_within (zip chunks tops)) within in
    elim (or_cases (lies_in run (c.start, t))
    (list_any (λ (used : Chunk × ℕ). lies_in run (used.0.start, used.1)) (zip chunks tops)) used) [
      | inl here ↦
          omega (
            arith,
            lies run.0 run.1 c.start t here,
            leb-true t c.front both.0,
            words.0.1,
            below c.start (size_of c.level) (slot_below space (slot_of c.start) inside.0) (size_small c.level),
          )
      | inr later ↦ ends_below space chunks tops run words.1 inside.1 both.1 later
    ]
  where
    lies : (r m a t : ℕ) → lies_in (r, m) (a, t) ≡ true → r + m ≤ a + t
    lies r m a t h = grind (arith, nat_tests)

pub in_use_below : (space : Space) (arena : ArenaState) (live : List (ℕ × ℕ)) (run : ℕ × ℕ)
    → AreChunks space arena.chunks → IsSound arena live
    → is_in_use arena run ≡ true → run.0 + run.1 < 2 ^ 27
in_use_below space arena live run are sound used =
    ends_below space arena.chunks arena.tops run (recursion_from_All HasWords arena.chunks are.fronts)
    (recursion_from_All (IsInside space) arena.chunks are.inside) sound.tops used

-- A sum over the first chunks, and one more.
pub sum_more : (f : Chunk → ℕ) (chunks : List Chunk) (index total : ℕ) (chunk : Chunk)
    → slice_get chunks index ≡ Some chunk
    → total ≡ sum_by f (take index chunks) → total + f chunk ≡ sum_by f (take (index + 1) chunks)
sum_more f chunks index total chunk found is =
    omega (
      arith,
      is,
      sum_by_more f chunks index chunk (within chunks index found),
      ap f (get_or_from_slice_get chunks index chunk chunk found),
    )
  where
    within : (chunks : List Chunk) (index : ℕ) → slice_get chunks index ≡ Some chunk → index < length chunks
    within [] index found = absurd (cc)
    within (c ∷ chunks) zero found = omega arith
    within (c ∷ chunks) (suc index) found = omega (arith, within chunks index found)
