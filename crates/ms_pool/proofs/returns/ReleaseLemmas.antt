-- What the pool is once a chunk is taken back, from its trees and nodes. The proof of `release`
-- uses them.
use Rattle.std.proofs.Common.{◌≡◌, ◌<◌, ◌≤◌, ℕ, ◌+◌, ◌*◌, ◌/◌, ◌%◌, Bool, true, false, cond, not, ◌||◌, ◌==◌, eqb-true}
use Rattle.std.proofs.Common.{◌⊎◌, List, [], ◌∷◌, get_or, length, refl, sym, ap, subst, ◌∙◌, arith, inl, inr, Some}
use Rattle.std.proofs.Common.{lt-ltb, le-ltb, le-leb}
use Rattle.std.specs.Prelude.{nat_le}
use Rattle.std.specs.List.{AllByRecursion, filter, find, list_any, list_all}
use Rattle.std.proofs.lemmas.Bool.{cases_lt, or_cases, or_left, or_right, and_parts}
use Rattle.std.proofs.lemmas.Bool.Decides.{nat_tests}
use Rattle.std.proofs.lemmas.List.Elements.{recursion_from_All}
use Rattle.ms_base.specs.declared.kind.Space.{Space}
use Rattle.ms_base.specs.declared.kind.Space.TheVariants.{NonClass, Class}
use Rattle.ms_base.specs.declared.span.Chunk.{Chunk}
use Rattle.ms_base.specs.declared.span.Span.{Span}
use Rattle.ms_base.specs.Level.{size_of, root_words}
use Rattle.ms_base.specs.Part.{IsPart, slot_of, is_reserved}
use Rattle.ms_base.specs.Policy.{granule_of, keeps}
use Rattle.ms_base.specs.Held.{AreHeld}
use Rattle.ms_base.specs.Spaces.{is_in, other_space, first_class_word}
use Rattle.ms_base.specs.Committed.{committed_with}
use Rattle.ms_base.specs.State.{committed_now}
use Rattle.ms_base.proofs.machine.GoodLemmas.{each_space}
use Rattle.ms_base.proofs.free.MovedLemmas.{raised_part}
use Rattle.ms_base.proofs.granules.GranuleKeepingLemmas.{uncommits_nothing}
use Rattle.ms_buddy.specs.Leaves.{LentLeaf, AreLeaves, covers, free_of}
use Rattle.ms_pool.specs.Ledger.{Ledger, IsSoundLedger, committed_of, held_in, state_in}
use Rattle.ms_pool.specs.Releasing.{is_at, is_lent_in, with_released, without_loan}
use Rattle.ms_pool.specs.Keeping.{loans_from}
use Rattle.ms_pool.proofs.ledger.LedgerCloseLemmas.{sound_with_fewer}
use Rattle.ms_pool.proofs.ledger.FewerLemmas.{AreFewer, all_are_fewer, filtered_are_fewer}
use Rattle.ms_pool.proofs.searches.FreeRootLemmas.{chunks_there}
use Rattle.ms_pool.proofs.returns.ReleasedChunkLemmas.{is_there, without_chunk, held_without, held_there, held_elsewhere}
use Rattle.ms_pool.proofs.returns.ReleasedChunkLemmas.{clear_once_out}
use Rattle.ms_pool.proofs.returns.ReleasedPartLemmas.{IsFreedAt, freed_part, lies_in_freed}
use Rattle.ms_pool.proofs.returns.ReleasedGranuleLemmas.{IsTakenBack, unchanged_once_back}

-- The ledger with a chunk less is sound.
fewer_without : (old : Ledger) (chunk : Chunk) → IsSoundLedger old → AreFewer old (without_loan chunk old.loans)
fewer_without old chunk sound =
    filtered_are_fewer old (λ loan. not (is_at chunk loan)) old.loans (all_are_fewer old sound)

pub released_is_sound : (old : Ledger) (chunk : Chunk) → IsSoundLedger old → IsSoundLedger (with_released old chunk)
released_is_sound old chunk sound =
    sound_with_fewer old (without_loan chunk old.loans) old.opened old.class_opened sound
    (fewer_without old chunk sound) sound.opened

-- What holds of each span of held chunks holds of the chunk's.
span_has : (P : ℕ → ℕ → Type 0) (chunk : Chunk) (held : List Chunk)
    → AllByRecursion (λ one. P one.start one.level) held → list_any (is_there chunk) held ≡ true
    → P chunk.start chunk.level
span_has P chunk [] all there = absurd (cc)
span_has P chunk (one ∷ held) all there = elim (or_cases (is_there chunk one) (list_any (is_there chunk) held) there) [
  | inl here ↦ let both = and_parts (one.start == chunk.start) (one.level == chunk.level) here in
      subst (λ (l : ℕ). P chunk.start l) (eqb-true one.level chunk.level both.1)
      (subst (λ (s : ℕ). P s one.level) (eqb-true one.start chunk.start both.0) all.0)
  | inr later ↦ span_has P chunk held all.1 later
]

reserved_there : (slots : List ℕ) (chunk : Chunk) (held : List Chunk)
    → list_all (λ (one : Chunk). is_reserved slots (slot_of one.start)) held ≡ true
    → list_any (is_there chunk) held ≡ true → is_reserved slots (slot_of chunk.start) ≡ true
reserved_there slots chunk [] all there = absurd (cc)
reserved_there slots chunk (one ∷ held) all there =
    let parts =
    and_parts (is_reserved slots (slot_of one.start))
    (list_all (λ (other : Chunk). is_reserved slots (slot_of other.start)) held) all in
    elim (or_cases (is_there chunk one) (list_any (is_there chunk) held) there) [
      | inl here ↦ let both = and_parts (one.start == chunk.start) (one.level == chunk.level) here in
          subst (λ (s : ℕ). is_reserved slots (slot_of s) ≡ true) (eqb-true one.start chunk.start both.0) parts.0
      | inr later ↦ reserved_there slots chunk held parts.1 later
    ]

-- A word lies in one space.
pub record IsOfSpace (start : ℕ) : Type 0 where
  pub space : Space
  pub here : is_in space start ≡ true
  pub there : is_in (other_space space) start ≡ false

pub of_space : (start : ℕ) → IsOfSpace start
of_space start = elim (cases_lt start first_class_word) [
  | inl low ↦
      record { space = NonClass; here = lt-ltb start first_class_word low; there = not_past start first_class_word low }
  | inr high ↦
      record { space = Class; here = le-leb first_class_word start high; there = le-ltb start first_class_word high }
]
  where
    not_past : (a b : ℕ) → a < b → nat_le b a ≡ false
    not_past a b h = grind (arith, nat_tests)

-- The chunk is taken back in the trees, and the free part that results holds it.
pub record IsBack (old : Ledger) (space : Space) (chunk : Chunk) (part : Span) : Type 0 where
  pub back : IsTakenBack old.limits.policy (state_in space old).slots (held_in space old) chunk part
  pub there : is_in (other_space space) chunk.start ≡ false
  pub reserved : is_reserved (state_in space old).slots (slot_of chunk.start) ≡ true
  pub low : chunk.start / root_words * root_words ≤ part.start
  pub high : part.start + size_of part.level ≤ chunk.start / root_words * root_words + root_words

pub is_back : (old : Ledger) (trees : List (List LentLeaf)) (chunk : Chunk) (part : Span) (space : Space)
    → IsSoundLedger old → is_lent_in old.loans chunk ≡ true
    → is_in space chunk.start ≡ true → is_in (other_space space) chunk.start ≡ false
    → loans_from 0 trees ≡ without_loan chunk old.loans → AllByRecursion AreLeaves trees
    → chunk.start / root_words < length trees
    → find (covers (chunk.start % root_words)) (free_of (get_or trees (chunk.start / root_words) [])) ≡ Some part
    → IsBack old space chunk (raised_part (chunk.start / root_words * root_words) part)
is_back old trees chunk part space sound lent here there loans all within found = record {
  back = record {
    before = held;
    rest = subst (AreHeld old.limits.policy slots) (held_without space chunk old.loans)
        ((fewer_without old chunk sound).held space);
    free = freed.free;
    from = freed.from;
    upto = lies_in_freed (without_chunk chunk (held_in space old)) slots chunk
        (raised_part (chunk.start / root_words * root_words) part)
        (span_has IsPart chunk (held_in space old)
        (recursion_from_All (λ (one : Chunk). IsPart one.start one.level) (held_in space old) held.parts) is_held)
        reserved (clear_once_out chunk (held_in space old) held.apart is_held) freed;
  };
  there = there;
  reserved = reserved;
  low = freed.low;
  high = freed.high;
}
  where
    slots : List ℕ
    slots = (state_in space old).slots

    held : AreHeld old.limits.policy slots (held_in space old)
    held = (sound.spaces space).held

    is_held : list_any (is_there chunk) (held_in space old) ≡ true
    is_held = held_there space chunk old.loans here lent

    reserved : is_reserved slots (slot_of chunk.start) ≡ true
    reserved = reserved_there slots chunk (held_in space old) held.reserved is_held

    freed : IsFreedAt (without_chunk chunk (held_in space old)) slots chunk.start
        (raised_part (chunk.start / root_words * root_words) part)
    freed = subst
        (λ (l : List Chunk). IsFreedAt l slots chunk.start (raised_part (chunk.start / root_words * root_words) part))
        (ap (chunks_there space) loans ∙ held_without space chunk old.loans)
        (freed_part space trees slots chunk.start part within all here reserved found)

-- The granules of each space once the chunk is taken back.
abbrev pub granules_after : Ledger → Chunk → Space → List ℕ
granules_after old chunk space = committed_now (state_in space (record old { loans = without_loan chunk old.loans }))

abbrev pub after_in : Ledger → Space → List Chunk → List ℕ
after_in old space held = committed_with old.limits.policy (committed_of space old) held (state_in space old).slots

granules_are : (old : Ledger) (chunk : Chunk) (space : Space)
    → granules_after old chunk space ≡ after_in old space (chunks_there space (without_loan chunk old.loans))
granules_are old chunk NonClass = refl
granules_are old chunk Class = refl

pub stay_elsewhere : (old : Ledger) (chunk : Chunk) (space : Space) → IsSoundLedger old
    → is_in space chunk.start ≡ false
    → committed_of space old ≡ granules_after old chunk space
stay_elsewhere old chunk space sound outside =
    (sound.spaces space).committed ∙ sym (ap (after_in old space) (held_elsewhere space chunk old.loans outside))
    ∙ sym (granules_are old chunk space)

pub here_without : (old : Ledger) (chunk : Chunk) (space : Space)
    → after_in old space (without_chunk chunk (held_in space old)) ≡ granules_after old chunk space
here_without old chunk space = sym (ap (after_in old space) (held_without space chunk old.loans))
    ∙ sym (granules_are old chunk space)

any_still : (test : Chunk → Bool) (q : Chunk → Bool) (held : List Chunk) → list_any test (filter q held) ≡ true
    → list_any test held ≡ true
any_still test q [] there = there
any_still test q (x ∷ held) there = step (q x) there (any_still test q held)
  where
    step : (b : Bool) → list_any test (cond b (x ∷ filter q held) (filter q held)) ≡ true
        → (list_any test (filter q held) ≡ true → list_any test held ≡ true)
        → (test x || list_any test held) ≡ true
    step false h rest = or_right (test x) (list_any test held) (rest h)
    step true h rest = elim (or_cases (test x) (list_any test (filter q held)) h) [
      | inl here ↦ or_left (test x) (list_any test held) here
      | inr later ↦ or_right (test x) (list_any test held) (rest later)
    ]

-- Where the policy keeps, or the part is smaller than a granule, all stay.
pub all_stay : (old : Ledger) (space : Space) (chunk : Chunk) (part : Span) → IsSoundLedger old
    → IsBack old space chunk part
    → (keeps old.limits.policy ≡ true)
    ⊎ ((keeps old.limits.policy ≡ false) × (size_of part.level < granule_of old.limits.policy))
    → (one : Space) → committed_of one old ≡ granules_after old chunk one
all_stay old space chunk part sound its (inl keeping) =
    each_space (λ (one : Space). committed_of one old ≡ granules_after old chunk one) space
    (sym ((uncommits_nothing (state_in space old) (sound.spaces space) keeping).given_back
    (without_chunk chunk (held_in space old))
    (λ test. any_still test (λ one. not (is_there chunk one)) (held_in space old)))
    ∙ here_without old chunk space)
    (stay_elsewhere old chunk (other_space space) sound its.there)
all_stay old space chunk part sound its (inr small) =
    each_space (λ (one : Space). committed_of one old ≡ granules_after old chunk one) space
    (unchanged_once_back old.limits.policy (committed_of space old) (state_in space old).slots (held_in space old) chunk
    part
    (sound.spaces space).slots (sound.spaces space).committed small.0 its.back small.1
    ∙ here_without old chunk space)
    (stay_elsewhere old chunk (other_space space) sound its.there)
