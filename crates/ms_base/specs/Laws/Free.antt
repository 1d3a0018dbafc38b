-- What the list of free parts amounts to: laws about it, each the contract of a function of `laws`.
use Rattle.std.specs.Prelude.{◌≡◌, ℕ, ◌*◌, ◌<◌, ◌≤◌, Bool, cond, List, ◌++◌, map, IsTrue, IsFalse}
use Rattle.std.specs.List.{All, Contains, list_any, count_by}
use Rattle.std.specs.List.Sorted.{IsStrictlyIncreasing}
use Rattle.ms_base.specs.declared.span.Chunk.{Chunk}
use Rattle.ms_base.specs.declared.span.Span.{Span}
use Rattle.ms_base.specs.declared.policy.Policy.{Policy}
use Rattle.ms_base.specs.Policy.{keeps}
use Rattle.ms_base.specs.Interval.{meet, lies_in}
use Rattle.ms_base.specs.Level.{size_of, highest_level}
use Rattle.ms_base.specs.Part.{IsPart, buddy_start, slot_of, is_reserved}
use Rattle.ms_base.specs.Held.{AreHeld, words_of, meets_chunk}
use Rattle.ms_base.specs.FreeParts.{IsFreePart, free_parts}
use Rattle.ms_base.specs.Committed.{committed_with}
use Rattle.ms_base.specs.State.{PoolState}
use Rattle.ms_base.specs.PoolSteps.Pick.{granule_in, has_committed, is_committed_enough}
use Rattle.ms_base.specs.Good.{IsSoundPool}
use Rattle.ms_base.specs.PoolSteps.Causes.{has_room, has_committed_room}
use Rattle.ms_base.specs.PoolSteps.{taken, grown}

-- The part of a level that starts at a word.
abbrev pub part_at : ℕ → ℕ → Span
part_at start level = record { start = start; level = level }

-- A clear part is a part of a reserved root that meets no held chunk.
pub record IsClear (held : List Chunk) (slots : List ℕ) (part : Span) : Type 0 where
  pub placed : IsPart part.start part.level
  pub reserved : IsTrue (is_reserved slots (slot_of part.start))
  pub empty : IsFalse (meets_chunk held part.start part.level)

-- The first part lies in the second, which has its level or one lower in number.
pub record LiesIn (part around : Span) : Type 0 where
  pub wide : around.level ≤ part.level
  pub inside : IsTrue (lies_in (part.start, size_of part.level) (around.start, size_of around.level))

-- Some free part has the part within it.
pub record LiesInFree (held : List Chunk) (slots : List ℕ) (part : Span) : Type 0 where
  pub around : Span
  pub free : Contains (free_parts held slots) around
  pub within : LiesIn part around

-- The clear parts are those of the free parts: each lies in one, and the lowest part of a level in
-- a free part is clear.
pub record ClearIsFree (held : List Chunk) (slots : List ℕ) : Type 0 where
  pub inside : (part : Span) → IsClear held slots part → LiesInFree held slots part
  pub lowest :
      (part : Span) (m : ℕ) → Contains (free_parts held slots) part → part.level ≤ m → m ≤ highest_level
      → IsClear held slots (part_at part.start m)

abbrev pub ClearPartsAreFree : Type 0
ClearPartsAreFree = (held : List Chunk) (slots : List ℕ) → ClearIsFree held slots

-- The part of the pool of a level that starts at a word is clear.
abbrev pub IsClearIn : PoolState → ℕ → ℕ → Type 0
IsClearIn pool start level = IsClear pool.held pool.slots (part_at start level)

-- There is room for a level exactly where a part of that level is clear.
pub record HasRoomWhereClear (pool : PoolState) (m : ℕ) : Type 0 where
  pub room : (start : ℕ) → IsClearIn pool start m → IsTrue (has_room pool m)
  pub clear : IsTrue (has_room pool m) → (start : ℕ) × IsClearIn pool start m
  pub full :
      ((start : ℕ) → IsPart start m → IsTrue (is_reserved pool.slots (slot_of start))
      → IsTrue (meets_chunk pool.held start m))
      → IsFalse (has_room pool m)

abbrev pub RoomIsClear : Type 0
RoomIsClear = (pool : PoolState) (m : ℕ) → m ≤ highest_level → HasRoomWhereClear pool m

-- Where a part starts.
abbrev pub start_of : Span → ℕ
start_of part = part.start

-- The list has exactly the free parts, in rising order where the slots rise.
pub record ListsFreeParts (held : List Chunk) (slots : List ℕ) : Type 0 where
  pub only : All (IsFreePart held slots) (free_parts held slots)
  pub all : (part : Span) → IsFreePart held slots part → Contains (free_parts held slots) part
  pub rising : IsStrictlyIncreasing slots → IsStrictlyIncreasing (map start_of (free_parts held slots))

abbrev pub FreePartsAreListed : Type 0
FreePartsAreListed = (held : List Chunk) (slots : List ℕ) → ListsFreeParts held slots

-- Two parts of a level below the root's are buddies where each is the other half of one parent.
pub record AreBuddies (part other : Span) : Type 0 where
  pub below : 1 ≤ part.level
  pub same_level : other.level ≡ part.level
  pub other_half : other.start ≡ buddy_start part.start part.level

abbrev pub NoFreeBuddies : Type 0
NoFreeBuddies =
    (held : List Chunk) (slots : List ℕ) (part other : Span) → Contains (free_parts held slots) part
    → Contains (free_parts held slots) other → AreBuddies part other → ⊥

-- A granule that meets a free part is committed where the part is smaller than a granule; where it
-- is not, none is under the policies balanced and aggressive.
pub record IsCommittedBySize (pool : PoolState) (part : Span) (number : ℕ) : Type 0 where
  pub small : size_of part.level < granule_in pool → IsTrue (has_committed pool number)
  pub large : IsFalse (keeps pool.limits.policy) → granule_in pool ≤ size_of part.level
      → IsFalse (has_committed pool number)

abbrev pub FreePartsAreCommittedBySize : Type 0
FreePartsAreCommittedBySize =
    (pool : PoolState) (part : Span) (number : ℕ) → IsSoundPool pool → Contains (free_parts pool.held pool.slots) part
    → IsTrue (meet part.start (size_of part.level) (number * granule_in pool) (granule_in pool))
    → IsCommittedBySize pool part number

-- A free part is committed enough for words that it can hold where it is smaller than a granule;
-- where it is not, it isn't under the policies balanced and aggressive.
pub record IsEnoughBySize (pool : PoolState) (part : Span) (words : ℕ) : Type 0 where
  pub small : size_of part.level < granule_in pool → IsTrue (is_committed_enough pool words part)
  pub large : IsFalse (keeps pool.limits.policy) → granule_in pool ≤ size_of part.level
      → IsFalse (is_committed_enough pool words part)

abbrev pub EnoughIsBySize : Type 0
EnoughIsBySize =
    (pool : PoolState) (part : Span) (words : ℕ) → IsSoundPool pool → Contains (free_parts pool.held pool.slots) part
    → 1 ≤ words → words ≤ size_of part.level → IsEnoughBySize pool part words

-- The part of the pool of a level that starts at a word is committed enough for words.
abbrev pub is_enough_at : PoolState → ℕ → ℕ → ℕ → Bool
is_enough_at pool start level words = is_committed_enough pool words (part_at start level)

-- Where there is committed room for words at a level, a clear part of that level is committed
-- enough for them. The other way round holds under the policies balanced and aggressive: under
-- policy none the free part around it may not be committed from its start on.
pub record HasCommittedRoomWhereClear (pool : PoolState) (m words : ℕ) : Type 0 where
  pub room :
      IsFalse (keeps pool.limits.policy) → (start : ℕ) → IsClearIn pool start m
      → IsTrue (is_enough_at pool start m words)
      → IsTrue (has_committed_room pool m words)
  pub clear : IsTrue (has_committed_room pool m words)
      → (start : ℕ) × IsClearIn pool start m × IsTrue (is_enough_at pool start m words)
  pub full : ((start : ℕ) → IsClearIn pool start m → IsFalse (is_enough_at pool start m words))
      → IsFalse (has_committed_room pool m words)

abbrev pub CommittedRoomIsClear : Type 0
CommittedRoomIsClear =
    (pool : PoolState) (m words : ℕ) → m ≤ highest_level → 1 ≤ words → words ≤ size_of m → IsSoundPool pool
    → HasCommittedRoomWhereClear pool m words

-- The words of a part.
abbrev pub words_of_part : Span → ℕ × ℕ
words_of_part part = (part.start, size_of part.level)

-- The runs of words that the held chunks and the free parts have.
abbrev pub runs_in_roots : List Chunk → List ℕ → List (ℕ × ℕ)
runs_in_roots held slots = map words_of held ++ map words_of_part (free_parts held slots)

-- Each word of a reserved node lies in exactly one held chunk or free part, and any other word in
-- none.
abbrev pub RootsAreCoveredOnce : Type 0
RootsAreCoveredOnce =
    (policy : Policy) (word : ℕ) (held : List Chunk) (slots : List ℕ) → AreHeld policy slots held
    → IsStrictlyIncreasing slots
    → count_by (λ run. lies_in (word, 1) run) (runs_in_roots held slots) ≡ cond (is_reserved slots (slot_of word)) 1 0

-- Two lists of chunks are alike where each test that some chunk of the one passes, some chunk of
-- the other passes: as where they have the same chunks in another order.
abbrev pub AreAlike : List Chunk → List Chunk → Type 0
AreAlike held other = (test : Chunk → Bool) → list_any test held ≡ list_any test other

-- Alike chunks leave the same free parts and the same granules committed.
pub record LeavesTheSame (policy : Policy) (before slots : List ℕ) (held other : List Chunk) : Type 0 where
  pub free : free_parts held slots ≡ free_parts other slots
  pub committed : committed_with policy before held slots ≡ committed_with policy before other slots

abbrev pub AlikeChunksLeaveTheSame : Type 0
AlikeChunksLeaveTheSame =
    (policy : Policy) (before slots : List ℕ) (held other : List Chunk) → AreAlike held other
    → LeavesTheSame policy before slots held other

-- The pool with other held chunks.
abbrev pub with_held : PoolState → List Chunk → PoolState
with_held pool other = record pool { held = other }

-- The pool answers the same with the other chunks, want of memory aside.
pub record AnswersTheSame (pool : PoolState) (other : List Chunk) : Type 0 where
  pub taking : (p m words : ℕ) → taken (with_held pool other) p m words ≡ taken pool p m words
  pub growing : (chunk : Chunk) (total : ℕ) (may_enlarge : Bool)
      → grown (with_held pool other) chunk total may_enlarge ≡ grown pool chunk total may_enlarge

abbrev pub AlikeChunksAnswerTheSame : Type 0
AlikeChunksAnswerTheSame =
    (pool : PoolState) (other : List Chunk) → AreAlike pool.held other → AnswersTheSame pool other
