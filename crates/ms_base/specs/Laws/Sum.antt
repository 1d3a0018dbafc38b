-- What the sums of a machine come to: laws about them, each the contract of a function of `laws`.
use Rattle.std.specs.Prelude.{◌≡◌, ℕ, ◌+◌, ◌*◌, ◌≤◌, ◌⊎◌, Bool, ◌&&◌, nat_le, nat_lt, List, [], ◌∷◌, ◌++◌, length}
use Rattle.std.specs.Prelude.{slice_get, slice_set, Some, Ok, IsTrue, IsFalse}
use Rattle.std.specs.List.{Contains, list_any, flat_map, sum_by}
use Rattle.ms_base.specs.Interval.{are_apart}
use Rattle.ms_base.specs.Part.{IsPart, node_words}
use Rattle.ms_base.specs.FreeParts.{free_parts}
use Rattle.ms_base.specs.Laws.{roots_of}
use Rattle.ms_base.specs.declared.kind.Space.{Space}
use Rattle.ms_base.specs.declared.span.Chunk.{Chunk}
use Rattle.ms_base.specs.Level.{size_of, highest_level}
use Rattle.ms_base.specs.PoolSteps.Causes.{committed_count, granules_missing, granules_needed, meets_reserve_limit}
use Rattle.ms_base.specs.PoolSteps.Causes.{meets_commit_limit}
use Rattle.ms_base.specs.PoolSteps.Pick.{chunk_picked}
use Rattle.ms_base.specs.Front.{HasFront}
use Rattle.ms_base.specs.PoolSteps.{taken, grown, slots_with}
use Rattle.ms_base.specs.Spaces.{most_slots}
use Rattle.ms_base.specs.Policy.{keeps}
use Rattle.ms_base.specs.State.{Machine, PoolState, slots_in, committed_in, committed_now, pool_of}
use Rattle.ms_base.specs.Good.{IsSoundPool, IsGood}
use Rattle.ms_base.specs.Transition.{purged, IsGrown}
use Rattle.ms_base.specs.Totals.{capacity_of, fronts_of, used_words, live_words, kept_words, committed_words}

-- The word is one of the run's.
abbrev pub is_word_of : ℕ × ℕ → ℕ → Bool
is_word_of run word = nat_le run.0 word && nat_lt word (run.0 + run.1)

-- The word is one of some run's.
abbrev pub has_word : List (ℕ × ℕ) → ℕ → Bool
has_word runs word = list_any (λ run. is_word_of run word) runs

-- How many words the runs have together.
abbrev pub words_in : List (ℕ × ℕ) → ℕ
words_in runs = sum_by (λ run. run.1) runs

-- Runs that are apart have no more words than areas that have each of their words.
abbrev pub PackingHolds : Type 0
PackingHolds =
    (runs areas : List (ℕ × ℕ)) → IsTrue (are_apart runs)
    → ((word : ℕ) → IsTrue (has_word runs word) → IsTrue (has_word areas word))
    → words_in runs ≤ words_in areas

-- The sums of a space of a machine, each within the next: live and free blocks are in use, words in
-- use lie within fronts, fronts are committed and within their chunks, and what is committed or
-- lent is reserved, in 64 nodes at most, of the class space in 16.
pub record IsBounded (space : Space) (m : Machine) : Type 0 where
  pub blocks : live_words space m + kept_words space m ≤ used_words space m
  pub used : used_words space m ≤ fronts_of (pool_of space m).held
  pub fronts : fronts_of (pool_of space m).held ≤ committed_words space m
  pub lent : fronts_of (pool_of space m).held ≤ capacity_of (pool_of space m).held
  pub capacity : capacity_of (pool_of space m).held ≤ length (slots_in space m) * node_words
  pub committed : committed_words space m ≤ length (slots_in space m) * node_words
  pub slots : length (slots_in space m) ≤ most_slots space

-- So it is in a good machine.
abbrev pub SumsAreBounded : Type 0
SumsAreBounded = (space : Space) (m : Machine) → IsGood m → IsBounded space m

-- All memory of a space has been given back: nothing is lent or used, and each root is one free
-- part; under the policies balanced and aggressive nothing is committed.
pub record IsGivenBack (space : Space) (m : Machine) : Type 0 where
  pub held : (pool_of space m).held ≡ []
  pub whole : free_parts (pool_of space m).held (slots_in space m) ≡ flat_map roots_of (slots_in space m)
  pub committed : IsFalse (keeps m.limits.policy) → committed_in space m ≡ []
  pub used : used_words space m ≡ 0
  pub live : live_words space m ≡ 0

-- All memory has been given back, and a purge leaves no node but those of the class space, and no
-- granule of the others.
pub record HoldsNothing (m : Machine) : Type 0 where
  pub spaces : (space : Space) → IsGivenBack space m
  pub nodes : (purged m).slots ≡ []
  pub granules : (purged m).committed ≡ []

-- With no loader left, all memory has been given back.
abbrev pub NoLoaderHoldsNothing : Type 0
NoLoaderHoldsNothing = (m : Machine) → IsGood m → m.loaders ≡ [] → HoldsNothing m

-- The pool with a chunk more, which is lent last.
abbrev pub with_lent : PoolState → Chunk → PoolState
with_lent pool chunk = record pool { held = pool.held ++ chunk ∷ []; slots = slots_with pool.slots chunk.start }

-- A chunk that is lent commits the granules of its front that were missing, and no other.
abbrev pub LendingCommitsTheMissing : Type 0
LendingCommitsTheMissing =
    (pool : PoolState) (chunk : Chunk) → IsSoundPool pool → IsPart chunk.start chunk.level → 1 ≤ chunk.front
    → chunk.front ≤ size_of chunk.level
    → length (committed_now (with_lent pool chunk)) ≡ length pool.committed + granules_missing pool chunk

-- The pool with the held chunk at an index grown into another.
abbrev pub with_chunk_grown : PoolState → ℕ → Chunk → PoolState
with_chunk_grown pool index chunk = record pool { held = slice_set pool.held index chunk }

-- A held chunk that grows in place commits the granules of its new front that were missing, and no
-- other.
abbrev pub GrowingCommitsTheMissing : Type 0
GrowingCommitsTheMissing =
    (pool : PoolState) (index : ℕ) (was chunk : Chunk) → IsSoundPool pool → slice_get pool.held index ≡ Some was
    → IsGrown was chunk
    → IsPart chunk.start chunk.level → chunk.front ≤ size_of chunk.level
    → length (committed_now (with_chunk_grown pool index chunk)) ≡ length pool.committed + granules_missing pool chunk

-- A chunk grows well where it stays or grows in place, is a part with a front that reaches the
-- words asked for, and what it lacks is within the limit of granules.
pub record GrowsWell (pool : PoolState) (was chunk : Chunk) (total : ℕ) : Type 0 where
  pub changes : (chunk ≡ was) ⊎ IsGrown was chunk
  pub placed : IsPart chunk.start chunk.level
  pub front_rule : HasFront pool.limits.policy chunk
  pub reaches : total ≤ chunk.front
  pub within : committed_count pool + granules_missing pool chunk ≤ pool.limits.granules

-- So does each held chunk that is grown, whatever the policy.
abbrev pub GrowingKeepsTheLimit : Type 0
GrowingKeepsTheLimit =
    (pool : PoolState) (was chunk : Chunk) (total : ℕ) (may_enlarge : Bool) → IsSoundPool pool → Contains pool.held was
    → grown pool was total may_enlarge ≡ Ok chunk → GrowsWell pool was chunk total

-- A request that is answered by a chunk keeps the limit of granules, whatever the policy.
abbrev pub TakingKeepsTheLimit : Type 0
TakingKeepsTheLimit =
    (pool : PoolState) (p m words : ℕ) (chunk : Chunk) → IsSoundPool pool → p ≤ m → m ≤ highest_level → 1 ≤ words
    → words ≤ size_of m
    → taken pool p m words ≡ Ok chunk → committed_count pool + granules_missing pool chunk ≤ pool.limits.granules

-- One rule for all policies: where the reserve limit is not met, the commit limit is met exactly
-- where the missing granules of the chunk that would be lent pass it; and where it is met these are
-- the granules needed.
pub record IsByMissing (pool : PoolState) (p m words : ℕ) : Type 0 where
  pub met : meets_commit_limit pool p m words
      ≡ nat_lt pool.limits.granules (committed_count pool + granules_missing pool (chunk_picked pool p m words))
  pub need : IsTrue (meets_commit_limit pool p m words)
      → granules_needed pool p m words ≡ granules_missing pool (chunk_picked pool p m words)

abbrev pub CommitLimitIsByMissing : Type 0
CommitLimitIsByMissing =
    (pool : PoolState) (p m words : ℕ) → IsSoundPool pool → p ≤ m → m ≤ highest_level → 1 ≤ words → words ≤ size_of m
    → IsFalse (meets_reserve_limit pool m) → IsByMissing pool p m words
