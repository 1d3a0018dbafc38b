-- What the searches find first, each step of them by itself. These words stand for long ones: a
-- proof looks into them where it has to.
use Rattle.std.specs.Prelude.{◌≡◌, ℕ, ◌+◌, ◌*◌, ◌≤◌, not, ◌&&◌, ◌||◌, ◌==◌, Bool, false, cond, List, [], Option, None}
use Rattle.std.specs.Prelude.{map, slice_get}
use Rattle.std.specs.Option.{option_map}
use Rattle.std.specs.List.{find, flat_map, list_all}
use Rattle.ms_base.specs.declared.span.Chunk.{Chunk}
use Rattle.ms_base.specs.declared.span.Span.{Span}
use Rattle.ms_base.specs.Level.{root_words, size_of}
use Rattle.ms_base.specs.Committed.{is_among, granules_meeting}
use Rattle.ms_base.specs.FreeParts.{free_in_slot, free_parts}
use Rattle.ms_base.specs.State.{PoolState}
use Rattle.ms_base.specs.PoolSteps.Pick.{candidates, found_at, is_committed_enough, levels_down, levels_up, picked}
use Rattle.ms_base.specs.PoolSteps.Causes.{granules_missing, meets_reserve_limit}
use Rattle.ms_buddy.specs.Leaves.{LentLeaf, free_of, has_level}

-- The words of the smallest granule of all policies.
abbrev pub least_granule : ℕ
least_granule = 2048

-- The part has the level and, if it has to be, is committed enough.
abbrev pub grants : PoolState → ℕ → Bool → ℕ → Span → Bool
grants pool words committed level part = (part.level == level) && (not committed || is_committed_enough pool words part)

-- The part of a level that starts there, where one does.
abbrev pub part_at : ℕ → Option ℕ → Option Span
part_at level start = option_map (λ at_. record { start = at_; level = level }) start

-- The first free part of a level.
unfoldable pub first_at : PoolState → ℕ → Bool → ℕ → Option Span
first_at pool words committed level = find (grants pool words committed level) (free_parts pool.held pool.slots)

-- The first free part of a level in a slot, where it is reserved.
unfoldable pub first_in_slot : PoolState → Bool → ℕ → Bool → ℕ → ℕ → Option Span
first_in_slot pool reserved words committed level slot =
    find (grants pool words committed level) (cond reserved (free_in_slot pool.held slot) [])

-- The first of the levels from low up to high, and from high down to 0.
unfoldable pub first_up : PoolState → ℕ → Bool → ℕ → ℕ → Option Span
first_up pool words committed low high = slice_get (flat_map (found_at pool words committed) (levels_up low high)) 0

unfoldable pub first_down : PoolState → ℕ → Bool → ℕ → Option Span
first_down pool words committed high = slice_get (flat_map (found_at pool words committed) (levels_down high)) 0

-- The first of all searches.
unfoldable pub first_found : PoolState → ℕ → ℕ → ℕ → Option Span
first_found pool p m words = slice_get (candidates pool p m words) 0

-- Each granule that meets so many words from the start on is one of these.
abbrev pub are_among : List ℕ → ℕ → ℕ → ℕ → Bool
are_among numbers granule start words = list_all (is_among numbers) (granules_meeting granule start words)

-- A part of the root of that number, from one of the root at word 0.
abbrev pub part_in : ℕ → Span → Span
part_in root part = record { start = part.start + root * root_words; level = part.level }

-- The first free leaf of a root that has the level and, if it has to be, whose first words lie in
-- these granules.
unfoldable pub first_in : List ℕ → ℕ → ℕ → Bool → ℕ → ℕ → List LentLeaf → Option Span
first_in numbers granule words committed level root tree =
    find (λ part. (part.level == level) && (not committed || are_among numbers granule part.start words))
    (map (part_in root) (free_of tree))

-- No free part is large enough, and no node may be reserved.
unfoldable pub is_full : PoolState → ℕ → Bool
is_full pool m = meets_reserve_limit pool m

-- The part that is picked for a request, and the granules that a chunk's front lacks.
unfoldable pub part_picked : PoolState → ℕ → ℕ → ℕ → Span
part_picked pool p m words = picked pool p m words

unfoldable pub lacking : PoolState → Chunk → ℕ
lacking pool chunk = granules_missing pool chunk

-- At a level whose bit is clear no free part grants so many words.
abbrev pub GrantNone : ℕ → PoolState → ℕ → Bool → Type 0
GrantNone levels pool words committed = (level : ℕ) → words ≤ size_of level → has_level levels level ≡ false
    → first_at pool words committed level ≡ None
