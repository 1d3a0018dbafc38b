-- The positions of stretches beside the newest, in a list or in groups (our choice).
use Rattle.std.specs.Prelude.{◌≡◌, ℕ, ◌+◌, ◌-◌, ◌*◌, ◌/◌, ◌%◌, ◌<◌, ◌≤◌, List, [], ◌∷◌, cond, length, nat_eq}
use Rattle.std.specs.Prelude.{slice_index_or, vec_capacity, vec_len}
use Rattle.std.specs.Map.{lookup}
use Rattle.std.specs.Option.{unwrap_or}
use Rattle.ms_arena.specs.declared.words.others.Table.{Table}
use Rattle.ms_arena.specs.declared.words.others.Table.TheVariants.{Few, Many}
use Rattle.ms_arena.specs.declared.words.positions.Positioned.{Positioned}

-- Each stretch of a list with its position, where the first that is found counts; or the numbers of
-- groups, and the positions by number; and for how many stretches more there is room.
pub record OthersView : Type 0 where
  pub entries : List (ℕ × ℕ)
  pub numbers : List ℕ
  pub positions : List ℕ
  pub spare : ℕ

-- The entries of a list before others, the last one first.
abbrev pub entries_onto : List Positioned → List (ℕ × ℕ) → List (ℕ × ℕ)
entries_onto [] entries = entries
entries_onto (placed ∷ list) entries = entries_onto list ((placed.stretch, placed.position) ∷ entries)

-- The position of a stretch in a list; 0 where it has none.
abbrev pub position_listed : List Positioned → ℕ → ℕ
position_listed list stretch = unwrap_or (lookup (nat_eq stretch) (entries_onto list [])) 0

-- The position of a stretch by its group of 32; 0 where it has none.
abbrev pub position_grouped : List ℕ → List ℕ → ℕ → ℕ
position_grouped numbers positions stretch =
    slice_index_or positions (32 * slice_index_or numbers (stretch / 32) 0 + stretch % 32) 0

-- What is kept true of groups: those of no number have no position, there are positions for each number,
-- and no two groups have one.
pub record AreGroups (numbers positions : List ℕ) : Type 0 where
  pub none : (at : ℕ) → at < 32 → slice_index_or positions at 0 ≡ 0
  pub below : (group : ℕ) → 32 * slice_index_or numbers group 0 + 32 ≤ length positions
  pub own : (group other : ℕ) → 0 < slice_index_or numbers group 0
      → slice_index_or numbers group 0 ≡ slice_index_or numbers other 0 → group ≡ other
  pub whole : length positions % 32 ≡ 0

-- What a list or groups stand for.
abbrev pub others_in : Table → OthersView
others_in (Few list) = record {
  entries = entries_onto list.items [];
  numbers = [];
  positions = [];
  spare = vec_capacity list - vec_len list;
}
others_in (Many numbers positions) = record {
  entries = [];
  numbers = numbers.items;
  positions = positions.items;
  spare = (vec_capacity positions - vec_len positions) / 32;
}

-- The numbers have room for all groups of the space.
abbrev pub IsTable : Table → Type 0
IsTable (Few list) = Unit
IsTable (Many numbers positions) = AreGroups numbers.items positions.items × (2048 ≤ vec_capacity numbers)

-- The position of a stretch; 0 where it has none.
abbrev pub position_among : OthersView → ℕ → ℕ
position_among others stretch =
    unwrap_or (lookup (nat_eq stretch) others.entries) (position_grouped others.numbers others.positions stretch)

-- A stretch has a position, and all others have theirs.
abbrev pub Enters : OthersView → ℕ → ℕ → OthersView → Type 0
Enters old stretch position new = (other : ℕ)
    → position_among new other ≡ cond (nat_eq other stretch) position (position_among old other)

-- All stretches have what they had.
abbrev pub StayPositioned : OthersView → OthersView → Type 0
StayPositioned old new = (stretch : ℕ) → position_among new stretch ≡ position_among old stretch
