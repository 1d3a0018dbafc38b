-- What is lent from each entry of a root on: the entries are its parts of level 12, in order.
use Rattle.std.specs.Prelude.{◌≡◌, ℕ, zero, suc, ◌+◌, ◌*◌, ◌/◌, ◌%◌, ◌^◌, ◌<◌, ◌≤◌, List, [], ◌∷◌, get_or, length, Option, Some, None, Box, ⊤}
use Rattle.std.proofs.Common.{refl, sym}
use Rattle.std.proofs.Math.Nat.{div-add-mod}
use Rattle.ms_buddy.specs.declared.entries.Lending.{Lending}
use Rattle.ms_buddy.specs.Leaves.{LentLeaf}

-- The leaf that is lent from an entry on.
abbrev pub leaf_from : ℕ → Lending → LentLeaf
leaf_from index lending =
    record { start = 128 * index; level = lending.level; owner = lending.owner; front = lending.front }

-- The leaves that are lent from these entries on, of which the first has a number.
abbrev pub lent_from : ℕ → List (Option Lending) → List LentLeaf
lent_from index [] = []
lent_from index (None ∷ entries) = lent_from (index + 1) entries
lent_from index (Some lending ∷ entries) = leaf_from index lending ∷ lent_from (index + 1) entries

-- What is lent from an entry on.
abbrev pub lending_at : List (Option Lending) → ℕ → Option Lending
lending_at entries index = get_or entries index None

-- The entries of a root: the first, and the others once there is memory for them.
abbrev pub entries_of : {A : Type 0} → Option Lending → Option (Box (List (Option Lending)) A) → List (Option Lending)
entries_of first None = first ∷ []
entries_of first (Some others) = first ∷ others.value

-- There are 4,095 others, or none.
abbrev pub AreOthers : {A : Type 0} → Option (Box (List (Option Lending)) A) → Type 0
AreOthers None = ⊤
AreOthers (Some others) = length others.value ≡ 4095

-- What an entry has, by its two numbers: nothing where the second is 0, else the level is what is
-- left of it by 16, and the front how often it has 16.
abbrev pub lending_in : ℕ → ℕ → Option Lending
lending_in owner zero = None
lending_in owner (suc n) = Some (record { level = suc n % 16; owner = owner; front = suc n / 16 })

-- A level is at most 12, and nothing has no owner.
abbrev pub IsPacked : ℕ → ℕ → Type 0
IsPacked owner packed = (packed % 16 ≤ 12) × (packed ≡ 0 → owner ≡ 0)

-- Back to the two numbers.
abbrev pub owner_in : Option Lending → ℕ
owner_in None = 0
owner_in (Some lending) = lending.owner

abbrev pub packed_of : Option Lending → ℕ
packed_of None = 0
packed_of (Some lending) = 16 * lending.front + lending.level

-- These are those that it was told by.
pub owner_again : (owner packed : ℕ) → IsPacked owner packed → owner_in (lending_in owner packed) ≡ owner
owner_again owner zero packs = sym (packs.1 refl)
owner_again owner (suc n) packs = refl

pub packed_again : (owner packed : ℕ) → packed_of (lending_in owner packed) ≡ packed
packed_again owner zero = refl
packed_again owner (suc n) = div-add-mod (suc n) 16

-- A front has a word at least, and an entry keeps it beside a level, in 32 bits.
abbrev pub FitsEntry : ℕ → Type 0
FitsEntry front = (0 < front) × (front < 2 ^ 28)
