-- Entries at numbers, 256 slots to a page, and the list of them; pages end where nothing stands
-- further on (our choice).
use Rattle.std.specs.Prelude.{◌≡◌, ℕ, ◌-◌, ◌*◌, ◌/◌, ◌%◌, ◌<◌, ◌≤◌, zero, suc, cond, nat_eq, List, [], ◌∷◌}
use Rattle.std.specs.Prelude.{Option, Some, None, IfSome, length, slice_index_or}

-- What stands at a slot of a page, and at a number.
abbrev pub in_page : {E : Type 0} → List (Option E) → ℕ → Option E
in_page page slot = slice_index_or page slot None

abbrev pub page_of : {E : Type 0} → List (List (Option E)) → ℕ → List (Option E)
page_of pages number = slice_index_or pages (number / 256) []

abbrev pub slot_at : {E : Type 0} → List (List (Option E)) → ℕ → Option E
slot_at pages number = in_page (page_of pages number) (number % 256)

-- Another thing, or nothing, stands at one number, and the same as before at all others.
abbrev pub ChangesAt : {E : Type 0} → (ℕ → Option E) → ℕ → Option E → (ℕ → Option E) → Type 0
ChangesAt old number entry new = (other : ℕ) → new other ≡ cond (nat_eq number other) entry (old other)

-- The first that stands at a number or further on.
pub record IsNext {E : Type 0} (at : ℕ → Option E) (from number : ℕ) (entry : E) : Type 0 where
  pub from_there : from ≤ number
  pub stands : at number ≡ Some entry
  pub none_before : (k : ℕ) → from ≤ k → k < number → at k ≡ None

-- Nothing stands at a number or further on.
abbrev pub IsEmptyFrom : {E : Type 0} → (ℕ → Option E) → ℕ → Type 0
IsEmptyFrom at from = (k : ℕ) → from ≤ k → at k ≡ None

-- The list with what was found before it.
abbrev pub with_first : {E : Type 0} → Option E → List E → List E
with_first None more = more
with_first (Some entry) more = entry ∷ more

-- All that stands at so many numbers from one on, in their order.
abbrev pub filled_from : {E : Type 0} → (ℕ → Option E) → ℕ → ℕ → List E
filled_from at from zero = []
filled_from at from (suc count) = with_first (at from) (filled_from at (suc from) count)

-- All that stands at a number or further on.
abbrev pub rest_of : {E : Type 0} → List (List (Option E)) → ℕ → List E
rest_of pages from = filled_from (slot_at pages) from (256 * length pages - from)

-- What a name has, where it stands at that number.
abbrev pub value_of : {X : Type 0} → Option (ℕ × X) → Option X
value_of None = None
value_of (Some entry) = Some entry.1

-- Each entry has the number at which it stands as its name.
abbrev pub AreAtNames : {X : Type 0} → (ℕ → Option (ℕ × X)) → Type 0
AreAtNames at = (number : ℕ) → IfSome (at number) (λ entry. entry.0 ≡ number)

-- What is kept true: each entry stands at its name, none below the first number, and they are
-- counted.
pub record AreKept {X : Type 0} (pages : List (List (Option (ℕ × X)))) (first count : ℕ) : Type 0 where
  pub at_names : AreAtNames (slot_at pages)
  pub none_below : (k : ℕ) → k < first → slot_at pages k ≡ None
  pub small : count ≤ 65536
  pub counted : count ≡ length (rest_of pages 0)
