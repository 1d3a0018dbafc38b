-- Entries in no order, as a hash map has them.
use Rattle.std.specs.Prelude.{ℕ, List, [], ◌∷◌}
use Rattle.ms_base.specs.Names.{with_new}

-- The entries in rising order of their names; of two with one name, the first.
abbrev pub by_name : {X : Type 0} → List (ℕ × X) → List (ℕ × X)
by_name [] = []
by_name (entry ∷ more) = with_new (by_name more) entry.0 entry.1
