-- The largest loaders (this project's choice).
use Rattle.std.specs.Prelude.{ℕ, ◌==◌, ◌&&◌, ◌||◌, nat_lt, Bool, List, [], ◌∷◌, take, if◌then◌else◌}
use Rattle.std.specs.List.{fold, prefix_len}
use Rattle.ms_page.specs.declared.holding.Holding.{Holding}

-- One loader comes before another: it has more capacity, or as much and a lower name.
abbrev pub comes_before : Holding → Holding → Bool
comes_before one other =
    nat_lt other.capacity one.capacity || one.capacity == other.capacity && nat_lt one.name other.name

-- How many of the loaders come before one, and these with it at its position.
abbrev pub position_of : Holding → List Holding → ℕ
position_of holding ranked = prefix_len (λ other. comes_before other holding) ranked

abbrev pub ranked_with : Holding → List Holding → List Holding
ranked_with holding [] = holding ∷ []
ranked_with holding (other ∷ ranked) =
    if comes_before other holding then other ∷ ranked_with holding ranked else holding ∷ other ∷ ranked

-- The loaders in this order, and the first twenty.
abbrev pub ranked_of : List Holding → List Holding
ranked_of holdings = fold (λ ranked holding. ranked_with holding ranked) [] holdings

abbrev pub largest_of : List Holding → List Holding
largest_of holdings = take 20 (ranked_of holdings)
