-- What the definitions amount to: laws about them, each the contract of a function of `laws`.
use Rattle.std.specs.Prelude.{◌≡◌, [], ◌∷◌}
use Rattle.ms_buddy.specs.Leaves.{free_of, root}

-- With no leaf lent the root is one free leaf.
abbrev pub NoneLentIsWhole : Type 0
NoneLentIsWhole = free_of [] ≡ root ∷ []
