use Rattle.std.proofs.Common.{◌≡◌, ℕ}
use Rattle.std.specs.List.{list_any}
use Rattle.ms_loaders.specs.Holder.{has_owner}
use Rattle.ms_loaders.proofs.system.holding.name_by_walk.Given as goal

-- Of the loaders that are left, those with an account of that number are those of all.
abbrev pub invariant-loop-name : goal.invariant-loop-name
invariant-loop-name l =
    (name : ℕ) → list_any (has_owner name l.owner) l.name-iterator ≡ list_any (has_owner name l.owner) l.loaders
