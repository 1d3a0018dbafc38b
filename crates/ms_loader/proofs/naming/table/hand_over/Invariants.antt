use Rattle.std.proofs.Common.{◌≡◌, ℕ, take}
use Rattle.std.specs.Prelude.{nat_eq}
use Rattle.std.specs.Map.{lookup}
use Rattle.ms_loader.specs.Table.{block_in}
use Rattle.ms_loader.proofs.naming.table.hand_over.Given as goal

-- The blocks of the names so far are among the others.
abbrev pub invariant-loop-at : goal.invariant-loop-at
invariant-loop-at l = (name : ℕ)
    → lookup (nat_eq name) l.others.entries ≡ block_in l.first (take l.at l.row) l.fn.others.entries name
