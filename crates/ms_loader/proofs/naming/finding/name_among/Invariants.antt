use Rattle.std.proofs.Common.{◌≡◌, ℕ, true}
use Rattle.std.specs.Prelude.{nat_eq}
use Rattle.std.specs.List.{list_any}
use Rattle.ms_loader.specs.Finding.{names_block}
use Rattle.ms_loader.specs.Table.{in_row}
use Rattle.ms_loader.proofs.naming.finding.name_among.Given as goal

-- Of the entries that are left, those with the block and a name that has none in the row are those
-- of all.
abbrev pub invariant-loop-name : goal.invariant-loop-name
invariant-loop-name l = (name : ℕ) → nat_eq (in_row l.first l.row name).words 0 ≡ true
    → list_any (names_block name l.block) l.name-iterator ≡ list_any (names_block name l.block) l.others.entries
