use Rattle.std.proofs.Common.{◌≡◌, ◌<◌, ℕ, get_or, length}
use Rattle.ms_pool.specs.declared.mapping.Cell.TheVariants.{Free}
use Rattle.ms_pool.specs.Keeping.{ledger_of}
use Rattle.ms_pool.specs.Ledger.{state_in}
use Rattle.ms_pool.specs.Mapping.{cell_in, root_cells}
use Rattle.ms_pool.proofs.lender.Lender.root_map.Given as goal

-- The cells so far are told.
abbrev pub invariant-loop-number : goal.invariant-loop-number
invariant-loop-number l = record {
  root : l.map.root ≡ l.root;
  full : length l.map.cells ≡ root_cells;
  told : (k : ℕ) → k < l.number → get_or l.map.cells k Free ≡ cell_in (state_in l.space (ledger_of l.self)) l.root k;
}
