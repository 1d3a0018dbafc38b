use Rattle.std.proofs.Common.{◌≤◌, ◌+◌, length, vec_len}
use Rattle.std.specs.Vec.{vec_capacity}
use Rattle.ms_base.specs.declared.kind.Space.TheVariants.{NonClass, Class}
use Rattle.ms_loaders.specs.System.{states_of}
use Rattle.ms_loaders.proofs.sums.CollectLemmas.{Leads, RowsLead}
use Rattle.ms_loaders.proofs.collecting.gather.Given as goal

-- What is gathered so far and the loaders that are left come to the whole, and there is room for
-- their rows.
abbrev pub invariant-loop-name : goal.invariant-loop-name
invariant-loop-name l = record {
  space : Leads NonClass l.space (states_of l.name-iterator) (states_of l.loaders);
  class_space : Leads Class l.class_space (states_of l.name-iterator) (states_of l.loaders);
  rows : RowsLead l.rows.items (states_of l.name-iterator) (states_of l.loaders);
  room : vec_len l.rows + length l.name-iterator ≤ vec_capacity l.rows;
}
