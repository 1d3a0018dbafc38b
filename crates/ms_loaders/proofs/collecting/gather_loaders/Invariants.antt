use Rattle.std.proofs.Common.{◌≤◌, ◌+◌, length, vec_len}
use Rattle.std.specs.Vec.{vec_capacity}
use Rattle.ms_loaders.specs.System.{states_of}
use Rattle.ms_loaders.proofs.sums.DetailLemmas.{DetailsLead}
use Rattle.ms_loaders.proofs.collecting.gather_loaders.Given as goal

-- The sums told so far and the loaders that are left come to the whole, and there is room for
-- theirs.
abbrev pub invariant-loop-name : goal.invariant-loop-name
invariant-loop-name l = record {
  rows : DetailsLead l.rows.items (states_of l.name-iterator) (states_of l.loaders);
  room : vec_len l.rows + length l.name-iterator ≤ vec_capacity l.rows;
}
