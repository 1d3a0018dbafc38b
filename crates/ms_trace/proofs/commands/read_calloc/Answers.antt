use Rattle.std.proofs.Common.{ℕ, List, ◌∷◌, ap, codes, rules}
use Rattle.ms_trace.proofs.commands.read_calloc.Goals as goal

pub returns : goal.returns
returns c = record {
  fault = c.in_ok-loader.ensures.fault;
  spelled = ap (λ (fields : List (List ℕ)). codes "calloc" ∷ fields) c.in_ok-loader.ensures.fields;
  valid = search rules;
}
