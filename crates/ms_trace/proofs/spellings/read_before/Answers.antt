use Rattle.std.proofs.Common.{ℕ, List, ◌∷◌, ◌++◌, ◌∙◌, ap, append_assoc, codes, decimal, rules}
use Rattle.ms_trace.proofs.spellings.read_before.Goals as goal

pub returns : goal.returns
returns c = record {
  spelled = rw c.as_slice.ensures at c.in_ok-loader.ensures
      ∙ ap (λ (fields : List ℕ). codes "read " ++ fields ++ 10 ∷ c.in_ok-loader.rest.now)
      (append_assoc (decimal c.in_ok-loader.loader) (32 ∷ decimal c.in_ok-loader.block) (32 ∷ decimal c.in_ok-loader.index));
  valid = search rules;
}
