use Rattle.std.proofs.Common.{map, ap, ◌∙◌}
use Rattle.ms_base.specs.State.{Machine}
use Rattle.ms_answers.specs.Details.{loader_sums}
use Rattle.ms_loaders.proofs.system.System.details.Goals as goal

pub returns : goal.returns
returns c = λ i. record {
  loaders = (c.in_ok-loaders.ensures ∙ ap (λ (m : Machine). map loader_sums m.loaders) c.self.view_is) i;
  roots = c.in_ok-roots.ensures i;
}
