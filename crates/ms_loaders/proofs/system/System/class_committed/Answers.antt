use Rattle.std.proofs.Common.{◌≡◌, ℕ, ap, ◌∙◌, arith, ◌*◌, length}
use Rattle.ms_base.specs.Policy.{granule_of}
use Rattle.ms_loaders.specs.System.{machine_of}
use Rattle.ms_loaders.proofs.sums.FitLemmas.{machine_is_good}
use Rattle.ms_loaders.proofs.sums.UsedLemmas.{class_committed_fits}
use Rattle.ms_loaders.proofs.system.System.class_committed.Goals as goal

pub overflow_mul-result : goal.overflow_mul-result
overflow_mul-result c =
    let pool = c.self.inside.pool in
    let product : c.class_committed.result * c.granule.result
    ≡ length pool.class_committed * granule_of pool.limits.policy =
    ap (λ (n : ℕ). n * c.granule.result) c.class_committed.ensures
    ∙ ap (λ (n : ℕ). length pool.class_committed * n) (c.granule.ensures ∙ ap granule_of c.self.invariant.policy_is) in
    omega (
      arith,
      product,
      class_committed_fits (machine_of pool c.self.inside.loaders)
          (machine_is_good pool c.self.inside.loaders c.self.invariant.together),
    )
