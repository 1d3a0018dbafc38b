-- The steps of the trace that a log's events amount to.
use Rattle.std.specs.Prelude.{ℕ}
use Rattle.ms_base.specs.declared.kind.Space.{Space}
use Rattle.ms_base.specs.declared.kind.Space.TheVariants.{NonClass, Class}
use Rattle.ms_base.specs.declared.step.Step.{Step}
use Rattle.ms_base.specs.declared.step.Step.TheVariants.{Alloc, Calloc}

-- The step that allocates a block in a space.
abbrev pub step_for : Space → ℕ → ℕ → ℕ → Step
step_for NonClass loader block words = Alloc loader block words
step_for Class loader block words = Calloc loader block words
