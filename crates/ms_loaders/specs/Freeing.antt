-- A block that is freed by where it lies (this project's choice).
use Rattle.std.specs.Prelude.{ℕ}
use Rattle.ms_base.specs.declared.span.Block.{Block}
use Rattle.ms_base.specs.declared.refusal.Refusal.{Refusal}
use Rattle.ms_base.specs.declared.refusal.Refusal.TheVariants.{NoLoader, NotLive}
use Rattle.ms_base.specs.declared.step.Step.TheVariants.{Free}
use Rattle.ms_base.specs.declared.step.Reply.TheVariants.{Ok as Done}
use Rattle.ms_base.specs.State.{LoaderState, Machine}
use Rattle.ms_base.specs.Transition.{HasLoader, LacksLoader, Transition}
use Rattle.ms_loader.specs.Finding.{HasRun}

-- The loader has a live block there, and it is freed as by its name.
pub record FreesThere (old : Machine) (name : ℕ) (block : Block) (new : Machine) : Type 0 where
  pub loader : LoaderState
  pub found : HasLoader old name loader
  pub number : ℕ
  pub lies : HasRun loader number block
  pub step : Transition old (Free name number) Done new

-- The loader has no live block there.
pub record HasNone (m : Machine) (name : ℕ) (block : Block) : Type 0 where
  pub loader : LoaderState
  pub found : HasLoader m name loader
  pub none : (number : ℕ) → HasRun loader number block → ⊥

-- Why no block is freed, in the order of the checks.
abbrev pub LacksThere : Machine → ℕ → Block → Refusal → Type 0
LacksThere m name block NoLoader = LacksLoader m name
LacksThere m name block NotLive = HasNone m name block
LacksThere m name block _ = ⊥
