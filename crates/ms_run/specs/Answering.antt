-- A step answered by a worker.
use Rattle.std.specs.Prelude.{◌≡◌, ◌≢◌, ℕ, Bool, List, Some}
use Rattle.ms_base.specs.declared.step.Step.{Step}
use Rattle.ms_base.specs.declared.step.Step.TheVariants.{Purge}
use Rattle.ms_base.specs.declared.step.Reply.{Reply}
use Rattle.ms_base.specs.declared.step.Reply.TheVariants.{Ok as Done}
use Rattle.ms_base.specs.Names.{named}
use Rattle.ms_base.specs.Request.{loader_of}
use Rattle.ms_base.specs.Run.Alone.{OwnReply}
use Rattle.ms_loader.specs.Loader.{LoaderView}
use Rattle.ms_loaders.specs.System.{states_of}
use Rattle.ms_shared.specs.declared.lock_rule.SeatView.{SeatView}
use Rattle.ms_base.specs.Run.Own.{own_in}
use Rattle.ms_run.specs.Manned.{IsManned}

-- The reply to a loader's step is its own, the other loaders stay, a purge is done; the seat then
-- serves the loaders that there are.
pub record IsAnswered (loaders : List (ℕ × LoaderView)) (step : Step) (reply : Reply) (seat : SeatView)
    (after : List (ℕ × LoaderView)) : Type 0 where
  pub manned : IsManned seat after
  pub own : (name : ℕ) → loader_of step ≡ Some name
      → (refused : Bool) × OwnReply (own_in (states_of loaders) name) step refused reply (own_in (states_of after) name)
  pub others : (name : ℕ) → loader_of step ≢ Some name → named after name ≡ named loaders name
  pub purge : step ≡ Purge → reply ≡ Done
