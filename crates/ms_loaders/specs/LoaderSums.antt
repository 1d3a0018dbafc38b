-- The totals of one loader of a machine.
use Rattle.std.specs.Prelude.{◌≡◌, ℕ}
use Rattle.ms_base.specs.declared.kind.Space.TheVariants.{NonClass, Class}
use Rattle.ms_base.specs.State.{LoaderState, Machine}
use Rattle.ms_base.specs.Transition.{HasLoader}
use Rattle.ms_loader.specs.ArenaSums.{AreSumsIn}
use Rattle.ms_loaders.specs.declared.system.sums.LoaderTotals.{LoaderTotals}

-- The totals are the kind of the loader of that name, and the sums over its arena in each space.
pub record AreLoaderSums (m : Machine) (name : ℕ) (totals : LoaderTotals) : Type 0 where
  pub loader : LoaderState
  pub found : HasLoader m name loader
  pub kind : totals.kind ≡ loader.kind
  pub space : AreSumsIn NonClass totals.space loader
  pub class_space : AreSumsIn Class totals.class_space loader
