-- What the fields of a system stand for, and what holds of them.
use Rattle.std.specs.Prelude.{◌≡◌}
use Rattle.ms_base.specs.State.{Machine}
use Rattle.ms_loaders.specs.System.{machine_of, AreTogether}
use Rattle.ms_loaders.specs.declared.system.System.TheInside.{Inside}

-- The machine that a system is.
abbrev pub view_of : Inside → Machine
view_of a = machine_of a.pool a.loaders

-- Pool and loaders belong together, and the policy is the pool's.
pub record IsSystem (a : Inside) : Type 0 where
  pub together : AreTogether a.pool a.loaders
  pub policy_is : a.policy ≡ a.pool.limits.policy
