use Rattle.std.proofs.Common.{ap, sym}
use Rattle.ms_base.specs.Policy.{granule_of}
use Rattle.ms_base.proofs.policy.granule.Goals as goal

pub returns-in-Aggressive : goal.returns-in-Aggressive
returns-in-Aggressive c = ap granule_of (sym c.in-Aggressive.is)
