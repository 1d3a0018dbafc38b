use Rattle.std.proofs.Common.{refl, add-zero}
use Rattle.ms_report.proofs.refused.count_refusal.Goals as goal

pub returns-in-NoBlock : goal.returns-in-NoBlock
returns-in-NoBlock c = rw c.in-NoBlock.is (simp add-zero refl)
