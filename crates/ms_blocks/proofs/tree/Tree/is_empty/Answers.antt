use Rattle.ms_blocks.proofs.ClassLemmas.{not_none}
use Rattle.ms_blocks.proofs.tree.Tree.is_empty.Goals as goal

pub returns-in-Forked-clause-some : goal.returns-in-Forked-clause-some
returns-in-Forked-clause-some g c not none = not_none _ _ _ (rw c.in-Forked.is at none)
