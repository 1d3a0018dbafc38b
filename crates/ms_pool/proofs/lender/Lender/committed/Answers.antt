use Rattle.std.proofs.Common.{sym, ◌∙◌}
use Rattle.ms_base.specs.declared.kind.Space.TheVariants.{NonClass}
use Rattle.ms_commit.proofs.SpaceLemmas.{are_of_two_spaces}
use Rattle.ms_pool.proofs.lender.Lender.committed.Goals as goal

pub returns : goal.returns
returns c =
    c.committed.ensures.count ∙ sym ((are_of_two_spaces c.args.self.now.nodes c.requires.nodes).counted NonClass)
