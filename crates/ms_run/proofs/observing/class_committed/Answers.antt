use Rattle.std.proofs.Common.{◌∙◌, sym}
use Rattle.ms_run.proofs.metered.AmountLemmas.{no_class_granules}
use Rattle.ms_run.proofs.observing.class_committed.Goals as goal

pub returns-then-class_nodes-eq0 : goal.returns-then-class_nodes-eq0
returns-then-class_nodes-eq0 c =
    sym (no_class_granules c.args.system.now c.requires.good (sym c.requires.nodes ∙ c.if-class_nodes-eq0.true))
