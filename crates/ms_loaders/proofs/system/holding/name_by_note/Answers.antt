use Rattle.std.proofs.Common.{sym, ◌∙◌}
use Rattle.ms_loaders.proofs.HolderLemmas.{looked_up}
use Rattle.ms_loaders.proofs.system.holding.name_by_note.Goals as goal

pub returns-then-owns : goal.returns-then-owns
returns-then-owns c = looked_up c.args.loaders.now c.in-Some.name c.args.owner c.in-Some-get.loader.now
    (sym c.in-Some-get.ensures) (sym c.owns.ensures ∙ c.if-owns.true)
