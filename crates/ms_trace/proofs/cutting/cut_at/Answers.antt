-- The first separator's offset cuts the text.
use Rattle.std.proofs.Common.{◌+◌, nat_eq, sym, ◌∙◌}
use Rattle.std.proofs.lemmas.List.{take_rest}
use Rattle.ms_trace.proofs.CutLemmas.{cut_nowhere, cut_there}
use Rattle.ms_trace.proofs.cutting.cut_at.Goals as goal

pub returns-in-None-clause-parts : goal.returns-in-None-clause-parts
returns-in-None-clause-parts c =
    cut_nowhere (λ byte. nat_eq byte c.args.separator) c.args.text.now (sym c.in-None.is ∙ c.requires)

pub returns-in-Some-clause-parts : goal.returns-in-Some-clause-parts
returns-in-Some-clause-parts c =
    rw (take_rest c.args.text.now (c.in-Some.at + 1))
    (cut_there (λ byte. nat_eq byte c.args.separator) c.args.text.now c.in-Some.at (sym c.in-Some.is ∙ c.requires))
