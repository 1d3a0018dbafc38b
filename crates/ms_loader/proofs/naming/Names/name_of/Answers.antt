use Rattle.std.proofs.Common.{◌∙◌, sym}
use Rattle.ms_loader.proofs.TableLemmas.{named_of}
use Rattle.ms_loader.proofs.calls.FindingLemmas.{some_then, none_then}
use Rattle.ms_loader.proofs.naming.Names.name_of.Goals as goal

pub returns-clause-named : goal.returns-clause-named
returns-clause-named c = rw (← c.self.view_is)
    (some_then _ _ c.name_of.result (λ name its. named_of c.self.inside.table name ∙ its) c.name_of.ensures.named)

pub returns-clause-none : goal.returns-clause-none
returns-clause-none c = rw (← c.self.view_is)
    (none_then _ _ c.name_of.result (λ each name found. each name (sym (named_of c.self.inside.table name) ∙ found))
    c.name_of.ensures.none)
