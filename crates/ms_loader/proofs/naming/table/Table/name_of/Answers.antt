use Rattle.ms_loader.specs.Table.{TableView}
use Rattle.ms_loader.proofs.calls.FindingLemmas.{found_among, none_has_it, none_then}
use Rattle.ms_loader.proofs.naming.table.Table.name_of.Goals as goal

pub returns-in-None-clause-named : goal.returns-in-None-clause-named
returns-in-None-clause-named c =
    let table : TableView =
    record { first = c.self.inside.first; row = c.as_slice-row.result.now; others = c.self.inside.others.entries } in
    rw (← c.self.view_is, ← c.as_slice-row.ensures.value)
    (found_among table c.args.block c.name_among.result c.name_among.ensures.lacks
    c.name_among.ensures.named)

pub returns-in-None-clause-none : goal.returns-in-None-clause-none
returns-in-None-clause-none c =
    let table : TableView =
    record { first = c.self.inside.first; row = c.as_slice-row.result.now; others = c.self.inside.others.entries } in
    rw (← c.self.view_is, ← c.as_slice-row.ensures.value)
    (none_then _ _ c.name_among.result
    (λ others name found. none_has_it table c.args.block c.in-None.ensures.none others name found)
    c.name_among.ensures.none)
