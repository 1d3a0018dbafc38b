use Rattle.std.proofs.Common.{◌∙◌, ap, length, map}
use Rattle.ms_session.specs.Naming.{line_of, made_in}
use Rattle.ms_session.proofs.ChartLemmas.{document_is}
use Rattle.ms_session.proofs.answering.document_of.Goals as goal

pub returns-clause-ok : goal.returns-clause-ok
returns-clause-ok g c =
    let count = ap length c.as_slice.ensures in
    document_is c.args.options.now c.args.trace.now _ _ _ _ _ _ _ _ _ c.in_ok-document.ensures c.in_ok-chart.ensures.none
    (c.in_ok-chart.ensures.lines ∙ count) c.in_ok-end.ensures.observed count c.columns-columns.ensures
    (λ none. c.as_slice-3.ensures.value ∙ c.in_ok-named.ensures.none none)
    (λ some. ap (map line_of) c.as_slice-3.ensures.value ∙ c.in_ok-named.ensures.made some ∙ ap made_in c.as_slice-2.ensures)
    c.in_ok-text.ensures
