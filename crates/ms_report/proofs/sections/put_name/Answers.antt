-- A width of seven is two spaces and the name's column.
use Rattle.std.proofs.Common.{ℕ, List, ◌++◌, ◌∙◌, ap, codes, decimal}
use Rattle.ms_report.specs.Layout.{right_in}
use Rattle.ms_report.proofs.ColumnLemmas.{two_wider}
use Rattle.ms_report.proofs.sections.put_name.Goals as goal

pub returns : goal.returns
returns c =
    let name : ℕ = c.args.name in
    c.put_right.ensures.written
    ∙ ap (λ (n : ℕ). right_in 7 (decimal n) ++ c.put_word.new.self) c.from.ensures
    ∙ ap (λ (front : List ℕ). front ++ c.put_word.new.self) (two_wider name c.ranges.name.fits)
    ∙ ap (λ (later : List ℕ). codes "  " ++ (right_in 5 (decimal name) ++ later))
    (c.put_word.ensures ∙ ap (λ (cell : List ℕ). cell ++ c.args.line.now) c.kind_cell.ensures.cell)
