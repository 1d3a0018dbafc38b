-- What was written of the line, column by column from the right, is the line of the table.
use Rattle.std.specs.Prelude.{string_bytes}
use Rattle.ms_answers.specs.Sums.{row_in}
use Rattle.ms_report.proofs.ColumnLemmas.{row_added}
use Rattle.ms_report.proofs.sections.push_row.Goals as goal

pub returns : goal.returns
returns c =
    row_added c.push_to.result (string_bytes c.args.text.now) _ _ (row_in c.args.row.now)
    (rw (
      c.put_right-4.ensures.written,
      c.put_right-3.ensures.written,
      c.put_right-2.ensures.written,
      c.put_right.ensures.written,
      c.end-line.ensures,
      c.from.ensures,
    ) at c.put_name.ensures) c.push_to.ensures
