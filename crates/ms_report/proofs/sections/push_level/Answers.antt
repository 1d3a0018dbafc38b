-- The first number's width of seven is two spaces and a level's column.
use Rattle.std.proofs.Common.{arith}
use Rattle.std.specs.Prelude.{string_bytes}
use Rattle.ms_report.proofs.ColumnLemmas.{level_added}
use Rattle.ms_report.proofs.sections.push_level.Goals as goal

pub returns : goal.returns
returns c =
    level_added c.push_four.result (string_bytes c.args.text.now) _ c.args.level c.args.held c.args.free
    (omega (arith, c.number.ensures.same, c.number.ensures.below))
    (rw (c.from.ensures, c.number.ensures.same, c.words.ensures.size, c.from-2.ensures, c.from-3.ensures)
    at c.push_four.ensures)
