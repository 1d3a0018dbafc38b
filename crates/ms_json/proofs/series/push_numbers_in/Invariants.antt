use Rattle.std.proofs.Common.{◌≡◌, ◌++◌, drop, false}
use Rattle.std.specs.Prelude.{string_bytes}
use Rattle.ms_json.specs.Rows.{elements_run}
use Rattle.ms_json.specs.Series.{numbers_in}
use Rattle.ms_json.proofs.series.push_numbers_in.Given as goal

-- the text so far, then the numbers of the later columns
abbrev pub invariant-loop-column : goal.invariant-loop-column
invariant-loop-column l =
    string_bytes l.fn.text ++ elements_run false (numbers_in l.series l.columns)
    ≡ string_bytes l.text ++ elements_run l.later (numbers_in l.series (drop l.column-index l.columns))
