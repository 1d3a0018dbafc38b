use Rattle.std.proofs.Common.{◌≡◌, ◌++◌, drop, true, false}
use Rattle.std.specs.Prelude.{string_bytes}
use Rattle.ms_json.specs.Rows.{are_plain, members_run, number_rows}
use Rattle.ms_json.proofs.writing.push_numbers.Given as goal

-- the text so far, then the members of the later rows
abbrev pub invariant-loop-label : goal.invariant-loop-label
invariant-loop-label l =
    (string_bytes l.fn.text ++ members_run false (number_rows l.rows)
    ≡ string_bytes l.text ++ members_run l.later (number_rows (drop l.label-index l.rows)))
    × (are_plain (drop l.label-index l.rows) ≡ true)
