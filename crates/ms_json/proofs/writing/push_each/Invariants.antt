use Rattle.std.proofs.Common.{◌≡◌, ◌++◌, drop, false, map}
use Rattle.std.specs.Prelude.{string_bytes}
use Rattle.ms_json.specs.Rows.{elements_run, natural}
use Rattle.ms_json.proofs.writing.push_each.Given as goal

-- the text so far, then the later numbers
abbrev pub invariant-loop-number : goal.invariant-loop-number
invariant-loop-number l =
    string_bytes l.fn.text ++ elements_run false (map natural l.numbers)
    ≡ string_bytes l.text ++ elements_run l.later (map natural (drop l.number-index l.numbers))
