use Rattle.std.proofs.Common.{◌≡◌, ◌++◌, drop, true, false}
use Rattle.std.specs.Prelude.{string_bytes}
use Rattle.ms_json.specs.Rows.{members_run}
use Rattle.ms_json.specs.Leaves.{are_leaves, leaf_rows}
use Rattle.ms_json.proofs.writing.push_leaves.Given as goal

-- the text so far, then the members of the later rows
abbrev pub invariant-loop-label : goal.invariant-loop-label
invariant-loop-label l =
    (string_bytes l.fn.text ++ members_run false (leaf_rows l.rows)
    ≡ string_bytes l.text ++ members_run l.later (leaf_rows (drop l.label-index l.rows)))
    × (are_leaves (drop l.label-index l.rows) ≡ true)
