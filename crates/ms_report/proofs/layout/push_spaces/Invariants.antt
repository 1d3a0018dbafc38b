use Rattle.std.proofs.Common.{◌≡◌, ◌++◌}
use Rattle.std.specs.Prelude.{string_bytes, replicate}
use Rattle.ms_report.proofs.layout.push_spaces.Given as goal

-- the text so far, then the spaces that are left
abbrev pub invariant-loop-left : goal.invariant-loop-left
invariant-loop-left l =
    string_bytes l.fn.text ++ replicate l.count 32 ≡ string_bytes l.text ++ replicate l.left 32

abbrev pub decreases-loop-left : goal.decreases-loop-left
decreases-loop-left l = l.left
