use Rattle.std.proofs.Common.{◌≡◌, ◌++◌, drop}
use Rattle.std.specs.Prelude.{string_bytes}
use Rattle.ms_report.specs.Layout.{header, level_table, level_lines}
use Rattle.ms_report.proofs.sections.push_levels.Given as goal

-- the text so far, then the lines of the later levels
abbrev pub invariant-loop-number : goal.invariant-loop-number
invariant-loop-number l =
    string_bytes l.fn.text ++ header level_table ++ level_lines 0 l.space.held l.space.free
    ≡ string_bytes l.text ++ level_lines l.number (drop l.number l.space.held) (drop l.number l.space.free)
