use Rattle.std.proofs.Common.{◌≡◌, ◌++◌, drop, map}
use Rattle.ms_session.specs.Naming.{line_of, made_in}
use Rattle.ms_session.proofs.naming.names_for.Given as goal

-- The lines so far, then the later `new` lines.
abbrev pub invariant-loop-line : goal.invariant-loop-line
invariant-loop-line l = map line_of l.named.items ++ made_in (drop l.line-index l.lines) ≡ made_in l.lines
