use Rattle.std.proofs.Common.{◌≡◌, ◌+◌, drop}
use Rattle.ms_page.specs.Largest.{position_of}
use Rattle.ms_page.proofs.largest.position_of.Given as goal

-- those so far come before it
abbrev pub invariant-loop-position : goal.invariant-loop-position
invariant-loop-position l = position_of l.holding l.largest ≡ l.position + position_of l.holding (drop l.position l.largest)
