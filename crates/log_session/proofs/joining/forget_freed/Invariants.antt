-- From here on the freed blocks are forgotten, and known.
use Rattle.std.proofs.Common.{◌≡◌, ◌≤◌, ◌++◌, ℕ, take, drop, length}
use Rattle.log_session.specs.Joining.{forgotten, has, is_freed_in}
use Rattle.log_session.proofs.joining.forget_freed.Given as goal

abbrev pub invariant-loop-at : goal.invariant-loop-at
invariant-loop-at l = record {
  lines : l.lines.items ≡ take l.at l.fn.lines.items ++ forgotten (drop l.at l.fn.lines.items);
  within : l.at ≤ length l.fn.lines.items;
  freed : (loader block : ℕ) → has l.freed loader block ≡ is_freed_in (drop l.at l.fn.lines.items) loader block;
}

abbrev pub decreases-loop-at : goal.decreases-loop-at
decreases-loop-at l = l.at
