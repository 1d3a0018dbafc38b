use Rattle.std.proofs.Common.{◌≡◌, take, vec_len}
use Rattle.ms_run.specs.Turn.{position_in}
use Rattle.ms_run.specs.Dealing.{AreListed}
use Rattle.ms_run.proofs.dealing.deal_lines.Given as goal

-- each list has the tasks of the lines so far
abbrev pub invariant-loop-index : goal.invariant-loop-index
invariant-loop-index l =
    AreListed l.lines (position_in l.turn) (take l.index l.lines) l.lists.items × (vec_len l.lists ≡ l.count)
