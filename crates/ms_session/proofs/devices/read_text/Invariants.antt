use Rattle.std.proofs.Common.{◌≤◌, vec_len, ◌-◌}
use Rattle.std.specs.Io.KnownBytes.{Consumes}
use Rattle.ms_session.proofs.devices.read_text.Given as goal

-- what was read so far is the beginning of the input
abbrev pub invariant-loop-piece : goal.invariant-loop-piece
invariant-loop-piece g l =
    (vec_len l.text ≤ l.fn.most) × Consumes (g.R.Read.remaining l.fn.input) (g.R.Read.remaining l.input) l.text.items

abbrev pub decreases-loop-piece : goal.decreases-loop-piece
decreases-loop-piece g l = l.fn.most - vec_len l.text
