use Rattle.std.proofs.Common.{◌≡◌, ◌≤◌, take, length, vec_len}
use Rattle.std.specs.Vec.{vec_capacity}
use Rattle.ms_base.specs.Run.{Run}
use Rattle.ms_loaders.proofs.system.System.run.Given as goal

-- The replies so far are those of a run of the steps so far, and there is room for the rest.
abbrev pub invariant-loop-step : goal.invariant-loop-step
invariant-loop-step l = record {
  so_far : Run l.fn.self (take l.step-index l.steps) l.replies.items l.self;
  told : vec_len l.replies ≡ l.step-index;
  room : length l.steps ≤ vec_capacity l.replies;
}
