-- The names passed so far are in use.
use Rattle.std.proofs.Common.{◌≡◌, ℕ, ◌≤◌, ◌<◌, Some, true}
use Rattle.std.specs.Prelude.{slice_get}
use Rattle.jvm_log.proofs.names.free_from.Given as goal

abbrev pub invariant-loop-name : goal.invariant-loop-name
invariant-loop-name l = (q : ℕ) → l.fn.first ≤ q → q < l.name → slice_get l.used q ≡ Some true
