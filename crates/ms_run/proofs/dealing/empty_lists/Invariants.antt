use Rattle.std.proofs.Common.{◌≡◌, ◌≤◌, vec_len, vec_capacity}
use Rattle.ms_run.specs.Dealing.{AreEmpty}
use Rattle.ms_run.proofs.dealing.empty_lists.Given as goal

abbrev pub invariant-loop : goal.invariant-loop
invariant-loop l = AreEmpty l.lists.items × (vec_len l.lists ≡ l.counter) × (l.count ≤ vec_capacity l.lists)
