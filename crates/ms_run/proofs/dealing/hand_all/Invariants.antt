use Rattle.std.proofs.Common.{◌≡◌, ◌+◌, drop}
use Rattle.ms_loader_map.specs.Used.{used_in}
use Rattle.ms_run.specs.Dealing.{AreCrews, IsSameSeat}
use Rattle.ms_run.specs.Shares.{names_in, tasks_by}
use Rattle.ms_run.proofs.sharing.HandingLemmas.{IsHanding}
use Rattle.ms_run.proofs.dealing.hand_all.Given as goal

abbrev pub invariant-loop-at : goal.invariant-loop-at
invariant-loop-at l =
    AreCrews l.shared l.from.seat l.from.loaders l.to.seat l.to.loaders
    × IsHanding (names_in (tasks_by l.lines l.indices)) l.fn.from.loaders l.from.loaders l.to.loaders
    (names_in (drop l.at-index (tasks_by l.lines l.indices)))
    × (used_in l.from.loaders + used_in l.to.loaders ≡ used_in l.fn.from.loaders + used_in l.fn.to.loaders)
    × IsSameSeat l.fn.from.seat l.from.seat
    × IsSameSeat l.fn.to.seat l.to.seat
