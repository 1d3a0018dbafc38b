use Rattle.std.proofs.Common.{◌≡◌, ◌≤◌, ◌+◌, ◌++◌, length, map, vec_len, vec_capacity}
use Rattle.std.specs.List.{All}
use Rattle.std.specs.Vec.Iter.{into_iter_items, into_iter_len}
use Rattle.ms_run.specs.Shares.{IsReadyFor}
use Rattle.ms_run.proofs.working.fn.work_all.scope.Given as goal

abbrev pub invariant-loop-share : goal.invariant-loop-share
invariant-loop-share g l =
    let rest = l.share-iterator in
    (map (λ handle. handle.promise.share.value) l.handles.items ++ into_iter_items rest
    ≡ into_iter_items l.initial.share-iterator)
    × All (IsReadyFor l.shared.now l.meter.now) (into_iter_items rest)
    × (length (into_iter_items rest) ≡ into_iter_len rest)
    × (vec_len l.handles + into_iter_len rest ≤ vec_capacity l.handles)
    × All (λ handle. handle.promise.gate.value ≡ l.gate.now) l.handles.items
    × All (λ handle. handle.promise.lines.value.now ≡ l.lines.now) l.handles.items
