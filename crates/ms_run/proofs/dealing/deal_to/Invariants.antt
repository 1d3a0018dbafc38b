use Rattle.std.proofs.Common.{◌≡◌, ◌≤◌, drop, vec_len, vec_capacity}
use Rattle.ms_run.specs.Dealing.{AreWorkersFrom}
use Rattle.ms_run.specs.Turn.{position_in}
use Rattle.ms_run.specs.Shares.{position_for}
use Rattle.ms_run.proofs.sharing.DealLemmas.{IsDealing}
use Rattle.ms_run.proofs.sharing.ListingLemmas.{AreLeft}
use Rattle.ms_run.proofs.metered.DealtUseLemmas.{IsShared}
use Rattle.ms_run.proofs.dealing.deal_to.Given as goal

abbrev pub invariant-loop-seat : goal.invariant-loop-seat
invariant-loop-seat l =
    IsDealing (position_for (position_in l.turn) l.lines) l.shared (vec_len l.fn.seats)
    l.lines l.fn.loaders l.first.seat l.first.loaders
    l.seat-iterator.rest.items l.shares.items
    × (vec_len l.fn.seats ≤ vec_capacity l.shares)
    × AreLeft (position_in l.turn) l.lines (vec_len l.shares) l.lists.items
    × (vec_len l.lists ≡ vec_len l.fn.seats)
    × IsShared l.fn.loaders (drop 1 l.fn.meters.items) l.first.loaders l.meters.items l.seat-iterator.rest.items
    l.shares.items
    × AreWorkersFrom l.turn.active 1 l.shares.items
