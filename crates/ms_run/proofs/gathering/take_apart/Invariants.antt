use Rattle.std.proofs.Common.{◌+◌, ◌≤◌, length, vec_len, vec_capacity}
use Rattle.std.specs.List.{AllByRecursion}
use Rattle.ms_base.specs.Names.{AreNamed}
use Rattle.ms_run.specs.Shares.{IsMannedShare}
use Rattle.ms_run.proofs.sharing.DifferLemmas.{AreOthers}
use Rattle.ms_run.proofs.sharing.TakenApartLemmas.{AreTaken}
use Rattle.ms_run.proofs.gathering.take_apart.Given as goal

-- Both seats and loaders of the shares so far, room for the seats that are left, and other names
-- there; names rise in the loaders so far, and the shares that are left are manned.
abbrev pub invariant-loop-share : goal.invariant-loop-share
invariant-loop-share l =
    AreTaken l.seats.items l.meters.items l.loaders l.share-iterator.rest.items l.fn.shares.items
    × (vec_len l.seats + length l.share-iterator.rest.items ≤ vec_capacity l.seats)
    × (vec_len l.meters + length l.share-iterator.rest.items ≤ vec_capacity l.meters)
    × AreOthers l.loaders l.share-iterator.rest.items
    × AreNamed l.loaders
    × AllByRecursion IsMannedShare l.share-iterator.rest.items
