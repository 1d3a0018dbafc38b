use Rattle.std.proofs.Common.{◌≡◌, ℕ, ◌<◌, false, length, get_or}
use Rattle.ms_member.specs.Member.{granule_at}
use Rattle.ms_member.proofs.member.write_granules.Given as goal

-- as many elements as before, and those so far are written
abbrev pub invariant-loop-index : goal.invariant-loop-index
invariant-loop-index l =
    (length l.out ≡ length l.fn.out)
    × ((k : ℕ) → k < l.index → get_or l.out k false ≡ granule_at l.fn.held.pool l.fn.first k)
