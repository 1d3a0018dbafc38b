use Rattle.std.proofs.Common.{◌≡◌, ℕ, ◌<◌, false, length, get_or}
use Rattle.ms_c.specs.Sums.{bit_at}
use Rattle.ms_c.proofs.telling.write_bits.Given as goal

-- as many elements as before, and those so far are written
abbrev pub invariant-loop-index : goal.invariant-loop-index
invariant-loop-index l =
    (length l.out ≡ length l.fn.out)
    × ((k : ℕ) → k < l.index → get_or l.out k false ≡ bit_at l.fn.system l.fn.first k)
