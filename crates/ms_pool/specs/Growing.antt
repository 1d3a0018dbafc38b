-- A chunk of the pool that grows in its place. The first two words stand for long ones: a proof
-- looks into them where it has to.
use Rattle.std.specs.Prelude.{◌≡◌, ◌≤◌, ℕ, ◌*◌, ◌&&◌, ◌==◌, nat_le, cond, Bool, List, Option, Some, None, map}
use Rattle.std.specs.Prelude.{if◌then◌else◌}
use Rattle.ms_base.specs.declared.span.Chunk.{Chunk}
use Rattle.ms_base.specs.Level.{size_of}
use Rattle.ms_base.specs.State.{PoolState}
use Rattle.ms_base.specs.PoolSteps.{may_become_parent, parent_with_front, with_front}
use Rattle.ms_pool.specs.Ledger.{Loan}

-- The chunk may become its parent.
unfoldable pub has_room : PoolState → Chunk → Bool
has_room pool chunk = may_become_parent pool chunk

-- The chunk once it reaches so many words, more than those of its front, whatever the limit: its
-- front rises, or it becomes its parent.
unfoldable pub reached : PoolState → Chunk → ℕ → Bool → Option Chunk
reached pool chunk total may_enlarge =
    if nat_le total (size_of chunk.level) then Some (with_front pool chunk total)
    else if nat_le total (2 * size_of chunk.level) && may_enlarge && has_room pool chunk
    then Some (parent_with_front pool chunk total)
    else None

-- The loans once the chunk that starts there has grown.
abbrev pub with_greater_loan : Chunk → List Loan → List Loan
with_greater_loan chunk loans =
    map (λ (loan : Loan). cond (loan.chunk.start == chunk.start) (record loan { chunk = chunk }) loan) loans

-- A loan from that start has no greater front.
abbrev pub HasNoMore : Chunk → Loan → Type 0
HasNoMore chunk loan = loan.chunk.start ≡ chunk.start → loan.chunk.front ≤ chunk.front
