-- The sums that the pool tells count at least the caller's own: its chunks are some of those held.
-- For `totals`.
use Rattle.std.proofs.Common.{◌≡◌, ℕ, ◌==◌, cond, get_or, ap, ◌∙◌, arith}
use Rattle.std.specs.List.{count_by, sum_by}
use Rattle.std.proofs.lemmas.List.FromFn.{get_or-map-range_with_len}
use Rattle.ms_base.specs.declared.span.Chunk.{Chunk}
use Rattle.ms_base.specs.Level.{size_of, level_count}
use Rattle.ms_base.specs.Totals.{PoolSums, pool_sums}
use Rattle.ms_pool.specs.Account.{AccountState, AreChunks}
use Rattle.ms_pool.specs.Ledger.{Ledger, state_in, held_in, opened_in}
use Rattle.ms_pool.specs.Calls.{sums_in}
use Rattle.ms_pool.specs.declared.totals.PoolTotals.{PoolTotals}
use Rattle.ms_pool.proofs.ledger.HeldLoanLemmas.{own_sum_within}
use Rattle.ms_shared.specs.SeatView.{SeatState, ServesBy, IsKnown}
use Rattle.ms_shared.specs.LockCalls.{CountsOwn}
use Rattle.ms_shared.proofs.LockCallLemmas.{served_by_pool}

abbrev one_if_level : ℕ → Chunk → ℕ
one_if_level level chunk = cond (chunk.level == level) 1 0

pub counts_own : (pool : Ledger) (seat : SeatState) (account : AccountState) (totals : PoolTotals)
    → IsKnown pool seat.knows
    → ServesBy seat.knows account
    → AreChunks account.space account.chunks
    → sums_in totals ≡ pool_sums (state_in account.space pool) (opened_in pool account.space)
    → CountsOwn seat account totals
counts_own pool seat account totals known serves chunks sums =
    let served = served_by_pool pool seat.knows account known serves in
    let within = λ (amount : Chunk → ℕ). own_sum_within pool account amount served chunks in record {
      lent = λ level below.
          let counted = λ (n : ℕ). count_by (λ (chunk : Chunk). chunk.level == n) (held_in account.space pool) in
          let all = ap (λ (s : PoolSums). get_or s.lent level 0) sums
          ∙ get_or-map-range_with_len counted 0 level_count level level 0 below (omega arith) in
          let own = within (λ chunk. one_if_level level chunk) in omega arith;
      capacity =
          let all : totals.capacity ≡ sum_by (λ (chunk : Chunk). size_of chunk.level) (held_in account.space pool) =
          ap (λ (s : PoolSums). s.capacity) sums in
          let own = within (λ chunk. size_of chunk.level) in omega arith;
      fronts =
          let all : totals.fronts ≡ sum_by (λ (chunk : Chunk). chunk.front) (held_in account.space pool) =
          ap (λ (s : PoolSums). s.fronts) sums in
          let own = within (λ chunk. chunk.front) in omega arith;
      accounts =
          let all : totals.accounts ≡ opened_in pool account.space = ap (λ (s : PoolSums). s.accounts) sums in
          let most = known.opened account.space in omega arith;
    }
