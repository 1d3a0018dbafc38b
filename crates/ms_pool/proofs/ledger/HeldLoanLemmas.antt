-- What an account holds, against what is held of its space. What counts chunks over a space rests
-- on this.
use Rattle.std.proofs.Common.{◌≡◌, ◌≤◌, ℕ, ◌+◌, List, ◌++◌, arith}
use Rattle.std.specs.List.{sum_by}
use Rattle.std.proofs.lemmas.List.Sorted.{sum_by-IsPermutation}
use Rattle.std.proofs.lemmas.List.Sums.{sum_by-append}
use Rattle.ms_base.specs.declared.span.Chunk.{Chunk}
use Rattle.ms_pool.specs.Account.{AccountState, AreChunks}
use Rattle.ms_pool.specs.Ledger.{Ledger, Serves, chunks_of, held_in, others_than}
use Rattle.ms_pool.proofs.ledger.LoanLemmas.{chunks_in}
use Rattle.ms_pool.proofs.ledger.AccountLemmas.{own_lie_in}
use Rattle.ms_pool.proofs.ledger.FewerLemmas.{owned_and_others}

-- A sum over a space is that over an account's chunks and that over the chunks of the others.
pub own_sum : (ledger : Ledger) (account : AccountState) (amount : Chunk → ℕ) → Serves ledger account
    → AreChunks account.space account.chunks
    → sum_by amount (held_in account.space ledger)
    ≡ sum_by amount account.chunks + sum_by amount (chunks_in account.space (others_than account.owner ledger.loans))
own_sum ledger account amount served chunks = omega (
  arith,
  sum_by-IsPermutation amount own account.chunks served.chunks,
  sum_by-IsPermutation amount (held_in account.space ledger) (own ++ others)
      (owned_and_others account.space account.owner ledger.loans (own_lie_in ledger account served chunks)),
  sum_by-append amount own others,
)
  where
    own : List Chunk
    own = chunks_of ledger account.owner

    others : List Chunk
    others = chunks_in account.space (others_than account.owner ledger.loans)

-- So that over the account's chunks is within it.
pub own_sum_within : (ledger : Ledger) (account : AccountState) (amount : Chunk → ℕ) → Serves ledger account
    → AreChunks account.space account.chunks
    → sum_by amount account.chunks ≤ sum_by amount (held_in account.space ledger)
own_sum_within ledger account amount served chunks = omega (arith, own_sum ledger account amount served chunks)
