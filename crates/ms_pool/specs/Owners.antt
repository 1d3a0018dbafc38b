-- To whom the chunk is lent in which a word lies (this project's choice).
use Rattle.std.specs.Prelude.{ℕ, Bool, List, Option}
use Rattle.std.specs.List.{find}
use Rattle.std.specs.Option.{option_map}
use Rattle.ms_base.specs.declared.span.Chunk.{Chunk}
use Rattle.ms_base.specs.Interval.{meet}
use Rattle.ms_base.specs.Level.{size_of}
use Rattle.ms_pool.specs.Ledger.{Loan}

-- The word lies in the chunk.
abbrev pub is_in_chunk : ℕ → Chunk → Bool
is_in_chunk word chunk = meet chunk.start (size_of chunk.level) word 1

-- The word lies in the chunk of the loan.
abbrev pub is_in_loan : ℕ → Loan → Bool
is_in_loan word loan = is_in_chunk word loan.chunk

-- The owner of the loan in whose chunk the word lies, where there is one.
abbrev pub owner_at : List Loan → ℕ → Option ℕ
owner_at loans word = option_map (λ (loan : Loan). loan.owner) (find (is_in_loan word) loans)
