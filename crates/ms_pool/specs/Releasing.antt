-- A chunk of the pool that is taken back.
use Rattle.std.specs.Prelude.{◌≡◌, ◌<◌, ◌/◌, ◌%◌, Bool, not, ◌&&◌, ◌==◌, List, [], Some, get_or, length}
use Rattle.std.specs.List.{All, filter, find, list_any}
use Rattle.ms_base.specs.declared.span.Chunk.{Chunk}
use Rattle.ms_base.specs.declared.span.Span.{Span}
use Rattle.ms_base.specs.Level.{root_words}
use Rattle.ms_buddy.specs.Leaves.{LentLeaf, AreLeaves, covers, free_of}
use Rattle.ms_pool.specs.Keeping.{loans_from}
use Rattle.ms_pool.specs.Ledger.{Loan, Ledger, recommitted}

-- The loan is of the chunk's span.
abbrev pub is_at : Chunk → Loan → Bool
is_at chunk loan = (loan.chunk.start == chunk.start) && (loan.chunk.level == chunk.level)

-- A loan is of the chunk's span.
abbrev pub is_lent_in : List Loan → Chunk → Bool
is_lent_in loans chunk = list_any (is_at chunk) loans

-- The loans but that of the chunk's span.
abbrev pub without_loan : Chunk → List Loan → List Loan
without_loan chunk loans = filter (λ loan. not (is_at chunk loan)) loans

-- The trees have taken the chunk back, and its span lies in that free leaf.
pub record TakesBack (old : List (List LentLeaf)) (chunk : Chunk) (part : Span)
    (new : List (List LentLeaf)) : Type 0 where
  pub loans : loans_from 0 new ≡ without_loan chunk (loans_from 0 old)
  pub leaves : All AreLeaves new
  pub count : length new ≡ length old
  pub there : chunk.start / root_words < length old
  pub free : find (covers (chunk.start % root_words)) (free_of (get_or new (chunk.start / root_words) [])) ≡ Some part

-- The pool once the chunk is taken back.
abbrev pub with_released : Ledger → Chunk → Ledger
with_released ledger chunk = recommitted (record ledger { loans = without_loan chunk ledger.loans })
