-- Owners that a seat serves, each with the pool's record of its chunks, in order of address (this
-- project's choice).
use Rattle.std.specs.Prelude.{◌≡◌, ℕ, zero, suc, ◌+◌, ◌≤◌, ◌==◌, ◌⊎◌, ◌&&◌, nat_le, not, Bool, true, false, List, []}
use Rattle.std.specs.Prelude.{◌∷◌}
use Rattle.std.specs.List.{filter}
use Rattle.ms_base.specs.declared.span.Chunk.{Chunk}
use Rattle.ms_pool.specs.Ledger.{Ledger, chunks_of}

abbrev pub Entry : Type 0
Entry = ℕ × List Chunk

-- The owner stands there with these chunks.
abbrev pub Has : List Entry → ℕ → List Chunk → Type 0
Has [] owner chunks = ⊥
Has (entry ∷ entries) owner chunks = (entry ≡ (owner, chunks)) ⊎ Has entries owner chunks

abbrev pub one_if : Bool → ℕ
one_if true = 1
one_if false = 0

-- How often the owner stands there.
abbrev pub times : ℕ → List Entry → ℕ
times owner [] = 0
times owner (entry ∷ entries) = one_if (entry.0 == owner) + times owner entries

-- Once for a number that was given out, the numbers from 1 on, and else not at all.
abbrev pub once_given : ℕ → ℕ → ℕ
once_given owner given = one_if (nat_le 1 owner && nat_le owner given)

-- The pool gave the owner's number out, and these chunks are its record of it.
pub record IsRecord (pool : Ledger) (owner : ℕ) (chunks : List Chunk) : Type 0 where
  pub some : 1 ≤ owner
  pub given : owner ≤ pool.given
  pub chunks_are : chunks_of pool owner ≡ chunks

-- So it is for each owner that stands there.
abbrev pub AreRecords : Ledger → List Entry → Type 0
AreRecords pool [] = Unit {0}
AreRecords pool (entry ∷ entries) = IsRecord pool entry.0 entry.1 × AreRecords pool entries

-- The same owners, with the pool's records of them.
abbrev pub refreshed : Ledger → List Entry → List Entry
refreshed pool [] = []
refreshed pool (entry ∷ entries) = (entry.0, chunks_of pool entry.0) ∷ refreshed pool entries

-- The owners of so many numbers after the first ones, with the pool's records of them.
abbrev pub fresh : Ledger → ℕ → ℕ → List Entry
fresh pool first zero = []
fresh pool first (suc n) = (first + suc n, chunks_of pool (first + suc n)) ∷ fresh pool first n

-- The entries of one owner, and those of all others.
abbrev pub only : ℕ → List Entry → List Entry
only owner entries = filter (λ entry. entry.0 == owner) entries

abbrev pub all_but : ℕ → List Entry → List Entry
all_but owner entries = filter (λ entry. not (entry.0 == owner)) entries
