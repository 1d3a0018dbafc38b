-- Accounts: what was lent to one owner in one space (after the chunk list of HotSpot's
-- metaspaceArena.hpp; that the pool keeps a record too is this project's choice).
use Rattle.std.specs.Prelude.{ℕ, ◌<◌, ◌≤◌, ◌^◌, ◌==◌, Bool, List, map, length, IsTrue}
use Rattle.std.specs.List.{All, list_any}
use Rattle.ms_base.specs.declared.kind.Space.{Space}
use Rattle.ms_base.specs.declared.span.Chunk.{Chunk}
use Rattle.ms_base.specs.Level.{size_of}
use Rattle.ms_base.specs.Part.{IsPart, slot_of}
use Rattle.ms_base.specs.Interval.{are_apart}
use Rattle.ms_base.specs.Spaces.{IsSlotOf}
use Rattle.ms_base.specs.Held.{words_of}

-- An account has its owner's number, its space, and its chunks in the order in which they were
-- taken.
pub record AccountState : Type 0 where
  pub owner : ℕ
  pub space : Space
  pub chunks : List Chunk

-- What is true of the chunks of every account: they are parts of their space, each front has a word
-- and fits, no two share a word, and they can be counted.
pub record AreChunks (space : Space) (chunks : List Chunk) : Type 0 where
  pub parts : All (λ chunk. IsPart chunk.start chunk.level) chunks
  pub inside : All (λ chunk. IsSlotOf space (slot_of chunk.start)) chunks
  pub fronts : All (λ chunk. (1 ≤ chunk.front) × (chunk.front ≤ size_of chunk.level)) chunks
  pub apart : IsTrue (are_apart (map words_of chunks))
  pub few : length chunks < 2 ^ 32

-- One of the chunks starts there.
abbrev pub has_chunk_at : List Chunk → ℕ → Bool
has_chunk_at chunks start = list_any (λ chunk. chunk.start == start) chunks
