-- What a call on any source of chunks does to the account that it is made for.
use Rattle.std.specs.Prelude.{◌≡◌, ℕ, ◌-◌, ◌*◌, ◌<◌, ◌≤◌, Bool, nat_le, [], ◌∷◌, ◌++◌, slice_get, slice_set, Some}
use Rattle.std.specs.Prelude.{IsTrue, if◌then◌else◌}
use Rattle.ms_base.specs.declared.policy.Policy.{Policy}
use Rattle.ms_base.specs.declared.span.Chunk.{Chunk}
use Rattle.ms_base.specs.declared.span.Span.{Span}
use Rattle.ms_base.specs.Level.{size_of}
use Rattle.ms_base.specs.Part.{is_leader}
use Rattle.ms_base.specs.Front.{front_for}
use Rattle.ms_pool.specs.Account.{AccountState}

-- Where a chunk lies.
abbrev pub span_of : Chunk → Span
span_of chunk = record { start = chunk.start; level = chunk.level }

-- The chunk of a span, with a front for so many words.
abbrev pub chunk_at : Policy → Span → ℕ → Chunk
chunk_at policy span words =
    record { start = span.start; level = span.level; front = front_for policy (size_of span.level) words }

-- What a chunk may be asked for: a wanted level, the most that serves, and words that the latter
-- has.
pub record MayTake (wanted most words : ℕ) : Type 0 where
  pub levels : wanted ≤ most
  pub some : 1 ≤ words
  pub fits : words ≤ size_of most

-- A chunk of a level from the one wanted up to the most that serves is added last, with a front for
-- the words.
pub record Adds (policy : Policy) (wanted most words : ℕ) (old : AccountState) (span : Span)
    (new : AccountState) : Type 0 where
  pub at_least : wanted ≤ span.level
  pub at_most : span.level ≤ most
  pub after : new ≡ record old { chunks = old.chunks ++ chunk_at policy span words ∷ [] }

-- The parent of a leader, as a span.
abbrev pub parent_of : Chunk → Span
parent_of chunk = record { start = chunk.start; level = chunk.level - 1 }

-- The chunk once it reaches so many words in all: as it was, with a greater front, or as its
-- parent.
abbrev pub reaching : Policy → Chunk → ℕ → Chunk
reaching policy chunk total =
    if nat_le total chunk.front then chunk
    else if nat_le total (size_of chunk.level) then chunk_at policy (span_of chunk) total
    else chunk_at policy (parent_of chunk) total

-- A chunk becomes its parent only where it may, it is no root and the leader, and the parent is
-- large enough.
pub record MayBeParent (chunk : Chunk) (total : ℕ) (may_enlarge : Bool) : Type 0 where
  pub may : IsTrue may_enlarge
  pub no_root : 0 < chunk.level
  pub leader : IsTrue (is_leader chunk.start chunk.level)
  pub fits : total ≤ 2 * size_of chunk.level

-- The chunk that starts there reaches so many words, in its place among the others.
pub record Grows (policy : Policy) (start total : ℕ) (may_enlarge : Bool) (old : AccountState)
    (span : Span) (new : AccountState) : Type 0 where
  pub index : ℕ
  pub chunk : Chunk
  pub found : slice_get old.chunks index ≡ Some chunk
  pub starts : chunk.start ≡ start
  pub enlarged : size_of chunk.level < total → MayBeParent chunk total may_enlarge
  pub answer : span ≡ span_of (reaching policy chunk total)
  pub after : new ≡ record old { chunks = slice_set old.chunks index (reaching policy chunk total) }
