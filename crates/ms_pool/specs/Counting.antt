-- What is counted of chunks, as they come and go, and of the free parts of all roots.
use Rattle.std.specs.Prelude.{◌≡◌, ℕ, ◌+◌, ◌<◌, ◌≤◌, ◌^◌, ◌==◌, cond, List, get_or, length}
use Rattle.std.specs.List.{sum_by}
use Rattle.ms_base.specs.declared.span.Chunk.{Chunk}
use Rattle.ms_base.specs.Level.{size_of, level_count}
use Rattle.ms_base.specs.declared.kind.Space.{Space}
use Rattle.ms_base.specs.Spaces.{by_space, other_space}
use Rattle.ms_pool.specs.declared.lent.Counted.{Counted}
use Rattle.ms_pool.specs.declared.lent.Lent.{Lent}

-- A sum over chunks, and what a chunk adds: one to its level, its words, those of its front. These
-- words stand for long ones: a proof looks into them where it has to.
unfoldable pub total : (Chunk → ℕ) → List Chunk → ℕ
total amount chunks = sum_by amount chunks

abbrev pub one_of : ℕ → Chunk → ℕ
one_of level chunk = cond (chunk.level == level) 1 0

abbrev pub words_in : Chunk → ℕ
words_in chunk = size_of chunk.level

abbrev pub front_in : Chunk → ℕ
front_in chunk = chunk.front

-- The count of each level can be raised by what is still to be counted.
abbrev pub HasRoom : List ℕ → (ℕ → ℕ) → Type 0
HasRoom counts more = (level : ℕ) → level < level_count → get_or counts level 0 + more level < 2 ^ 32

-- What is counted of chunks: how many of each level, their words, and those of their fronts.
pub record AreCounted (chunks : List Chunk) (counted : Counted) : Type 0 where
  pub full : length counted.lent ≡ level_count
  pub lent : (level : ℕ) → level < level_count → get_or counted.lent level 0 ≡ total (one_of level) chunks
  pub capacity : counted.capacity ≡ total words_in chunks
  pub fronts : counted.fronts ≡ total front_in chunks

-- A chunk more can be counted; a chunk less, and so many less.
pub record HasRoomFor (counted : Counted) (chunk : Chunk) : Type 0 where
  pub low : chunk.level < level_count
  pub lent : get_or counted.lent chunk.level 0 + 1 < 2 ^ 32
  pub capacity : counted.capacity + size_of chunk.level < 2 ^ 64
  pub fronts : counted.fronts + chunk.front < 2 ^ 64

pub record HasLeast (counted : Counted) (chunk : Chunk) : Type 0 where
  pub lent : 1 ≤ get_or counted.lent chunk.level 0
  pub capacity : size_of chunk.level ≤ counted.capacity
  pub fronts : chunk.front ≤ counted.fronts

pub record HaveLeast (counted : Counted) (chunks : List Chunk) : Type 0 where
  pub lent : (level : ℕ) → level < level_count → total (one_of level) chunks ≤ get_or counted.lent level 0
  pub capacity : total words_in chunks ≤ counted.capacity
  pub fronts : total front_in chunks ≤ counted.fronts

-- Chunks that were counted go, and others come.
pub record Moves (old : Counted) (gone come : List Chunk) (new : Counted) : Type 0 where
  pub full : length new.lent ≡ length old.lent
  pub lent : (level : ℕ) → level < level_count
      → get_or new.lent level 0 + total (one_of level) gone ≡ get_or old.lent level 0 + total (one_of level) come
  pub capacity : new.capacity + total words_in gone ≡ old.capacity + total words_in come
  pub fronts : new.fronts + total front_in gone ≡ old.fronts + total front_in come

-- What was counted in a space.
abbrev pub counted_in : Space → Lent → Counted
counted_in space lent = by_space space lent.space lent.class_space

-- In a space chunks go and others come, and those of the other space stay.
pub record MovesIn (space : Space) (old : Lent) (gone come : List Chunk) (new : Lent) : Type 0 where
  pub own : Moves (counted_in space old) gone come (counted_in space new)
  pub other : counted_in (other_space space) new ≡ counted_in (other_space space) old
