-- What has to hold of a chunk before it has its span: in the trees of the roots, and in the pool.
use Rattle.std.specs.Prelude.{◌≡◌, ◌<◌, ◌≤◌, ◌⊎◌, ℕ, ◌+◌, ◌*◌, ◌/◌, ◌%◌, IsTrue, List, [], get_or, length}
use Rattle.std.specs.List.{All}
use Rattle.ms_base.specs.declared.kind.Space.{Space}
use Rattle.ms_base.specs.declared.span.Chunk.{Chunk}
use Rattle.ms_base.specs.Level.{highest_level, root_words, size_of}
use Rattle.ms_base.specs.Part.{IsPart, is_reserved, slot_of}
use Rattle.ms_commit.specs.Nodes.{slots_of}
use Rattle.ms_buddy.specs.Leaves.{LentLeaf, can_enlarge, free_of, is_lent, span_at}
use Rattle.ms_pool.specs.declared.lender.Lender.{Lender}
use Rattle.ms_pool.specs.Ledger.{IsSoundLedger, state_in, with_grown, with_lent}
use Rattle.ms_pool.specs.Growing.{HasNoMore, has_room}
use Rattle.ms_pool.specs.Keeping.{IsOpen, IsRunOf, ledger_of}
use Rattle.ms_pool.specs.Releasing.{is_lent_in}
use Rattle.ms_pool.specs.Searching.{lacking}

-- A chunk that the trees may lend: a part of one of their roots, whose front has a word and fits.
pub record MayBeCarved (trees : List (List LentLeaf)) (chunk : Chunk) : Type 0 where
  pub there : chunk.start < root_words * length trees
  pub placed : IsPart chunk.start chunk.level
  pub some : 1 ≤ chunk.front
  pub within : chunk.front ≤ size_of chunk.level

-- The tree of the chunk's root, of all trees.
abbrev pub tree_of : List (List LentLeaf) → Chunk → List LentLeaf
tree_of trees chunk = get_or trees (chunk.start / root_words) []

-- A chunk that the trees lend and that may become the greater one: with another front, or as its
-- parent, where the buddy is a free leaf.
pub record MayBeRaised (trees : List (List LentLeaf)) (chunk greater : Chunk) : Type 0 where
  pub there : chunk.start < root_words * length trees
  pub lent : IsTrue (is_lent (tree_of trees chunk) (span_at (chunk.start % root_words) chunk.level))
  pub low : chunk.level ≤ highest_level
  pub start : greater.start ≡ chunk.start
  pub some : 1 ≤ greater.front
  pub within : greater.front ≤ size_of greater.level
  pub grows : (greater.level ≡ chunk.level)
      ⊎ ((greater.level + 1 ≡ chunk.level)
      × IsTrue (can_enlarge (span_at (chunk.start % root_words) chunk.level) (free_of (tree_of trees chunk))))

-- A chunk that the pool may lend to an owner: a part of an open slot of the space, whose front lies
-- there and keeps the limit.
pub record MayBeLent (lender : Lender) (space : Space) (owner : ℕ) (chunk : Chunk) : Type 0 where
  pub placed : IsPart chunk.start chunk.level
  pub some : 1 ≤ chunk.front
  pub within : chunk.front ≤ size_of chunk.level
  pub inside : IsRunOf space chunk.start chunk.front
  pub slot : IsOpen space lender.nodes (slot_of chunk.start)
  pub limit : length lender.nodes.granules + lacking (state_in space (ledger_of lender)) chunk
      ≤ lender.nodes.limits.granules
  pub sound : IsSoundLedger (with_lent (ledger_of lender) space owner chunk)

-- A chunk that the pool lends in the space.
pub record IsLentThere (lender : Lender) (space : Space) (chunk : Chunk) : Type 0 where
  pub lent : IsTrue (is_lent_in (ledger_of lender).loans chunk)
  pub reserved : IsTrue (is_reserved (slots_of space lender.nodes) (slot_of chunk.start))

-- It may become the greater one: whose front is no smaller, lies in the space and keeps the limit.
pub record MayBeReplaced (lender : Lender) (space : Space) (chunk greater : Chunk) : Type 0 where
  pub low : chunk.level ≤ highest_level
  pub start : greater.start ≡ chunk.start
  pub placed : IsPart greater.start greater.level
  pub some : 1 ≤ greater.front
  pub within : greater.front ≤ size_of greater.level
  pub inside : IsRunOf space greater.start greater.front
  pub higher : All (HasNoMore greater) (ledger_of lender).loans
  pub grows : (greater.level ≡ chunk.level)
      ⊎ ((greater.level + 1 ≡ chunk.level) × IsTrue (has_room (state_in space (ledger_of lender)) chunk))
  pub limit : length lender.nodes.granules + lacking (state_in space (ledger_of lender)) greater
      ≤ lender.nodes.limits.granules
  pub sound : IsSoundLedger (with_grown (ledger_of lender) greater)
