-- Where a list of chunks ends: the words of a front are no large numbers. `edge_of` and
-- `System::allocate_with_run` use these.
use Rattle.std.proofs.Common.{◌≡◌, ◌<◌, ◌≤◌, ◌+◌, ◌-◌, ◌^◌, ℕ, Some, None, List, length, refl, ap, arith}
use Rattle.std.specs.Prelude.{Option, slice_get}
use Rattle.std.proofs.lemmas.List.Elements.{All-contains}
use Rattle.ms_base.specs.declared.kind.Space.{Space}
use Rattle.ms_base.specs.declared.kind.Space.TheVariants.{NonClass, Class}
use Rattle.ms_base.specs.declared.span.Chunk.{Chunk}
use Rattle.ms_base.specs.Level.{size_of}
use Rattle.ms_base.specs.Part.{IsPart, slot_of}
use Rattle.ms_base.specs.Spaces.{IsSlotOf}
use Rattle.ms_base.proofs.granules.GranuleLemmas.{ends_in_node}
use Rattle.ms_pool.specs.Account.{AreChunks}
use Rattle.ms_pool.proofs.ledger.LoanAtLemmas.{contains_at}
use Rattle.ms_loaders.specs.Committing.{IsEdge}
use Rattle.ms_loaders.specs.declared.system.committing.Edge.{Edge}

slot_small : (space : Space) (slot : ℕ) → IsSlotOf space slot → slot < 80
slot_small NonClass slot its = omega (arith, its)
slot_small Class slot its = omega (arith, its.1)

pub chunk_small : (space : Space) (chunks : List Chunk) (index : ℕ) (chunk : Chunk) → AreChunks space chunks
    → slice_get chunks index ≡ Some chunk → chunk.start + chunk.front < 2 ^ 53
chunk_small space chunks index chunk are found =
    let there = contains_at chunks index chunk found in
    omega (
      arith,
      ends_in_node chunk.start chunk.level
          (All-contains (λ (c : Chunk). IsPart c.start c.level) chunks chunk are.parts there),
      slot_small space (slot_of chunk.start)
          (All-contains (λ (c : Chunk). IsSlotOf space (slot_of c.start)) chunks chunk are.inside there),
      (All-contains (λ (c : Chunk). (1 ≤ c.front) × (c.front ≤ size_of c.level)) chunks chunk are.fronts there).1,
    )

-- Chunks have an edge, whatever they are.
abbrev start_of : Option Chunk → ℕ
start_of (Some chunk) = chunk.start
start_of None = 0

abbrev front_of : Option Chunk → ℕ
front_of (Some chunk) = chunk.front
front_of None = 0

abbrev pub some_edge : List Chunk → Edge
some_edge chunks = record {
  held = length chunks;
  start = start_of (slice_get chunks (length chunks - 1));
  front = front_of (slice_get chunks (length chunks - 1));
}

pub its_edge : (chunks : List Chunk) → IsEdge chunks (some_edge chunks)
its_edge chunks = record { held = refl; last = λ chunk there. (ap start_of there, ap front_of there) }
