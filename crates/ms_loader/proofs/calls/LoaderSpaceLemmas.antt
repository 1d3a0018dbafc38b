-- The blocks of an arena lie in its space: they are in use, so in a chunk, and the chunk is a
-- part of a slot of the space.
use Rattle.std.proofs.Common.{◌≡◌, ◌≤◌, ◌<◌, ◌+◌, ◌*◌, ℕ, true, List, [], ◌∷◌}
use Rattle.std.proofs.Common.{arith, inl, inr}
use Rattle.std.specs.Prelude.{nat_le}
use Rattle.std.specs.List.{AllByRecursion, list_any, list_all, zip}
use Rattle.std.proofs.lemmas.Bool.{and_parts, or_cases, leb-true, lt-ltb, le-leb}
use Rattle.std.proofs.lemmas.Nat.{div-add-mod'}
use Rattle.std.proofs.lemmas.List.Elements.{recursion_from_All}
use Rattle.ms_base.specs.declared.kind.Space.{Space}
use Rattle.ms_base.specs.declared.kind.Space.TheVariants.{NonClass, Class}
use Rattle.ms_base.specs.declared.span.Chunk.{Chunk}
use Rattle.ms_base.specs.Interval.{lies_in}
use Rattle.ms_base.specs.Level.{size_of}
use Rattle.ms_base.specs.Part.{IsPart, node_words, slot_of}
use Rattle.ms_base.specs.Spaces.{IsSlotOf, is_in, first_class_word}
use Rattle.ms_base.specs.State.{ArenaState}
use Rattle.ms_base.specs.Good.{IsSound}
use Rattle.ms_base.proofs.granules.GranuleLemmas.{ends_in_node}
use Rattle.ms_pool.specs.Account.{AreChunks}
use Rattle.ms_arena.specs.Books.{Awaits, AwaitsBlock}

-- A word of a slot of the space lies in the space.
slot_in_space : (space : Space) (slot word : ℕ) → IsSlotOf space slot → slot * node_words ≤ word
    → word < slot * node_words + node_words → is_in space word ≡ true
slot_in_space NonClass slot word its low high = lt-ltb word first_class_word (omega (arith, its, low, high))
slot_in_space Class slot word its low high = le-leb first_class_word word (omega (arith, its.0, low))

-- So the words of a chunk.
pub chunk_in_space : (space : Space) (chunk : Chunk) (word : ℕ) → IsPart chunk.start chunk.level
    → IsSlotOf space (slot_of chunk.start) → chunk.start ≤ word
    → word < chunk.start + size_of chunk.level → is_in space word ≡ true
chunk_in_space space chunk word part slot low high =
    slot_in_space space (slot_of chunk.start) word slot (omega (arith, div-add-mod' chunk.start node_words, low))
    (omega (arith, high, ends_in_node chunk.start chunk.level part))

in_use_in_space : (space : Space) (chunks : List Chunk) (tops : List ℕ) (run : ℕ × ℕ) → 1 ≤ run.1
    → AllByRecursion (λ (chunk : Chunk). IsPart chunk.start chunk.level) chunks
    → AllByRecursion (λ (chunk : Chunk). IsSlotOf space (slot_of chunk.start)) chunks
    → AllByRecursion (λ (chunk : Chunk). (1 ≤ chunk.front) × (chunk.front ≤ size_of chunk.level)) chunks
    → list_all (λ (used : Chunk × ℕ). nat_le used.1 used.0.front) (zip chunks tops) ≡ true
    → list_any (λ (used : Chunk × ℕ). lies_in run (used.0.start, used.1)) (zip chunks tops) ≡ true
    → is_in space run.0 ≡ true
in_use_in_space space [] tops run some parts slots fronts within used = absurd (cc)
in_use_in_space space (c ∷ chunks) [] run some parts slots fronts within used = absurd (cc)
in_use_in_space space (c ∷ chunks) (t ∷ tops) run some parts slots fronts within used =
    let both =
    and_parts (nat_le t c.front) (list_all (λ (one : Chunk × ℕ). nat_le one.1 one.0.front) (zip chunks tops)) within
    in
    elim (or_cases (lies_in run (c.start, t))
    (list_any (λ (one : Chunk × ℕ). lies_in run (one.0.start, one.1)) (zip chunks tops)) used) [
      | inl here ↦
          let ends = and_parts (nat_le c.start run.0) (nat_le (run.0 + run.1) (c.start + t)) here in
          chunk_in_space space c run.0 parts.0 slots.0 (leb-true c.start run.0 ends.0)
          (omega (arith, some, leb-true (run.0 + run.1) (c.start + t) ends.1, leb-true t c.front both.0, fronts.0.1))
      | inr later ↦ in_use_in_space space chunks tops run some parts.1 slots.1 fronts.1 both.1 later
    ]

-- So a block that was placed there, whatever blocks are live.
pub placed_in_space : (space : Space) (old new : ArenaState) (start n : ℕ) (live : List (ℕ × ℕ))
    → AreChunks space new.chunks → IsSound old live → AwaitsBlock old new start n → is_in space start ≡ true
placed_in_space space old new start n live chunks sound awaits =
    let here : Awaits new live (start, n) = awaits.each live sound in
    in_use_in_space space new.chunks new.tops (start, n) (omega (arith, here.long))
    (recursion_from_All _ new.chunks chunks.parts) (recursion_from_All _ new.chunks chunks.inside)
    (recursion_from_All _ new.chunks chunks.fronts) here.sound.tops here.used
