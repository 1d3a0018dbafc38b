-- Chunks that pass the same tests leave the same free parts and committed granules, whatever their
-- order. The law on alike chunks uses this.
use Rattle.std.proofs.Common.{◌≡◌, ℕ, zero, suc, ◌+◌, ◌*◌, Bool, cond, ◌&&◌, ◌||◌, List, [], ◌∷◌, ◌++◌, refl, ap, ◌∙◌}
use Rattle.std.specs.List.{flat_map}
use Rattle.std.specs.List.Sorted.{IsPermutation}
use Rattle.std.proofs.lemmas.List.Elements.{filter_agree}
use Rattle.std.proofs.lemmas.List.Sorted.{list_any-IsPermutation}
use Rattle.ms_base.specs.declared.policy.Policy.{Policy}
use Rattle.ms_base.specs.declared.span.Chunk.{Chunk}
use Rattle.ms_base.specs.Policy.{granule_of, keeps}
use Rattle.ms_base.specs.Interval.{meet}
use Rattle.ms_base.specs.Level.{size_of, highest_level}
use Rattle.ms_base.specs.Part.{node_words}
use Rattle.ms_base.specs.FreeParts.{free_within, free_in_slot, free_parts}
use Rattle.ms_base.specs.Committed.{is_among, is_committed_now, granules_of}
use Rattle.ms_base.specs.Laws.Free.{AreAlike, LeavesTheSame}
use Rattle.ms_base.proofs.free.HalvesLemmas.{words_over}
use Rattle.ms_base.proofs.free.FreeLemmas.{part_over, meets_over}

meets_alike : (held other : List Chunk) → AreAlike held other → (below start : ℕ)
    → meets_over held below start ≡ meets_over other below start
meets_alike held other alike below start =
    alike (λ chunk. meet chunk.start (size_of chunk.level) start (words_over below))

pub free_alike : (held other : List Chunk) → AreAlike held other → (below start : ℕ)
    → free_within held below start ≡ free_within other below start
free_alike held other alike zero start =
    ap (λ b. cond b [] (part_over 0 start ∷ [])) (meets_alike held other alike 0 start)
free_alike held other alike (suc below) start =
    ap (λ b. cond b (free_within held below start ++ free_within held below middle) (part_over (suc below) start ∷ []))
    (meets_alike held other alike (suc below) start)
    ∙ ap (λ lower. cond meets (lower ++ free_within held below middle) (part_over (suc below) start ∷ []))
    (free_alike held other alike below start)
    ∙ ap (λ upper. cond meets (free_within other below start ++ upper) (part_over (suc below) start ∷ []))
    (free_alike held other alike below middle)
  where
    middle : ℕ
    middle = start + words_over below

    meets : Bool
    meets = meets_over other (suc below) start

slot_alike : (held other : List Chunk) → AreAlike held other → (slot : ℕ)
    → free_in_slot held slot ≡ free_in_slot other slot
slot_alike held other alike slot =
    ap (λ lower. lower ++ free_within held highest_level (slot * node_words + size_of 0))
    (free_alike held other alike highest_level (slot * node_words))
    ∙ ap (λ upper. free_within other highest_level (slot * node_words) ++ upper)
    (free_alike held other alike highest_level (slot * node_words + size_of 0))

slots_alike : (held other : List Chunk) → AreAlike held other → (slots : List ℕ)
    → free_parts held slots ≡ free_parts other slots
slots_alike held other alike [] = refl
slots_alike held other alike (slot ∷ slots) =
    ap (λ first. first ++ free_parts held slots) (slot_alike held other alike slot)
    ∙ ap (λ rest. free_in_slot other slot ++ rest) (slots_alike held other alike slots)

-- Alike chunks leave the same free parts and the same granules committed.
pub alike_leave_the_same : (policy : Policy) (before slots : List ℕ) (held other : List Chunk) → AreAlike held other
    → LeavesTheSame policy before slots held other
alike_leave_the_same policy before slots held other alike = record {
  free = slots_alike held other alike slots;
  committed = filter_agree (is_committed_now policy before held) (is_committed_now policy before other)
      (λ number. ap (λ b. (keeps policy && is_among before number) || b)
      (alike (λ chunk. meet chunk.start chunk.front (number * granule_of policy) (granule_of policy))))
      (flat_map (granules_of (granule_of policy)) slots);
}

-- Chunks in another order are alike.
pub permuted_are_alike : (held other : List Chunk) → IsPermutation held other → AreAlike held other
permuted_are_alike held other moved test = list_any-IsPermutation test held other moved
