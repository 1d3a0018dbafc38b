-- The free parts of a space by level: slot by slot of those that it may have, and how many there
-- are at most.
use Rattle.std.proofs.Common.{◌≡◌, ◌<◌, ◌≤◌, ℕ, zero, suc, ◌+◌, ◌-◌, ◌*◌, ◌^◌, Bool, true, false, cond, List, [], ◌∷◌}
use Rattle.std.proofs.Common.{◌++◌, length, get_or, map, refl, ap, ◌∙◌, arith}
use Rattle.std.specs.Prelude.{◌==◌}
use Rattle.std.specs.List.{count_by, flat_map, range_with_len}
use Rattle.std.proofs.lemmas.List.{length-append}
use Rattle.std.proofs.lemmas.List.Elements.{recursion_from_All}
use Rattle.std.proofs.lemmas.List.FromFn.{fill_by_all, length-range_with_len}
use Rattle.std.proofs.lemmas.List.Sums.{count_by-le-length}
use Rattle.ms_base.specs.declared.kind.Space.{Space}
use Rattle.ms_base.specs.declared.kind.Space.TheVariants.{NonClass, Class}
use Rattle.ms_base.specs.declared.span.Chunk.{Chunk}
use Rattle.ms_base.specs.declared.span.Span.{Span}
use Rattle.ms_base.specs.Level.{size_of, root_words, highest_level, level_count}
use Rattle.ms_base.specs.Part.{node_words}
use Rattle.ms_base.specs.Held.{meets_chunk}
use Rattle.ms_base.specs.FreeParts.{free_in_slot, free_parts, free_within}
use Rattle.ms_base.specs.Totals.{all_levels}
use Rattle.ms_base.proofs.free.HalvesLemmas.{size_of_halves, words_over}
use Rattle.ms_commit.specs.Nodes.{slots_of}
use Rattle.ms_buddy.specs.Leaves.{AreLeaves, free_of}
use Rattle.ms_pool.specs.declared.lender.Lender.{Lender}
use Rattle.ms_pool.specs.Ledger.{held_in}
use Rattle.ms_pool.specs.Keeping.{IsKept, ledger_of}
use Rattle.ms_buddy.specs.Counts.{AreRaised, count_at_level}
use Rattle.ms_pool.specs.Counting.{HasRoom}
use Rattle.ms_pool.proofs.counts.PoolCountLemmas.{parts_of-append, parts_of-none, parts_of-raised}
use Rattle.ms_pool.proofs.searches.FreeRootLemmas.{free_in_root}
use Rattle.ms_pool.proofs.searches.SlotLoopLemmas.{end_slot, first_slot, root_in, root_there, given_by, parts_by_slots}

-- The free parts of a slot, from the trees of its two roots.
root_parts : (space : Space) (lender : Lender) (slot half level : ℕ) → IsKept lender → half ≤ 1
    → first_slot space ≤ slot → slot < end_slot space lender.nodes
    → count_at_level level
    (free_within (held_in space (ledger_of lender)) highest_level ((2 * slot + half) * root_words))
    ≡ count_at_level level (free_of (get_or lender.trees.items (2 * slot + half) []))
root_parts space lender slot half level kept h low high =
    ap (count_at_level level) (free_in_root space lender.trees.items (2 * slot + half)
    (root_there space lender.nodes slot half (length lender.trees.items) h low high kept.trees)
    (recursion_from_All AreLeaves lender.trees.items kept.leaves) (root_in space lender.nodes slot half h low high))
    ∙ parts_of-raised level ((2 * slot + half) * root_words) (free_of (get_or lender.trees.items (2 * slot + half) []))

pub slot_parts : (space : Space) (lender : Lender) (slot level : ℕ) → IsKept lender → first_slot space ≤ slot
    → slot < end_slot space lender.nodes
    → count_at_level level (free_in_slot (held_in space (ledger_of lender)) slot)
    ≡ count_at_level level (free_of (get_or lender.trees.items (2 * slot) [])) + count_at_level level
    (free_of (get_or lender.trees.items (2 * slot + 1) []))
slot_parts space lender slot level kept low high =
    parts_of-append level (free_within held highest_level (slot * node_words))
    (free_within held highest_level (slot * node_words + size_of 0))
    ∙ omega (
      arith,
      ap (λ (at_ : ℕ). count_at_level level (free_within held highest_level at_)) lower
          ∙ root_parts space lender slot 0 level kept (omega arith) low high
          ∙ ap (λ (root : ℕ). count_at_level level (free_of (get_or lender.trees.items root []))) plain,
      ap (λ (at_ : ℕ). count_at_level level (free_within held highest_level at_)) upper
          ∙ root_parts space lender slot 1 level kept (omega arith) low high,
    )
  where
    held : List Chunk
    held = held_in space (ledger_of lender)

    plain : 2 * slot + 0 ≡ 2 * slot
    plain = omega arith

    lower : slot * node_words ≡ (2 * slot + 0) * root_words
    lower = omega arith

    upper : slot * node_words + size_of 0 ≡ (2 * slot + 1) * root_words
    upper = omega arith

-- A slot that isn't reserved has none; one that is has those of its roots.
pub none_raised : (counts : List ℕ) (reserved : Bool) (parts : List Span) → reserved ≡ false
    → AreRaised counts (λ level. count_at_level level (cond reserved parts [])) counts
none_raised counts false parts e = record { full = refl; counts = λ level h. omega (arith, parts_of-none level) }
none_raised counts true parts e = absurd (cc)

pub room_in_slot : (counts : List ℕ) (reserved : Bool) (parts : List Span) → reserved ≡ true
    → HasRoom counts (λ level. count_at_level level (cond reserved parts [])) → HasRoom counts (λ level. count_at_level level parts)
room_in_slot counts true parts e room = room
room_in_slot counts false parts e room = absurd (cc)

pub raised_in_slot : (old new : List ℕ) (reserved : Bool) (parts : List Span) → reserved ≡ true
    → AreRaised old (λ level. count_at_level level parts) new
    → AreRaised old (λ level. count_at_level level (cond reserved parts [])) new
raised_in_slot old new true parts e raised = raised
raised_in_slot old new false parts e raised = absurd (cc)

-- Slot by slot.
pub parts_step : (level : ℕ) (f : ℕ → List Span) (n end : ℕ) → n < end
    → count_at_level level (flat_map f (range_with_len n (end - n)))
    ≡ count_at_level level (f n) + count_at_level level (flat_map f (range_with_len (n + 1) (end - (n + 1))))
parts_step level f n end h = ap (λ (count : ℕ). count_at_level level (flat_map f (range_with_len n count))) one_more
    ∙ parts_of-append level (f n) (flat_map f (range_with_len (n + 1) (end - (n + 1))))
  where
    one_more : end - n ≡ suc (end - (n + 1))
    one_more = omega arith

pub parts_end : (level : ℕ) (f : ℕ → List Span) (n end : ℕ) → end ≤ n
    → count_at_level level (flat_map f (range_with_len n (end - n))) ≡ 0
parts_end level f n end h = ap (λ (count : ℕ). count_at_level level (flat_map f (range_with_len n count))) none
    ∙ parts_of-none level
  where
    none : end - n ≡ 0
    none = omega arith

-- A root has at most 4096 free parts, since each has 128 words or more.
least : (below : ℕ) → below ≤ highest_level → 128 ≤ words_over below
least zero h = omega arith
least (suc below) h = omega (arith, least below (omega arith), size_of_halves below (omega arith))

few_within : (held : List Chunk) (below start : ℕ) → below ≤ highest_level
    → length (free_within held below start) * 128 ≤ words_over below
few_within held zero start h =
    go (meets_chunk held start highest_level) (record { start = start; level = highest_level })
  where
    go : (b : Bool) (part : Span) → length (cond b [] (part ∷ [])) * 128 ≤ words_over 0
    go true part = omega arith
    go false part = omega arith
few_within held (suc below) start h =
    go (meets_chunk held start (highest_level - suc below)) (few_within held below start (omega arith))
    (few_within held below (start + size_of (highest_level - below)) (omega arith))
  where
    go : (b : Bool) → length (free_within held below start) * 128 ≤ words_over below
        → length (free_within held below (start + size_of (highest_level - below))) * 128 ≤ words_over below
        → length (cond b
        (free_within held below start ++ free_within held below (start + size_of (highest_level - below)))
        (record { start = start; level = highest_level - suc below } ∷ [])) * 128 ≤ words_over (suc below)
    go true lower upper =
        omega (
          arith,
          lower,
          upper,
          size_of_halves below (omega arith),
          length-append (free_within held below start)
              (free_within held below (start + size_of (highest_level - below))),
        )
    go false lower upper = omega (arith, least (suc below) h)

few_in : (held : List Chunk) (slots : List ℕ) → length (free_parts held slots) ≤ 8192 * length slots
few_in held [] = omega arith
few_in held (slot ∷ slots) =
    omega (
      arith,
      few_in held slots,
      length-append (free_in_slot held slot) (free_parts held slots),
      length-append (free_within held highest_level (slot * node_words))
          (free_within held highest_level (slot * node_words + size_of 0)),
      few_within held highest_level (slot * node_words) (omega arith),
      few_within held highest_level (slot * node_words + size_of 0) (omega arith),
    )

pub few_slots : (space : Space) (lender : Lender) → IsKept lender → length (slots_of space lender.nodes) ≤ 64
few_slots NonClass lender kept = omega (arith, kept.nodes.reserved, kept.sound.nodes.1)
few_slots Class lender kept = omega (arith, length-range_with_len 64 lender.nodes.class_slots, kept.sound.class_nodes)

pub few_parts : (space : Space) (lender : Lender) (level : ℕ) → IsKept lender
    → count_at_level level (free_parts (held_in space (ledger_of lender)) (slots_of space lender.nodes)) < 2 ^ 32
unfolding count_at_level
few_parts space lender level kept =
    let parts = free_parts (held_in space (ledger_of lender)) (slots_of space lender.nodes) in
    omega (
      arith,
      count_by-le-length (λ (part : Span). part.level == level) parts,
      few_in (held_in space (ledger_of lender)) (slots_of space lender.nodes),
      few_slots space lender kept,
    )

-- Counts that are each those of the parts are the parts by level.
pub parts_by_level : (counts : List ℕ) (parts : List Span) → length counts ≡ level_count
    → ((level : ℕ) → level < level_count → get_or counts level 0 ≡ count_at_level level parts)
    → counts ≡ map (λ level. count_by (λ (part : Span). part.level == level) parts) all_levels
unfolding count_at_level
parts_by_level counts parts all same =
    fill_by_all (λ level. count_by (λ (part : Span). part.level == level) parts) counts level_count 0 all same

-- The room that a slot has.
pub slot_room : (now level : ℕ) (f : ℕ → List Span) (n end : ℕ) (whole : List Span) → n < end
    → now + count_at_level level (flat_map f (range_with_len n (end - n))) ≡ count_at_level level whole
    → count_at_level level whole < 2 ^ 32 → now + count_at_level level (f n) < 2 ^ 32
slot_room now level f n end whole h so_far fits = omega (arith, so_far, fits, parts_step level f n end h)

-- The parts of a level in a space, and those in its slots from one on.
abbrev pub parts_in : Space → Lender → ℕ → ℕ
parts_in space lender level =
    count_at_level level (free_parts (held_in space (ledger_of lender)) (slots_of space lender.nodes))

abbrev pub parts_from : Space → Lender → ℕ → ℕ → ℕ
parts_from space lender slot level =
    count_at_level level
    (flat_map (given_by lender.nodes (held_in space (ledger_of lender)))
    (range_with_len slot (end_slot space lender.nodes - slot)))

abbrev pub parts_at : Space → Lender → ℕ → ℕ → ℕ
parts_at space lender slot level = count_at_level level (given_by lender.nodes (held_in space (ledger_of lender)) slot)

-- What was counted and the parts of the slots that are left make the whole.
pub record IsCountedTo (space : Space) (lender : Lender) (free : List ℕ) (slot : ℕ) : Type 0 where
  pub low : first_slot space ≤ slot
  pub full : length free ≡ level_count
  pub counted : (level : ℕ) → level < level_count
      → get_or free level 0 + parts_from space lender slot level ≡ parts_in space lender level

pub counted_to_first : (space : Space) (lender : Lender) (free : List ℕ) (slot : ℕ) → IsKept lender
    → slot ≡ first_slot space → length free ≡ level_count
    → ((level : ℕ) → get_or free level 0 ≡ 0) → IsCountedTo space lender free slot
counted_to_first space lender free slot kept start full none = record {
  low = omega (arith, start);
  full = full;
  counted = λ level h. omega (
    arith,
    none level,
    ap (count_at_level level) (parts_by_slots space lender.nodes (held_in space (ledger_of lender)) kept.nodes),
    ap (λ (first : ℕ). parts_from space lender first level) start,
  );
}

pub counted_to_next : (space : Space) (lender : Lender) (free next : List ℕ) (slot : ℕ)
    → slot < end_slot space lender.nodes → IsCountedTo space lender free slot
    → AreRaised free (parts_at space lender slot) next → IsCountedTo space lender next (slot + 1)
counted_to_next space lender free next slot within so_far raised = record {
  low = omega (arith, so_far.low);
  full = raised.full ∙ so_far.full;
  counted = λ level h. omega (
    arith,
    so_far.counted level h,
    raised.counts level h,
    parts_step level (given_by lender.nodes (held_in space (ledger_of lender))) slot (end_slot space lender.nodes)
        within,
  );
}

pub room_for_next : (space : Space) (lender : Lender) (free : List ℕ) (slot : ℕ) → IsKept lender
    → slot < end_slot space lender.nodes → IsCountedTo space lender free slot
    → HasRoom free (parts_at space lender slot)
room_for_next space lender free slot kept within so_far = λ level h.
    slot_room (get_or free level 0) level (given_by lender.nodes (held_in space (ledger_of lender))) slot
    (end_slot space lender.nodes)
    (free_parts (held_in space (ledger_of lender)) (slots_of space lender.nodes)) within (so_far.counted level h)
    (few_parts space lender level kept)

pub counted_to_last : (space : Space) (lender : Lender) (free : List ℕ) (slot : ℕ) → end_slot space lender.nodes ≤ slot
    → IsCountedTo space lender free slot
    → free ≡ map
    (λ level. count_by (λ (part : Span). part.level == level)
    (free_parts (held_in space (ledger_of lender)) (slots_of space lender.nodes))) all_levels
counted_to_last space lender free slot past so_far =
    parts_by_level free (free_parts (held_in space (ledger_of lender)) (slots_of space lender.nodes)) so_far.full
    (λ level h. omega (
      arith,
      so_far.counted level h,
      parts_end level (given_by lender.nodes (held_in space (ledger_of lender))) slot (end_slot space lender.nodes)
          past,
    ))
