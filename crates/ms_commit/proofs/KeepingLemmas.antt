-- What the code of `Nodes` keeps, and what callers see of it: ranges, the number that is missing,
-- and the limit.
use Rattle.std.proofs.Common.{◌≡◌, ◌≤◌, ◌<◌, ℕ, ◌+◌, ◌-◌, ◌*◌, ◌^◌, false, ◌||◌, List, length, sym, ap, ◌∙◌, subst}
use Rattle.std.proofs.Common.{arith}
use Rattle.std.specs.Prelude.{IsTrue}
use Rattle.std.specs.List.Sorted.{IsStrictlyIncreasing}
use Rattle.ms_base.specs.declared.sizes.TheConstants.{MOST_GRANULES}
use Rattle.ms_base.specs.Part.{is_reserved}
use Rattle.ms_base.specs.Spaces.{first_class_slot}
use Rattle.ms_base.specs.Committed.{is_among}
use Rattle.ms_base.specs.declared.refusal.Refusal.TheVariants.{CommitLimit}
use Rattle.ms_commit.specs.declared.nodes.Nodes.TheInside.{Inside}
use Rattle.ms_commit.specs.NumberSet.{is_in_range, with_range, without_range, without_number, count_within}
use Rattle.ms_commit.specs.NumberSet.{count_missing, IsSetBelow}
use Rattle.ms_commit.specs.Nodes.{NodesState, node_granules, all_slots, AreInReserved, granules_with}
use Rattle.ms_commit.specs.Keeping.{state_of, AreKept}
use Rattle.ms_commit.proofs.SetLemmas.{count_missing-within}
use Rattle.ms_commit.proofs.NodesLemmas.{reserved_either, reserved_low, granule_below, range_fits, sound_with}
use Rattle.ms_commit.proofs.NodesLemmas.{sound_without, sound_unreserve}

-- What is asked for of the nodes that callers see holds of those that are kept.
range_in_kept : (kept : Inside) (now : NodesState) (first count : ℕ) → state_of kept ≡ now
    → AreInReserved now first count
    → AreInReserved (state_of kept) first count
range_in_kept kept now first count seen reserved = subst (λ nodes. AreInReserved nodes first count) (sym seen) reserved

pub slot_in_kept : (kept : Inside) (now : NodesState) (slot : ℕ) → state_of kept ≡ now
    → IsTrue (is_reserved (all_slots now) slot) → slot < first_class_slot
    → IsTrue (is_reserved kept.slots slot)
slot_in_kept kept now slot seen reserved low =
    sym (reserved_low (state_of kept) slot low)
    ∙ subst (λ (nodes : NodesState). IsTrue (is_reserved (all_slots nodes) slot)) (sym seen) reserved

-- Past the slots of the mask come those of the class space.
pub reserved_past : (kept : Inside) (now : NodesState) (slot : ℕ) → state_of kept ≡ now
    → is_among kept.slots slot ≡ false
    → is_in_range first_class_slot kept.class_slots slot ≡ is_reserved (all_slots now) slot
reserved_past kept now slot seen missing =
    ap (λ b. b || is_in_range first_class_slot kept.class_slots slot) (sym missing)
    ∙ sym (reserved_either (state_of kept) slot)
    ∙ ap (λ (nodes : NodesState). is_reserved (all_slots nodes) slot) seen

-- Granules of reserved slots have bits in the mask, and their range ends at a number of 64 bits.
pub range_is_kept : (kept : Inside) (now : NodesState) (first count : ℕ) → AreKept kept → state_of kept ≡ now
    → AreInReserved now first count → first < 2 ^ 64
    → ((k : ℕ) → first ≤ k → k < first + count → k < MOST_GRANULES) × (first + count < 2 ^ 64)
range_is_kept kept now first count holds seen asked fits = (
  λ k low high. omega (arith, granule_below (state_of kept) k holds.sound some (reserved k low high), few),
  range_fits (state_of kept) first count holds.sound some few reserved fits,
)
  where
    reserved : AreInReserved (state_of kept) first count
    reserved = range_in_kept kept now first count seen asked

    some : 0 < node_granules (state_of kept)
    some = omega (arith, holds.slot_is, holds.slot_some)

    few : node_granules (state_of kept) ≤ 512
    few = omega (arith, holds.slot_is, holds.slot_few)

-- The numbers of a range that aren't present are missing.
pub need_is_missing : (kept : Inside) (now : NodesState) (first count present : ℕ) → state_of kept ≡ now
    → present ≡ count_within kept.granules first count → count - present ≡ count_missing now.granules first count
need_is_missing kept now first count present seen counted =
    rest ∙ ap (λ nodes. count_missing nodes.granules first count) seen
  where
    rest : count - present ≡ count_missing kept.granules first count
    rest = omega (arith, counted, count_missing-within kept.granules first count)

-- The need passes the limit that callers see, or fits it.
total_with : (kept : Inside) (now : NodesState) (first count need : ℕ) → AreKept kept → state_of kept ≡ now
    → need ≡ count_missing now.granules first count → granules_with now first count ≡ kept.committed + need
total_with kept now first count need holds seen needed =
    omega (arith, holds.committed, ap (λ nodes. length nodes.granules) seen, needed)

pub need_passes : (kept : Inside) (now : NodesState) (first count need : ℕ) → AreKept kept → state_of kept ≡ now
    → need ≡ count_missing now.granules first count → kept.granule_limit - kept.committed < need
    → now.limits.granules < granules_with now first count
need_passes kept now first count need holds seen needed more =
    let limit = ap (λ (nodes : NodesState). nodes.limits.granules) seen in
    omega (arith, total_with kept now first count need holds seen needed, limit, more)

pub need_fits : (kept : Inside) (now : NodesState) (first count need : ℕ) → AreKept kept → state_of kept ≡ now
    → need ≡ count_missing now.granules first count → need ≤ kept.granule_limit - kept.committed
    → granules_with now first count ≤ now.limits.granules
need_fits kept now first count need holds seen needed within =
    let limit = ap (λ (nodes : NodesState). nodes.limits.granules) seen in
    let total = total_with kept now first count need holds seen needed in
    omega (arith, total, limit, within, holds.committed, holds.sound.committed)

-- With the missing numbers of a range the members are as many more.
counted_with_missing : (kept : Inside) (now : NodesState) (first count need after : ℕ) → AreKept kept
    → state_of kept ≡ now
    → need ≡ count_missing now.granules first count
    → after + count_within kept.granules first count ≡ length kept.granules + count
    → kept.committed + need ≡ after
counted_with_missing kept now first count need after holds seen needed counted =
    omega (
      arith,
      holds.committed,
      needed,
      counted,
      count_missing-within kept.granules first count,
      ap (λ nodes. count_missing nodes.granules first count) seen,
    )

-- The numbers that CommitLimit carries.
pub commit_limit_is : (kept : Inside) (now : NodesState) (first count need : ℕ) → AreKept kept → state_of kept ≡ now
    → need ≡ count_missing now.granules first count
    → CommitLimit kept.committed kept.granule_limit need
    ≡ CommitLimit (length now.granules) now.limits.granules (count_missing now.granules first count)
commit_limit_is kept now first count need holds seen needed =
    ap (λ committed. CommitLimit committed kept.granule_limit need) holds.committed
    ∙ ap (λ nodes. CommitLimit (length nodes.granules) nodes.limits.granules need) seen
    ∙ ap (CommitLimit (length now.granules) now.limits.granules) needed

-- What is kept once a range is committed, and once one is uncommitted.
pub kept_with : (kept : Inside) (now : NodesState) (granules : List ℕ) (first count need : ℕ) → AreKept kept
    → state_of kept ≡ now
    → AreInReserved now first count → need ≡ count_missing now.granules first count
    → need ≤ kept.granule_limit - kept.committed
    → granules ≡ with_range kept.granules first count → IsStrictlyIncreasing granules
    → length granules + count_within kept.granules first count ≡ length kept.granules + count
    → AreKept (record kept { granules = granules; committed = kept.committed + need })
kept_with kept now granules first count need holds seen asked needed within after rising sizes = record {
  sound =
      sound_with (state_of kept) granules first count holds.sound
      (range_in_kept kept now first count seen asked) after rising
      (omega (arith, counted, within, holds.committed, holds.sound.committed));
  reserved = holds.reserved;
  committed = counted;
  nodes = holds.nodes;
  slot_is = holds.slot_is;
  slot_some = holds.slot_some;
  slot_few = holds.slot_few;
}
  where
    counted : kept.committed + need ≡ length granules
    counted = counted_with_missing kept now first count need (length granules) holds seen needed sizes

pub kept_without : (kept : Inside) (granules : List ℕ) (first count present : ℕ) → AreKept kept
    → present ≡ count_within kept.granules first count → granules ≡ without_range kept.granules first count
    → IsStrictlyIncreasing granules
    → length granules + count_within kept.granules first count ≡ length kept.granules
    → AreKept (record kept { granules = granules; committed = kept.committed - present })
kept_without kept granules first count present holds counted after rising sizes = record {
  sound =
      sound_without (state_of kept) granules first count holds.sound after rising
      (omega (arith, sizes, holds.sound.committed));
  reserved = holds.reserved;
  committed = omega (arith, sizes, counted, holds.committed);
  nodes = holds.nodes;
  slot_is = holds.slot_is;
  slot_some = holds.slot_some;
  slot_few = holds.slot_few;
}

-- What is kept once a slot is unreserved with its granules.
pub kept_unreserve : (kept : Inside) (slots granules : List ℕ) (slot cleared : ℕ) → AreKept kept
    → cleared ≡ count_within kept.granules (slot * kept.slot_granules) kept.slot_granules
    → slots ≡ without_number kept.slots slot → length slots + 1 ≡ length kept.slots → IsSetBelow first_class_slot slots
    → granules ≡ without_range kept.granules (slot * kept.slot_granules) kept.slot_granules
    → IsStrictlyIncreasing granules
    → length granules + count_within kept.granules (slot * kept.slot_granules) kept.slot_granules ≡ length kept.granules
    → AreKept (record kept {
      slots = slots;
      granules = granules;
      reserved = kept.reserved - 1;
      committed = kept.committed - cleared;
    })
kept_unreserve kept slots granules slot cleared holds counted slots_after one_less set after rising sizes = record {
  sound = sound_unreserve (state_of kept) slots granules slot holds.sound
      (omega (arith, holds.slot_is, holds.slot_some)) slots_after
      (after ∙ ap (λ n. without_range kept.granules (slot * n) n) holds.slot_is) set rising
      (omega (arith, one_less, holds.sound.reserved)) (omega (arith, sizes, holds.sound.committed));
  reserved = omega (arith, one_less, holds.reserved);
  committed = omega (arith, sizes, counted, holds.committed);
  nodes = holds.nodes;
  slot_is = holds.slot_is;
  slot_some = holds.slot_some;
  slot_few = holds.slot_few;
}
