-- What is known of a lent part of a root, and what is left once it is given back or becomes its
-- parent. The calls of a tree on lent parts use these.
use Rattle.std.proofs.Common.{◌≡◌, ◌<◌, ◌≤◌, ℕ, ◌+◌, ◌*◌, ◌-◌, ◌/◌, ◌%◌, Bool, true, false, List, Option}
use Rattle.std.proofs.Common.{Some, length, sym, ap, subst, ◌∙◌, inl, inr, arith}
use Rattle.std.specs.Prelude.{◌==◌, IsTrue}
use Rattle.std.specs.List.{find}
use Rattle.std.proofs.lemmas.Bool.{false_from_ne_true}
use Rattle.std.proofs.lemmas.Bool.Decides.{nat_tests}
use Rattle.ms_base.specs.declared.span.Span.{Span}
use Rattle.ms_base.specs.Level.{size_of, highest_level}
use Rattle.ms_base.proofs.free.HalvesLemmas.{size_falls}
use Rattle.ms_buddy.specs.declared.entries.Lending.{Lending}
use Rattle.ms_buddy.specs.Counts.{IsParted, buddy_of, holder_of, number_of}
use Rattle.ms_buddy.specs.FreeBits.{IsKept, bit_of}
use Rattle.ms_buddy.specs.declared.leaf.Leaf.{Leaf}
use Rattle.ms_buddy.specs.declared.leaf.Leaf.TheVariants.{Free as FreeLeaf, Lent as LentTo}
use Rattle.ms_buddy.specs.Leaves.{AreInOrder, IsLeafAt, LendsAt, LentLeaf, can_enlarge, covers, is_lent, span_at}
use Rattle.ms_buddy.specs.Leaves.{without_leaf}
use Rattle.ms_buddy.specs.Entries.{FitsEntry, lending_at, lent_from}
use Rattle.ms_buddy.specs.Tree.{Node, IsSplit, IsTree, free_in, lent_in}
use Rattle.ms_buddy.proofs.TreeHalvesLemmas.{holder_is}
use Rattle.ms_buddy.proofs.bits.BuddyLemmas.{number_of-holder}
use Rattle.ms_buddy.proofs.changes.CarvedLemmas.{clash}
use Rattle.ms_buddy.proofs.searches.CoverLemmas.{covered, found_listed, from_covers, same, to_covers}
use Rattle.ms_buddy.proofs.bits.FreeBitLemmas.{free_by_bit}
use Rattle.ms_buddy.proofs.bits.FreeNumberLemmas.{root_part, starts_in_root}
use Rattle.ms_buddy.proofs.KeptTreeLemmas.{are_leaves}
use Rattle.ms_buddy.proofs.changes.LeaderLemmas.{buddy_within, leads_of, lent_part, no_root_can}
use Rattle.ms_buddy.proofs.changes.EnlargedLemmas.{MayBecome}
use Rattle.ms_buddy.proofs.changes.ReleasedLemmas.{released}
use Rattle.ms_buddy.proofs.bits.NumberLemmas.{holder_part}
use Rattle.ms_buddy.proofs.EntryLemmas.{found_there, is_there}
use Rattle.ms_buddy.proofs.bits.TwinLemmas.{merge_is}
use Rattle.ms_buddy.proofs.EntryChangeLemmas.{AtEntry, at_its_entry}
use Rattle.ms_buddy.proofs.CallLemmas.{at_entry, InRoot, holder_covers}

-- What is known of a lent part of a root.
pub record IsLentIn (lent : List LentLeaf) (size : ℕ) (counts words filled : List ℕ) (entries : List (Option Lending))
    (part : Span) : Type 0 where
  pub kept : IsKept lent size counts words filled
  pub at : AtEntry entries part
  pub root : InRoot kept.node words part
  pub there : IsTrue (is_lent (lent_in 0 0 kept.node) part)
  pub low : part.level ≤ highest_level

-- The same of a tree's own entries.
abbrev pub IsLentHere : List (Option Lending) → List ℕ → List ℕ → List ℕ → Span → Type 0
IsLentHere entries counts words filled part =
    IsLentIn (lent_from 0 entries) (length entries) counts words filled entries part

-- A part that is lent by the list that the tree tells is lent here.
pub lent_here : (entries : List (Option Lending)) (counts words filled : List ℕ) (told : List LentLeaf) (part : Span)
    → IsKept (lent_from 0 entries) (length entries) counts words filled → lent_from 0 entries ≡ told
    → IsTrue (is_lent told part) → IsLentHere entries counts words filled part
lent_here entries counts words filled told part kept same lent =
    let there = subst (λ (leaves : List LentLeaf). IsTrue (is_lent leaves part)) (sym same) lent in
    let own = subst (λ (leaves : List LentLeaf). IsTrue (is_lent leaves part)) (sym kept.lent_is) there in
    let leaves = are_leaves kept.node kept.tree.tree in record {
      kept = kept;
      at = at_its_entry entries part there;
      root = record {
        tree = kept.tree.tree;
        marked = kept.tree.marked;
        in_root = starts_in_root part kept.node kept.tree.tree own;
      };
      there = own;
      low = (lent_part part (lent_in 0 0 kept.node) leaves.parts leaves.in_root own).0.0;
    }

-- An entry can hold the front of a part, and of its parent, which is twice as large.
pub front_fits : (level front : ℕ) → 0 < front → front ≤ 2 * size_of level → FitsEntry front
front_fits level front some within = (some, omega (arith, within, size_falls 0 level (omega arith)))

-- What a release to the level that the bits tell leaves.
pub record Returns (words : List ℕ) (part : Span) (merge : ℕ) (before : Node) : Type 0 where
  pub after : Node
  pub tree : IsTree 0 after
  pub lent : lent_in 0 0 after ≡ without_leaf part (lent_in 0 0 before)
  pub found : find (covers part.start) (free_in 0 0 after) ≡ Some (holder_of merge part)
  pub parted : IsParted (free_in 0 0 after) (holder_of merge part) part (free_in 0 0 before)
  pub was : IsSplit after → IsSplit before

pub returned : (node : Node) (words : List ℕ) (part : Span) (merge : ℕ) → InRoot node words part
    → IsTrue (is_lent (lent_in 0 0 node) part) → merge ≤ part.level
    → (0 < merge → bit_of words (buddy_of (number_of (span_at part.start merge))) ≡ 0)
    → ((below : ℕ) → merge < below → below ≤ part.level
    → bit_of words (buddy_of (number_of (span_at part.start below))) ≡ 1)
    → Returns words part merge node
returned node words part merge is there low apart merged =
    let done = released 0 0 node part is.tree root_part there in
    let same : done.free ≡ merge = merge_is words node done.after part done.free merge (record {
      tree = done.tree;
      marked = is.marked;
      in_root = is.in_root;
      parted = done.parted;
      there = found_listed (covers part.start) (free_in 0 0 done.after) (holder_of done.free part) done.found;
      low = low;
      apart = apart;
      merged = merged;
    }) in record {
      after = done.after;
      tree = done.tree;
      lent = done.lent;
      found = subst (λ (n : ℕ). find (covers part.start) (free_in 0 0 done.after) ≡ Some (holder_of n part)) same done.found;
      parted = subst (λ (n : ℕ). IsParted (free_in 0 0 done.after) (holder_of n part) part (free_in 0 0 node)) same done.parted;
      was = done.was;
    }

-- A part isn't lent where another level, or nothing, stands at the entry where it starts.
pub not_lent : (entries : List (Option Lending)) (part : Span)
    → ((lending : Lending) → lending_at entries (part.start / 128) ≡ Some lending → part.level ≡ lending.level → ⊥)
    → is_lent (lent_from 0 entries) part ≡ false
not_lent entries part other = false_from_ne_true (is_lent (lent_from 0 entries) part) (λ lent.
    let a = at_its_entry entries part lent in other a.lending a.there a.level)

-- What stands at an entry is lent, and the first leaf that covers an offset in it.
pub lent_there : (entries : List (Option Lending)) (level start : ℕ) (lending : Lending)
    → AreInOrder (lent_from 0 entries) → lending_at entries (start / 128) ≡ Some lending → lending.level ≡ level
    → 128 * (start / 128) ≡ start → LendsAt (lent_from 0 entries) level start (LentTo lending.owner lending.front)
lent_there entries level start lending order there same whole =
    subst (λ (n : ℕ). LendsAt (lent_from 0 entries) n start (LentTo lending.owner lending.front)) same
    (subst (λ (s : ℕ). LendsAt (lent_from 0 entries) lending.level s (LentTo lending.owner lending.front)) whole (
      is_there 0 (start / 128) (start / 128) entries lending there (omega arith),
      λ offset covered. found_there 0 (start / 128) (start / 128) offset entries lending order there (omega arith) covered,
    ))

-- The part of a level that holds an offset starts where an entry does.
pub holder_at_entry : (level at : ℕ) → level ≤ highest_level → at < 524288
    → 128 * ((at - at % size_of level) / 128) ≡ at - at % size_of level
holder_at_entry level at low below = at_entry level (at - at % size_of level) low (holder_part level (span_at at level) low below).aligned

-- The leaf that covers an offset has a level at which it is free or lent.
pub some_level : (lent : List LentLeaf) (size : ℕ) (counts words filled : List ℕ)
    (kept : IsKept lent size counts words filled) (offset : ℕ) → offset < 524288
    → ((level : ℕ) → level ≤ highest_level → bit_of words (number_of (span_at offset level)) ≡ 0)
    → ((level : ℕ) → level ≤ highest_level → is_lent lent (holder_of level (span_at offset level)) ≡ false) → ⊥
some_level lent size counts words filled kept offset below none free =
    let c = covered 0 0 kept.node offset kept.tree.tree root_part (omega arith) (omega (arith, below)) in
    let same : c.part ≡ holder_of c.part.level (span_at offset c.part.level) =
    sym (holder_is c.part.level c.part.start (span_at offset c.part.level) c.of_root
    (from_covers c.part.start offset _ c.within) (to_covers c.part.start offset (c.part.start + size_of c.part.level) c.within)) in
    elim c.there [
      | inl any ↦ bits (bit_of words (number_of (span_at offset c.part.level)))
          (free_by_bit kept.node words c.part kept.tree.tree kept.tree.marked c.of_root) any
          (ap (λ (p : Span). bit_of words (number_of p)) same
          ∙ sym (ap (bit_of words) (number_of-holder c.part.level (span_at offset c.part.level) c.of_root.level_fits below)))
          (none c.part.level c.of_root.level_fits)
      | inr any ↦ clash _ (ap (λ leaves. is_lent leaves c.part) (sym kept.lent_is) ∙ any)
          (ap (is_lent lent) same ∙ free c.part.level c.of_root.level_fits)
    ]
  where
    bits : (bit : ℕ) {own : ℕ} {any : Bool} → (own == 1) ≡ any → any ≡ true → own ≡ bit → bit ≡ 0 → ⊥
    bits bit e f g h = grind (arith, nat_tests, e, f, g, h)

-- A lent part that can become its parent may.
pub may_become : (lent : List LentLeaf) (size : ℕ) (counts words filled : List ℕ) (entries : List (Option Lending))
    (part : Span) (front : ℕ) (is : IsLentIn lent size counts words filled entries part) → 0 < front
    → front ≤ 2 * size_of part.level → can_enlarge part (free_in 0 0 is.kept.node) ≡ true
    → MayBecome 0 0 part front is.kept.node
may_become lent size counts words filled entries part front is some within can = record {
  tree = is.kept.tree.tree;
  of_root = root_part;
  low = is.low;
  lent = is.there;
  some = some;
  within = within;
  can = can;
}

-- Its follower starts in the root.
pub follower_in_root : (lent : List LentLeaf) (size : ℕ) (counts words filled : List ℕ)
    (entries : List (Option Lending)) (part : Span) (is : IsLentIn lent size counts words filled entries part)
    → can_enlarge part (free_in 0 0 is.kept.node) ≡ true → part.start + size_of part.level < 524288
follower_in_root lent size counts words filled entries part is can =
    let leaves = are_leaves is.kept.node is.kept.tree.tree in
    buddy_within part.start part.level (no_root_can part _ can) is.low (leads_of part _ can)
    (lent_part part (lent_in 0 0 is.kept.node) leaves.parts leaves.in_root is.there).1

-- What is said of a leaf that is lent at the part that holds an offset.
pub lends_there : (lent : List LentLeaf) (free : List Span) (at : Span) (level : ℕ) (leaf : Leaf)
    → LendsAt lent level (at.start - at.start % size_of level) leaf
    → IsLeafAt at.start (holder_of level at) leaf lent free
lends_there lent free at level FreeLeaf lends = absurd lends
lends_there lent free at level (LentTo owner front) lends = lends.1 at.start (holder_covers at level)
