-- What is kept true once a part was lent. For `PartTable::carve`.
use Rattle.std.proofs.Common.{◌≡◌, ◌<◌, ◌≤◌, ℕ, ◌+◌, ◌/◌, ◌%◌, true, false, List, [], ◌∷◌, Option}
use Rattle.std.proofs.Common.{Some, length, refl, sym, ap, subst, ◌∙◌, inl, inr, arith}
use Rattle.std.specs.Prelude.{Result, Ok, Err, OnOk, OnErr, slice_set}
use Rattle.std.specs.List.{list_any}
use Rattle.std.specs.Result.{is_err}
use Rattle.std.proofs.lemmas.Bool.{cases_lt}
use Rattle.ms_base.specs.declared.span.Span.{Span}
use Rattle.ms_base.specs.Level.{size_of, highest_level}
use Rattle.ms_buddy.specs.declared.entries.Lending.{Lending}
use Rattle.ms_buddy.specs.Counts.{AreShifted, IsParted, beside, holder_of}
use Rattle.ms_buddy.specs.FreeBits.{IsFilled, IsKept, IsMoved}
use Rattle.ms_buddy.specs.Leaves.{LentLeaf, is_same, leaf_of, with_leaf}
use Rattle.ms_buddy.specs.Entries.{lent_from}
use Rattle.ms_buddy.specs.Tree.{free_in}
use Rattle.ms_buddy.proofs.bits.BuddyLemmas.{past}
use Rattle.ms_buddy.proofs.changes.CarvedLemmas.{Carved}
use Rattle.ms_buddy.proofs.searches.CoverLemmas.{same}
use Rattle.ms_buddy.proofs.searches.FoundLemmas.{alike}
use Rattle.ms_buddy.proofs.counts.TreeCountLemmas.{parted_counts}
use Rattle.ms_buddy.proofs.EntryChangeLemmas.{carve_put, same_length}
use Rattle.ms_buddy.proofs.CallLemmas.{IsAsked, carve_done, split_past}

-- What a part is asked for that is one of the root.
pub asked : (lent : List LentLeaf) (size : ℕ) (counts words filled : List ℕ) (kept : IsKept lent size counts words filled)
    (part : Span) → part.start < 524288 → part.level ≤ highest_level → part.start % size_of part.level ≡ 0
    → IsAsked kept.node words part
asked lent size counts words filled kept part below low aligned = record {
  root = record { tree = kept.tree.tree; marked = kept.tree.marked; in_root = below };
  low = low;
  aligned = aligned;
}

-- What holds of a result that is an error, and of one that isn't.
pub err_holds : {A B : Type 0} (result : Result A B) (P : Type 0) → is_err result ≡ true → OnErr result P → P
err_holds (Ok value) P e h = absurd (cc (e))
err_holds (Err refusal) P e h = h

pub ok_holds : {A B : Type 0} (result : Result A B) (P : Type 0) → is_err result ≡ false → OnOk result P → P
ok_holds (Ok value) P e h = h
ok_holds (Err refusal) P e h = absurd (cc (e))

-- What is kept true once a part was lent: of a root with an entry for it, whose bits tell the leaf
-- that it lies in.
pub record Lends (lent : List LentLeaf) (size : ℕ) (counts words filled : List ℕ) (part : Span) (owner front free : ℕ)
    : Type 0 where
  pub kept : IsKept lent size counts words filled
  pub is : IsAsked kept.node words part
  pub some : 0 < front
  pub within : front ≤ size_of part.level
  pub order : free ≤ part.level
  pub any : list_any (is_same (holder_of free part)) (free_in 0 0 kept.node) ≡ true

pub node_then : (lent : List LentLeaf) (size : ℕ) (counts words filled : List ℕ) (part : Span) (owner front free : ℕ)
    (l : Lends lent size counts words filled part owner front free) → Carved 0 0 part owner front l.kept.node
node_then lent size counts words filled part owner front free l =
    (carve_done l.kept.node words part owner front free l.is l.some l.within l.order l.any).0

free_then : (lent : List LentLeaf) (size : ℕ) (counts words filled : List ℕ) (part : Span) (owner front free : ℕ)
    (l : Lends lent size counts words filled part owner front free)
    → (node_then lent size counts words filled part owner front free l).free ≡ free
unfolding node_then
free_then lent size counts words filled part owner front free l =
    (carve_done l.kept.node words part owner front free l.is l.some l.within l.order l.any).1

pub parts_then : (lent : List LentLeaf) (size : ℕ) (counts words filled : List ℕ) (part : Span) (owner front free : ℕ)
    (l : Lends lent size counts words filled part owner front free)
    → IsParted (free_in 0 0 l.kept.node) (holder_of free part) part
    (free_in 0 0 (node_then lent size counts words filled part owner front free l).after)
unfolding node_then
parts_then lent size counts words filled part owner front free l =
    let done = carve_done l.kept.node words part owner front free l.is l.some l.within l.order l.any in
    subst (λ (n : ℕ). IsParted (free_in 0 0 l.kept.node) (holder_of n part) part (free_in 0 0 done.0.after)) done.1
    done.0.parted

-- There is an entry for the part that is lent, once there are others where it is parted.
pub entry_then : (lent : List LentLeaf) (size : ℕ) (counts words filled : List ℕ) (part : Span)
    (owner front free : ℕ) (l : Lends lent size counts words filled part owner front free) (now : ℕ)
    → (free < part.level → now ≡ 4096) → (size ≡ 4096 → now ≡ 4096) → size ≤ now → part.start / 128 < now
entry_then lent size counts words filled part owner front free l now made stay more =
    elim (cases_lt free part.level) [
      | inl deep ↦ omega (arith, l.is.root.in_root, made deep)
      | inr past ↦ elim (cases_lt 0 part.start) [
        | inr none ↦ omega (arith, none, l.kept.some, more)
        | inl some ↦ omega (
          arith,
          l.is.root.in_root,
          stay (l.kept.room (split_past l.kept.node part
              (subst (λ (p : Span). list_any (is_same p) (free_in 0 0 l.kept.node) ≡ true)
              (own (omega (arith, l.order, past))) l.any) some)),
        )
      ]
    ]
  where
    own : free ≡ part.level → holder_of free part ≡ part
    own e = alike (holder_of free part) part
        (omega (arith, subst (λ (n : ℕ). part.start % size_of n ≡ 0) (sym e) l.is.aligned)) e

pub kept_then : (lent : List LentLeaf) (size : ℕ) (counts words filled : List ℕ) (part : Span) (owner front free : ℕ)
    (l : Lends lent size counts words filled part owner front free) (entries : List (Option Lending)) (lending : Lending)
    (counted moved told : List ℕ) → lent_from 0 entries ≡ lent → (free < part.level → length entries ≡ 4096)
    → (size ≡ 4096 → length entries ≡ 4096) → size ≤ length entries
    → lending.level ≡ part.level → lending.owner ≡ owner → lending.front ≡ front
    → AreShifted counts free (part.level + 1) counted → IsMoved words (holder_of free part ∷ []) (beside (holder_of free part) part) moved
    → IsFilled moved told
    → IsKept (lent_from 0 (slice_set entries (part.start / 128) (Some lending)))
    (length (slice_set entries (part.start / 128) (Some lending))) counted moved told
kept_then lent size counts words filled part owner front free l entries lending counted moved told same made stay more
    level own reach shifted bits full =
    let parted = parts_then lent size counts words filled part owner front free l in
    let c = node_then lent size counts words filled part owner front free l in
    let long = same_length entries (part.start / 128) (Some lending) in record {
      node = c.after;
      tree = record {
        tree = c.tree;
        counted = parted_counts counts counted _ _ (holder_of free part) part l.kept.tree.counted parted shifted;
        marked = λ number. omega (arith, bits number, l.kept.tree.marked number, parted.numbered number);
        told = full;
      };
      lent_is = c.lent ∙ ap (with_leaf (leaf_of part owner front)) (l.kept.lent_is ∙ sym same)
          ∙ sym (carve_put l.kept.node words part free entries lending l.is (l.kept.lent_is ∙ sym same)
          (entry_then lent size counts words filled part owner front free l (length entries) made stay more) l.any
          level ∙ leaf_same lending.owner owner lending.front front own reach);
      some = omega (arith, long, l.kept.some, more);
      room = λ split. long ∙ elim (c.was split) [
        | inl before ↦ stay (l.kept.room before)
        | inr deep ↦ made (omega (arith, deep, free_then lent size counts words filled part owner front free l))
      ];
    }
  where
    leaf_same : (a b d e : ℕ) → a ≡ b → d ≡ e → with_leaf (leaf_of part a d) (lent_from 0 entries)
        ≡ with_leaf (leaf_of part b e) (lent_from 0 entries)
    leaf_same a b d e f g = rw (f, g) refl

pub lent_then : (lent : List LentLeaf) (size : ℕ) (counts words filled : List ℕ) (part : Span) (owner front free : ℕ)
    (l : Lends lent size counts words filled part owner front free) (entries : List (Option Lending)) (lending : Lending)
    → lent_from 0 entries ≡ lent → (free < part.level → length entries ≡ 4096)
    → (size ≡ 4096 → length entries ≡ 4096) → size ≤ length entries
    → lending.level ≡ part.level → lending.owner ≡ owner → lending.front ≡ front
    → lent_from 0 (slice_set entries (part.start / 128) (Some lending)) ≡ with_leaf (leaf_of part owner front) lent
lent_then lent size counts words filled part owner front free l entries lending same made stay more level own reach =
    carve_put l.kept.node words part free entries lending l.is (l.kept.lent_is ∙ sym same)
    (entry_then lent size counts words filled part owner front free l (length entries) made stay more) l.any level
    ∙ rw (same, own, reach) refl
