-- Two free halves merge: the part that results, and what it does to the free leaves. For releasing.
use Rattle.std.proofs.Common.{◌≡◌, ◌<◌, ◌≤◌, ℕ, ◌+◌, true, [], ◌∷◌, Some, refl, sym, ap, subst, ◌∙◌, arith}
use Rattle.std.specs.Prelude.{◌==◌, ◌&&◌, nat_le, nat_lt, IsTrue}
use Rattle.std.specs.List.{find}
use Rattle.std.proofs.lemmas.Bool.Decides.{nat_tests}
use Rattle.ms_base.specs.declared.span.Span.{Span}
use Rattle.ms_base.specs.Level.{size_of}
use Rattle.ms_buddy.specs.Tree.{Node}
use Rattle.ms_buddy.specs.Tree.{Free, Lent, Split}
use Rattle.ms_buddy.specs.Counts.{IsParted, holder_of}
use Rattle.ms_buddy.specs.Leaves.{covers, is_lent, span_at}
use Rattle.ms_buddy.specs.Tree.{IsRootPart, IsTree, free_in, is_free, lent_in}
use Rattle.ms_buddy.proofs.TreeHalvesLemmas.{holder_is, lower_part, size_of-some, upper_part}
use Rattle.ms_buddy.proofs.WalkLemmas.{LiesIn}
use Rattle.ms_buddy.proofs.SplitLemmas.{AtSplit, lent_part_lies_in}
use Rattle.ms_buddy.proofs.counts.CountLemmas.{lower_half_parted, upper_half_parted}

-- The part of a node's level in which a part starts that is lent in the node is the node's.
holder_in : (part : Span) (level start : ℕ) (node : Node) → IsTree level node → IsRootPart level start
    → IsTrue (is_lent (lent_in level start node) part) → holder_of level part ≡ span_at start level
holder_in part level start node tree of_root lent =
    let lies : LiesIn start (start + size_of level) part = lent_part_lies_in part level start node tree lent in
    holder_is level start part of_root lies.from (omega (arith, lies.to, size_of-some part.level))

-- A node that is merged whole is the free leaf that covers the part that was lent in it.
pub whole_found : (part : Span) (level start : ℕ) (node : Node) → IsTree level node → IsRootPart level start
    → IsTrue (is_lent (lent_in level start node) part)
    → find (covers part.start) (span_at start level ∷ []) ≡ Some (holder_of level part)
whole_found part level start node tree of_root lent =
    rw (covered start part.start (size_of level) lies.from (omega (arith, lies.to, size_of-some part.level)))
    (ap Some (sym (holder_in part level start node tree of_root lent)))
  where
    lies : LiesIn start (start + size_of level) part
    lies = lent_part_lies_in part level start node tree lent

    covered : (a b s : ℕ) → a ≤ b → b < a + s → (nat_le a b && nat_lt b (a + s)) ≡ true
    covered a b s h k = grind (arith, nat_tests)

-- The half is free from which a part was released to the half's level.
pub is_whole : (a b : ℕ) → a ≡ b → (a == b) ≡ true
is_whole a b e = grind (arith, nat_tests)

-- The free leaves of a half that is free.
free_alone : (level start : ℕ) (node : Node) → is_free node ≡ true
    → free_in level start node ≡ span_at start level ∷ []
free_alone level start Free e = refl
free_alone level start (Lent owner front) e = absurd (cc)
free_alone level start (Split lower upper) e = absurd (cc)

-- What a merge makes of the free leaves, where the part was in the lower half, or in the upper one.
pub lower_merged : (part : Span) (level start half free : ℕ) (node lower upper now : Node)
    → AtSplit level start half node lower upper → IsTree level node → IsRootPart level start
    → IsTrue (is_lent (lent_in level start node) part) → part.start < start + half → is_free upper ≡ true
    → is_free now ≡ (free == level + 1) → free ≡ level + 1
    → IsParted (free_in (level + 1) start now) (holder_of free part) part (free_in (level + 1) start lower)
    → IsParted (span_at start level ∷ []) (holder_of level part) part (free_in level start node)
lower_merged part level start half free node lower upper now s tree of_root lent below beside whole e parted =
    rw (s.free, holder_in part level start node tree of_root lent, free_alone (level + 1) (start + size_of (level + 1)) upper beside)
    (lower_half_parted part level start (free_in (level + 1) start lower)
    (omega (arith, parted.order, e)) (omega (arith, s.halves.size, below))
    (rw (free_alone (level + 1) start now (whole ∙ is_whole free (level + 1) e), ap (λ (n : ℕ). holder_of n part) e ∙ held)
    at parted))
  where
    lies : LiesIn start (start + size_of level) part
    lies = lent_part_lies_in part level start node tree lent

    held : holder_of (level + 1) part ≡ span_at start (level + 1)
    held = holder_is (level + 1) start part (lower_part level start of_root s.low) lies.from
        (omega (arith, s.halves.size, below))

pub upper_merged : (part : Span) (level start half free : ℕ) (node lower upper now : Node)
    → AtSplit level start half node lower upper → IsTree level node → IsRootPart level start
    → IsTrue (is_lent (lent_in level start node) part) → start + half ≤ part.start
    → part.start < start + half + size_of (level + 1) → is_free lower ≡ true
    → is_free now ≡ (free == level + 1) → free ≡ level + 1
    → IsParted (free_in (level + 1) (start + half) now) (holder_of free part) part (free_in (level + 1) (start + half) upper)
    → IsParted (span_at start level ∷ []) (holder_of level part) part (free_in level start node)
upper_merged part level start half free node lower upper now s tree of_root lent above below beside whole e parted =
    rw (s.free, holder_in part level start node tree of_root lent, free_alone (level + 1) start lower beside)
    (upper_half_parted part level start (free_in (level + 1) (start + size_of (level + 1)) upper)
    (omega (arith, parted.order, e)) (omega (arith, s.halves.size, above))
    (subst (λ (n : ℕ). IsParted (span_at (start + n) (level + 1) ∷ []) (span_at (start + n) (level + 1)) part
    (free_in (level + 1) (start + n) upper)) s.halves.size
    (rw (
      free_alone (level + 1) (start + half) now (whole ∙ is_whole free (level + 1) e),
      ap (λ (n : ℕ). holder_of n part) e ∙ held,
    ) at parted)))
  where
    held : holder_of (level + 1) part ≡ span_at (start + half) (level + 1)
    held = holder_is (level + 1) (start + half) part
        (upper_part level start (start + half) of_root s.low (omega (arith, s.halves.size))) above below
