-- A lent part is released, and free halves merge: the node that results. For releasing.
use Rattle.std.proofs.Common.{◌≡◌, ◌<◌, ◌≤◌, ℕ, ◌+◌, Bool, true, false, [], ◌++◌, Some, refl, sym, ap, ◌∙◌, inl, inr, arith}
use Rattle.std.specs.Prelude.{◌==◌, ◌&&◌, ◌||◌, IsTrue}
use Rattle.std.specs.List.{find}
use Rattle.std.proofs.lemmas.Bool.{cases_eq, cases_lt}
use Rattle.std.proofs.lemmas.Bool.Decides.{nat_tests}
use Rattle.ms_base.specs.declared.span.Span.{Span}
use Rattle.ms_base.specs.Level.{size_of}
use Rattle.ms_buddy.specs.Counts.{IsParted, holder_of}
use Rattle.ms_buddy.specs.Leaves.{covers, is_lent, is_same, span_at, without_leaf}
use Rattle.ms_buddy.specs.Tree.{Node, Free, Lent, Split, IsRootPart, IsSplit, IsTree, free_in, is_free, lent_in}
use Rattle.ms_buddy.proofs.TreeHalvesLemmas.{lower_part, size_of-halves, size_of-some, upper_part}
use Rattle.ms_buddy.proofs.SplitLemmas.{at_split, lent_part_lies_in, lower_changed, lower_found, lower_lent, upper_changed}
use Rattle.ms_buddy.proofs.SplitLemmas.{upper_found, upper_lent, without_acts}
use Rattle.ms_buddy.proofs.counts.CountLemmas.{leaf_parted, lower_parted_at, upper_parted_at}
use Rattle.ms_buddy.proofs.changes.MergeLemmas.{is_whole, lower_merged, upper_merged, whole_found}
use Rattle.ms_buddy.proofs.changes.CarvedLemmas.{and_false}

-- What results, and the level of the free leaf that the part is in then.
pub record Released (level start : ℕ) (part : Span) (before : Node) : Type 0 where
  pub after : Node
  pub free : ℕ
  pub below : level ≤ free
  pub tree : IsTree level after
  pub whole : is_free after ≡ (free == level)
  pub lent : lent_in level start after ≡ without_leaf part (lent_in level start before)
  pub found : find (covers part.start) (free_in level start after) ≡ Some (holder_of free part)
  pub parted : IsParted (free_in level start after) (holder_of free part) part (free_in level start before)
  pub was : IsSplit after → IsSplit before

none_lent : (level start : ℕ) (node : Node) → is_free node ≡ true → lent_in level start node ≡ []
none_lent level start Free e = refl
none_lent level start (Lent owner front) e = absurd (cc)
none_lent level start (Split lower upper) e = absurd (cc)

pub or_first : (b : Bool) → (b || false) ≡ true → b ≡ true
or_first true e = refl
or_first false e = absurd (cc)

deeper : (free level : ℕ) → level + 1 ≤ free → (free == level) ≡ false
deeper free level h = grind (arith, nat_tests)

other_level : (free level : ℕ) → (free ≡ level → ⊥) → (free == level) ≡ false
other_level free level h = grind (arith, nat_tests)

-- The other half isn't free, or the part merges no further.
kept_lower : (level start : ℕ) (lower upper : Node) (part : Span) → IsTree level (Split lower upper)
    → part.start < start + size_of (level + 1) → (half : Released (level + 1) start part lower)
    → (is_free half.after && is_free upper) ≡ false → Released level start part (Split lower upper)
kept_lower level start lower upper part tree below half one =
    let s = at_split level start lower upper tree in record {
      after = Split half.after upper;
      free = half.free;
      below = omega (arith, half.below);
      tree = (s.low, one, half.tree, tree.3);
      whole = sym (deeper half.free level half.below);
      lent = lower_changed level start _ lower upper half.after part (without_leaf part) (without_acts part) s.halves below
          half.lent;
      found = lower_found part.start level start half.after upper _ half.found;
      parted = lower_parted_at level start half.after lower upper _ part half.parted;
      was = λ split. tt;
    }

kept_upper : (level start : ℕ) (lower upper : Node) (part : Span) → IsTree level (Split lower upper)
    → start + size_of (level + 1) ≤ part.start
    → (half : Released (level + 1) (start + size_of (level + 1)) part upper)
    → (is_free lower && is_free half.after) ≡ false → Released level start part (Split lower upper)
kept_upper level start lower upper part tree above half one =
    let s = at_split level start lower upper tree in record {
      after = Split lower half.after;
      free = half.free;
      below = omega (arith, half.below);
      tree = (s.low, one, tree.2, half.tree);
      whole = sym (deeper half.free level half.below);
      lent = upper_changed level start _ lower upper half.after part (without_leaf part) (without_acts part) s.halves above
          half.lent;
      found = upper_found part.start level start _ lower half.after _ tree.2 refl above half.found;
      parted = upper_parted_at level start _ lower half.after upper _ part refl half.parted;
      was = λ split. tt;
    }

in_lower : (level start : ℕ) (lower upper : Node) (part : Span) → IsTree level (Split lower upper) → IsRootPart level start
    → IsTrue (is_lent (lent_in level start (Split lower upper)) part) → part.start < start + size_of (level + 1)
    → Released (level + 1) start part lower → Released level start part (Split lower upper)
in_lower level start lower upper part tree of_root lent below half =
    elim (is_free upper) as (λ b. is_free upper ≡ b → Released level start part (Split lower upper)) [
      | false ↦ λ beside. kept_lower level start lower upper part tree below half
          (ap (λ b. is_free half.after && b) beside ∙ and_false (is_free half.after))
      | true ↦ λ beside. elim (cases_eq half.free (level + 1)) [
        | inr stays ↦ kept_lower level start lower upper part tree below half
            (ap (λ b. b && is_free upper) (half.whole ∙ other_level half.free (level + 1) stays))
        | inl merges ↦ let s = at_split level start lower upper tree in record {
          after = Free;
          free = level;
          below = omega arith;
          tree = tt;
          whole = sym (is_whole level level refl);
          lent = sym (ap (λ xs. xs ++ lent_in (level + 1) (start + size_of (level + 1)) upper)
              (none_lent (level + 1) start half.after (half.whole ∙ is_whole half.free (level + 1) merges))
              ∙ none_lent (level + 1) (start + size_of (level + 1)) upper beside)
              ∙ lower_changed level start _ lower upper half.after part (without_leaf part) (without_acts part) s.halves
              below half.lent;
          found = whole_found part level start (Split lower upper) tree of_root lent;
          parted = lower_merged part level start _ half.free (Split lower upper) lower upper half.after s tree of_root lent
              below beside half.whole merges half.parted;
          was = λ split. absurd split;
        }
      ]
    ] refl

in_upper : (level start : ℕ) (lower upper : Node) (part : Span) → IsTree level (Split lower upper) → IsRootPart level start
    → IsTrue (is_lent (lent_in level start (Split lower upper)) part) → start + size_of (level + 1) ≤ part.start
    → Released (level + 1) (start + size_of (level + 1)) part upper → Released level start part (Split lower upper)
in_upper level start lower upper part tree of_root lent above half =
    elim (is_free lower) as (λ b. is_free lower ≡ b → Released level start part (Split lower upper)) [
      | false ↦ λ beside. kept_upper level start lower upper part tree above half
          (ap (λ b. b && is_free half.after) beside)
      | true ↦ λ beside. elim (cases_eq half.free (level + 1)) [
        | inr stays ↦ kept_upper level start lower upper part tree above half
            (ap (λ b. is_free lower && b) (half.whole ∙ other_level half.free (level + 1) stays)
            ∙ and_false (is_free lower))
        | inl merges ↦ let s = at_split level start lower upper tree in
            let lies = lent_part_lies_in part level start (Split lower upper) tree lent in record {
              after = Free;
              free = level;
              below = omega arith;
              tree = tt;
              whole = sym (is_whole level level refl);
              lent = sym (ap (λ xs. xs ++ lent_in (level + 1) (start + size_of (level + 1)) half.after)
                  (none_lent (level + 1) start lower beside)
                  ∙ none_lent (level + 1) (start + size_of (level + 1)) half.after
                  (half.whole ∙ is_whole half.free (level + 1) merges))
                  ∙ upper_changed level start _ lower upper half.after part (without_leaf part) (without_acts part) s.halves
                  above half.lent;
              found = whole_found part level start (Split lower upper) tree of_root lent;
              parted = upper_merged part level start _ half.free (Split lower upper) lower upper half.after s tree of_root lent
                  above (omega (arith, lies.to, size_of-halves level s.low, size_of-some part.level)) beside half.whole merges
                  half.parted;
              was = λ split. absurd split;
            }
      ]
    ] refl

pub released : (level start : ℕ) (node : Node) (part : Span) → IsTree level node → IsRootPart level start
    → IsTrue (is_lent (lent_in level start node) part) → Released level start part node
released level start Free part tree of_root lent = absurd (cc)
released level start (Lent owner front) part tree of_root lent = record {
  after = Free;
  free = level;
  below = omega arith;
  tree = tt;
  whole = sym (is_whole level level refl);
  lent = rw (or_first (is_same part (span_at start level)) lent) refl;
  found = whole_found part level start (Lent owner front) tree of_root lent;
  parted = leaf_parted part level start owner front (Lent owner front) refl of_root lent;
  was = λ split. absurd split;
}
released level start (Split lower upper) part tree of_root lent =
    let s = at_split level start lower upper tree in
    elim (cases_lt part.start (start + size_of (level + 1))) [
      | inl below ↦ in_lower level start lower upper part tree of_root lent below
          (released (level + 1) start lower part tree.2 (lower_part level start of_root s.low)
          (lower_lent part level start _ lower upper s.halves below lent))
      | inr above ↦ in_upper level start lower upper part tree of_root lent above
          (released (level + 1) (start + size_of (level + 1)) upper part tree.3
          (upper_part level start _ of_root s.low refl)
          (upper_lent part level start _ lower upper s.halves above lent))
    ]
