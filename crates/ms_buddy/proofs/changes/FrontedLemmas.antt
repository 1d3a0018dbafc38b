-- A lent leaf has another front: the node that results. For the change of a front.
use Rattle.std.proofs.Common.{◌≡◌, ◌<◌, ◌≤◌, ℕ, ◌+◌, true, false, ◌++◌, refl, sym, ap, subst, ◌∙◌, inl, inr, arith}
use Rattle.std.specs.Prelude.{◌==◌, ◌&&◌, ◌||◌, IsTrue}
use Rattle.std.proofs.lemmas.Bool.{cases_lt}
use Rattle.std.proofs.lemmas.Bool.Decides.{nat_tests}
use Rattle.ms_base.specs.declared.span.Span.{Span}
use Rattle.ms_base.specs.Level.{size_of}
use Rattle.ms_buddy.specs.Leaves.{is_lent, is_same, span_at, with_front}
use Rattle.ms_buddy.specs.Tree.{Node, Free, Lent, Split, IsSplit, IsTree, free_in, is_free, lent_in}
use Rattle.ms_buddy.proofs.changes.ReleasedLemmas.{or_first}
use Rattle.ms_buddy.proofs.SplitLemmas.{at_split, front_acts, lower_changed, lower_lent, upper_changed, upper_lent}

-- What results.
pub record Fronted (level start : ℕ) (part : Span) (front : ℕ) (before : Node) : Type 0 where
  pub after : Node
  pub tree : IsTree level after
  pub free : is_free after ≡ is_free before
  pub lent : lent_in level start after ≡ with_front part front (lent_in level start before)
  pub parts : free_in level start after ≡ free_in level start before
  pub was : IsSplit after → IsSplit before

level_is : (a b c d : ℕ) → (((a == b) && (c == d)) || false) ≡ true → c ≡ d
level_is a b c d e = grind (arith, nat_tests)

pub fronted : (level start : ℕ) (node : Node) (part : Span) (front : ℕ) → IsTree level node
    → IsTrue (is_lent (lent_in level start node) part) → 0 < front → front ≤ size_of part.level
    → Fronted level start part front node
fronted level start Free part front tree lent some within = absurd (cc)
fronted level start (Lent owner other) part front tree lent some within = record {
  after = Lent owner front;
  tree = (some, subst (λ (n : ℕ). front ≤ size_of n) (sym (level_is start part.start level part.level lent)) within);
  free = refl;
  lent = rw (or_first (is_same part (span_at start level)) lent) refl;
  parts = refl;
  was = λ split. absurd split;
}
fronted level start (Split lower upper) part front tree lent some within =
    let s = at_split level start lower upper tree in
    elim (cases_lt part.start (start + size_of (level + 1))) [
      | inl below ↦
          let half = fronted (level + 1) start lower part front tree.2
          (lower_lent part level start _ lower upper s.halves below lent) some within in record {
            after = Split half.after upper;
            tree = (s.low, ap (λ b. b && is_free upper) half.free ∙ s.one, half.tree, tree.3);
            free = refl;
            lent = lower_changed level start _ lower upper half.after part (with_front part front) (front_acts part front)
                s.halves below half.lent;
            parts = ap (λ xs. xs ++ free_in (level + 1) (start + size_of (level + 1)) upper) half.parts;
            was = λ split. tt;
          }
      | inr above ↦
          let half = fronted (level + 1) (start + size_of (level + 1)) upper part front tree.3
          (upper_lent part level start _ lower upper s.halves above lent) some within in record {
            after = Split lower half.after;
            tree = (s.low, ap (λ b. is_free lower && b) half.free ∙ s.one, tree.2, half.tree);
            free = refl;
            lent = upper_changed level start _ lower upper half.after part (with_front part front) (front_acts part front)
                s.halves above half.lent;
            parts = ap (λ xs. free_in (level + 1) start lower ++ xs) half.parts;
            was = λ split. tt;
          }
    ]
