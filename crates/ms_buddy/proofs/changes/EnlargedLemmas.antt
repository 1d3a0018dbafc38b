-- A leader whose buddy is free becomes its parent: the node that results. For enlarging.
use Rattle.std.proofs.Common.{◌≡◌, ◌<◌, ◌≤◌, ℕ, ◌+◌, ◌*◌, Bool, true, false, [], ◌∷◌, refl, sym, ap, ◌∙◌, inl, inr, arith}
use Rattle.std.specs.Prelude.{◌==◌, ◌&&◌, nat_lt, IsTrue}
use Rattle.std.proofs.lemmas.Bool.{cases_eq, cases_lt}
use Rattle.std.proofs.lemmas.Bool.Decides.{nat_tests}
use Rattle.ms_base.specs.declared.span.Span.{Span}
use Rattle.ms_base.specs.Level.{size_of, highest_level}
use Rattle.ms_base.specs.Part.{is_leader}
use Rattle.ms_buddy.specs.Counts.{IsParted, follower_of}
use Rattle.ms_buddy.specs.Leaves.{can_enlarge, is_lent, with_parent}
use Rattle.ms_buddy.specs.Tree.{Node, Free, Lent, Split, IsRootPart, IsSplit, IsTree, free_in, is_free, lent_in}
use Rattle.ms_buddy.proofs.TreeHalvesLemmas.{lower_part, size_of-halves, upper_part}
use Rattle.ms_buddy.proofs.SplitLemmas.{at_split, lower_changed, lower_lent, parent_acts, upper_changed, upper_lent}
use Rattle.ms_buddy.proofs.changes.EnlargeLemmas.{follower_cannot, leader_cannot, lower_can, split_not_leader, starts_here, upper_can}
use Rattle.ms_buddy.proofs.counts.CountLemmas.{leader_parted, lower_parted_at, upper_parted_at}
use Rattle.ms_buddy.proofs.changes.CarvedLemmas.{clash}

-- What results.
pub record Enlarged (level start : ℕ) (part : Span) (front : ℕ) (before : Node) : Type 0 where
  pub after : Node
  pub tree : IsTree level after
  pub free : is_free after ≡ is_free before
  pub lent : lent_in level start after ≡ with_parent part front (lent_in level start before)
  pub parted : IsParted (free_in level start before) (follower_of part) (follower_of part) (free_in level start after)
  pub was : IsSplit after → IsSplit before

-- What is asked.
pub record MayBecome (level start : ℕ) (part : Span) (front : ℕ) (node : Node) : Type 0 where
  pub tree : IsTree level node
  pub of_root : IsRootPart level start
  pub low : part.level ≤ highest_level
  pub lent : IsTrue (is_lent (lent_in level start node) part)
  pub some : 0 < front
  pub within : front ≤ 2 * size_of part.level
  pub can : can_enlarge part (free_in level start node) ≡ true

none_can : (a b : Bool) → (a && b && false) ≡ true → ⊥
none_can true true e = absurd (cc)
none_can true false e = absurd (cc)
none_can false b e = absurd (cc)

same_leaf : (a b c d : ℕ) → a ≡ b → c ≡ d → ((a == b) && (c == d)) ≡ true
same_leaf a b c d e f = grind (arith, nat_tests)

-- The part is the lower half, and the upper one is free.
here : (level start : ℕ) (lower upper : Node) (part : Span) (front : ℕ)
    → MayBecome level start part front (Split lower upper) → part.level ≡ level + 1 → part.start ≡ start
    → Enlarged level start part front (Split lower upper)
here level start Free Free part front may child starts = absurd (cc (may.lent))
here level start (Split low high) Free part front may child starts =
    let s = at_split level start (Split low high) Free may.tree in
    absurd (split_not_leader part level start _ (Split low high) Free low high s.halves may.lent (omega (arith, starts))
    child refl)
here level start (Lent owner other) Free part front may child starts = record {
  after = Lent owner front;
  tree = (may.some, omega (arith, may.within, size_of-halves level may.tree.0, ap size_of child));
  free = refl;
  lent = rw (same_leaf start part.start (level + 1) part.level (sym starts) (sym child))
      (ap (λ (n : ℕ). record { start = start; level = n; owner = owner; front = front } ∷ []) (omega arith));
  parted = leader_parted part level start owner other (Lent owner other) Free may.tree.0 refl refl child starts;
  was = λ split. tt;
}
here level start lower (Lent owner other) part front may child starts =
    let s = at_split level start lower (Lent owner other) may.tree in
    absurd (clash _ may.can (leader_cannot part level start _ lower (Lent owner other) s.halves child starts refl))
here level start lower (Split low high) part front may child starts =
    let s = at_split level start lower (Split low high) may.tree in
    absurd (clash _ may.can (leader_cannot part level start _ lower (Split low high) s.halves child starts refl))

pub enlarged : (level start : ℕ) (node : Node) (part : Span) (front : ℕ) → MayBecome level start part front node
    → Enlarged level start part front node
enlarged level start Free part front may = absurd (cc (may.lent))
enlarged level start (Lent owner other) part front may = absurd (none_can (nat_lt 0 part.level) (is_leader part.start part.level) may.can)
enlarged level start (Split lower upper) part front may =
    let s = at_split level start lower upper may.tree in
    elim (cases_eq part.level (level + 1)) [
      | inl child ↦ elim (cases_lt start part.start) [
        | inl above ↦ absurd (clash _ may.can (follower_cannot part level start _ lower upper _ s.halves may.of_root s.low
            may.lent child above))
        | inr below ↦ here level start lower upper part front may child
            (starts_here part level start _ lower upper s.halves may.lent below)
      ]
      | inr other ↦ elim (cases_lt part.start (start + size_of (level + 1))) [
        | inl below ↦
            let half = enlarged (level + 1) start lower part front (record {
              tree = may.tree.2;
              of_root = lower_part level start may.of_root s.low;
              low = may.low;
              lent = lower_lent part level start _ lower upper s.halves below may.lent;
              some = may.some;
              within = may.within;
              can = sym (lower_can part level start _ lower upper s.halves may.of_root may.lent other may.low below) ∙ may.can;
            }) in record {
              after = Split half.after upper;
              tree = (s.low, ap (λ b. b && is_free upper) half.free ∙ s.one, half.tree, may.tree.3);
              free = refl;
              lent = lower_changed level start _ lower upper half.after part (with_parent part front) (parent_acts part front)
                  s.halves below half.lent;
              parted = lower_parted_at level start lower half.after upper _ _ half.parted;
              was = λ split. tt;
            }
        | inr above ↦
            let half = enlarged (level + 1) (start + size_of (level + 1)) upper part front (record {
              tree = may.tree.3;
              of_root = upper_part level start _ may.of_root s.low refl;
              low = may.low;
              lent = upper_lent part level start _ lower upper s.halves above may.lent;
              some = may.some;
              within = may.within;
              can = sym (upper_can part level start _ lower upper s.halves above) ∙ may.can;
            }) in record {
              after = Split lower half.after;
              tree = (s.low, ap (λ b. is_free lower && b) half.free ∙ s.one, may.tree.2, half.tree);
              free = refl;
              lent = upper_changed level start _ lower upper half.after part (with_parent part front) (parent_acts part front)
                  s.halves above half.lent;
              parted = upper_parted_at level start _ lower upper half.after _ _ refl half.parted;
              was = λ split. tt;
            }
      ]
    ]
