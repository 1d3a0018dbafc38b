-- Whether a lent leaf can become its parent, by whether its buddy is one free leaf.
use Rattle.std.proofs.Common.{◌≡◌, ◌<◌, ◌≤◌, ℕ, ◌+◌, ◌-◌, ◌*◌, ◌%◌, Bool, true, false, ◌&&◌, ◌||◌, List, []}
use Rattle.std.proofs.Common.{◌∷◌, refl, sym, ap, subst, ◌∙◌, arith, eq-eqb, eqb-true, ne_eqb, lt-ltb}
use Rattle.std.proofs.Common.{ltb-true}
use Rattle.std.specs.Prelude.{◌==◌, nat_lt}
use Rattle.std.specs.List.{AllByRecursion, list_any}
use Rattle.std.proofs.Math.Nat.{add-mod_right}
use Rattle.std.proofs.lemmas.Bool.{and_parts}
use Rattle.ms_base.specs.declared.span.Span.{Span}
use Rattle.ms_base.specs.Level.{size_of, highest_level}
use Rattle.ms_base.specs.Part.{IsPart, buddy_start, is_leader}
use Rattle.ms_base.proofs.free.HalvesLemmas.{multiple_of_smaller, steps_apart}
use Rattle.ms_buddy.specs.Leaves.{LentLeaf, can_enlarge, is_lent, is_same}
use Rattle.ms_buddy.specs.Leaves.{span_at, AreLeaves}
use Rattle.ms_buddy.specs.Leaves.{span_of as leaf_span}
use Rattle.ms_buddy.specs.Tree.{IsRootPart}
use Rattle.ms_buddy.proofs.TreeHalvesLemmas.{size_of-halves, size_of-some}

-- Where a lent leaf lies.
pub lent_part : (part : Span) (leaves : List LentLeaf) → AllByRecursion (λ leaf. IsPart leaf.start leaf.level) leaves
    → AllByRecursion (λ leaf. leaf.start + size_of leaf.level ≤ 524288) leaves
    → is_lent leaves part ≡ true → IsPart part.start part.level × (part.start + size_of part.level ≤ 524288)
lent_part part [] parts inside there = absurd (cc)
lent_part part (leaf ∷ leaves) parts inside there =
    go (is_same part (leaf_span leaf)) refl there (lent_part part leaves parts.1 inside.1)
  where
    go : (b : Bool) → is_same part (leaf_span leaf) ≡ b → (b || is_lent leaves part) ≡ true
        → (is_lent leaves part ≡ true → IsPart part.start part.level × (part.start + size_of part.level ≤ 524288))
        → IsPart part.start part.level × (part.start + size_of part.level ≤ 524288)
    go true same e later =
        let both = and_parts (leaf.start == part.start) (leaf.level == part.level) same in
        subst (λ (s : ℕ). IsPart s part.level × (s + size_of part.level ≤ 524288))
        (eqb-true leaf.start part.start both.0)
        (subst (λ (l : ℕ). IsPart leaf.start l × (leaf.start + size_of l ≤ 524288))
        (eqb-true leaf.level part.level both.1) (parts.0, inside.0))
    go false same e later = later e

-- What a leaf is that can't become its parent, and where its buddy lies otherwise.
pub root_cannot : (start level : ℕ) (free : List Span) → level ≡ 0 → can_enlarge (span_at start level) free ≡ false
root_cannot start level free e = ap (λ (l : ℕ). can_enlarge (span_at start l) free) e

pub parent_size : (level : ℕ) → 0 < level → level ≤ highest_level → 2 * size_of level ≡ size_of (level - 1)
parent_size level some low =
    let next : level - 1 + 1 ≡ level = omega (arith, some) in
    omega (arith, size_of-halves (level - 1) (omega (arith, low, some)), ap size_of next)

pub follower_cannot : (start level : ℕ) (free : List Span) → (start % size_of (level - 1) ≡ 0 → ⊥)
    → can_enlarge (span_at start level) free ≡ false
follower_cannot start level free other =
    middle (nat_lt 0 level) (is_leader start level) _ (ne_eqb (start % size_of (level - 1)) 0 other)
  where
    middle : (a b c : Bool) → b ≡ false → (a && b && c) ≡ false
    middle true false c e = refl
    middle false false c e = refl
    middle true true c e = absurd (cc)
    middle false true c e = absurd (cc)

pub leader_can : (start level : ℕ) (free : List Span) → 0 < level → start % size_of (level - 1) ≡ 0
    → can_enlarge (span_at start level) free
    ≡ list_any (is_same (record { start = start + size_of level; level = level })) free
leader_can start level free some leads =
    ap (λ b. b && is_leader start level && list_any
    (is_same (record { start = buddy_start start level; level = level })) free) (lt-ltb 0 level some)
    ∙ ap (λ b. b && list_any (is_same (record { start = buddy_start start level; level = level })) free)
    (eq-eqb (start % size_of (level - 1)) 0 leads)
    ∙ ap (λ (s : ℕ). list_any (is_same (record { start = s; level = level })) free) (omega (arith, leads))

pub buddy_within : (start level : ℕ) → 0 < level → level ≤ highest_level → start % size_of (level - 1) ≡ 0
    → start + size_of level ≤ 524288 → start + size_of level < 524288
buddy_within start level some low leads fits =
    omega (
      arith,
      parent_size level some low,
      size_of-some level,
      steps_apart start 524288 (size_of (level - 1)) leads
          (multiple_of_smaller 524288 0 (level - 1) (omega arith) (omega (arith, low)) refl)
          (omega (arith, fits, size_of-some level)),
    )

pub buddy_is_part : (start level : ℕ) → IsPart start level → IsPart (start + size_of level) level
buddy_is_part start level part = (part.0, add-mod_right start (size_of level) ∙ part.1)

pub no_root_can : (part : Span) (free : List Span) → can_enlarge part free ≡ true → 0 < part.level
no_root_can part free can =
    let leads =
    and_parts (nat_lt 0 part.level && is_leader part.start part.level)
    (list_any (is_same (record { start = buddy_start part.start part.level; level = part.level })) free) can in
    ltb-true 0 part.level (and_parts (nat_lt 0 part.level) (is_leader part.start part.level) leads.0).0

-- A lent leader of a level that is not 0: its buddy begins in the root.
pub leads : (start level size : ℕ) → size ≡ size_of level → 0 < level → level ≤ highest_level → start % (2 * size) ≡ 0
    → start % size_of (level - 1) ≡ 0
leads start level size is some low whole =
    ap (λ (n : ℕ). start % n) (sym (ap (λ (n : ℕ). 2 * n) is ∙ parent_size level some low)) ∙ whole

pub record IsLeaderThere (tree : List LentLeaf) (start level size : ℕ) : Type 0 where
  pub some : 0 < level
  pub leads : start % size_of (level - 1) ≡ 0
  pub placed : IsPart start level
  pub within : start + size < 524288
  pub low : level ≤ highest_level

pub leader_there : (tree : List LentLeaf) (start level number size : ℕ) → AreLeaves tree
    → is_lent tree (span_at start level) ≡ true → number ≡ level → number ≤ highest_level
    → (number ≡ 0 → ⊥) → size ≡ size_of level → start % (2 * size) ≡ 0 → IsLeaderThere tree start level size
leader_there tree start level number size leaves lent same low other is whole = record {
  some = some;
  leads = leads start level size is some (omega (arith, same, low)) whole;
  placed = of_root.0;
  low = omega (arith, same, low);
  within = omega (
    arith,
    is,
    buddy_within start level some (omega (arith, same, low))
        (leads start level size is some (omega (arith, same, low)) whole) of_root.1,
  );
}
  where
    some : 0 < level
    some = omega (arith, same, other)

    of_root : IsPart start level × (start + size_of level ≤ 524288)
    of_root = lent_part (span_at start level) tree leaves.parts leaves.in_root lent

pub leads_of : (part : Span) (free : List Span) → can_enlarge part free ≡ true → part.start % size_of (part.level - 1) ≡ 0
leads_of part free can =
    let both =
    and_parts (nat_lt 0 part.level && is_leader part.start part.level)
    (list_any (is_same (record { start = buddy_start part.start part.level; level = part.level })) free) can in
    eqb-true (part.start % size_of (part.level - 1)) 0 (and_parts (nat_lt 0 part.level) (is_leader part.start part.level) both.0).1

-- The follower of a leader is a part of the root.
pub follower_part : (start level : ℕ) → 0 < level → start % size_of (level - 1) ≡ 0 → IsPart start level
    → level ≤ highest_level → start + size_of level < 524288 → IsRootPart level (start + size_of level)
follower_part start level some leads part low below = record {
  level_fits = low;
  aligned = (buddy_is_part start level part).1;
  in_root = omega (
    arith,
    parent_size level some low,
    steps_apart start 524288 (size_of (level - 1)) leads
        (multiple_of_smaller 524288 0 (level - 1) (omega arith) (omega (arith, low)) refl) (omega (arith, below)),
  );
}
