-- A part of two halves can become its parent exactly where it can in the half where it is, or where
-- it is the lower half and the upper half is free. For enlarging.
use Rattle.std.proofs.Common.{◌≡◌, ◌<◌, ◌≤◌, ℕ, ◌+◌, ◌-◌, ◌*◌, ◌%◌, Bool, true, false, ◌&&◌, ◌||◌, List, [], ◌∷◌}
use Rattle.std.proofs.Common.{refl, sym, ap, subst, ◌∙◌, inl, inr, arith}
use Rattle.std.proofs.lemmas.Bool.{cases_lt}
use Rattle.std.specs.Prelude.{◌==◌, nat_lt, IsTrue, IsFalse}
use Rattle.std.specs.List.{AllByRecursion, list_any}
use Rattle.std.proofs.lemmas.Bool.Decides.{nat_tests}
use Rattle.ms_base.specs.declared.span.Span.{Span}
use Rattle.ms_base.specs.Level.{size_of, highest_level}
use Rattle.ms_base.specs.Part.{IsPart, is_leader, buddy_start}
use Rattle.ms_buddy.specs.Tree.{Node}
use Rattle.ms_buddy.specs.Tree.{Free, Lent, Split}
use Rattle.ms_buddy.specs.Leaves.{LentLeaf, span_of, is_same, is_lent, can_enlarge}
use Rattle.ms_buddy.specs.Tree.{IsRootPart, is_free, lent_in, free_in, lent_in_halves, free_in_halves}
use Rattle.ms_buddy.proofs.TreeHalvesLemmas.{size_of-some, size_of-halves, lower_part, mod-past}
use Rattle.ms_buddy.proofs.WalkLemmas.{LiesIn, all_joined, all_weaker, lent_levels, free_levels}
use Rattle.ms_buddy.proofs.SplitLemmas.{AtHalves, lent_part_lies_in, lower_lent, upper_lent}
use Rattle.ms_buddy.proofs.changes.CarveLemmas.{ends_in, lower_is_free, upper_is_free}

zero_test : (n : ℕ) → (n == 0) ≡ true → n ≡ 0
zero_test n e = grind (arith, nat_tests)

-- The buddy of a leader starts where the leader ends.
buddy_of_leader : (part : Span) → is_leader part.start part.level ≡ true
    → buddy_start part.start part.level ≡ part.start + size_of part.level
buddy_of_leader part e =
    ends part.start (size_of part.level) (part.start % size_of (part.level - 1))
    (zero_test (part.start % size_of (part.level - 1)) e)
  where
    ends : (a s r : ℕ) → r ≡ 0 → 2 * (a - r) + s - a ≡ a + s
    ends a s r e = omega (arith, e)

-- A leader's parent is a part that starts where it does.
leader_parent : (part : Span) → part.level ≤ highest_level → is_leader part.start part.level ≡ true
    → IsPart part.start (part.level - 1)
leader_parent part h e = (omega arith, zero_test (part.start % size_of (part.level - 1)) e)

-- Where the free leaves have the buddy alike, the part can become its parent alike.
alike : (part : Span) (free other : List Span)
    → (is_leader part.start part.level ≡ true
    → list_any (is_same (record { start = buddy_start part.start part.level; level = part.level })) free
    ≡ list_any (is_same (record { start = buddy_start part.start part.level; level = part.level })) other)
    → can_enlarge part free ≡ can_enlarge part other
alike part free other e = by_leader (nat_lt 0 part.level) (is_leader part.start part.level)
    (list_any (is_same (record { start = buddy_start part.start part.level; level = part.level })) free)
    (list_any (is_same (record { start = buddy_start part.start part.level; level = part.level })) other) e
  where
    by_leader : (a b x y : Bool) → (b ≡ true → x ≡ y) → (a && b && x) ≡ (a && b && y)
    by_leader true true x y e = e refl
    by_leader true false x y e = refl
    by_leader false b x y e = refl

deep_lower_can : (part : Span) (level start half : ℕ) (lower upper : Node)
    → AtHalves level start half lower upper → IsRootPart level start → level + 1 < part.level → part.level ≤ highest_level
    → start ≤ part.start → part.start < start + half
    → can_enlarge part (free_in_halves level start lower upper) ≡ can_enlarge part (free_in (level + 1) start lower)
deep_lower_can part level start half lower upper s of_root h k from below =
    alike part (free_in_halves level start lower upper) (free_in (level + 1) start lower)
    (λ e. lower_is_free (record { start = buddy_start part.start part.level; level = part.level }) level start half
    lower upper s
    (subst (λ (n : ℕ). n < start + half) (sym (buddy_of_leader part e)) (inside e)))
  where
    half_part : IsRootPart (level + 1) start
    half_part = lower_part level start of_root (omega arith)

    inside : is_leader part.start part.level ≡ true → part.start + size_of part.level < start + half
    inside e = omega (
      arith,
      s.size,
      size_of-some part.level,
      parent_size,
      ends_in (record { start = part.start; level = part.level - 1 }) (level + 1) start (leader_parent part k e)
          (half_part.level_fits, half_part.aligned) (omega arith) from (omega (arith, s.size)),
    )
      where
        parent_size : size_of part.level + size_of part.level ≡ size_of (part.level - 1)
        parent_size =
            subst (λ (n : ℕ). size_of n + size_of n ≡ size_of (part.level - 1)) (back part.level h)
            (size_of-halves (part.level - 1) (omega arith))
          where
            back : (l : ℕ) → level + 1 < l → l - 1 + 1 ≡ l
            back l h = omega arith

-- A part that is lent in a node is of its level or of a greater one.
lent_part_level : (part : Span) (level start : ℕ) (node : Node)
    → IsTrue (is_lent (lent_in level start node) part) → level ≤ part.level
lent_part_level part level start node e = of_list (lent_in level start node) (lent_levels level start node) e
  where
    equal : (c : Bool) (a b : ℕ) → (c && (a == b)) ≡ true → a ≡ b
    equal c a b e = grind (arith, nat_tests)

    of_list : (leaves : List LentLeaf) → AllByRecursion (λ leaf. level ≤ leaf.level) leaves → is_lent leaves part ≡ true
        → level ≤ part.level
    of_list [] all e = absurd (cc)
    of_list (leaf ∷ leaves) all e = elim (is_same part (span_of leaf)) as (λ b.
        is_same part (span_of leaf) ≡ b → (b || is_lent leaves part) ≡ true → level ≤ part.level) [
          | true ↦ λ f e. omega (arith, all.0, equal (leaf.start == part.start) leaf.level part.level f)
          | false ↦ λ f e. of_list leaves all.1 e
        ] refl e

pub lower_can : (part : Span) (level start half : ℕ) (lower upper : Node)
    → AtHalves level start half lower upper → IsRootPart level start
    → IsTrue (is_lent (lent_in_halves level start lower upper) part) → (part.level ≡ level + 1 → ⊥)
    → part.level ≤ highest_level
    → part.start < start + half
    → can_enlarge part (free_in_halves level start lower upper) ≡ can_enlarge part (free_in (level + 1) start lower)
lower_can part level start half lower upper s of_root lent deeper k below =
    deep_lower_can part level start half lower upper s of_root
    (past (level + 1) part.level (lent_part_level part (level + 1) start lower here) deeper) k
    (lent_part_lies_in part (level + 1) start lower s.low_tree here).from below
  where
    here : IsTrue (is_lent (lent_in (level + 1) start lower) part)
    here = lower_lent part level start half lower upper s below lent

    past : (a b : ℕ) → a ≤ b → (b ≡ a → ⊥) → a < b
    past a b h n = omega (arith, n)

pub upper_can : (part : Span) (level start half : ℕ) (lower upper : Node)
    → AtHalves level start half lower upper → start + half ≤ part.start
    → can_enlarge part (free_in_halves level start lower upper)
    ≡ can_enlarge part (free_in (level + 1) (start + half) upper)
upper_can part level start half lower upper s above =
    alike part (free_in_halves level start lower upper) (free_in (level + 1) (start + half) upper)
    (λ e. upper_is_free (record { start = buddy_start part.start part.level; level = part.level }) level start half
    lower upper s
    (subst (λ (n : ℕ). start + half ≤ n) (sym (buddy_of_leader part e)) (omega arith)))

-- Parts of greater levels are not the part.
differ : (c : Bool) (a b : ℕ) → b < a → (c && (a == b)) ≡ false
differ c a b h = grind (arith, nat_tests)

deeper_differ : (part : Span) (others : List Span) → AllByRecursion (λ other. part.level < other.level) others
    → list_any (is_same part) others ≡ false
deeper_differ part [] all = refl
deeper_differ part (other ∷ others) all =
    rw (differ (other.start == part.start) other.level part.level all.0) (deeper_differ part others all.1)

-- A node that isn't free is none of its free leaves.
pub not_free_whole : (level middle : ℕ) (node : Node) → is_free node ≡ false
    → list_any (is_same (record { start = middle; level = level })) (free_in level middle node) ≡ false
not_free_whole level middle Free e = absurd (cc)
not_free_whole level middle (Lent owner front) e = refl
not_free_whole level middle (Split lower upper) e =
    deeper_differ (record { start = middle; level = level }) (free_in level middle (Split lower upper))
    (all_joined (λ other. level < other.level) (free_in (level + 1) middle lower)
    (free_in (level + 1) (middle + size_of (level + 1)) upper)
    (all_weaker (λ other. level + 1 ≤ other.level) (λ other. level < other.level)
    (λ other h. omega arith) (free_in (level + 1) middle lower) (free_levels (level + 1) middle lower))
    (all_weaker (λ other. level + 1 ≤ other.level) (λ other. level < other.level)
    (λ other h. omega arith) (free_in (level + 1) (middle + size_of (level + 1)) upper)
    (free_levels (level + 1) (middle + size_of (level + 1)) upper)))

-- A leaf of a split's own level is none of its lent leaves.
pub split_not_lent : (part : Span) (level start : ℕ) (node : Node)
    (lower upper : Node) → node ≡ Split lower upper → part.level ≡ level
    → IsFalse (is_lent (lent_in level start node) part)
split_not_lent part level start node lower upper e f =
    subst (λ (other : Node). is_lent (lent_in level start other) part ≡ false) (sym e)
    (deeper (lent_in level start (Split lower upper))
    (all_joined (λ leaf. part.level < leaf.level) (lent_in (level + 1) start lower)
    (lent_in (level + 1) (start + size_of (level + 1)) upper)
    (all_weaker (λ leaf. level + 1 ≤ leaf.level) (λ leaf. part.level < leaf.level)
    (λ leaf h. omega (arith, f)) (lent_in (level + 1) start lower) (lent_levels (level + 1) start lower))
    (all_weaker (λ leaf. level + 1 ≤ leaf.level) (λ leaf. part.level < leaf.level)
    (λ leaf h. omega (arith, f)) (lent_in (level + 1) (start + size_of (level + 1)) upper)
    (lent_levels (level + 1) (start + size_of (level + 1)) upper))))
  where
    deeper : (leaves : List LentLeaf) → AllByRecursion (λ leaf. part.level < leaf.level) leaves
        → is_lent leaves part ≡ false
    deeper [] all = refl
    deeper (leaf ∷ leaves) all =
        rw (differ (leaf.start == part.start) leaf.level part.level all.0) (deeper leaves all.1)

-- The upper half can't become its parent.
pub follower_cannot : (part : Span) (level start half : ℕ) (lower upper : Node) (free : List Span)
    → AtHalves level start half lower upper → IsRootPart level start → level < highest_level
    → IsTrue (is_lent (lent_in_halves level start lower upper) part) → part.level ≡ level + 1 → start < part.start
    → can_enlarge part free ≡ false
follower_cannot part level start half lower upper free s of_root low lent child above =
    not_leader (nat_lt 0 part.level) (part.start % size_of (part.level - 1))
    (list_any (is_same (record { start = buddy_start part.start part.level; level = part.level })) free) remainder
  where
    past : start + half ≤ part.start
    past = elim (cases_lt part.start (start + half)) [
      | inl below ↦ absurd (omega (
        arith,
        above,
        ap size_of child,
        (lent_part_lies_in part (level + 1) start lower s.low_tree
            (lower_lent part level start half lower upper s below lent)).to,
      ))
      | inr k ↦ k
    ]

    lies : LiesIn (start + half) (start + half + size_of (level + 1)) part
    lies = lent_part_lies_in part (level + 1) (start + half) upper s.high_tree
        (upper_lent part level start half lower upper s past lent)

    middle : part.start ≡ start + half
    middle = omega (arith, lies.from, lies.to, ap size_of child)

    below_whole : half < size_of level
    below_whole = omega (arith, s.size, size_of-halves level low, size_of-some (level + 1))

    remainder : 0 < part.start % size_of (part.level - 1)
    remainder = subst (λ (n : ℕ). 0 < n % size_of (part.level - 1)) (sym middle)
        (subst (λ (l : ℕ). 0 < (start + half) % size_of l) (back part.level child)
        (subst (λ (n : ℕ). 0 < n) (sym (mod-past start half (size_of level) of_root.aligned below_whole))
        (omega (arith, s.size, size_of-some (level + 1)))))
      where
        back : (l : ℕ) → l ≡ level + 1 → level ≡ l - 1
        back l h = omega arith

    not_leader : (x : Bool) (r : ℕ) (y : Bool) → 0 < r → (x && (r == 0) && y) ≡ false
    not_leader x r y h = grind (arith, nat_tests)

-- The lower half can't while the upper one isn't free.
pub leader_cannot : (part : Span) (level start half : ℕ) (lower upper : Node)
    → AtHalves level start half lower upper → part.level ≡ level + 1 → part.start ≡ start
    → is_free upper ≡ false → can_enlarge part (free_in_halves level start lower upper) ≡ false
leader_cannot part level start half lower upper s child e f =
    alike part (free_in_halves level start lower upper) [] (λ leads.
    upper_is_free (record { start = buddy_start part.start part.level; level = part.level }) level start half lower
    upper s
    (omega (arith, buddy leads))
    ∙ subst (λ (n : ℕ). list_any (is_same (record { start = n; level = part.level }))
    (free_in (level + 1) (start + half) upper) ≡ false) (sym (buddy leads))
    (subst (λ (l : ℕ). list_any (is_same (record { start = start + half; level = l }))
    (free_in (level + 1) (start + half) upper) ≡ false) (sym child)
    (not_free_whole (level + 1) (start + half) upper f)))
    ∙ none (nat_lt 0 part.level) (is_leader part.start part.level)
  where
    buddy : is_leader part.start part.level ≡ true → buddy_start part.start part.level ≡ start + half
    buddy leads = buddy_of_leader part leads ∙ omega (arith, e, s.size, ap size_of child)

    none : (x y : Bool) → (x && y && false) ≡ false
    none true true = refl
    none true false = refl
    none false y = refl

-- A lent part of two halves that starts no later than they do starts where they do.
pub starts_here : (part : Span) (level start half : ℕ) (lower upper : Node)
    → AtHalves level start half lower upper
    → IsTrue (is_lent (lent_in_halves level start lower upper) part) → part.start ≤ start → part.start ≡ start
starts_here part level start half lower upper s lent h =
    omega (
      arith,
      (lent_part_lies_in part (level + 1) start lower s.low_tree
          (lower_lent part level start half lower upper s (omega (arith, s.size, size_of-some (level + 1))) lent)).from,
    )

-- A lent part of two halves with that start and a half's level is not in a split.
pub split_not_leader : (part : Span) (level start half : ℕ) (lower upper : Node)
    (low high : Node) → AtHalves level start half lower upper
    → IsTrue (is_lent (lent_in_halves level start lower upper) part) → part.start ≤ start → part.level ≡ level + 1
    → lower ≡ Split low high → ⊥
split_not_leader part level start half lower upper low high s lent h child e =
    differ (is_lent (lent_in (level + 1) start lower) part)
    (lower_lent part level start half lower upper s (omega (arith, s.size, size_of-some (level + 1))) lent)
    (split_not_lent part (level + 1) start lower low high e child)
  where
    differ : (b : Bool) → b ≡ true → b ≡ false → ⊥
    differ b e f = absurd (cc)
