-- The counts of a tree's free leaves, as one is parted and as halves merge: that there is room in
-- them, and that they stay those of the leaves. The calls of the tree use these.
use Rattle.std.proofs.Common.{◌≡◌, ◌<◌, ◌≤◌, ℕ, zero, suc, ◌+◌, ◌*◌, ◌^◌, List, [], ◌∷◌}
use Rattle.std.proofs.Common.{Bool, true, false, cond, ◌&&◌, ◌||◌, length, get_or, replicate, refl, sym, ap, ◌∙◌, inl, inr, arith}
use Rattle.std.specs.Prelude.{◌==◌, nat_lt}
use Rattle.std.specs.List.{list_any}
use Rattle.std.proofs.lemmas.Bool.{cases_lt}
use Rattle.std.proofs.lemmas.List.{length-append}
use Rattle.std.proofs.lemmas.List.Sums.{count_by-le-length}
use Rattle.std.proofs.lemmas.Bool.Decides.{nat_tests}
use Rattle.ms_base.specs.declared.span.Span.{Span}
use Rattle.ms_base.specs.Level.{size_of, highest_level, level_count}
use Rattle.ms_base.proofs.free.HalvesLemmas.{size_falls}
use Rattle.ms_buddy.specs.Tree.{Node}
use Rattle.ms_buddy.specs.Tree.{Free, Lent, Split}
use Rattle.ms_buddy.specs.Counts.{AreCounts, AreShifted, IsParted, count_at_level, one_at, one_between}
use Rattle.ms_buddy.specs.Leaves.{has_level, is_of}
use Rattle.ms_buddy.specs.Tree.{IsTree, free_in}
use Rattle.ms_buddy.proofs.TreeHalvesLemmas.{size_of-halves}
use Rattle.ms_buddy.proofs.WalkLemmas.{all_weaker, any-none}
use Rattle.ms_buddy.proofs.counts.CountLemmas.{count-append, count-none, count-one}
use Rattle.ms_buddy.proofs.bits.FreeNumberLemmas.{IsRootSpan, free_spans, root_part}

-- A tree has at most 4096 free leaves, since each has 128 words or more.
few_free : (level start : ℕ) (node : Node) → level ≤ highest_level → IsTree level node
    → length (free_in level start node) * 128 ≤ size_of level
few_free level start Free h tree = omega (arith, size_falls level highest_level h)
few_free level start (Lent owner front) h tree = omega arith
few_free level start (Split lower upper) h tree =
    omega (
      arith,
      few_free (level + 1) start lower (omega (arith, tree.0)) tree.2,
      few_free (level + 1) (start + size_of (level + 1)) upper (omega (arith, tree.0)) tree.3,
      size_of-halves level tree.0,
      length-append (free_in (level + 1) start lower) (free_in (level + 1) (start + size_of (level + 1)) upper),
    )

few_of : (node : Node) (level : ℕ) → IsTree 0 node → count_at_level level (free_in 0 0 node) ≤ 4096
unfolding count_at_level
few_of node level tree =
    omega (
      arith,
      few_free 0 0 node (omega arith) tree,
      count_by-le-length (λ (part : Span). part.level == level) (free_in 0 0 node),
    )

-- There is room in the counts for a part, and for a merge.
pub room_to_part : (counts : List ℕ) (node : Node) → IsTree 0 node → AreCounts counts (free_in 0 0 node)
    → (level : ℕ) → level < level_count → get_or counts level 0 + 1 < 2 ^ 16
room_to_part counts node tree are level h = omega (arith, are.same level h, few_of node level tree)

own_level : (level : ℕ) → one_at level level ≡ 1
own_level level = grind (arith, nat_tests)

pub some_to_part : (counts : List ℕ) (before after : List Span) (leaf part : Span) → AreCounts counts before
    → IsParted before leaf part after → 1 ≤ get_or counts leaf.level 0
some_to_part counts before after leaf part are parted =
    omega (
      arith,
      are.same leaf.level (omega (arith, parted.low, parted.order)),
      parted.counts leaf.level,
      own_level leaf.level,
      own_is_outside leaf.level part.level,
    )
  where
    own_is_outside : (free lent : ℕ) → one_between free (lent + 1) free ≡ 0
    own_is_outside free lent = grind (arith, nat_tests)

pub room_to_join : (counts : List ℕ) (before : List Span) (node : Node) (leaf part : Span) → IsTree 0 node
    → AreCounts counts before → IsParted (free_in 0 0 node) leaf part before → get_or counts leaf.level 0 + 1 < 2 ^ 16
room_to_join counts before node leaf part tree are parted =
    omega (
      arith,
      are.same leaf.level (omega (arith, parted.low, parted.order)),
      parted.counts leaf.level,
      own_level leaf.level,
      own_is_outside leaf.level part.level,
      few_of node leaf.level tree,
    )
  where
    own_is_outside : (free lent : ℕ) → one_between free (lent + 1) free ≡ 0
    own_is_outside free lent = grind (arith, nat_tests)

pub some_to_join : (counts : List ℕ) (before after : List Span) (leaf part : Span) → AreCounts counts before
    → IsParted after leaf part before → (level : ℕ) → leaf.level < level → level ≤ part.level → 1 ≤ get_or counts level 0
some_to_join counts before after leaf part are parted level h k =
    omega (
      arith,
      are.same level (omega (arith, parted.low)),
      parted.counts level,
      one_there leaf.level part.level level h k,
      none_there leaf.level level h,
    )
  where
    one_there : (free lent level : ℕ) → free < level → level ≤ lent → one_between free (lent + 1) level ≡ 1
    one_there free lent level h k = grind (arith, nat_tests)

    none_there : (free level : ℕ) → free < level → one_at free level ≡ 0
    none_there free level h = grind (arith, nat_tests)

-- The counts go with the parts.
pub parted_counts : (old new : List ℕ) (before after : List Span) (leaf part : Span) → AreCounts old before
    → IsParted before leaf part after → AreShifted old leaf.level (part.level + 1) new → AreCounts new after
parted_counts old new before after leaf part are parted shifted = record {
  full = shifted.full ∙ are.full;
  same = λ level h. omega (arith, are.same level h, parted.counts level, shifted.counts level h);
}

pub joined_counts : (old new : List ℕ) (before after : List Span) (leaf part : Span) → AreCounts old before
    → IsParted after leaf part before → AreShifted new leaf.level (part.level + 1) old → AreCounts new after
joined_counts old new before after leaf part are parted shifted = record {
  full = sym shifted.full ∙ are.full;
  same = λ level h. omega (arith, are.same level h, parted.counts level, shifted.counts level h);
}

-- A whole root is counted.
no_count : (n level : ℕ) → get_or {A = ℕ} (replicate n 0) level 0 ≡ 0
no_count zero level = refl
no_count (suc n) zero = refl
no_count (suc n) (suc level) = no_count n level

pub whole_is_counted : AreCounts (1 ∷ replicate 12 0) (record { start = 0; level = 0 } ∷ [])
whole_is_counted = record {
  full = refl;
  same = λ level h. at_level level ∙ sym (count-one level (record { start = 0; level = 0 }));
}
  where
    past : (level : ℕ) → one_at 0 (suc level) ≡ 0
    past level = grind (arith, nat_tests)

    at_level : (level : ℕ) → get_or (1 ∷ replicate 12 0) level 0 ≡ one_at 0 level
    at_level zero = refl
    at_level (suc level) = no_count highest_level level ∙ sym (past level)

-- A level has a part exactly where it is counted.
any_counted : (level : ℕ) (parts : List Span) → list_any (is_of level) parts ≡ nat_lt 0 (count_at_level level parts)
any_counted level [] = ap (nat_lt 0) (sym (count-none level))
any_counted level (part ∷ parts) =
    ap (λ (b : Bool). (part.level == level) || b) (any_counted level parts)
    ∙ either (part.level == level) (count_at_level level parts)
    ∙ ap (nat_lt 0) (sym (count-append level (part ∷ []) parts ∙ ap (λ (n : ℕ). n + count_at_level level parts) (count-one level part)))
  where
    either : (b : Bool) (n : ℕ) → (b || nat_lt 0 n) ≡ nat_lt 0 (cond b 1 0 + n)
    either true n = grind (arith, nat_tests)
    either false n = ap (nat_lt 0) (omega arith)

-- The levels that are counted are those of the free leaves.
pub levels_told : (node : Node) (counts : List ℕ) (levels level : ℕ) → IsTree 0 node
    → AreCounts counts (free_in 0 0 node)
    → has_level levels level ≡ (nat_lt level 13 && nat_lt 0 (get_or counts level 0))
    → has_level levels level ≡ list_any (is_of level) (free_in 0 0 node)
levels_told node counts levels level tree are told = elim (cases_lt level 13) [
  | inl low ↦
      told ∙ within level (get_or counts level 0) low
      ∙ ap (nat_lt 0) (are.same level low) ∙ sym (any_counted level (free_in 0 0 node))
  | inr past ↦
      told ∙ beyond level (get_or counts level 0) past
      ∙ sym (any-none (is_of level) (free_in 0 0 node)
      (all_weaker IsRootSpan (λ part. is_of level part ≡ false)
      (λ part of_root. differs part.level level (omega (arith, of_root.level_fits, past))) (free_in 0 0 node)
      (free_spans 0 0 node tree root_part)))
]
  where
    within : (a n : ℕ) → a < 13 → (nat_lt a 13 && nat_lt 0 n) ≡ nat_lt 0 n
    within a n h = grind (arith, nat_tests)

    beyond : (a n : ℕ) → 13 ≤ a → (nat_lt a 13 && nat_lt 0 n) ≡ false
    beyond a n h = grind (arith, nat_tests)

    differs : (a b : ℕ) → a < b → (a == b) ≡ false
    differs a b h = grind (arith, nat_tests)
