-- The numbers of a tree's free leaves: none comes twice, so that they are told by bits, and what
-- the bits are as a leaf is parted or joined. The calls of the tree use these.
use Rattle.std.proofs.Common.{◌≡◌, ◌<◌, ◌≤◌, ℕ, ◌+◌, ◌-◌, true, false, cond, List, [], ◌∷◌}
use Rattle.std.proofs.Common.{refl, sym, ap, ◌∙◌, inl, inr, arith, eqb-true}
use Rattle.std.specs.Prelude.{◌==◌, IsTrue}
use Rattle.std.specs.List.{AllByRecursion}
use Rattle.std.proofs.lemmas.Bool.{cases_lt}
use Rattle.std.proofs.lemmas.Bool.Decides.{nat_tests}
use Rattle.std.proofs.lemmas.Nat.{pow-add}
use Rattle.ms_base.specs.declared.span.Span.{Span}
use Rattle.ms_base.specs.Level.{size_of, highest_level}
use Rattle.ms_buddy.specs.Tree.{Node}
use Rattle.ms_buddy.specs.Tree.{Free, Lent, Split}
use Rattle.ms_buddy.specs.Counts.{IsParted, beside, count_of_number, holder_of, number_of, one_at}
use Rattle.ms_buddy.specs.FreeBits.{AreFreeBits, IsMoved, MayJoin, MayPart, bit_of}
use Rattle.ms_buddy.specs.Leaves.{is_lent, root}
use Rattle.ms_buddy.specs.Tree.{IsRootPart, IsTree, free_in, lent_in}
use Rattle.ms_buddy.proofs.TreeHalvesLemmas.{lower_part, size_of-some, upper_part}
use Rattle.ms_buddy.proofs.WalkLemmas.{LiesIn, all_joined, free_lies_in}
use Rattle.ms_buddy.proofs.bits.NumberLemmas.{holder_part, number_below, same_number}
use Rattle.ms_buddy.proofs.counts.CountLemmas.{number-append, number-cons, number-none, number-one}
use Rattle.ms_buddy.proofs.bits.BesideLemmas.{clear_one, no_halves, none_is_whole}
use Rattle.ms_buddy.proofs.SplitLemmas.{lent_part_lies_in}

-- The free leaves of a node are parts of the root.
abbrev pub IsRootSpan : Span → Type 0
IsRootSpan part = IsRootPart part.level part.start

pub free_spans : (level start : ℕ) (node : Node) → IsTree level node → IsRootPart level start
    → AllByRecursion IsRootSpan (free_in level start node)
free_spans level start Free tree of_root = (of_root, tt)
free_spans level start (Lent owner front) tree of_root = tt
free_spans level start (Split lower upper) tree of_root =
    all_joined IsRootSpan (free_in (level + 1) start lower) (free_in (level + 1) (start + size_of (level + 1)) upper)
    (free_spans (level + 1) start lower tree.2 (lower_part level start of_root tree.0))
    (free_spans (level + 1) (start + size_of (level + 1)) upper tree.3
    (upper_part level start (start + size_of (level + 1)) of_root tree.0 refl))

pub all_both : {X : Type 0} (P Q : X → Type 0) (xs : List X) → AllByRecursion P xs → AllByRecursion Q xs
    → AllByRecursion (λ x. P x × Q x) xs
all_both P Q [] all too = tt
all_both P Q (x ∷ xs) all too = ((all.0, too.0), all_both P Q xs all.1 too.1)

-- A part of a list that has a number.
pub record HasPart (number : ℕ) (P : Span → Type 0) : Type 0 where
  pub part : Span
  pub is : number_of part ≡ number
  pub holds : P part

pub has_part : (number : ℕ) (P : Span → Type 0) (parts : List Span) → AllByRecursion P parts
    → 0 < count_of_number number parts → HasPart number P
has_part number P [] all some = absurd (omega (arith, some, number-none number))
has_part number P (part ∷ parts) all some = elim (number_of part == number) as (λ b.
    (number_of part == number) ≡ b → 0 < cond b 1 0 + count_of_number number parts → HasPart number P) [
      | true ↦ λ e h. record { part = part; is = eqb-true (number_of part) number e; holds = all.0 }
      | false ↦ λ e h. has_part number P parts all.1 (omega (arith, h))
    ] refl (omega (arith, some, number-cons number part parts))

-- No two free leaves of a tree have one number.
one_or_none : (a b : ℕ) → one_at a b ≤ 1
one_or_none a b = grind (arith, nat_tests)

abbrev IsRootSpanIn : ℕ → ℕ → Span → Type 0
IsRootSpanIn low high part = IsRootSpan part × LiesIn low high part

lie_in_root : (level start : ℕ) (node : Node) → IsTree level node → IsRootPart level start
    → AllByRecursion (IsRootSpanIn start (start + size_of level)) (free_in level start node)
lie_in_root level start node tree of_root =
    all_both IsRootSpan (LiesIn start (start + size_of level)) (free_in level start node)
    (free_spans level start node tree of_root) (free_lies_in level start node tree)

-- No two have one number.
pub few_of_number : (level start number : ℕ) (node : Node) → IsTree level node → IsRootPart level start
    → count_of_number number (free_in level start node) ≤ 1
few_of_number level start number Free tree of_root =
    omega (
      arith,
      number-one number (record { start = start; level = level }),
      one_or_none (number_of (record { start = start; level = level })) number,
    )
few_of_number level start number (Lent owner front) tree of_root = omega (arith, number-none number)
few_of_number level start number (Split lower upper) tree of_root =
    let low = few_of_number (level + 1) start number lower tree.2 (lower_part level start of_root tree.0) in
    let high = few_of_number (level + 1) (start + size_of (level + 1)) number upper tree.3
    (upper_part level start (start + size_of (level + 1)) of_root tree.0 refl) in
    let both = number-append number (free_in (level + 1) start lower)
    (free_in (level + 1) (start + size_of (level + 1)) upper) in
    elim (cases_lt 0 (count_of_number number (free_in (level + 1) start lower))) [
      | inr none ↦ omega (arith, high, both, none)
      | inl some ↦ elim (cases_lt 0 (count_of_number number (free_in (level + 1) (start + size_of (level + 1)) upper))) [
        | inr none ↦ omega (arith, low, both, none)
        | inl too ↦ absurd (apart
            (has_part number (IsRootSpanIn start (start + size_of (level + 1))) (free_in (level + 1) start lower)
            (lie_in_root (level + 1) start lower tree.2 (lower_part level start of_root tree.0)) some)
            (has_part number
            (IsRootSpanIn (start + size_of (level + 1)) (start + size_of (level + 1) + size_of (level + 1)))
            (free_in (level + 1) (start + size_of (level + 1)) upper)
            (lie_in_root (level + 1) (start + size_of (level + 1)) upper tree.3
            (upper_part level start (start + size_of (level + 1)) of_root tree.0 refl)) too))
      ]
    ]
  where
    apart : {low middle high : ℕ} → HasPart number (IsRootSpanIn low middle) → HasPart number (IsRootSpanIn middle high) → ⊥
    apart one other = omega (
      arith,
      one.holds.1.to,
      other.holds.1.from,
      size_of-some one.part.level,
      (same_number one.part other.part one.holds.0 other.holds.0 (one.is ∙ sym other.is)).1,
    )

-- The number of a leaf that is parted is that of no half beside the way.
pub leaf_apart : (leaf part : Span) (number : ℕ) → IsRootSpan leaf → leaf.level ≤ part.level → part.level ≤ highest_level
    → 0 < count_of_number number (leaf ∷ []) → count_of_number number (beside leaf part) ≡ 0
leaf_apart leaf part number of_root order low some =
    none_is_whole (part.level - leaf.level) leaf.level leaf.start part.start number (omega (arith, order, low)) of_root
    (omega (
      arith,
      number_below leaf.level leaf.start of_root,
      is number (number_of leaf) (omega (arith, some, number-one number leaf)),
      pow-add 2 leaf.level 1,
    ))
  where
    is : (a b : ℕ) → 0 < one_at b a → a ≡ b
    is a b h = grind (arith, nat_tests)

-- The bits are such that a leaf may be parted, or joined.
may_part : (words : List ℕ) (before after : List Span) (leaf part : Span) → IsRootSpan leaf
    → AreFreeBits words before → IsParted before leaf part after → ((number : ℕ) → count_of_number number after ≤ 1)
    → MayPart words leaf part
may_part words before after leaf part of_root are parted few = record {
  gone = λ number. elim (cases_lt 0 (count_of_number number (leaf ∷ []))) [
    | inr none ↦ omega (arith, none)
    | inl some ↦ omega (
      arith,
      are number,
      parted.numbered number,
      leaf_apart leaf part number of_root parted.order parted.low some,
    )
  ];
  come = λ number. omega (arith, are number, parted.numbered number, few number);
}

may_join : (words : List ℕ) (before after : List Span) (leaf part : Span) → IsRootSpan leaf
    → AreFreeBits words before → IsParted after leaf part before → ((number : ℕ) → count_of_number number after ≤ 1)
    → MayJoin words leaf part
may_join words before after leaf part of_root are parted few = record {
  gone = λ number. elim (cases_lt 0 (count_of_number number (leaf ∷ []))) [
    | inr none ↦ omega (arith, are number, parted.numbered number, none)
    | inl some ↦ omega (arith, leaf_apart leaf part number of_root parted.order parted.low some)
  ];
  come = λ number. omega (arith, are number, parted.numbered number, few number);
}

-- The same of a tree, for the part of a level that holds a part.
pub root_part : IsRootPart 0 0
root_part = record { level_fits = omega arith; aligned = refl; in_root = omega arith }

pub tree_may_part : (words : List ℕ) (before after : Node) (free : ℕ) (part : Span) → IsTree 0 after
    → AreFreeBits words (free_in 0 0 before) → part.start < 524288
    → IsParted (free_in 0 0 before) (holder_of free part) part (free_in 0 0 after)
    → MayPart words (holder_of free part) part
tree_may_part words before after free part tree are below parted =
    may_part words (free_in 0 0 before) (free_in 0 0 after) (holder_of free part) part
    (holder_part free part (omega (arith, parted.order, parted.low)) below) are parted
    (λ number. few_of_number 0 0 number after tree root_part)

pub tree_may_join : (words : List ℕ) (before after : Node) (free : ℕ) (part : Span) → IsTree 0 after
    → AreFreeBits words (free_in 0 0 before) → part.start < 524288
    → IsParted (free_in 0 0 after) (holder_of free part) part (free_in 0 0 before)
    → MayJoin words (holder_of free part) part
tree_may_join words before after free part tree are below parted =
    may_join words (free_in 0 0 before) (free_in 0 0 after) (holder_of free part) part
    (holder_part free part (omega (arith, parted.order, parted.low)) below) are parted
    (λ number. few_of_number 0 0 number after tree root_part)

-- A part that is lent in a tree starts in the root.
pub starts_in_root : (part : Span) (node : Node) → IsTree 0 node
    → IsTrue (is_lent (lent_in 0 0 node) part) → part.start < 524288
starts_in_root part node tree lent =
    let lies : LiesIn 0 (0 + size_of 0) part = lent_part_lies_in part 0 0 node tree lent in
    omega (arith, lies.to, size_of-some part.level)

-- The bits go with the free leaves.
pub joined_bits : (old new : List ℕ) (before after : List Span) (leaf part : Span) → AreFreeBits old before
    → IsParted after leaf part before → IsMoved new (leaf ∷ []) (beside leaf part) old → AreFreeBits new after
joined_bits old new before after leaf part are parted moved number =
    omega (arith, are number, parted.numbered number, moved number)

-- A leader was enlarged, and its follower is free no longer.
pub enlarged_bits : (old new : List ℕ) (before after : List Span) (follower : Span) (number : ℕ)
    → number ≡ number_of follower → AreFreeBits old before → IsParted before follower follower after
    → ((m : ℕ) → bit_of new m ≡ cond (number == m) 0 (bit_of old m)) → AreFreeBits new after
enlarged_bits old new before after follower number e are parted cleared m =
    let none = no_halves (follower.level - follower.level) follower.level follower.start follower.start m (omega arith) in
    omega (
      arith,
      clear_one old new follower [] m (rw e at cleared) (omega (arith, are m, parted.numbered m, none)),
      are m,
      parted.numbered m,
      none,
      number-one m follower,
    )

-- The bits of a root that is one free leaf.
pub root_number : number_of root ≡ 1
unfolding number_of
root_number = refl

pub whole_is_marked : (words : List ℕ) → ((number : ℕ) → bit_of words number ≡ one_at 1 number)
    → AreFreeBits words (root ∷ [])
whole_is_marked words bits number =
    bits number ∙ ap (λ (n : ℕ). one_at n number) (sym root_number) ∙ sym (number-one number root)
