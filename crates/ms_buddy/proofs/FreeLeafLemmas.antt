-- The free leaves of a node, from its low to its high address, are the free parts that its lent
-- leaves leave over. For each contract that names the free leaves.
use Rattle.std.proofs.Common.{◌≡◌, ◌<◌, ◌≤◌, ℕ, zero, suc, ◌+◌, ◌-◌, Bool, true, false, cond, ◌&&◌, ◌||◌, List, [], ◌∷◌}
use Rattle.std.proofs.Common.{◌++◌, map, refl, sym, ap, subst, ◌∙◌, arith}
use Rattle.std.specs.Prelude.{IsFalse}
use Rattle.std.specs.List.{AllByRecursion, list_any}
use Rattle.std.proofs.lemmas.List.{map-append}
use Rattle.std.proofs.lemmas.List.Folds.{list_any-append}
use Rattle.std.proofs.lemmas.Bool.Decides.{nat_tests}
use Rattle.ms_base.specs.declared.span.Chunk.{Chunk}
use Rattle.ms_base.specs.declared.span.Span.{Span}
use Rattle.ms_base.specs.Interval.{meet}
use Rattle.ms_base.specs.Level.{size_of, highest_level}
use Rattle.ms_base.specs.FreeParts.{free_within}
use Rattle.ms_buddy.specs.FreeBits.{IsKept}
use Rattle.ms_buddy.specs.Tree.{Node}
use Rattle.ms_buddy.specs.Tree.{Free, Lent, Split}
use Rattle.ms_buddy.specs.Leaves.{LentLeaf, chunk_of, free_of, root}
use Rattle.ms_buddy.specs.Tree.{is_free, IsTree, lent_in, free_in}
use Rattle.ms_buddy.proofs.TreeHalvesLemmas.{size_of-some, size_of-halves}
use Rattle.ms_buddy.proofs.WalkLemmas.{LeafIn, lent_lies_in, all_joined, free_levels}

-- A chunk of the list shares a word with the n words from a on.
abbrev pub meets_run : List Chunk → ℕ → ℕ → Bool
meets_run held a n = list_any (λ chunk. meet chunk.start (size_of chunk.level) a n) held

-- The lists meet the same runs between two offsets.
abbrev Agree : List Chunk → List Chunk → ℕ → ℕ → Type 0
Agree held others low high = (a n : ℕ) → low ≤ a → a + n ≤ high → meets_run held a n ≡ meets_run others a n

next_level : (below : ℕ) → below < highest_level → highest_level - suc below + 1 ≡ highest_level - below
next_level below h = omega arith

halves_below : (below : ℕ) → below < highest_level
    → size_of (highest_level - below) + size_of (highest_level - below) ≡ size_of (highest_level - suc below)
halves_below below h =
    subst (λ (x : ℕ). size_of x + size_of x ≡ size_of (highest_level - suc below)) (next_level below h)
    (size_of-halves (highest_level - suc below) (omega arith))

-- The free parts within a part depend only on which runs in it the list meets.
free_within-agree : (held others : List Chunk) (below start : ℕ) → below ≤ highest_level
    → Agree held others start (start + size_of (highest_level - below))
    → free_within held below start ≡ free_within others below start
free_within-agree held others zero start h agree =
    ap (λ (b : Bool). cond b [] (record { start = start; level = highest_level } ∷ []))
    (agree start (size_of highest_level) (omega arith) (omega arith))
free_within-agree held others (suc below) start h agree =
    joined (meets_run held start (size_of (highest_level - suc below)))
    (meets_run others start (size_of (highest_level - suc below)))
    (free_within held below start) (free_within others below start)
    (free_within held below (start + size_of (highest_level - below)))
    (free_within others below (start + size_of (highest_level - below)))
    (record { start = start; level = highest_level - suc below } ∷ [])
    (agree start (size_of (highest_level - suc below)) (omega arith) (omega arith))
    (free_within-agree held others below start (omega arith)
    (λ a n k l. agree a n k (omega (arith, halves_below below (omega arith)))))
    (free_within-agree held others below (start + size_of (highest_level - below)) (omega arith)
    (λ a n k l. agree a n (omega arith) (omega (arith, halves_below below (omega arith)))))
  where
    joined : (a b : Bool) (x y u v z : List Span) → a ≡ b → x ≡ y → u ≡ v → cond a (x ++ u) z ≡ cond b (y ++ v) z
    joined a b x y u v z e f g = rw (e, f, g) refl

meets : (a m b n : ℕ) → a ≤ b → b + n ≤ a + m → 0 < n → meet a m b n ≡ true
meets a m b n h k l = grind (arith, nat_tests)

-- A part that a chunk covers has no free part.
covered : (chunk : Chunk) (below start : ℕ) → below ≤ highest_level → chunk.start ≤ start
    → start + size_of (highest_level - below) ≤ chunk.start + size_of chunk.level
    → free_within (chunk ∷ []) below start ≡ []
covered chunk zero start h k l =
    rw (meets chunk.start (size_of chunk.level) start (size_of highest_level) k l (omega arith)) refl
covered chunk (suc below) start h k l =
    rw (meets chunk.start (size_of chunk.level) start (size_of (highest_level - suc below)) k l
    (size_of-some (highest_level - suc below)))
    (rw (
      covered chunk below start (omega arith) k (omega (arith, halves_below below (omega arith))),
      covered chunk below (start + size_of (highest_level - below)) (omega arith) (omega arith)
          (omega (arith, halves_below below (omega arith))),
    ) refl)

-- A run that ends where a chunk starts, or starts where it ends, doesn't meet it.
meets_not_above : (a m b n : ℕ) → b + n ≤ a → meet a m b n ≡ false
meets_not_above a m b n h = grind (arith, nat_tests)

meets_not_below : (a m b n : ℕ) → a + m ≤ b → meet a m b n ≡ false
meets_not_below a m b n h = grind (arith, nat_tests)

none_met : (low high a n : ℕ) (lent : List LentLeaf)
    → ((leaf : LentLeaf) → LeafIn low high leaf → meet leaf.start (size_of leaf.level) a n ≡ false)
    → AllByRecursion (LeafIn low high) lent → meets_run (map chunk_of lent) a n ≡ false
none_met low high a n [] each all = refl
none_met low high a n (leaf ∷ lent) each all = rw (each leaf all.0) (none_met low high a n lent each all.1)

-- The leaves of the one half meet no run in the other.
upper_agrees : (level start middle : ℕ) (xs : List LentLeaf) (upper : Node) → IsTree level upper
    → Agree (map chunk_of (xs ++ lent_in level middle upper)) (map chunk_of xs) start middle
upper_agrees level start middle xs upper tree a n h k =
    ap (λ (held : List Chunk). meets_run held a n) (map-append chunk_of xs (lent_in level middle upper))
    ∙ list_any-append (λ (chunk : Chunk). meet chunk.start (size_of chunk.level) a n) (map chunk_of xs)
    (map chunk_of (lent_in level middle upper))
    ∙ or_false (meets_run (map chunk_of xs) a n) (meets_run (map chunk_of (lent_in level middle upper)) a n)
    (none_met middle (middle + size_of level) a n (lent_in level middle upper)
    (λ leaf lies. meets_not_above leaf.start (size_of leaf.level) a n (omega (arith, lies.from)))
    (lent_lies_in level middle upper tree))
  where
    or_false : (x y : Bool) → y ≡ false → (x || y) ≡ x
    or_false true y e = refl
    or_false false y e = e

lower_agrees : (level start high : ℕ) (lower : Node) (ys : List LentLeaf) → IsTree level lower
    → Agree (map chunk_of (lent_in level start lower ++ ys)) (map chunk_of ys) (start + size_of level) high
lower_agrees level start high lower ys tree a n h k =
    ap (λ (held : List Chunk). meets_run held a n) (map-append chunk_of (lent_in level start lower) ys)
    ∙ list_any-append (λ (chunk : Chunk). meet chunk.start (size_of chunk.level) a n)
    (map chunk_of (lent_in level start lower)) (map chunk_of ys)
    ∙ ap (λ (b : Bool). b || meets_run (map chunk_of ys) a n)
    (none_met start (start + size_of level) a n (lent_in level start lower)
    (λ leaf lies. meets_not_below leaf.start (size_of leaf.level) a n (omega (arith, lies.to)))
    (lent_lies_in level start lower tree))

-- A node that isn't free has a lent leaf, which meets each run around the node.
node_meets : (level start : ℕ) (node : Node) (a n : ℕ) → IsTree level node → is_free node ≡ false
    → a ≤ start → start + size_of level ≤ a + n
    → meets_run (map chunk_of (lent_in level start node)) a n ≡ true
node_meets level start Free a n tree e h k = absurd (cc)
node_meets level start (Lent owner front) a n tree e h k =
    rw (meets start (size_of level) a n (size_of-some level) h k) refl
  where
    meets : (b m a n : ℕ) → 0 < m → a ≤ b → b + m ≤ a + n → meet b m a n ≡ true
    meets b m a n some h k = grind (arith, nat_tests)
node_meets level start (Split lower upper) a n tree e h k =
    ap (λ (held : List Chunk). meets_run held a n)
    (map-append chunk_of (lent_in (level + 1) start lower) (lent_in (level + 1) (start + size_of (level + 1)) upper))
    ∙ list_any-append (λ (chunk : Chunk). meet chunk.start (size_of chunk.level) a n)
    (map chunk_of (lent_in (level + 1) start lower))
    (map chunk_of (lent_in (level + 1) (start + size_of (level + 1)) upper))
    ∙ one_of (is_free lower) (is_free upper)
    (meets_run (map chunk_of (lent_in (level + 1) start lower)) a n)
    (meets_run (map chunk_of (lent_in (level + 1) (start + size_of (level + 1)) upper)) a n)
    tree.1
    (λ f. node_meets (level + 1) start lower a n tree.2 f h (omega (arith, size_of-halves level tree.0)))
    (λ f. node_meets (level + 1) (start + size_of (level + 1)) upper a n tree.3 f (omega arith)
    (omega (arith, size_of-halves level tree.0)))
  where
    one_of : (f g x y : Bool) → IsFalse (f && g) → (f ≡ false → x ≡ true) → (g ≡ false → y ≡ true) → (x || y) ≡ true
    one_of true true x y n h k = absurd (cc)
    one_of true false x y n h k = rw (k refl) (or_true x)
      where
        or_true : (x : Bool) → (x || true) ≡ true
        or_true true = refl
        or_true false = refl
    one_of false g x y n h k = rw (h refl) refl

-- One step of the walk: at a split with a lent leaf.
split_walk : (below level start : ℕ) (lower upper : Node) → below < highest_level
    → level ≡ highest_level - below
    → IsTree level lower → IsTree level upper
    → meets_run (map chunk_of (lent_in level start lower ++ lent_in level (start + size_of level) upper)) start
    (size_of (highest_level - suc below)) ≡ true
    → free_within (map chunk_of (lent_in level start lower)) below start ≡ free_in level start lower
    → free_within (map chunk_of (lent_in level (start + size_of level) upper)) below (start + size_of level)
    ≡ free_in level (start + size_of level) upper
    → free_within (map chunk_of (lent_in level start lower ++ lent_in level (start + size_of level) upper))
    (suc below) start
    ≡ free_in level start lower ++ free_in level (start + size_of level) upper
split_walk below level start lower upper h e low_tree high_tree met low high =
    joined (meets_run held start (size_of (highest_level - suc below)))
    (free_within held below start) (free_within held below (start + size_of (highest_level - below)))
    (free_in level start lower) (free_in level (start + size_of level) upper)
    (record { start = start; level = highest_level - suc below } ∷ []) met
    (free_within-agree held (map chunk_of (lent_in level start lower)) below start (omega arith)
    (subst (λ (x : ℕ). Agree held (map chunk_of (lent_in level start lower)) start (start + size_of x)) e
    (upper_agrees level start (start + size_of level) (lent_in level start lower) upper high_tree))
    ∙ low)
    (ap (λ (x : ℕ). free_within held below (start + size_of x)) (sym e)
    ∙ free_within-agree held (map chunk_of (lent_in level (start + size_of level) upper)) below (start + size_of level)
    (omega arith)
    (lower_agrees level start (start + size_of level + size_of (highest_level - below)) lower
    (lent_in level (start + size_of level) upper) low_tree)
    ∙ high)
  where
    held : List Chunk
    held = map chunk_of (lent_in level start lower ++ lent_in level (start + size_of level) upper)

    joined : (b : Bool) (x y u v z : List Span) → b ≡ true → x ≡ u → y ≡ v → cond b (x ++ y) z ≡ u ++ v
    joined b x y u v z e f g = rw (e, f, g) refl

-- The free leaves of a node are the free parts within it that its lent leaves leave over.
free_walk : (below start : ℕ) (node : Node) → below ≤ highest_level → IsTree (highest_level - below) node
    → free_within (map chunk_of (lent_in (highest_level - below) start node)) below start
    ≡ free_in (highest_level - below) start node
free_walk zero start Free h tree = refl
free_walk (suc below) start Free h tree = refl
free_walk below start (Lent owner front) h tree =
    covered (record { start = start; level = highest_level - below; front = front }) below start h
    (omega arith) (omega arith)
free_walk zero start (Split lower upper) h tree = absurd (omega (arith, tree.0))
free_walk (suc below) start (Split lower upper) h tree =
    split_walk below (highest_level - suc below + 1) start lower upper (omega arith)
    (next_level below (omega arith)) tree.2 tree.3
    (node_meets (highest_level - suc below) start (Split lower upper) start
    (size_of (highest_level - suc below)) tree refl
    (omega arith) (omega arith))
    (subst (λ (x : ℕ). free_within (map chunk_of (lent_in x start lower)) below start ≡ free_in x start lower)
    (sym (next_level below (omega arith)))
    (free_walk below start lower (omega arith)
    (subst (λ (x : ℕ). IsTree x lower) (next_level below (omega arith)) tree.2)))
    (subst (λ (x : ℕ). free_within
    (map chunk_of (lent_in x (start + size_of (highest_level - suc below + 1)) upper)) below
    (start + size_of (highest_level - suc below + 1))
    ≡ free_in x (start + size_of (highest_level - suc below + 1)) upper)
    (sym (next_level below (omega arith)))
    (free_walk below (start + size_of (highest_level - suc below + 1)) upper (omega arith)
    (subst (λ (x : ℕ). IsTree x upper) (next_level below (omega arith)) tree.3)))

-- The free leaves of the whole tree are the free parts of the root.
pub free_of-tree : (node : Node) → IsTree 0 node → free_of (lent_in 0 0 node) ≡ free_in 0 0 node
unfolding free_of
free_of-tree node tree = free_walk highest_level 0 node (omega arith) tree

-- A tree with no lent leaf is one free leaf, and no other is.
pub whole_tree : (node : Node) → IsTree 0 node → lent_in 0 0 node ≡ [] → is_free node ≡ true
whole_tree Free tree e = refl
whole_tree (Lent owner front) tree e = absurd (cc)
whole_tree (Split lower upper) tree e =
    absurd (some (meets_run (map chunk_of (lent_in 0 0 (Split lower upper))) 0 (size_of 0))
    (node_meets 0 0 (Split lower upper) 0 (size_of 0) tree refl (omega arith) (omega arith))
    (ap (λ (xs : List LentLeaf). meets_run (map chunk_of xs) 0 (size_of 0)) e))
  where
    some : (b : Bool) → b ≡ true → b ≡ false → ⊥
    some b e f = absurd (cc)

pub free_tree : (node : Node) → is_free node ≡ true → lent_in 0 0 node ≡ []
free_tree Free e = refl
free_tree (Lent owner front) e = absurd (cc)
free_tree (Split lower upper) e = absurd (cc)

-- With no leaf lent the root is one free leaf.
pub free_of-none : free_of [] ≡ root ∷ []
unfolding free_of
free_of-none = refl

-- Where the root is one free leaf, no leaf is lent.
deeper_not_root : (parts : List Span) → AllByRecursion (λ part. 1 ≤ part.level) parts → parts ≡ root ∷ [] → ⊥
deeper_not_root [] all e = absurd (cc)
deeper_not_root (part ∷ parts) all e = omega (arith, all.0, ap first e)
  where
    first : List Span → ℕ
    first [] = 0
    first (part ∷ parts) = part.level

pub whole_tree_is_free : (node : Node) → IsTree 0 node → free_in 0 0 node ≡ root ∷ []
    → is_free node ≡ true
whole_tree_is_free Free tree e = refl
whole_tree_is_free (Lent owner front) tree e = absurd (cc)
whole_tree_is_free (Split lower upper) tree e =
    absurd (deeper_not_root (free_in 0 0 (Split lower upper))
    (all_joined (λ part. 1 ≤ part.level) (free_in 1 0 lower) (free_in 1 (size_of 1) upper) (free_levels 1 0 lower)
    (free_levels 1 (size_of 1) upper)) e)

-- So are those of the node that is kept.
pub free_of-kept : (lent : List LentLeaf) (size : ℕ) (counts words filled : List ℕ)
    (kept : IsKept lent size counts words filled) → free_in 0 0 kept.node ≡ free_of lent
free_of-kept lent size counts words filled kept = sym (free_of-tree kept.node kept.tree.tree) ∙ ap free_of kept.lent_is
