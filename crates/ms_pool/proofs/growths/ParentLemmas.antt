-- Whether a chunk may become its parent, by the tree of its root: no other root has a part that
-- starts where its buddy does.
use Rattle.std.proofs.Common.{◌≡◌, ◌<◌, ◌≤◌, ℕ, ◌+◌, ◌-◌, ◌*◌, ◌/◌, ◌%◌, ◌^◌, mul_assoc, Bool, true, false, ◌&&◌, ◌||◌}
use Rattle.std.proofs.Common.{List, [], ◌∷◌, length, get_or, map, refl, sym, ap, ap₂, subst, ◌∙◌, arith, eq-eqb, eqb-true, ltb-true}
use Rattle.std.proofs.Common.{inl, inr}
use Rattle.std.specs.Prelude.{◌==◌, ◌⊎◌, nat_lt}
use Rattle.std.specs.List.{AllByRecursion, flat_map, list_any}
use Rattle.std.proofs.Math.Nat.{add-mul-mod_self_right, mod-add-div'}
use Rattle.std.proofs.lemmas.Bool.{cases_eq, cases_lt}
use Rattle.std.proofs.lemmas.Bool.Decides.{nat_tests}
use Rattle.std.proofs.lemmas.List.Elements.{recursion_from_All}
use Rattle.std.proofs.lemmas.List.Folds.{list_any-append}
use Rattle.ms_base.specs.declared.kind.Space.{Space}
use Rattle.ms_base.specs.declared.kind.Space.TheVariants.{NonClass, Class}
use Rattle.ms_base.specs.declared.span.Chunk.{Chunk}
use Rattle.ms_base.specs.declared.span.Span.{Span}
use Rattle.ms_base.specs.Level.{size_of, root_words, highest_level}
use Rattle.ms_base.specs.Part.{IsPart, buddy_start, is_leader, is_reserved, node_words, slot_of}
use Rattle.ms_base.specs.FreeParts.{free_in_slot, free_parts, free_within}
use Rattle.ms_base.specs.PoolSteps.{is_free, may_become_parent}
use Rattle.ms_base.proofs.free.FreeLemmas.{IsFreeWithin, listed_are_free}
use Rattle.ms_base.proofs.free.MovedLemmas.{raised_part}
use Rattle.ms_base.proofs.free.PartLemmas.{size_by_level}
use Rattle.ms_commit.specs.Nodes.{NodesState, slots_of}
use Rattle.ms_buddy.specs.Leaves.{LentLeaf, AreLeaves, can_enlarge, free_of, is_same, span_at}
use Rattle.ms_buddy.proofs.TreeHalvesLemmas.{size_of-some}
use Rattle.ms_pool.specs.declared.lender.Lender.{Lender}
use Rattle.ms_pool.specs.Ledger.{held_in, state_in}
use Rattle.ms_pool.specs.Keeping.{IsKept, ledger_of}
use Rattle.ms_pool.specs.Releasing.{is_lent_in}
use Rattle.ms_buddy.proofs.changes.LeaderLemmas.{buddy_within, lent_part}
use Rattle.ms_pool.proofs.searches.FreeRootLemmas.{IsRootIn, at_tree, free_in_root}
use Rattle.ms_pool.proofs.loans.OpenLemmas.{IsSlotThere, open_is_low, open_is_of_space}
use Rattle.ms_pool.proofs.returns.ReleasedTreeLemmas.{leaf_there}
use Rattle.ms_pool.proofs.searches.SlotLoopLemmas.{end_slot, first_slot, root_in}

-- A root of the space, among the trees.
root_within : (space : Space) (lender : Lender) (root : ℕ) → IsKept lender → root < 2 * end_slot space lender.nodes
    → root < length lender.trees.items
root_within NonClass lender root kept h = omega (arith, kept.trees, h)
root_within Class lender root kept h = omega (arith, kept.trees, h)

root_is_in : (space : Space) (nodes : NodesState) (root : ℕ) → 2 * first_slot space ≤ root
    → root < 2 * end_slot space nodes → IsRootIn space root
root_is_in space nodes root low high =
    let whole : 2 * (root / 2) + root % 2 ≡ root = omega arith in
    subst (IsRootIn space) whole
    (root_in space nodes (root / 2) (root % 2) (omega arith) (omega (arith, low)) (omega (arith, high)))

-- The part of that span.
abbrev at_span : ℕ → ℕ → Span → Bool
at_span start level part = (part.start == start) && (part.level == level)

-- No part of another root.
elsewhere : (a s b low high : ℕ) → low ≤ a → a + s ≤ high → 0 < s → (b < low) ⊎ (high ≤ b) → (a == b) ≡ false
elsewhere a s b low high h k some (inl less) = grind (arith, nat_tests, h, less)
elsewhere a s b low high h k some (inr more) = grind (arith, nat_tests, k, some, more)

none_of : (held : List Chunk) (start level low high : ℕ) (parts : List Span)
    → AllByRecursion (IsFreeWithin held low high) parts → (start < low) ⊎ (high ≤ start)
    → list_any (at_span start level) parts ≡ false
none_of held start level low high [] all out = refl
none_of held start level low high (part ∷ parts) all out =
    ap (λ b. (b && (part.level == level)) || list_any (at_span start level) parts)
    (elsewhere part.start (size_of part.level) start low high all.0.from all.0.upto (size_of-some part.level) out)
    ∙ none_of held start level low high parts all.1 out

none_in_root : (held : List Chunk) (start level root : ℕ) → root % size_of 0 ≡ 0
    → (start < root) ⊎ (root + size_of 0 ≤ start)
    → list_any (at_span start level) (free_within held highest_level root) ≡ false
none_in_root held start level root whole out =
    none_of held start level root (root + size_of 0) (free_within held highest_level root)
    (recursion_from_All (IsFreeWithin held root (root + size_of 0)) (free_within held highest_level root)
    (listed_are_free held highest_level root (omega arith) whole refl)) out

-- A root's own parts, moved down.
shifted : (a b c w : ℕ) → c ≡ b + w → (a + w == c) ≡ (a == b)
shifted a b c w e = grind (arith, nat_tests)

moved_down : (start level own words : ℕ) (parts : List Span) → start ≡ own + words
    → list_any (at_span start level) (map (raised_part words) parts)
    ≡ list_any (is_same (record { start = own; level = level })) parts
moved_down start level own words [] e = refl
moved_down start level own words (part ∷ parts) e =
    ap₂ (λ a b. (a && (part.level == level)) || b) (shifted part.start own start words e)
    (moved_down start level own words parts e)

-- Of slots, that of the word alone.
none_of_slots : (test : Span → Bool) (f : ℕ → List Span) (slots : List ℕ) (slot : ℕ) → is_reserved slots slot ≡ false
    → ((k : ℕ) → (k ≡ slot → ⊥) → list_any test (f k) ≡ false)
    → list_any test (flat_map f slots) ≡ false
none_of_slots test f [] slot gone out = refl
none_of_slots test f (k ∷ slots) slot gone out =
    let both = neither (k == slot) (is_reserved slots slot) gone in
    list_any-append test (f k) (flat_map f slots)
    ∙ ap (λ b. b || list_any test (flat_map f slots)) (out k (λ e. differ k slot e both.0))
    ∙ none_of_slots test f slots slot both.1 out
  where
    neither : (a b : Bool) → (a || b) ≡ false → (a ≡ false) × (b ≡ false)
    neither false false e = (refl, refl)
    neither true b e = absurd (cc)
    neither false true e = absurd (cc)

    differ : (a b : ℕ) → a ≡ b → (a == b) ≡ false → ⊥
    differ a b e f = let g = eq-eqb a b e in cc (f, g)

one_of_slots : (test : Span → Bool) (f : ℕ → List Span) (slots : List ℕ) (slot : ℕ) → is_reserved slots slot ≡ true
    → ((k : ℕ) → (k ≡ slot → ⊥) → list_any test (f k) ≡ false)
    → list_any test (flat_map f slots) ≡ list_any test (f slot)
one_of_slots test f [] slot there out = absurd (cc)
one_of_slots test f (k ∷ slots) slot there out =
    list_any-append test (f k) (flat_map f slots) ∙ go (is_reserved slots slot) refl (one_of_slots test f slots slot)
  where
    twice : (a : Bool) → (a || a) ≡ a
    twice true = refl
    twice false = refl

    or_none : (a : Bool) → (a || false) ≡ a
    or_none true = refl
    or_none false = refl

    head : is_reserved slots slot ≡ false → k ≡ slot
    head gone = eqb-true k slot (first (k == slot) (is_reserved slots slot) there gone)
      where
        first : (a b : Bool) → (a || b) ≡ true → b ≡ false → a ≡ true
        first true b e f = refl
        first false true e f = absurd (cc)
        first false false e f = absurd (cc)

    go : (b : Bool) → is_reserved slots slot ≡ b
        → (is_reserved slots slot ≡ true → ((j : ℕ) → (j ≡ slot → ⊥) → list_any test (f j) ≡ false)
        → list_any test (flat_map f slots) ≡ list_any test (f slot))
        → (list_any test (f k) || list_any test (flat_map f slots)) ≡ list_any test (f slot)
    go true e rest = ap (λ b. list_any test (f k) || b) (rest e out) ∙ elim (cases_eq k slot) [
      | inl same ↦ ap (λ (j : ℕ). list_any test (f j) || list_any test (f slot)) same ∙ twice (list_any test (f slot))
      | inr differ ↦ ap (λ b. b || list_any test (f slot)) (out k differ)
    ]
    go false e rest = ap (λ b. list_any test (f k) || b) (none_of_slots test f slots slot e out)
        ∙ or_none (list_any test (f k)) ∙ ap (λ (j : ℕ). list_any test (f j)) (head e)

none_in_slot : (held : List Chunk) (start level slot : ℕ) → (slot ≡ slot_of start → ⊥)
    → list_any (at_span start level) (free_in_slot held slot) ≡ false
none_in_slot held start level slot other =
    list_any-append (at_span start level) (free_within held highest_level (slot * node_words))
    (free_within held highest_level (slot * node_words + size_of 0))
    ∙ ap (λ b. b || list_any (at_span start level) (free_within held highest_level (slot * node_words + size_of 0)))
    (none_in_root held start level (slot * node_words) (omega arith)
    (side (slot * node_words) (omega arith) (omega arith)))
    ∙ none_in_root held start level (slot * node_words + size_of 0) (omega arith)
    (side (slot * node_words + size_of 0) (omega arith) (omega arith))
  where
    side : (root : ℕ) → slot * node_words ≤ root → root + size_of 0 ≤ slot * node_words + node_words
        → (start < root) ⊎ (root + size_of 0 ≤ start)
    side root low high = elim (cases_lt start (slot * node_words)) [
      | inl less ↦ inl (omega (arith, less, low))
      | inr more ↦ inr (omega (arith, more, high, apart_slots more))
    ]
      where
        apart_slots : slot * node_words ≤ start → slot * node_words + node_words ≤ start
        apart_slots more = elim (cases_lt start (slot * node_words + node_words)) [
          | inl inside ↦ absurd (other (omega (arith, more, inside)))
          | inr past ↦ past
        ]

-- The part that starts at an offset of a root, among all.
pub free_by_root : (space : Space) (lender : Lender) (root own level : ℕ) → IsKept lender → own < root_words
    → 2 * first_slot space ≤ root → root < 2 * end_slot space lender.nodes
    → is_reserved (slots_of space lender.nodes) (root / 2) ≡ true
    → list_any (at_span (own + root * root_words) level)
    (free_parts (held_in space (ledger_of lender)) (slots_of space lender.nodes))
    ≡ list_any (is_same (record { start = own; level = level })) (free_of (get_or lender.trees.items root []))
free_by_root space lender root own level kept fits low high there =
    one_of_slots test (free_in_slot held) (slots_of space lender.nodes) (root / 2) there
    (λ k other. none_in_slot held start level k (λ e. other (e ∙ in_slot)))
    ∙ list_any-append test (free_within held highest_level (root / 2 * node_words))
    (free_within held highest_level (root / 2 * node_words + size_of 0))
    ∙ elim (cases_eq (root % 2) 0) [
      | inl even ↦
          ap₂ (λ a b. a || b)
          (ap (λ (s : ℕ). list_any test (free_within held highest_level s)) (is_lower even) ∙ own_parts)
          (none_in_root held start level (root / 2 * node_words + size_of 0) (omega arith)
          (inl (omega (arith, fits, even)))) ∙ or_none _
      | inr odd ↦
          ap₂ (λ a b. a || b)
          (none_in_root held start level (root / 2 * node_words) (omega arith) (inr (omega (arith, odd))))
          (ap (λ (s : ℕ). list_any test (free_within held highest_level s)) (is_upper odd) ∙ own_parts)
    ]
  where
    held : List Chunk
    held = held_in space (ledger_of lender)

    start : ℕ
    start = own + root * root_words

    test : Span → Bool
    test = at_span start level

    in_slot : slot_of start ≡ root / 2
    in_slot = omega (arith, fits)

    is_lower : root % 2 ≡ 0 → root / 2 * node_words ≡ root * root_words
    is_lower even = omega (arith, even)

    is_upper : (root % 2 ≡ 0 → ⊥) → root / 2 * node_words + size_of 0 ≡ root * root_words
    is_upper odd = omega (arith, odd)

    or_none : (a : Bool) → (a || false) ≡ a
    or_none true = refl
    or_none false = refl

    own_parts : list_any test (free_within held highest_level (root * root_words))
        ≡ list_any (is_same (record { start = own; level = level })) (free_of (get_or lender.trees.items root []))
    own_parts =
        ap (list_any test) (free_in_root space lender.trees.items root (root_within space lender root kept high)
        (recursion_from_All AreLeaves lender.trees.items kept.leaves) (root_is_in space lender.nodes root low high))
        ∙ moved_down start level own (root * root_words) (free_of (get_or lender.trees.items root [])) refl

-- An offset leaves the same over a size as the word.
offset_mod : (start level : ℕ) → level ≤ highest_level → start % root_words % size_of level ≡ start % size_of level
offset_mod start level low =
    sym (add-mul-mod_self_right (start % root_words) (start / root_words * 2 ^ (level - 0)) (size_of level))
    ∙ ap (λ n. n % size_of level)
    (ap (λ t. start % root_words + t)
    (mul_assoc (start / root_words) (2 ^ (level - 0)) (size_of level)
    ∙ ap (λ w. start / root_words * w) (sym (size_by_level 0 level (omega arith) low)))
    ∙ mod-add-div' start root_words)

same_three : (a b c d e : Bool) → (a ≡ true → b ≡ d) → (a ≡ true → d ≡ true → c ≡ e) → (a && b && c) ≡ (a && d && e)
same_three false b c d e f g = refl
same_three true b c true e f g = ap₂ (λ x y. x && y) (f refl) (g refl refl)
same_three true b c false e f g = ap (λ x. x && c) (f refl)

pub parents_alike : (space : Space) (lender : Lender) (chunk : Chunk) → IsKept lender
    → is_lent_in (ledger_of lender).loans chunk ≡ true
    → is_reserved (slots_of space lender.nodes) (slot_of chunk.start) ≡ true
    → may_become_parent (state_in space (ledger_of lender)) chunk
    ≡ can_enlarge (span_at (chunk.start % root_words) chunk.level)
    (free_of (get_or lender.trees.items (chunk.start / root_words) []))
parents_alike space lender chunk kept lent there =
    same_three (nat_lt 0 chunk.level) (is_leader chunk.start chunk.level)
    (is_free (state_in space (ledger_of lender)) (buddy_start chunk.start chunk.level) chunk.level)
    (is_leader own chunk.level)
    (list_any (is_same (record { start = buddy_start own chunk.level; level = chunk.level })) (free_of tree))
    (λ some. ap (λ (n : ℕ). n == 0) (sym (offset_mod chunk.start (chunk.level - 1) (omega (arith, index.0.0)))))
    (λ some leads.
    let leader : own % size_of (chunk.level - 1) ≡ 0 = eqb-true (own % size_of (chunk.level - 1)) 0 leads in
    let whole : chunk.start % size_of (chunk.level - 1) ≡ 0 =
    sym (offset_mod chunk.start (chunk.level - 1) (omega (arith, index.0.0))) ∙ leader in
    let inside : own + size_of chunk.level < 524288 =
    buddy_within own chunk.level (ltb-true 0 chunk.level some) index.0.0 leader index.1 in
    let global : buddy_start chunk.start chunk.level ≡ own + size_of chunk.level + root * root_words =
    omega (arith, whole) in
    let local : buddy_start own chunk.level ≡ own + size_of chunk.level = omega (arith, leader) in
    ap (λ (s : ℕ). list_any (at_span s chunk.level)
    (free_parts (held_in space (ledger_of lender)) (slots_of space lender.nodes))) global
    ∙ free_by_root space lender root (own + size_of chunk.level) chunk.level kept inside
    (from_slot space
    (open_is_of_space space lender.nodes (slot_of chunk.start) kept.nodes kept.sound.nodes.1 (inl there)))
    (to_slot space (slot_of chunk.start) (omega arith) there)
    (ap (is_reserved (slots_of space lender.nodes)) (omega arith) ∙ there)
    ∙ ap (λ (s : ℕ). list_any (is_same (record { start = s; level = chunk.level })) (free_of tree)) (sym local))
  where
    root : ℕ
    root = chunk.start / root_words

    own : ℕ
    own = chunk.start % root_words

    tree : List LentLeaf
    tree = get_or lender.trees.items root []

    leaves : AllByRecursion AreLeaves lender.trees.items
    leaves = recursion_from_All AreLeaves lender.trees.items kept.leaves

    index : IsPart own chunk.level × (own + size_of chunk.level ≤ 524288)
    index = lent_part (span_at own chunk.level) tree
        (at_tree lender.trees.items root (leaf_there lender.trees.items chunk leaves lent).0 leaves).parts
        (at_tree lender.trees.items root (leaf_there lender.trees.items chunk leaves lent).0 leaves).in_root
        (leaf_there lender.trees.items chunk leaves lent).1

    from_slot : (s : Space) → IsSlotThere s (slot_of chunk.start) → 2 * first_slot s ≤ root
    from_slot NonClass e = omega arith
    from_slot Class e = omega (arith, e)

    to_slot : (s : Space) (slot : ℕ) → slot ≡ slot_of chunk.start → is_reserved (slots_of s lender.nodes) slot ≡ true
        → root < 2 * end_slot s lender.nodes
    to_slot NonClass slot e h =
        omega (arith, e, open_is_of_space NonClass lender.nodes slot kept.nodes kept.sound.nodes.1 (inl h))
    to_slot Class slot e h = omega (arith, e, open_is_low Class lender.nodes slot kept.nodes kept.sound.nodes.1 (inl h))
