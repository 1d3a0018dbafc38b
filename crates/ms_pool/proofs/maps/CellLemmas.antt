-- What a cell of a root is in the pool, from the leaves of the root's tree and the nodes'
-- granules. `cell_in` and `has_granule` use these.
use Rattle.std.proofs.Common.{◌≡◌, ◌≤◌, ◌<◌, ℕ, zero, suc, ◌+◌, ◌-◌, ◌*◌, ◌/◌, Bool, true, false, cond, not, ◌&&◌, ◌||◌}
use Rattle.std.proofs.Common.{List, [], ◌∷◌, get_or, length, map, refl, sym, ap, ap₂, ◌∙◌, arith, le-leb, lt-ltb}
use Rattle.std.specs.Prelude.{nat_lt}
use Rattle.std.specs.List.{filter, list_any, range_with_len}
use Rattle.std.proofs.lemmas.Bool.Decides.{nat_tests}
use Rattle.std.proofs.lemmas.List.Elements.{recursion_from_All}
use Rattle.ms_base.specs.declared.kind.Space.{Space}
use Rattle.ms_base.specs.declared.kind.Space.TheVariants.{NonClass, Class}
use Rattle.ms_base.specs.declared.span.Span.{Span}
use Rattle.ms_base.specs.Committed.{is_among}
use Rattle.ms_base.specs.FreeParts.{free_within}
use Rattle.ms_base.specs.Interval.{meet}
use Rattle.ms_base.specs.Level.{root_words, size_of, highest_level}
use Rattle.ms_base.specs.Policy.{granule_of, slot_granules}
use Rattle.ms_base.specs.Spaces.{by_space, first_class_word}
use Rattle.ms_base.proofs.free.MovedLemmas.{raised_part}
use Rattle.ms_commit.specs.NumberSet.{count_missing}
use Rattle.ms_commit.specs.Nodes.{NodesState, is_granule_of, node_granules}
use Rattle.ms_commit.proofs.RangeLemmas.{is_among-filter}
use Rattle.ms_buddy.specs.Leaves.{AreLeaves, LentLeaf, chunk_of, free_of}
use Rattle.ms_pool.specs.declared.lender.Lender.{Lender}
use Rattle.ms_pool.specs.Ledger.{committed_of, held_in, state_in}
use Rattle.ms_pool.specs.Keeping.{IsKept, IsRunOf, ledger_of}
use Rattle.ms_pool.specs.Mapping.{is_committed_in, meets_free, meets_lent, cell_by, cell_in, cell_start}
use Rattle.ms_pool.specs.Mapping.{cell_words, root_cells}
use Rattle.ms_pool.proofs.searches.EnoughLemmas.{of_space_at}
use Rattle.ms_pool.proofs.searches.FreeRootLemmas.{IsRootIn, agree_in_root, free_in_root}
use Rattle.ms_pool.proofs.searches.SlotLoopLemmas.{committed_is}

-- The roots that a space may have.
abbrev pub first_root : Space → ℕ
first_root space = by_space space 0 128

abbrev pub end_root : Space → NodesState → ℕ
end_root space nodes = by_space space 128 (2 * (64 + nodes.class_slots))

pub root_there : (space : Space) (nodes : NodesState) (root count : ℕ) → root < end_root space nodes
    → count ≡ 2 * (64 + nodes.class_slots) → root < count
root_there NonClass nodes root count high e = omega arith
root_there Class nodes root count high e = omega arith

inside_space : (space : Space) (nodes : NodesState) (root : ℕ) → first_root space ≤ root → root < end_root space nodes
    → IsRootIn space root
inside_space NonClass nodes root low high offset within =
    lt-ltb (offset + root * root_words) first_class_word (omega arith)
inside_space Class nodes root low high offset within =
    le-leb first_class_word (offset + root * root_words) (omega arith)

-- What is lent there.
pub lent_there : (space : Space) (lender : Lender) (root number : ℕ) → IsKept lender → first_root space ≤ root
    → root < end_root space lender.nodes → number < root_cells
    → meets_lent (held_in space (ledger_of lender)) (cell_start root number) cell_words
    ≡ meets_lent (map chunk_of (get_or lender.trees.items root [])) (number * cell_words) cell_words
lent_there space lender root number kept low high within =
    agree_in_root space lender.trees.items root
    (root_there space lender.nodes root (length lender.trees.items) high kept.trees)
    (recursion_from_All AreLeaves lender.trees.items kept.leaves) (inside_space space lender.nodes root low high)
    (number * cell_words) 6 (omega arith)

-- What is free there.
meets_raised : (a m b n root : ℕ) → meet (a + root) m (b + root) n ≡ meet a m b n
meets_raised a m b n root = grind (arith, nat_tests)

free_raised : (parts : List Span) (start words root : ℕ)
    → meets_free (map (raised_part root) parts) (start + root) words ≡ meets_free parts start words
free_raised [] start words root = refl
free_raised (part ∷ parts) start words root =
    ap₂ (λ a b. a || b) (meets_raised part.start (size_of part.level) start words root)
    (free_raised parts start words root)

pub free_there : (space : Space) (lender : Lender) (root number : ℕ) → IsKept lender → first_root space ≤ root
    → root < end_root space lender.nodes
    → meets_free (free_within (held_in space (ledger_of lender)) highest_level (root * root_words))
    (cell_start root number)
    cell_words
    ≡ meets_free (free_of (get_or lender.trees.items root [])) (number * cell_words) cell_words
free_there space lender root number kept low high =
    ap (λ (parts : List Span). meets_free parts (cell_start root number) cell_words)
    (free_in_root space lender.trees.items root
    (root_there space lender.nodes root (length lender.trees.items) high kept.trees)
    (recursion_from_All AreLeaves lender.trees.items kept.leaves) (inside_space space lender.nodes root low high))
    ∙ free_raised (free_of (get_or lender.trees.items root [])) (number * cell_words) cell_words (root * root_words)

-- Some number passes exactly where fewer fail than there are.
few_fail : (p : ℕ → Bool) (a n : ℕ) → length (filter (λ k. not (p k)) (range_with_len a n)) ≤ n
few_fail p a zero = omega arith
few_fail p a (suc n) = go (p a) (few_fail p (a + 1) n)
  where
    go : (b : Bool) → length (filter (λ k. not (p k)) (range_with_len (a + 1) n)) ≤ n
        → length (cond (not b) (a ∷ filter (λ k. not (p k)) (range_with_len (a + 1) n))
        (filter (λ k. not (p k)) (range_with_len (a + 1) n))) ≤ suc n
    go true h = omega (arith, h)
    go false h = omega (arith, h)

both_more : (a b : ℕ) → nat_lt (suc a) (suc b) ≡ nat_lt a b
both_more a b = grind (arith, nat_tests)

some_pass : (p : ℕ → Bool) (a n : ℕ)
    → nat_lt (length (filter (λ k. not (p k)) (range_with_len a n))) n ≡ list_any p (range_with_len a n)
some_pass p a zero = refl
some_pass p a (suc n) = go (p a) (few_fail p (a + 1) n) (some_pass p (a + 1) n)
  where
    rest : List ℕ
    rest = filter (λ k. not (p k)) (range_with_len (a + 1) n)

    go : (b : Bool) → length rest ≤ n → nat_lt (length rest) n ≡ list_any p (range_with_len (a + 1) n)
        → nat_lt (length (cond (not b) (a ∷ rest) rest)) (suc n) ≡ (b || list_any p (range_with_len (a + 1) n))
    go true h same = lt-ltb (length rest) (suc n) (omega (arith, h))
    go false h same = both_more (length rest) n ∙ same

-- Tests that agree on a range find the same there.
any_agree : (p q : ℕ → Bool) (a n : ℕ) → ((k : ℕ) → a ≤ k → k < a + n → p k ≡ q k)
    → list_any p (range_with_len a n) ≡ list_any q (range_with_len a n)
any_agree p q a zero agree = refl
any_agree p q a (suc n) agree =
    ap₂ (λ b c. b || c) (agree a (omega arith) (omega arith))
    (any_agree p q (a + 1) n (λ k low high. agree k (omega (arith, low)) (omega (arith, high))))

-- So a granule of the cell is committed where fewer are missing than there are.
pub granule_there : (space : Space) (lender : Lender) (start : ℕ) → IsKept lender → IsRunOf space start cell_words
    → nat_lt (count_missing lender.nodes.granules (start / granule_of lender.policy)
    ((start + 8192 - 1) / granule_of lender.policy + 1 - start / granule_of lender.policy))
    ((start + 8192 - 1) / granule_of lender.policy + 1 - start / granule_of lender.policy)
    ≡ is_committed_in (state_in space (ledger_of lender)) start
granule_there space lender start kept inside =
    some_pass (is_among lender.nodes.granules) first count
    ∙ sym (any_agree (is_among (committed_of space (ledger_of lender))) (is_among lender.nodes.granules) first count
    (λ k low high. ap (λ l. is_among l k) (committed_is space lender)
    ∙ is_among-filter (is_granule_of space (node_granules lender.nodes)) lender.nodes.granules k
    ∙ ap (λ b. b && is_among lender.nodes.granules k)
    (ap (λ (g : ℕ). is_granule_of space (slot_granules g) k) kept.granule
    ∙ of_space_at space lender.policy start 8192 k (omega arith) inside low (omega (arith, low, high)))))
  where
    first : ℕ
    first = start / granule_of lender.policy

    count : ℕ
    count = (start + 8192 - 1) / granule_of lender.policy + 1 - first

-- So the tests on the leaves and granules tell the cell.
pub cell_is : (space : Space) (lender : Lender) (root number : ℕ) (leaves : List LentLeaf) (lent free committed : Bool)
    → IsKept lender → first_root space ≤ root → root < end_root space lender.nodes → number < root_cells
    → leaves ≡ get_or lender.trees.items root []
    → lent ≡ meets_lent (map chunk_of leaves) (number * cell_words) cell_words
    → free ≡ meets_free (free_of leaves) (number * cell_words) cell_words
    → committed ≡ is_committed_in (state_in space (ledger_of lender)) (cell_start root number)
    → cell_by lent free committed ≡ cell_in (state_in space (ledger_of lender)) root number
cell_is space lender root number leaves lent free committed kept low high within tree p q r =
    ap (λ b. cell_by b free committed)
    (p ∙ ap (λ (l : List LentLeaf). meets_lent (map chunk_of l) (number * cell_words) cell_words) tree
    ∙ sym (lent_there space lender root number kept low high within))
    ∙ ap (λ b. cell_by (meets_lent (held_in space (ledger_of lender)) (cell_start root number) cell_words) b
    committed)
    (q ∙ ap (λ (l : List LentLeaf). meets_free (free_of l) (number * cell_words) cell_words) tree
    ∙ sym (free_there space lender root number kept low high))
    ∙ ap (cell_by (meets_lent (held_in space (ledger_of lender)) (cell_start root number) cell_words)
    (meets_free (free_within (held_in space (ledger_of lender)) highest_level (root * root_words))
    (cell_start root number)
    cell_words)) r
