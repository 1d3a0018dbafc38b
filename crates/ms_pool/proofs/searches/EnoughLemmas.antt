-- The granules that a part of a space meets are committed in the space exactly where they are
-- committed at all; and the first free leaf of a root that suits is the first free part that does.
use Rattle.std.proofs.Common.{◌≡◌, ◌<◌, ◌≤◌, ℕ, zero, suc, ◌+◌, ◌-◌, ◌*◌, ◌/◌, Bool, true, false, cond, not, ◌&&◌, ◌||◌}
use Rattle.std.proofs.Common.{◌==◌, List, [], ◌∷◌, map, refl, sym, ap, subst, ◌∙◌, arith, Some, eqb-true, lt-ltb}
use Rattle.std.proofs.Common.{le-leb}
use Rattle.std.specs.List.{AllByRecursion, find, list_all, range_with_len}
use Rattle.std.proofs.lemmas.List.Elements.{recursion_from_All, All-weaker}
use Rattle.ms_base.specs.declared.kind.Space.{Space}
use Rattle.ms_base.specs.declared.kind.Space.TheVariants.{NonClass, Class}
use Rattle.ms_base.specs.declared.policy.Policy.{Policy}
use Rattle.ms_base.specs.declared.policy.Policy.TheVariants.{Balanced, Aggressive, None as Never}
use Rattle.ms_base.specs.declared.span.Span.{Span}
use Rattle.ms_base.specs.Level.{size_of, root_words, highest_level}
use Rattle.ms_base.specs.Policy.{granule_of, slot_granules}
use Rattle.ms_base.specs.Committed.{is_among}
use Rattle.ms_base.specs.FreeParts.{free_within}
use Rattle.ms_base.specs.State.{PoolState}
use Rattle.ms_base.proofs.free.FreeLemmas.{IsFreeWithin, listed_are_free}
use Rattle.ms_base.proofs.free.MovedLemmas.{raised_part}
use Rattle.ms_commit.specs.Nodes.{NodesState, is_granule_of, granules_in, node_granules}
use Rattle.ms_commit.proofs.RangeLemmas.{is_among-filter}
use Rattle.ms_buddy.specs.Leaves.{LentLeaf, chunk_of, free_of}
use Rattle.ms_pool.specs.Keeping.{IsRunOf}
use Rattle.ms_pool.specs.Searching.{are_among, first_in, grants, part_in}

-- A granule from the first to the last that words meet.
pub of_space_at : (space : Space) (policy : Policy) (start words k : ℕ) → 1 ≤ words → IsRunOf space start words
    → start / granule_of policy ≤ k → k ≤ (start + words - 1) / granule_of policy
    → is_granule_of space (slot_granules (granule_of policy)) k ≡ true
of_space_at NonClass Balanced start words k some inside low high = lt-ltb k 8192 (omega arith)
of_space_at NonClass Aggressive start words k some inside low high = lt-ltb k 32768 (omega arith)
of_space_at NonClass Never start words k some inside low high = lt-ltb k 8192 (omega arith)
of_space_at Class Balanced start words k some inside low high = le-leb 8192 k (omega arith)
of_space_at Class Aggressive start words k some inside low high = le-leb 32768 k (omega arith)
of_space_at Class Never start words k some inside low high = le-leb 8192 k (omega arith)

-- Tests that agree on a range agree on all of it.
all_agree : (p q : ℕ → Bool) (a n : ℕ) → ((k : ℕ) → a ≤ k → k < a + n → p k ≡ q k)
    → list_all p (range_with_len a n) ≡ list_all q (range_with_len a n)
all_agree p q a zero agree = refl
all_agree p q a (suc n) agree =
    ap (λ b. b && list_all p (range_with_len (a + 1) n)) (agree a (omega arith) (omega arith))
    ∙ ap (λ b. q a && b) (all_agree p q (a + 1) n (λ k low high. agree k (omega (arith, low)) (omega (arith, high))))

pub among_in_space : (space : Space) (policy : Policy) (nodes : NodesState) (start words : ℕ)
    → nodes.limits.granule ≡ granule_of policy
    → 1 ≤ words → IsRunOf space start words
    → are_among (granules_in space nodes) (granule_of policy) start words
    ≡ are_among nodes.granules (granule_of policy) start words
among_in_space space policy nodes start words size some inside =
    all_agree (is_among (granules_in space nodes)) (is_among nodes.granules) (start / granule_of policy)
    ((start + words - 1) / granule_of policy + 1 - start / granule_of policy)
    (λ k low high. is_among-filter (is_granule_of space (node_granules nodes)) nodes.granules k
    ∙ ap (λ b. b && is_among nodes.granules k)
    (ap (λ (g : ℕ). is_granule_of space (slot_granules g) k) size
    ∙ of_space_at space policy start words k some inside low (omega (arith, low, high))))

-- The free leaves of a root lie in it.
abbrev pub InRootPart : Span → Type 0
InRootPart part = part.start + size_of part.level ≤ root_words

pub free_lie_in : (tree : List LentLeaf) → AllByRecursion InRootPart (free_of tree)
unfolding free_of
free_lie_in tree = recursion_from_All InRootPart (free_within (map chunk_of tree) highest_level 0)
    (All-weaker (IsFreeWithin (map chunk_of tree) 0 (0 + size_of 0)) InRootPart
    (λ part free. omega (arith, free.upto)) (free_within (map chunk_of tree) highest_level 0)
    (listed_are_free (map chunk_of tree) highest_level 0 (omega arith) refl refl))

-- Tests that agree on all parts find the same.
find_agree : (p q : Span → Bool) (root : ℕ) (parts : List Span) → AllByRecursion InRootPart parts
    → ((part : Span) → InRootPart part → p (part_in root part) ≡ q (part_in root part))
    → find p (map (part_in root) parts) ≡ find q (map (part_in root) parts)
find_agree p q root [] all agree = refl
find_agree p q root (part ∷ parts) all agree =
    ap (λ b. cond b (Some (part_in root part)) (find p (map (part_in root) parts))) (agree part all.0)
    ∙ ap (λ o. cond (q (part_in root part)) (Some (part_in root part)) o) (find_agree p q root parts all.1 agree)

either_level : (same committed a b : Bool) → (same ≡ true → a ≡ b)
    → (same && (not committed || a)) ≡ (same && (not committed || b))
either_level false committed a b agree = refl
either_level true committed a b agree = ap (λ t. not committed || t) (agree refl)

pub first_in-is : (space : Space) (policy : Policy) (nodes : NodesState) (pool : PoolState) (words : ℕ)
    (committed : Bool) (level root : ℕ) (tree : List LentLeaf)
    → pool.limits.policy ≡ policy → pool.committed ≡ granules_in space nodes → nodes.limits.granule ≡ granule_of policy
    → 1 ≤ words → words ≤ size_of level
    → ((offset : ℕ) → offset + words ≤ root_words → IsRunOf space (offset + root * root_words) words)
    → first_in nodes.granules (granule_of policy) words committed level root tree
    ≡ find (grants pool words committed level) (map (raised_part (root * root_words)) (free_of tree))
unfolding first_in
first_in-is space policy nodes pool words committed level root tree same_policy same_granules size some fits inside =
    find_agree
    (λ part. (part.level == level)
    && (not committed || are_among nodes.granules (granule_of policy) part.start words))
    (grants pool words committed level) root (free_of tree) (free_lie_in tree)
    (λ part lies. either_level (part.level == level) committed
    (are_among nodes.granules (granule_of policy) (part.start + root * root_words) words)
    (are_among pool.committed (granule_of pool.limits.policy) (part.start + root * root_words) words)
    (λ same. let at_level : part.level ≡ level = eqb-true part.level level same in
    sym (ap (λ (l : List ℕ). are_among l (granule_of pool.limits.policy) (part.start + root * root_words) words)
    same_granules
    ∙ ap (λ (p : Policy). are_among (granules_in space nodes) (granule_of p) (part.start + root * root_words) words)
    same_policy
    ∙ among_in_space space policy nodes (part.start + root * root_words) words size some
    (inside part.start
    (subst (λ (l : ℕ). part.start + size_of l ≤ root_words → part.start + words ≤ root_words) (sym at_level)
    (λ h. omega (arith, h, fits)) lies)))))
