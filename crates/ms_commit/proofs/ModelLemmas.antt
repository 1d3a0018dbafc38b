-- The nodes' granules against the model's: a set in rising order is the committed granules where
-- its members are those that are committed now and lie in a reserved slot; and the range of
-- granules that some words meet. For the crates above, and the law on committed granules.
use Rattle.std.proofs.Common.{◌≡◌, ◌≤◌, ◌<◌, ℕ, zero, suc, ◌+◌, ◌-◌, ◌*◌, ◌/◌, ◌%◌, ◌&&◌, ◌||◌, List, [], ◌∷◌, ◌++◌}
use Rattle.std.proofs.Common.{refl, sym, ap, ap₂, ◌∙◌, inl, inr, arith}
use Rattle.std.specs.Prelude.{◌==◌}
use Rattle.std.specs.List.{AllByRecursion, flat_map, range_with_len}
use Rattle.std.specs.List.Sorted.{IsStrictlyIncreasing, IsStrictlySortedBy}
use Rattle.std.specs.Ordering.{nat_cmp}
use Rattle.std.specs.declared.cmp.Ordering.TheVariants.{Less}
use Rattle.std.proofs.lemmas.Bool.{cases_lt}
use Rattle.std.proofs.lemmas.Bool.Decides.{nat_tests}
use Rattle.std.proofs.lemmas.List.Folds.{list_any-append}
use Rattle.std.proofs.lemmas.List.Kept.{IsStrictlyIncreasing-filter}
use Rattle.std.proofs.lemmas.Map.Keys.{sorted_from_strictly_increasing, IsStrictlyIncreasing-from_sorted}
use Rattle.std.proofs.lemmas.Nat.{div-add-mod', mod_below, mul-le, le-div}
use Rattle.std.proofs.Math.Nat.{div-mul-le_self}
use Rattle.ms_base.specs.declared.span.Chunk.{Chunk}
use Rattle.ms_base.specs.Part.{is_reserved}
use Rattle.ms_base.specs.Interval.{meet}
use Rattle.ms_base.specs.declared.kind.Space.{Space}
use Rattle.ms_base.specs.declared.kind.Space.TheVariants.{NonClass, Class}
use Rattle.ms_base.specs.Spaces.{first_class_slot}
use Rattle.ms_base.specs.declared.policy.Policy.{Policy}
use Rattle.ms_base.specs.declared.policy.Policy.TheVariants.{Balanced, Aggressive, None as Never}
use Rattle.ms_base.specs.Policy.{granule_of, slot_granules}
use Rattle.ms_base.specs.Committed.{is_among, is_committed_now, granules_of, granules_meeting, committed_with}
use Rattle.ms_commit.specs.Nodes.{IsGranuleSize, NodesState, node_granules, slots_of, is_granule_of, granules_in}
use Rattle.ms_commit.specs.Nodes.{AreSound}
use Rattle.ms_commit.specs.NumberSet.{is_in_range}
use Rattle.ms_commit.proofs.RangeLemmas.{is_among-filter, is_among-range}
use Rattle.ms_commit.proofs.SetLemmas.{IsStrictlyIncreasing-range}
use Rattle.ms_commit.proofs.NodesLemmas.{next_slot, in_own_slot}
use Rattle.ms_commit.proofs.SameLemmas.{same_sets}

-- Each policy's granule is a size that nodes may be made with, and a node has some.
pub granule_is_size : (policy : Policy) → IsGranuleSize (granule_of policy)
granule_is_size Balanced = inl refl
granule_is_size Aggressive = inr refl
granule_is_size Never = inl refl

some_in_node : (policy : Policy) → 0 < slot_granules (granule_of policy)
some_in_node Balanced = omega arith
some_in_node Aggressive = omega arith
some_in_node Never = omega arith

-- The granules of slots are those whose slot is there.
is_among-slots : (n : ℕ) (slots : List ℕ) (k : ℕ) → 0 < n
    → is_among (flat_map (λ slot. range_with_len (slot * n) n) slots) k ≡ is_reserved slots (k / n)
is_among-slots n [] k some = refl
is_among-slots n (slot ∷ slots) k some =
    list_any-append (λ other. other == k) (range_with_len (slot * n) n) (flat_map (λ s. range_with_len (s * n) n) slots)
    ∙ ap₂ (λ a b. a || b) (is_among-range (slot * n) n k ∙ in_own_slot slot n k some) (is_among-slots n slots k some)

pub is_among-committed : (policy : Policy) (before : List ℕ) (held : List Chunk) (slots : List ℕ) (k : ℕ)
    → is_among (committed_with policy before held slots) k
    ≡ (is_committed_now policy before held k && is_reserved slots (k / slot_granules (granule_of policy)))
is_among-committed policy before held slots k =
    is_among-filter (is_committed_now policy before held) (flat_map (granules_of (granule_of policy)) slots) k
    ∙ ap (λ b. is_committed_now policy before held k && b)
    (is_among-slots (slot_granules (granule_of policy)) slots k (some_in_node policy))

-- A range before numbers that rise from its end on.
abbrev AreFrom : ℕ → List ℕ → Type 0
AreFrom low = AllByRecursion (λ k. low ≤ k)

from_lower : (low high : ℕ) (members : List ℕ) → low ≤ high → AreFrom high members → AreFrom low members
from_lower low high [] h all = tt
from_lower low high (k ∷ members) h all = (omega (arith, all.0), from_lower low high members h all.1)

above : (low : ℕ) (members : List ℕ) → AreFrom (low + 1) members → AllByRecursion (λ k. nat_cmp low k ≡ Less) members
above low [] all = tt
above low (k ∷ members) all = (less low k all.0, above low members all.1)
  where
    less : (a b : ℕ) → a + 1 ≤ b → nat_cmp a b ≡ Less
    less a b h = grind (arith, nat_tests)

range_from : (a n : ℕ) (later : List ℕ) → AreFrom (a + n) later → AreFrom a (range_with_len a n ++ later)
range_from a zero later all = from_lower a (a + 0) later (omega arith) all
range_from a (suc n) later all = (
  omega arith,
  from_lower a (a + 1) (range_with_len (a + 1) n ++ later) (omega arith)
      (range_from (a + 1) n later (from_lower (a + 1 + n) (a + suc n) later (omega arith) all)),
)

range_sorted : (a n : ℕ) (later : List ℕ) → AreFrom (a + n) later → IsStrictlySortedBy nat_cmp later
    → IsStrictlySortedBy nat_cmp (range_with_len a n ++ later)
unfolding IsStrictlySortedBy
range_sorted a zero later all rise = rise
range_sorted a (suc n) later all rise =
    let rest = from_lower (a + 1 + n) (a + suc n) later (omega arith) all in
    let above_all = above a (range_with_len (a + 1) n ++ later) (range_from (a + 1) n later rest) in
    (above_all, range_sorted (a + 1) n later rest rise)

-- The granules of rising slots rise.
slots_from : (n low : ℕ) (slots : List ℕ) → AllByRecursion (λ slot. nat_cmp low slot ≡ Less) slots
    → IsStrictlySortedBy nat_cmp slots
    → AreFrom (low * n + n) (flat_map (λ slot. range_with_len (slot * n) n) slots)
unfolding IsStrictlySortedBy
slots_from n low [] all rise = tt
slots_from n low (slot ∷ slots) all rise =
    from_lower (low * n + n) (slot * n) (range_with_len (slot * n) n ++ flat_map (λ s. range_with_len (s * n) n) slots)
    (next_slot low slot n (is_below low slot all.0))
    (range_from (slot * n) n (flat_map (λ s. range_with_len (s * n) n) slots) (slots_from n slot slots rise.0 rise.1))
  where
    is_below : (a b : ℕ) → nat_cmp a b ≡ Less → a < b
    is_below a b e = grind (arith, nat_tests)

slots_sorted : (n : ℕ) (slots : List ℕ) → IsStrictlySortedBy nat_cmp slots
    → IsStrictlySortedBy nat_cmp (flat_map (λ slot. range_with_len (slot * n) n) slots)
unfolding IsStrictlySortedBy
slots_sorted n [] rise = tt
slots_sorted n (slot ∷ slots) rise =
    range_sorted (slot * n) n (flat_map (λ s. range_with_len (s * n) n) slots) (slots_from n slot slots rise.0 rise.1)
    (slots_sorted n slots rise.1)

pub committed_rise : (policy : Policy) (before : List ℕ) (held : List Chunk) (slots : List ℕ)
    → IsStrictlyIncreasing slots
    → IsStrictlyIncreasing (committed_with policy before held slots)
committed_rise policy before held slots rise =
    IsStrictlyIncreasing-filter (is_committed_now policy before held) (flat_map (granules_of (granule_of policy)) slots)
    (IsStrictlyIncreasing-from_sorted _
    (slots_sorted (slot_granules (granule_of policy)) slots (sorted_from_strictly_increasing slots rise)))

pub granules_are_committed : (policy : Policy) (before : List ℕ) (held : List Chunk) (slots members : List ℕ)
    → IsStrictlyIncreasing slots → IsStrictlyIncreasing members
    → ((k : ℕ) → is_among members k
    ≡ (is_committed_now policy before held k && is_reserved slots (k / slot_granules (granule_of policy))))
    → members ≡ committed_with policy before held slots
granules_are_committed policy before held slots members rise rising same =
    same_sets members (committed_with policy before held slots) (sorted_from_strictly_increasing members rising)
    (sorted_from_strictly_increasing (committed_with policy before held slots)
    (committed_rise policy before held slots rise))
    (λ k. same k ∙ sym (is_among-committed policy before held slots k))

-- The slots of either space rise, and so a space's granules are the model's by their members.
pub slots_rise : (space : Space) (nodes : NodesState) → AreSound nodes → IsStrictlyIncreasing (slots_of space nodes)
slots_rise NonClass nodes sound = sound.slots.rising
slots_rise Class nodes sound = IsStrictlyIncreasing-range first_class_slot nodes.class_slots

pub space_is_committed : (policy : Policy) (space : Space) (nodes : NodesState) (before : List ℕ) (held : List Chunk)
    → AreSound nodes → nodes.limits.granule ≡ granule_of policy
    → ((k : ℕ) → is_among (granules_in space nodes) k
    ≡ (is_committed_now policy before held k && is_reserved (slots_of space nodes) (k / node_granules nodes)))
    → granules_in space nodes ≡ committed_with policy before held (slots_of space nodes)
space_is_committed policy space nodes before held sound size same =
    granules_are_committed policy before held (slots_of space nodes) (granules_in space nodes)
    (slots_rise space nodes sound)
    (IsStrictlyIncreasing-filter (is_granule_of space (node_granules nodes)) nodes.granules sound.granules)
    (λ k. same k ∙ ap (λ granule. is_committed_now policy before held k
    && is_reserved (slots_of space nodes) (k / slot_granules granule)) size)

-- The granules that meet some words are those of which a word is among them.
meet_by_ends : (first last k start words at granule : ℕ) → first ≤ last → 0 < words
    → (k < first → at + granule ≤ start) → (first ≤ k → start < at + granule)
    → (last < k → start + words ≤ at) → (k ≤ last → at < start + words)
    → is_in_range first (last + 1 - first) k ≡ meet start words at granule
meet_by_ends first last k start words at granule order some before from past upto = elim (cases_lt k first) [
  | inl lower ↦ none_low lower (before lower)
  | inr higher ↦ elim (cases_lt last k) [
    | inl beyond ↦ none_high beyond (past beyond)
    | inr inside ↦ both higher inside (from higher) (upto inside)
  ]
]
  where
    none_low : k < first → at + granule ≤ start → is_in_range first (last + 1 - first) k ≡ meet start words at granule
    none_low h e = grind (arith, nat_tests)

    none_high : last < k → start + words ≤ at → is_in_range first (last + 1 - first) k ≡ meet start words at granule
    none_high h e = grind (arith, nat_tests)

    both : first ≤ k → k ≤ last → start < at + granule → at < start + words
        → is_in_range first (last + 1 - first) k ≡ meet start words at granule
    both h l e f = grind (arith, nat_tests)

pub is_among-meeting : (granule start words k : ℕ) → 0 < granule → 0 < words
    → is_among (granules_meeting granule start words) k ≡ meet start words (k * granule) granule
is_among-meeting granule start words k some more =
    is_among-range first (last + 1 - first) k
    ∙ meet_by_ends first last k start words (k * granule) granule
    (le-div first end granule some (omega (arith, div-mul-le_self start granule))) more
    (λ lower. omega (arith, next_slot k first granule lower, split start))
    (λ higher. omega (
      arith,
      mul-le first granule k granule higher (omega arith),
      split start,
      mod_below start granule some,
    ))
    (λ beyond. omega (arith, next_slot last k granule beyond, split end, mod_below end granule some))
    (λ inside. omega (arith, mul-le k granule last granule inside (omega arith), split end))
  where
    first : ℕ
    first = start / granule

    end : ℕ
    end = start + words - 1

    last : ℕ
    last = end / granule

    split : (n : ℕ) → n / granule * granule + n % granule ≡ n
    split n = div-add-mod' n granule
