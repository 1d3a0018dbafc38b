-- What a pool keeps once a chunk is lent: what its callers see is the ledger with the chunk lent.
use Rattle.std.proofs.Common.{◌≡◌, ◌<◌, ◌≤◌, ℕ, ◌+◌, ◌*◌, ◌-◌, ◌/◌, List, length, refl, sym, ap, subst, ◌∙◌, true}
use Rattle.std.proofs.Common.{arith, le-leb, lt-ltb}
use Rattle.std.specs.Prelude.{nat_le, nat_lt, ◌^◌}
use Rattle.std.proofs.lemmas.Bool.{and_from}
use Rattle.ms_base.specs.declared.kind.Space.{Space}
use Rattle.ms_base.specs.declared.kind.Space.TheVariants.{NonClass, Class}
use Rattle.ms_base.specs.declared.policy.Policy.{Policy}
use Rattle.ms_base.specs.declared.policy.Policy.TheVariants.{Balanced, Aggressive, None as Never}
use Rattle.ms_base.specs.declared.span.Chunk.{Chunk}
use Rattle.ms_base.specs.Interval.{meet}
use Rattle.ms_base.specs.Level.{size_of}
use Rattle.ms_base.specs.Part.{IsPart, is_reserved, slot_of}
use Rattle.ms_base.specs.Policy.{granule_of, slot_granules}
use Rattle.ms_base.specs.Held.{AreHeld}
use Rattle.ms_base.specs.Spaces.{by_space, class_slots}
use Rattle.ms_base.specs.Committed.{committed_with}
use Rattle.ms_base.specs.PoolSteps.{slots_with}
use Rattle.ms_base.proofs.free.HalvesLemmas.{size_falls}
use Rattle.ms_commit.specs.NumberSet.{count_missing, with_range}
use Rattle.ms_commit.specs.Nodes.{NodeLimits, NodesState, AreInReserved, AreSound, all_slots, granules_in}
use Rattle.ms_commit.specs.Nodes.{granules_with, slots_of, with_granules}
use Rattle.ms_commit.proofs.ModelLemmas.{is_among-meeting}
use Rattle.ms_commit.proofs.RangeLemmas.{is_among-range}
use Rattle.ms_pool.specs.declared.lender.Lender.{Lender}
use Rattle.ms_pool.specs.Ledger.{Ledger, Loan, state_in, with_lent, with_loan}
use Rattle.ms_pool.specs.Keeping.{IsKept, IsOpen, IsRunOf, ledger_of, with_reserved}
use Rattle.ms_pool.specs.Searching.{lacking}
use Rattle.ms_pool.proofs.searches.LackLemmas.{lacks}
use Rattle.ms_pool.proofs.ledger.LoanLemmas.{chunks_in}
use Rattle.ms_pool.proofs.loans.LendLemmas.{LendsIn, committed_once_lent, front_in_slot}
use Rattle.ms_pool.proofs.loans.OpenLemmas.{ReservesOne, own_in_space, reserves_one, slots_once_open, open_is_low}

-- What callers see of a lender with other nodes and other loans.
abbrev pub built : Lender → List Loan → List ℕ → List ℕ → List ℕ → NodeLimits → ℕ → Ledger
built lender loans slots committed class_committed limits class_nodes = record (ledger_of lender) {
  loans = loans;
  slots = slots;
  committed = committed;
  class_committed = class_committed;
  limits = record {
    nodes = limits.nodes;
    granules = limits.granules;
    policy = lender.policy;
    class_nodes = class_nodes;
  };
}

abbrev pub built_of : Lender → NodesState → List Loan → Ledger
built_of lender nodes loans =
    built lender loans nodes.slots (granules_in NonClass nodes) (granules_in Class nodes) nodes.limits nodes.class_slots

-- The granules that a front meets, as a range.
abbrev pub with_front_of : Lender → NodesState → Chunk → NodesState
with_front_of lender nodes chunk = with_granules nodes (chunk.start / granule_of lender.policy)
    ((chunk.start + chunk.front - 1) / granule_of lender.policy + 1 - chunk.start / granule_of lender.policy)

-- What a kept lender's space has committed, and holds in its slots; a front leaves the slots.
pub committed_before : (lender : Lender) → IsKept lender → (space : Space)
    → granules_in space lender.nodes ≡ committed_with lender.policy (granules_in space lender.nodes)
    (chunks_in space (ledger_of lender).loans) (slots_of space lender.nodes)
committed_before lender kept NonClass = (kept.sound.spaces NonClass).committed
committed_before lender kept Class = (kept.sound.spaces Class).committed

pub held_before : (lender : Lender) → IsKept lender → (space : Space)
    → AreHeld lender.policy (slots_of space lender.nodes) (chunks_in space (ledger_of lender).loans)
held_before lender kept NonClass = (kept.sound.spaces NonClass).held
held_before lender kept Class = (kept.sound.spaces Class).held

pub with_front_stays : (lender : Lender) (nodes : NodesState) (chunk : Chunk) (space : Space) (slot : ℕ)
    → is_reserved (slots_of space nodes) slot ≡ true
    → is_reserved (slots_of space (with_front_of lender nodes chunk)) slot ≡ true
with_front_stays lender nodes chunk NonClass slot there = there
with_front_stays lender nodes chunk Class slot there = there

lends_in : (space : Space) (lender : Lender) (loan : Loan) (mid : NodesState) → IsKept lender
    → ReservesOne lender.nodes mid (slot_of loan.chunk.start) → AreSound mid
    → AreSound (with_front_of lender mid loan.chunk) → IsPart loan.chunk.start loan.chunk.level → 1 ≤ loan.chunk.front
    → loan.chunk.front ≤ size_of loan.chunk.level
    → LendsIn space lender.policy lender.nodes (with_front_of lender mid loan.chunk) (ledger_of lender).loans loan
lends_in space lender loan mid kept one sound_mid sound placed some within = record {
  size = kept.granule;
  new_size = ap (λ (limits : NodeLimits). limits.granule) one.limits ∙ kept.granule;
  sound = sound;
  added = ap (λ (granules : List ℕ). with_range granules (loan.chunk.start / granule_of lender.policy)
      ((loan.chunk.start + loan.chunk.front - 1) / granule_of lender.policy + 1 - loan.chunk.start / granule_of
      lender.policy)) one.granules;
  was = committed_before lender kept space;
  held = held_before lender kept space;
  still = λ slot there. with_front_stays lender mid loan.chunk space slot (one.still space slot there);
  own = λ here. with_front_stays lender mid loan.chunk space (slot_of loan.chunk.start)
      (own_in_space space mid loan.chunk.start sound_mid one.own here);
  placed = placed;
  some = some;
  within = within;
}

pub lent_ledger : (space : Space) (lender : Lender) (owner : ℕ) (chunk : Chunk) → IsKept lender
    → AreSound (with_reserved lender.nodes (slot_of chunk.start))
    → AreSound (with_front_of lender (with_reserved lender.nodes (slot_of chunk.start)) chunk)
    → IsPart chunk.start chunk.level → 1 ≤ chunk.front → chunk.front ≤ size_of chunk.level
    → IsOpen space lender.nodes (slot_of chunk.start)
    → built_of lender (with_front_of lender (with_reserved lender.nodes (slot_of chunk.start)) chunk)
    (with_loan (record { owner = owner; chunk = chunk }) (ledger_of lender).loans)
    ≡ with_lent (ledger_of lender) space owner chunk
lent_ledger space lender owner chunk kept sound_mid sound placed some within open_ =
    ap (λ (slots : List ℕ). built lender loans slots (granules_in NonClass new) (granules_in Class new) new.limits
    new.class_slots) slots_are
    ∙ ap (λ (committed : List ℕ). built lender loans slots_then committed (granules_in Class new) new.limits
    new.class_slots)
    (committed_once_lent NonClass lender.policy lender.nodes new (ledger_of lender).loans loan
    (lends_in NonClass lender loan mid kept one sound_mid sound placed some within)
    ∙ ap (λ (slots : List ℕ). committed_with lender.policy (granules_in NonClass lender.nodes)
    (chunks_in NonClass loans) slots) slots_are)
    ∙ ap (λ (committed : List ℕ). built lender loans slots_then (now NonClass slots_then) committed new.limits
    new.class_slots)
    (committed_once_lent Class lender.policy lender.nodes new (ledger_of lender).loans loan
    (lends_in Class lender loan mid kept one sound_mid sound placed some within)
    ∙ ap (λ (n : ℕ). committed_with lender.policy (granules_in Class lender.nodes) (chunks_in Class loans)
    (class_slots n)) one.class_slots_are)
    ∙ ap (λ (limits : NodeLimits). built lender loans slots_then (now NonClass slots_then)
    (now Class (class_slots lender.nodes.class_slots)) limits new.class_slots) one.limits
    ∙ ap (λ (n : ℕ). built lender loans slots_then (now NonClass slots_then)
    (now Class (class_slots lender.nodes.class_slots)) lender.nodes.limits n) one.class_slots_are
  where
    loan : Loan
    loan = record { owner = owner; chunk = chunk }

    loans : List Loan
    loans = with_loan loan (ledger_of lender).loans

    mid : NodesState
    mid = with_reserved lender.nodes (slot_of chunk.start)

    new : NodesState
    new = with_front_of lender mid chunk

    one : ReservesOne lender.nodes mid (slot_of chunk.start)
    one = reserves_one lender.nodes (slot_of chunk.start)

    slots_then : List ℕ
    slots_then = by_space space (slots_with lender.nodes.slots chunk.start) lender.nodes.slots

    slots_are : new.slots ≡ slots_then
    slots_are = slots_once_open space lender.nodes (slot_of chunk.start) kept.nodes kept.sound.nodes.1 open_

    now : Space → List ℕ → List ℕ
    now s slots = committed_with lender.policy (granules_in s lender.nodes) (chunks_in s loans) slots

-- A granule of the front lies in a reserved slot, once its slot is reserved.
pub front_is_reserved : (lender : Lender) (chunk : Chunk) (mid : NodesState) (g : ℕ)
    → mid ≡ with_reserved lender.nodes (slot_of chunk.start) → g ≡ granule_of lender.policy
    → IsKept lender → IsPart chunk.start chunk.level → 1 ≤ chunk.front → chunk.front ≤ size_of chunk.level
    → AreInReserved mid (chunk.start / g) ((chunk.start + chunk.front - 1) / g + 1 - chunk.start / g)
front_is_reserved lender chunk mid g same size kept placed some within =
    subst (λ (n : NodesState). AreInReserved n (chunk.start / g)
    ((chunk.start + chunk.front - 1) / g + 1 - chunk.start / g)) (sym same)
    (subst (λ (w : ℕ). AreInReserved made (chunk.start / w) ((chunk.start + chunk.front - 1) / w + 1 - chunk.start / w))
    (sym size) each)
  where
    made : NodesState
    made = with_reserved lender.nodes (slot_of chunk.start)

    one : ReservesOne lender.nodes made (slot_of chunk.start)
    one = reserves_one lender.nodes (slot_of chunk.start)

    some_words : (p : Policy) → 0 < granule_of p
    some_words Balanced = omega arith
    some_words Aggressive = omega arith
    some_words Never = omega arith

    each : AreInReserved made (chunk.start / granule_of lender.policy)
        ((chunk.start + chunk.front - 1) / granule_of lender.policy + 1 - chunk.start / granule_of lender.policy)
    each k low high =
        ap (λ (limits : NodeLimits). is_reserved (all_slots made) (k / slot_granules limits.granule)) one.limits
        ∙ ap (λ (w : ℕ). is_reserved (all_slots made) (k / slot_granules w)) kept.granule
        ∙ ap (is_reserved (all_slots made))
        (front_in_slot lender.policy chunk.start chunk.front chunk.level k placed within meets)
        ∙ one.own
      where
        first : ℕ
        first = chunk.start / granule_of lender.policy

        count : ℕ
        count = (chunk.start + chunk.front - 1) / granule_of lender.policy + 1 - first

        meets : meet chunk.start chunk.front (k * granule_of lender.policy) (granule_of lender.policy) ≡ true
        meets = sym
            (is_among-meeting (granule_of lender.policy) chunk.start chunk.front k (some_words lender.policy)
            (omega (arith, some)))
            ∙ is_among-range first count k
            ∙ and_from (nat_le first k) (nat_lt k (first + count)) (le-leb first k low) (lt-ltb k (first + count) high)

-- The granules that the front lacks are those missing once its slot is reserved.
pub front_lacks : (space : Space) (lender : Lender) (chunk : Chunk) (mid : NodesState) (g need : ℕ)
    → mid ≡ with_reserved lender.nodes (slot_of chunk.start) → g ≡ granule_of lender.policy
    → IsKept lender → 1 ≤ chunk.front → IsRunOf space chunk.start chunk.front
    → need ≡ lacking (state_in space (ledger_of lender)) chunk
    → need ≡ count_missing mid.granules (chunk.start / g)
    ((chunk.start + chunk.front - 1) / g + 1 - chunk.start / g)
front_lacks space lender chunk mid g need same size kept some inside told =
    told ∙ sym (lacks space lender chunk kept some inside)
    ∙ ap (λ (w : ℕ). count_missing lender.nodes.granules (chunk.start / w)
    ((chunk.start + chunk.front - 1) / w + 1 - chunk.start / w)) (sym size)
    ∙ ap (λ (l : List ℕ). count_missing l (chunk.start / g)
    ((chunk.start + chunk.front - 1) / g + 1 - chunk.start / g))
    (sym (ap (λ (n : NodesState). n.granules) same ∙ (reserves_one lender.nodes (slot_of chunk.start)).granules))

-- The granules that the front lacks are within the limit.
pub front_within : (space : Space) (lender : Lender) (chunk : Chunk) (mid : NodesState) (g : ℕ)
    → mid ≡ with_reserved lender.nodes (slot_of chunk.start) → g ≡ granule_of lender.policy
    → IsKept lender → 1 ≤ chunk.front → IsRunOf space chunk.start chunk.front
    → length lender.nodes.granules + lacking (state_in space (ledger_of lender)) chunk ≤ lender.nodes.limits.granules
    → granules_with mid (chunk.start / g) ((chunk.start + chunk.front - 1) / g + 1 - chunk.start / g)
    ≤ mid.limits.granules
front_within space lender chunk mid g same size kept some inside within =
    omega (
      arith,
      within,
      front_lacks space lender chunk mid g (lacking (state_in space (ledger_of lender)) chunk) same size kept some
          inside refl,
      ap (λ (n : NodesState). length n.granules) same,
      ap (λ (l : List ℕ). length l) one.granules,
      ap (λ (n : NodesState). n.limits.granules) same,
      ap (λ (limits : NodeLimits). limits.granules) one.limits,
    )
  where
    one : ReservesOne lender.nodes (with_reserved lender.nodes (slot_of chunk.start)) (slot_of chunk.start)
    one = reserves_one lender.nodes (slot_of chunk.start)

-- A front in an open slot ends low.
pub front_is_low : (space : Space) (lender : Lender) (chunk : Chunk) → IsKept lender → IsPart chunk.start chunk.level
    → chunk.front ≤ size_of chunk.level
    → IsOpen space lender.nodes (slot_of chunk.start) → chunk.start + chunk.front < 2 ^ 63
front_is_low space lender chunk kept placed within open_ =
    let low = open_is_low space lender.nodes (slot_of chunk.start) kept.nodes kept.sound.nodes.1 open_ in
    omega (arith, within, kept.nodes.class_slots, size_falls 0 chunk.level (omega arith), low)
