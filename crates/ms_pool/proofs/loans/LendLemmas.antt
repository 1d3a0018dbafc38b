-- The granules of a space once a chunk is lent: those that were committed, and those of its front.
use Rattle.std.proofs.Common.{◌≡◌, ◌<◌, ◌≤◌, ℕ, ◌+◌, ◌-◌, ◌*◌, ◌/◌, Bool, true, false, ◌&&◌, ◌||◌, List, [], ◌∷◌, refl}
use Rattle.std.proofs.Common.{sym, ap, ◌∙◌, arith, inl, inr, lt-ltb, le-ltb, le-leb}
use Rattle.std.specs.Prelude.{nat_lt, nat_le}
use Rattle.std.specs.List.{AllByRecursion, list_all, list_any}
use Rattle.std.proofs.lemmas.Bool.{and_parts, cases_lt, lt-leb, or_cases}
use Rattle.std.proofs.lemmas.List.Sorted.{list_any-IsPermutation}
use Rattle.std.proofs.lemmas.List.Elements.{recursion_from_All}
use Rattle.ms_base.specs.declared.kind.Space.{Space}
use Rattle.ms_base.specs.declared.kind.Space.TheVariants.{NonClass, Class}
use Rattle.ms_base.specs.declared.policy.Policy.{Policy}
use Rattle.ms_base.specs.declared.policy.Policy.TheVariants.{Balanced, Aggressive, None as Never}
use Rattle.ms_base.specs.declared.span.Chunk.{Chunk}
use Rattle.ms_base.specs.Interval.{meet}
use Rattle.ms_base.specs.Level.{size_of}
use Rattle.ms_base.specs.Part.{IsPart, is_reserved, node_words, slot_of}
use Rattle.ms_base.specs.Policy.{granule_of, keeps, slot_granules}
use Rattle.ms_base.specs.Spaces.{is_in, first_class_word}
use Rattle.ms_base.specs.Front.{HasFront}
use Rattle.ms_base.specs.Held.{AreHeld}
use Rattle.ms_base.specs.Committed.{committed_with, is_among, is_committed, is_committed_now}
use Rattle.ms_base.proofs.granules.GranuleLemmas.{ends_in_node}
use Rattle.ms_base.proofs.granules.FreeGranuleLemmas.{meets_bounds}
use Rattle.ms_commit.specs.NumberSet.{is_in_range, with_range}
use Rattle.ms_commit.specs.Nodes.{NodesState, AreSound, granules_in, is_granule_of, node_granules, slots_of}
use Rattle.ms_commit.proofs.ModelLemmas.{is_among-committed, is_among-meeting, space_is_committed}
use Rattle.ms_commit.proofs.RangeLemmas.{is_among-filter, is_among-range}
use Rattle.ms_commit.proofs.SetLemmas.{is_among-with_range}
use Rattle.ms_pool.specs.Ledger.{Loan, with_loan}
use Rattle.ms_pool.proofs.ledger.LoanLemmas.{chunks_in, chunks_in-with, chunks_in-with_elsewhere}

-- A granule that meets a front lies in its chunk's slot.
by_granule : (policy : Policy) (start front k node : ℕ) → node * node_words ≤ start
    → start + front ≤ node * node_words + node_words
    → start < k * granule_of policy + granule_of policy → k * granule_of policy < start + front
    → k / slot_granules (granule_of policy) ≡ node
by_granule Balanced start front k node low high h l = omega arith
by_granule Aggressive start front k node low high h l = omega arith
by_granule Never start front k node low high h l = omega arith

pub front_in_slot : (policy : Policy) (start front level k : ℕ) → IsPart start level → front ≤ size_of level
    → meet start front (k * granule_of policy) (granule_of policy) ≡ true
    → k / slot_granules (granule_of policy) ≡ slot_of start
front_in_slot policy start front level k part within meets =
    let both = meets_bounds start front (k * granule_of policy) (granule_of policy) meets in
    by_granule policy start front k (slot_of start) (omega arith) (omega (arith, within, ends_in_node start level part))
    both.0 both.1

-- So a granule that meets a held chunk's front lies in a reserved slot.
pub met_is_reserved : (policy : Policy) (slots : List ℕ) (held : List Chunk) (k : ℕ)
    → AllByRecursion (λ (chunk : Chunk). IsPart chunk.start chunk.level) held
    → AllByRecursion (HasFront policy) held → list_all (λ (chunk : Chunk). is_reserved slots (slot_of chunk.start)) held
    ≡ true
    → is_committed (granule_of policy) held k ≡ true → is_reserved slots (k / slot_granules (granule_of policy)) ≡ true
met_is_reserved policy slots [] k parts fronts reserved met = absurd (cc)
met_is_reserved policy slots (chunk ∷ held) k parts fronts reserved met =
    let both =
    and_parts (is_reserved slots (slot_of chunk.start))
    (list_all (λ (other : Chunk). is_reserved slots (slot_of other.start)) held) reserved in
    elim (or_cases (meet chunk.start chunk.front (k * granule_of policy) (granule_of policy))
    (is_committed (granule_of policy) held k) met) [
      | inl here ↦
          ap (is_reserved slots)
          (front_in_slot policy chunk.start chunk.front chunk.level k parts.0 fronts.0.within here) ∙ both.0
      | inr later ↦ met_is_reserved policy slots held k parts.1 fronts.1 both.1 later
    ]

-- A granule is of the space that its slot's words are in.
same_side : (a b c d : ℕ) → (a < b → c < d) → (b ≤ a → d ≤ c) → nat_lt a b ≡ nat_lt c d
same_side a b c d low high = elim (cases_lt a b) [
  | inl less ↦ lt-ltb a b less ∙ sym (lt-ltb c d (low less))
  | inr more ↦ le-ltb a b more ∙ sym (le-ltb c d (high more))
]

other_side : (a b c d : ℕ) → (a < b → c < d) → (b ≤ a → d ≤ c) → nat_le b a ≡ nat_le d c
other_side a b c d low high = elim (cases_lt a b) [
  | inl less ↦ lt-leb b a less ∙ sym (lt-leb d c (low less))
  | inr more ↦ le-leb b a more ∙ sym (le-leb d c (high more))
]

pub of_space_by_slot : (space : Space) (policy : Policy) (k start : ℕ)
    → k / slot_granules (granule_of policy) ≡ slot_of start
    → is_granule_of space (slot_granules (granule_of policy)) k ≡ is_in space start
of_space_by_slot NonClass Balanced k start e =
    same_side k 8192 start first_class_word (λ h. omega (arith, h, e)) (λ h. omega (arith, h, e))
of_space_by_slot NonClass Aggressive k start e =
    same_side k 32768 start first_class_word (λ h. omega (arith, h, e)) (λ h. omega (arith, h, e))
of_space_by_slot NonClass Never k start e =
    same_side k 8192 start first_class_word (λ h. omega (arith, h, e)) (λ h. omega (arith, h, e))
of_space_by_slot Class Balanced k start e =
    other_side k 8192 start first_class_word (λ h. omega (arith, h, e)) (λ h. omega (arith, h, e))
of_space_by_slot Class Aggressive k start e =
    other_side k 32768 start first_class_word (λ h. omega (arith, h, e)) (λ h. omega (arith, h, e))
of_space_by_slot Class Never k start e =
    other_side k 8192 start first_class_word (λ h. omega (arith, h, e)) (λ h. omega (arith, h, e))

-- A test of the chunks of a space with another loan.
pub any_with : (space : Space) (loan : Loan) (loans : List Loan) (test : Chunk → Bool)
    → list_any test (chunks_in space (with_loan loan loans))
    ≡ ((is_in space loan.chunk.start && test loan.chunk) || list_any test (chunks_in space loans))
any_with space loan loans test =
    elim (is_in space loan.chunk.start) as (λ b. is_in space loan.chunk.start ≡ b
    → list_any test (chunks_in space (with_loan loan loans))
    ≡ ((b && test loan.chunk) || list_any test (chunks_in space loans))) [
      | true ↦ λ here. sym
          (list_any-IsPermutation test (loan.chunk ∷ chunks_in space loans) (chunks_in space (with_loan loan loans))
          (chunks_in-with space loan loans here))
      | false ↦ λ there. ap (list_any test) (chunks_in-with_elsewhere space loan loans there)
    ] refl

-- What is committed then: what was, or meets the new front.
with_room : (keeping was met new : Bool) → was ≡ ((keeping && was) || met)
    → (was || new) ≡ ((keeping && was) || (new || met))
with_room true true true true e = refl
with_room true true true false e = refl
with_room true true false true e = refl
with_room true true false false e = refl
with_room true false true true e = absurd (cc)
with_room true false true false e = absurd (cc)
with_room true false false true e = refl
with_room true false false false e = refl
with_room false true true true e = refl
with_room false true true false e = refl
with_room false true false true e = absurd (cc)
with_room false true false false e = absurd (cc)
with_room false false true true e = absurd (cc)
with_room false false true false e = absurd (cc)
with_room false false false true e = refl
with_room false false false false e = refl

once_lent : (keeping was met new before now : Bool) → was ≡ (((keeping && was) || met) && before)
    → (before ≡ true → now ≡ true) → (new ≡ true → now ≡ true)
    → (met ≡ true → before ≡ true) → (was || new) ≡ (((keeping && was) || (new || met)) && now)
once_lent keeping was met new true true is still own reserved =
    with_room keeping was met new (is ∙ and_true ((keeping && was) || met))
    ∙ sym (and_true ((keeping && was) || (new || met)))
  where
    and_true : (a : Bool) → (a && true) ≡ a
    and_true true = refl
    and_true false = refl
once_lent keeping was met new true false is still own reserved = let gone : false ≡ true = still refl in absurd (cc)
once_lent keeping true met new false now is still own reserved = absurd (no (((keeping && true) || met)) is)
  where
    no : (a : Bool) → true ≡ (a && false) → ⊥
    no true e = cc
    no false e = cc
once_lent keeping false true new false now is still own reserved = let gone : false ≡ true = reserved refl in
    absurd (cc)
once_lent keeping false false true false true is still own reserved = sides keeping
  where
    sides : (a : Bool) → true ≡ (((a && false) || true) && true)
    sides true = refl
    sides false = refl
once_lent keeping false false true false false is still own reserved = let gone : false ≡ true = own refl in absurd (cc)
once_lent keeping false false false false now is still own reserved = sides keeping now
  where
    sides : (a b : Bool) → false ≡ (((a && false) || false) && b)
    sides true b = refl
    sides false b = refl

either_way : (of among in_front : Bool) → (of && (among || in_front)) ≡ ((of && among) || (of && in_front))
either_way true among in_front = refl
either_way false among in_front = refl

where_met : (of here new : Bool) → (new ≡ true → of ≡ here) → (of && new) ≡ (here && new)
where_met of here true same = ap (λ b. b && true) (same refl)
where_met of here false same = nothing of ∙ sym (nothing here)
  where
    nothing : (a : Bool) → (a && false) ≡ false
    nothing true = refl
    nothing false = refl

-- What has to be known of the nodes before and after.
pub record LendsIn (space : Space) (policy : Policy) (old new : NodesState) (loans : List Loan)
    (loan : Loan) : Type 0 where
  pub size : old.limits.granule ≡ granule_of policy
  pub new_size : new.limits.granule ≡ granule_of policy
  pub sound : AreSound new
  pub added : new.granules ≡ with_range old.granules (loan.chunk.start / granule_of policy)
      ((loan.chunk.start + loan.chunk.front - 1) / granule_of policy + 1 - loan.chunk.start / granule_of policy)
  pub was : granules_in space old ≡ committed_with policy (granules_in space old) (chunks_in space loans)
      (slots_of space old)
  pub held : AreHeld policy (slots_of space old) (chunks_in space loans)
  pub still : (slot : ℕ) → is_reserved (slots_of space old) slot ≡ true → is_reserved (slots_of space new) slot ≡ true
  pub own : is_in space loan.chunk.start ≡ true → is_reserved (slots_of space new) (slot_of loan.chunk.start) ≡ true
  pub placed : IsPart loan.chunk.start loan.chunk.level
  pub some : 1 ≤ loan.chunk.front
  pub within : loan.chunk.front ≤ size_of loan.chunk.level

pub committed_once_lent : (space : Space) (policy : Policy) (old new : NodesState) (loans : List Loan) (loan : Loan)
    → LendsIn space policy old new loans loan
    → granules_in space new ≡ committed_with policy (granules_in space old) (chunks_in space (with_loan loan loans))
    (slots_of space new)
committed_once_lent space policy old new loans loan lends =
    space_is_committed policy space new (granules_in space old) (chunks_in space (with_loan loan loans)) lends.sound
    lends.new_size each
  where
    g : ℕ
    g = granule_of policy

    first : ℕ
    first = loan.chunk.start / g

    count : ℕ
    count = (loan.chunk.start + loan.chunk.front - 1) / g + 1 - first

    some_words : (p : Policy) → 0 < granule_of p
    some_words Balanced = omega arith
    some_words Aggressive = omega arith
    some_words Never = omega arith

    each : (k : ℕ) → is_among (granules_in space new) k
        ≡ (is_committed_now policy (granules_in space old) (chunks_in space (with_loan loan loans)) k && is_reserved
        (slots_of space new) (k / node_granules new))
    each k =
        is_among-filter (is_granule_of space (node_granules new)) new.granules k
        ∙ ap (λ (n : ℕ). is_granule_of space (slot_granules n) k && is_among new.granules k) lends.new_size
        ∙ ap (λ (l : List ℕ). of && is_among l k) lends.added
        ∙ ap (λ b. of && b)
        (is_among-with_range old.granules first count k ∙ ap (λ b. is_among old.granules k || b) in_front)
        ∙ either_way of (is_among old.granules k) new_one
        ∙ ap (λ b. (of && is_among old.granules k) || b)
        (where_met of here new_one (λ meets. of_space_by_slot space policy k loan.chunk.start (slot meets)))
        ∙ ap (λ b. b || (here && new_one)) was_in
        ∙ once_lent (keeps policy) was met (here && new_one) (is_reserved (slots_of space old) (k / slot_granules g))
        (is_reserved (slots_of space new) (k / slot_granules g))
        (ap (λ l. is_among l k) lends.was
        ∙ is_among-committed policy (granules_in space old) (chunks_in space loans) (slots_of space old) k)
        (lends.still (k / slot_granules g))
        (λ both. let parts = and_parts here new_one both in ap (is_reserved (slots_of space new)) (slot parts.1)
        ∙ lends.own parts.0)
        (met_is_reserved policy (slots_of space old) (chunks_in space loans) k
        (recursion_from_All (λ (chunk : Chunk). IsPart chunk.start chunk.level)
        (chunks_in space loans) lends.held.parts)
        (recursion_from_All (HasFront policy) (chunks_in space loans) lends.held.fronts) lends.held.reserved)
        ∙ ap (λ b. ((keeps policy && was) || b) && is_reserved (slots_of space new) (k / slot_granules g))
        (sym (any_with space loan loans (λ chunk. meet chunk.start chunk.front (k * g) g)))
        ∙ ap (λ (n : ℕ). is_committed_now policy (granules_in space old) (chunks_in space (with_loan loan loans)) k
        && is_reserved (slots_of space new) (k / slot_granules n)) (sym lends.new_size)
      where
        of : Bool
        of = is_granule_of space (slot_granules g) k

        here : Bool
        here = is_in space loan.chunk.start

        new_one : Bool
        new_one = meet loan.chunk.start loan.chunk.front (k * g) g

        was : Bool
        was = is_among (granules_in space old) k

        met : Bool
        met = is_committed g (chunks_in space loans) k

        slot : new_one ≡ true → k / slot_granules g ≡ slot_of loan.chunk.start
        slot meets =
            front_in_slot policy loan.chunk.start loan.chunk.front loan.chunk.level k lends.placed lends.within meets

        in_front : is_in_range first count k ≡ new_one
        in_front =
            sym (is_among-range first count k)
            ∙ is_among-meeting g loan.chunk.start loan.chunk.front k (some_words policy) (omega (arith, lends.some))

        was_in : (of && is_among old.granules k) ≡ was
        was_in = ap (λ (n : ℕ). is_granule_of space (slot_granules n) k && is_among old.granules k) (sym lends.size)
            ∙ sym (is_among-filter (is_granule_of space (node_granules old)) old.granules k)
