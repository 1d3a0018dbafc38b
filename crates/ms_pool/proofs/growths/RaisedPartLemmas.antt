-- What a pool keeps once a chunk has grown: what its callers see is the ledger with the chunk
-- grown.
use Rattle.std.proofs.Common.{◌≡◌, ◌≤◌, ℕ, ◌*◌, Bool, true, false, cond, ◌&&◌, ◌||◌, ◌==◌, List, [], ◌∷◌, refl, sym, ap}
use Rattle.std.proofs.Common.{◌∙◌, arith, eqb-true, ◌+◌, ◌-◌, ◌/◌, subst}
use Rattle.std.specs.List.{AllByRecursion, flat_map, list_any}
use Rattle.std.proofs.lemmas.Bool.{and_parts}
use Rattle.std.proofs.lemmas.List.Elements.{filter_agree, recursion_from_All}
use Rattle.ms_base.specs.declared.kind.Space.{Space}
use Rattle.ms_base.specs.declared.kind.Space.TheVariants.{NonClass, Class}
use Rattle.ms_base.specs.declared.policy.Policy.{Policy}
use Rattle.ms_base.specs.declared.span.Chunk.{Chunk}
use Rattle.ms_base.specs.Interval.{meet}
use Rattle.ms_base.specs.Level.{size_of}
use Rattle.ms_base.specs.Part.{IsPart, is_reserved, slot_of}
use Rattle.ms_base.specs.Policy.{granule_of, keeps}
use Rattle.ms_base.specs.Spaces.{class_slots, is_in}
use Rattle.ms_base.specs.Committed.{committed_with, granules_of, is_among, is_committed_now}
use Rattle.ms_base.proofs.granules.FreeGranuleLemmas.{meets_bounds, bounds_meet}
use Rattle.ms_commit.specs.Nodes.{NodesState, AreSound, granules_in, slots_of, with_slot, with_granules}
use Rattle.ms_buddy.specs.Leaves.{LentLeaf}
use Rattle.ms_pool.specs.declared.lender.Lender.{Lender}
use Rattle.ms_pool.specs.Ledger.{Loan, with_grown, with_loan}
use Rattle.ms_pool.specs.Keeping.{IsKept, ledger_of, with_reserved, loans_from}
use Rattle.ms_pool.specs.Growing.{HasNoMore, with_greater_loan}
use Rattle.ms_pool.specs.Releasing.{is_lent_in}
use Rattle.ms_pool.proofs.ledger.LoanLemmas.{chunks_in}
use Rattle.ms_pool.proofs.loans.LendLemmas.{LendsIn, any_with, committed_once_lent}
use Rattle.ms_pool.proofs.loans.LentPartLemmas.{built, built_of, with_front_of, committed_before, held_before}
use Rattle.ms_pool.proofs.loans.LentPartLemmas.{with_front_stays}
use Rattle.ms_pool.proofs.loans.ShownLemmas.{Shows}
use Rattle.ms_pool.proofs.loans.OpenLemmas.{own_in_space, reserved_of_space}
use Rattle.ms_pool.specs.Placing.{IsLentThere, MayBeReplaced}

-- A test of the chunks of a space, one loan after the other.
any_next : (space : Space) (loan : Loan) (loans : List Loan) (test : Chunk → Bool)
    → list_any test (chunks_in space (loan ∷ loans))
    ≡ ((is_in space loan.chunk.start && test loan.chunk) || list_any test (chunks_in space loans))
any_next space loan loans test =
    elim (is_in space loan.chunk.start) as (λ b. list_any test
    (cond b (loan.chunk ∷ chunks_in space loans) (chunks_in space loans))
    ≡ ((b && test loan.chunk) || list_any test (chunks_in space loans))) [
      | true ↦ refl
      | false ↦ refl
    ]

-- A test that the grown chunk passes where the loan from its start does.
abbrev Passes : (Chunk → Bool) → Chunk → Loan → Type 0
Passes test greater loan = (loan.chunk.start == greater.start) ≡ true → test loan.chunk ≡ true → test greater ≡ true

with_own : (x y r s : Bool) → (y ≡ true → x ≡ true) → (x || s) ≡ (x || r) → (x || (x || s)) ≡ (x || (y || r))
with_own true y r s f e = refl
with_own false true r s f e = let wrong : false ≡ true = f refl in absurd (cc)
with_own false false r s f e = e

with_other : (x y r s : Bool) → (x || s) ≡ (x || r) → (x || (y || s)) ≡ (x || (y || r))
with_other true y r s e = refl
with_other false y r s e = ap (λ b. y || b) e

same_or : (space : Space) (greater : Chunk) (loans : List Loan) (test : Chunk → Bool)
    → AllByRecursion (Passes test greater) loans
    → ((is_in space greater.start && test greater) || list_any test (chunks_in space (with_greater_loan greater loans)))
    ≡ ((is_in space greater.start && test greater) || list_any test (chunks_in space loans))
same_or space greater [] test all = refl
same_or space greater (loan ∷ loans) test all =
    go (loan.chunk.start == greater.start) refl (same_or space greater loans test all.1)
  where
    x : Bool
    x = is_in space greater.start && test greater

    go : (b : Bool) → (loan.chunk.start == greater.start) ≡ b
        → (x || list_any test (chunks_in space (with_greater_loan greater loans)))
        ≡ (x || list_any test (chunks_in space loans))
        → (x || list_any test
        (chunks_in space (cond b (record loan { chunk = greater }) loan ∷ with_greater_loan greater loans)))
        ≡ (x || list_any test (chunks_in space (loan ∷ loans)))
    go true same rest =
        ap (λ b. x || b) (any_next space (record loan { chunk = greater }) (with_greater_loan greater loans) test)
        ∙ with_own x (is_in space loan.chunk.start && test loan.chunk) (list_any test (chunks_in space loans))
        (list_any test (chunks_in space (with_greater_loan greater loans)))
        (λ passes. let both = and_parts (is_in space loan.chunk.start) (test loan.chunk) passes in
        and_both (is_in space greater.start) (test greater)
        (ap (is_in space) (sym (eqb-true loan.chunk.start greater.start same)) ∙ both.0) (all.0 same both.1)) rest
        ∙ ap (λ b. x || b) (sym (any_next space loan loans test))
      where
        and_both : (a b : Bool) → a ≡ true → b ≡ true → (a && b) ≡ true
        and_both true b e f = f
        and_both false b e f = e
    go false same rest =
        ap (λ b. x || b) (any_next space loan (with_greater_loan greater loans) test)
        ∙ with_other x (is_in space loan.chunk.start && test loan.chunk) (list_any test (chunks_in space loans))
        (list_any test (chunks_in space (with_greater_loan greater loans))) rest
        ∙ ap (λ b. x || b) (sym (any_next space loan loans test))

abbrev starts_there : Chunk → Loan → Bool
starts_there chunk loan = loan.chunk.start == chunk.start

own_passes : (space : Space) (greater : Chunk) (loans : List Loan) (test : Chunk → Bool)
    → list_any (starts_there greater) loans ≡ true → (is_in space greater.start && test greater) ≡ true
    → list_any test (chunks_in space (with_greater_loan greater loans)) ≡ true
own_passes space greater [] test there passes = absurd (cc)
own_passes space greater (loan ∷ loans) test there passes =
    go (loan.chunk.start == greater.start) there (λ later. own_passes space greater loans test later passes)
  where
    or_later : (a b : Bool) → b ≡ true → (a || b) ≡ true
    or_later true b e = refl
    or_later false b e = e

    go : (b : Bool) → (b || list_any (starts_there greater) loans) ≡ true
        → (list_any (starts_there greater) loans ≡ true
        → list_any test (chunks_in space (with_greater_loan greater loans)) ≡ true)
        → list_any test
        (chunks_in space (cond b (record loan { chunk = greater }) loan ∷ with_greater_loan greater loans)) ≡ true
    go true e rest =
        any_next space (record loan { chunk = greater }) (with_greater_loan greater loans) test
        ∙ ap (λ b. b || list_any test (chunks_in space (with_greater_loan greater loans))) passes
    go false e rest =
        any_next space loan (with_greater_loan greater loans) test
        ∙ or_later (is_in space loan.chunk.start && test loan.chunk)
        (list_any test (chunks_in space (with_greater_loan greater loans))) (rest e)

any_raised : (space : Space) (greater : Chunk) (loans : List Loan) (test : Chunk → Bool)
    → AllByRecursion (Passes test greater) loans → list_any (starts_there greater) loans ≡ true
    → list_any test (chunks_in space (with_greater_loan greater loans))
    ≡ ((is_in space greater.start && test greater) || list_any test (chunks_in space loans))
any_raised space greater loans test all there =
    go (is_in space greater.start && test greater) (own_passes space greater loans test there)
    (same_or space greater loans test all)
  where
    go : (x : Bool) → (x ≡ true → list_any test (chunks_in space (with_greater_loan greater loans)) ≡ true)
        → (x || list_any test (chunks_in space (with_greater_loan greater loans)))
        ≡ (x || list_any test (chunks_in space loans))
        → list_any test (chunks_in space (with_greater_loan greater loans))
        ≡ (x || list_any test (chunks_in space loans))
    go true own same = own refl
    go false own same = same

-- A granule that meets the front that was meets the greater one.
fronts_pass : (granule k : ℕ) (greater : Chunk) (loans : List Loan) → AllByRecursion (HasNoMore greater) loans
    → AllByRecursion (Passes (λ (chunk : Chunk). meet chunk.start chunk.front (k * granule) granule) greater) loans
fronts_pass granule k greater [] all = tt
fronts_pass granule k greater (loan ∷ loans) all = (
  (λ same meets.
      let start = eqb-true loan.chunk.start greater.start same in
      let bounds = meets_bounds loan.chunk.start loan.chunk.front (k * granule) granule meets in
      bounds_meet greater.start greater.front (k * granule) granule (omega (arith, bounds.0, start))
      (omega (arith, bounds.1, start, all.0 start))),
  fronts_pass granule k greater loans all.1,
)

starts_from_span : (chunk greater : Chunk) (loans : List Loan) → greater.start ≡ chunk.start
    → is_lent_in loans chunk ≡ true → list_any (starts_there greater) loans ≡ true
starts_from_span chunk greater [] e there = absurd (cc)
starts_from_span chunk greater (loan ∷ loans) e there =
    go (loan.chunk.start == chunk.start) (loan.chunk.level == chunk.level) refl there
    (starts_from_span chunk greater loans e)
  where
    or_later : (a b : Bool) → b ≡ true → (a || b) ≡ true
    or_later true b f = refl
    or_later false b f = f

    go : (a b : Bool) → (loan.chunk.start == chunk.start) ≡ a → ((a && b) || is_lent_in loans chunk) ≡ true
        → (is_lent_in loans chunk ≡ true → list_any (starts_there greater) loans ≡ true)
        → ((loan.chunk.start == greater.start) || list_any (starts_there greater) loans) ≡ true
    go true b same h rest =
        ap (λ t. t || list_any (starts_there greater) loans) (ap (λ (s : ℕ). loan.chunk.start == s) e ∙ same)
    go false b same h rest =
        or_later (loan.chunk.start == greater.start) (list_any (starts_there greater) loans) (rest h)

-- So what is committed is as if the greater chunk were lent beside the others.
committed_alike : (space : Space) (policy : Policy) (before : List ℕ) (slots : List ℕ) (loans : List Loan) (owner : ℕ)
    (greater : Chunk)
    → AllByRecursion (HasNoMore greater) loans → list_any (starts_there greater) loans ≡ true
    → committed_with policy before (chunks_in space (with_loan (record { owner = owner; chunk = greater }) loans)) slots
    ≡ committed_with policy before (chunks_in space (with_greater_loan greater loans)) slots
committed_alike space policy before slots loans owner greater all there =
    filter_agree
    (is_committed_now policy before (chunks_in space (with_loan (record { owner = owner; chunk = greater }) loans)))
    (is_committed_now policy before (chunks_in space (with_greater_loan greater loans)))
    (λ k. ap (λ b. (keeps policy && is_among before k) || b)
    (any_with space (record { owner = owner; chunk = greater }) loans
    (λ (chunk : Chunk). meet chunk.start chunk.front (k * granule_of policy) (granule_of policy))
    ∙ sym (any_raised space greater loans
    (λ (chunk : Chunk). meet chunk.start chunk.front (k * granule_of policy) (granule_of policy))
    (fronts_pass (granule_of policy) k greater loans all) there)))
    (flat_map (granules_of (granule_of policy)) slots)

-- A reserved slot stays.
pub stays_reserved : (space : Space) (nodes : NodesState) (slot : ℕ) → is_reserved (slots_of space nodes) slot ≡ true
    → nodes ≡ with_reserved nodes slot
stays_reserved space nodes slot there =
    ap (λ b. cond b nodes (with_slot nodes slot)) (sym (reserved_of_space space nodes slot there))

raises_in : (space other : Space) (lender : Lender) (owner : ℕ) (greater : Chunk) → IsKept lender
    → is_reserved (slots_of space lender.nodes) (slot_of greater.start) ≡ true
    → AreSound (with_front_of lender lender.nodes greater) → IsPart greater.start greater.level → 1 ≤ greater.front
    → greater.front ≤ size_of greater.level
    → LendsIn other lender.policy lender.nodes (with_front_of lender lender.nodes greater) (ledger_of lender).loans
    (record { owner = owner; chunk = greater })
raises_in space other lender owner greater kept there sound placed some within = record {
  size = kept.granule;
  new_size = kept.granule;
  sound = sound;
  added = refl;
  was = committed_before lender kept other;
  held = held_before lender kept other;
  still = λ slot e. with_front_stays lender lender.nodes greater other slot e;
  own = λ here. with_front_stays lender lender.nodes greater other (slot_of greater.start)
      (own_in_space other lender.nodes greater.start kept.nodes
      (reserved_of_space space lender.nodes (slot_of greater.start) there) here);
  placed = placed;
  some = some;
  within = within;
}

-- The grown chunk's slot is that of the chunk.
pub reserved_too : (space : Space) (lender : Lender) (chunk greater : Chunk) → IsLentThere lender space chunk
    → MayBeReplaced lender space chunk greater
    → is_reserved (slots_of space lender.nodes) (slot_of greater.start) ≡ true
reserved_too space lender chunk greater own may =
    ap (λ (s : ℕ). is_reserved (slots_of space lender.nodes) (slot_of s)) may.start ∙ own.reserved

pub grown_ledger : (space : Space) (lender : Lender) (chunk greater : Chunk) → IsKept lender
    → is_lent_in (ledger_of lender).loans chunk ≡ true
    → is_reserved (slots_of space lender.nodes) (slot_of greater.start) ≡ true → greater.start ≡ chunk.start
    → AllByRecursion (HasNoMore greater) (ledger_of lender).loans
    → AreSound (with_front_of lender lender.nodes greater) → IsPart greater.start greater.level → 1 ≤ greater.front
    → greater.front ≤ size_of greater.level
    → built_of lender (with_front_of lender lender.nodes greater) (with_greater_loan greater (ledger_of lender).loans)
    ≡ with_grown (ledger_of lender) greater
grown_ledger space lender chunk greater kept lent there same more sound placed some within =
    ap (λ (committed : List ℕ). built lender loans lender.nodes.slots committed
    (granules_in Class new) lender.nodes.limits lender.nodes.class_slots)
    (committed_once_lent NonClass lender.policy lender.nodes new (ledger_of lender).loans loan
    (raises_in space NonClass lender 0 greater kept there sound placed some within)
    ∙ committed_alike NonClass lender.policy (granules_in NonClass lender.nodes) lender.nodes.slots
    (ledger_of lender).loans 0 greater more starts)
    ∙ ap (λ (committed : List ℕ). built lender loans lender.nodes.slots
    (committed_with lender.policy (granules_in NonClass lender.nodes) (chunks_in NonClass loans) lender.nodes.slots)
    committed lender.nodes.limits lender.nodes.class_slots)
    (committed_once_lent Class lender.policy lender.nodes new (ledger_of lender).loans loan
    (raises_in space Class lender 0 greater kept there sound placed some within)
    ∙ committed_alike Class lender.policy (granules_in Class lender.nodes) (class_slots lender.nodes.class_slots)
    (ledger_of lender).loans 0 greater more starts)
  where
    new : NodesState
    new = with_front_of lender lender.nodes greater

    loan : Loan
    loan = record { owner = 0; chunk = greater }

    loans : List Loan
    loans = with_greater_loan greater (ledger_of lender).loans

    starts : list_any (starts_there greater) (ledger_of lender).loans ≡ true
    starts = starts_from_span chunk greater (ledger_of lender).loans same lent

-- The front of the grown chunk is committed: the ledger has the chunk grown.
pub grown_shows : (space : Space) (lender : Lender) (chunk greater : Chunk) (nodes : NodesState)
    (items : List (List LentLeaf)) (g : ℕ) → IsKept lender
    → IsLentThere lender space chunk → MayBeReplaced lender space chunk greater → g ≡ granule_of lender.policy
    → nodes ≡ with_granules lender.nodes (greater.start / g)
    ((greater.start + greater.front - 1) / g + 1 - greater.start / g) → AreSound nodes
    → loans_from 0 items ≡ with_greater_loan greater (loans_from 0 lender.trees.items)
    → Shows lender nodes items (with_grown (ledger_of lender) greater)
grown_shows space lender chunk greater nodes items g kept own may size made sound loans = record {
  after = ap (λ (n : NodesState). built_of lender n (loans_from 0 items)) there
      ∙ ap (λ (l : List Loan). built_of lender (with_front_of lender lender.nodes greater) l) loans
      ∙ grown_ledger space lender chunk greater kept own.lent (reserved_too space lender chunk greater own may)
      may.start
      (recursion_from_All (HasNoMore greater) (ledger_of lender).loans may.higher) (subst AreSound there sound)
      may.placed may.some may.within;
  class_slots_are = ap (λ (n : NodesState). n.class_slots) there;
  limits = ap (λ (n : NodesState). n.limits) there;
}
  where
    there : nodes ≡ with_front_of lender lender.nodes greater
    there = made
        ∙ ap (λ (w : ℕ). with_granules lender.nodes (greater.start / w)
        ((greater.start + greater.front - 1) / w + 1 - greater.start / w)) size
