-- What `grow` does, from what the code has found out: the chunk is one of the account's, and the
-- one that it becomes has its span.
use Rattle.std.proofs.Common.{◌≡◌, ◌<◌, ◌≤◌, ◌^◌, ℕ, zero, suc, ◌+◌, ◌-◌, ◌*◌, Bool, true, false, ◌&&◌, ◌||◌, ◌==◌}
use Rattle.std.proofs.Common.{Some, List, [], ◌∷◌, ◌++◌, length, get_or, map, refl, sym, ap, ap₂, subst, ◌∙◌, arith}
use Rattle.std.proofs.Common.{eq-eqb, eqb-true, ltb-true, leb-true, inl, inr}
use Rattle.std.specs.Prelude.{Option, Result, Err, ◌⊎◌, nat_le, nat_lt, slice_get}
use Rattle.std.specs.List.{All, AllByRecursion, Contains, list_all, list_any}
use Rattle.std.proofs.lemmas.Bool.{and_parts}
use Rattle.std.proofs.lemmas.List.Elements.{All-contains, All-from_recursion}
use Rattle.std.proofs.lemmas.List.Folds.{list_all-append, list_any-append}
use Rattle.std.proofs.lemmas.List.Sorted.{Contains-permutation, IsPermutation-sym}
use Rattle.std.proofs.lemmas.Map.Keys.{sorted_from_strictly_increasing}
use Rattle.std.specs.Ordering.{nat_cmp}
use Rattle.std.specs.List.Sorted.{IsStrictlyIncreasing, IsStrictlySortedBy}
use Rattle.ms_base.specs.declared.kind.Space.{Space}
use Rattle.ms_base.specs.declared.kind.Space.TheVariants.{NonClass, Class}
use Rattle.ms_base.specs.declared.refusal.Refusal.{Refusal}
use Rattle.ms_base.specs.declared.refusal.Refusal.TheVariants.{CommitLimit}
use Rattle.ms_base.specs.declared.span.Chunk.{Chunk}
use Rattle.ms_base.specs.Level.{size_of}
use Rattle.ms_base.specs.Part.{IsPart, buddy_start, is_leader, is_reserved, slot_of}
use Rattle.ms_base.specs.Spaces.{IsSlotOf, is_in}
use Rattle.ms_base.specs.State.{PoolState}
use Rattle.ms_base.specs.PoolSteps.Causes.{committed_count, granules_missing}
use Rattle.ms_base.specs.PoolSteps.{grown, is_free, parent_with_front, with_front}
use Rattle.ms_base.proofs.granules.FrontLemmas.{has_front_for}
use Rattle.ms_base.proofs.granules.GranuleLemmas.{ends_in_node}
use Rattle.ms_base.proofs.free.PickLemmas.{both_joined}
use Rattle.ms_commit.specs.Nodes.{slots_of}
use Rattle.ms_pool.specs.declared.lender.Lender.{Lender}
use Rattle.ms_pool.specs.Account.{AccountState, AreChunks}
use Rattle.ms_pool.specs.Ledger.{Ledger, IsSoundLedger, Loan, Serves, chunks_of, recommitted, state_in, with_grown}
use Rattle.ms_pool.specs.Keeping.{IsKept, IsRunOf, ledger_of}
use Rattle.ms_pool.specs.Growing.{HasNoMore, has_room, reached}
use Rattle.ms_pool.specs.Releasing.{is_at, is_lent_in}
use Rattle.ms_buddy.proofs.changes.LeaderLemmas.{parent_size}
use Rattle.ms_pool.proofs.loans.OpenLemmas.{open_is_low, open_is_of_space}
use Rattle.ms_pool.specs.Searching.{lacking}
use Rattle.ms_pool.proofs.growths.ReachLemmas.{by_tests, grown_past, reached-is}
use Rattle.ms_pool.proofs.loans.TakingLemmas.{all_committed, run_of_open}
use Rattle.ms_pool.proofs.ledger.LoanLemmas.{chunks_in, chunks_in-here}
use Rattle.ms_pool.proofs.ledger.LoanAtLemmas.{IsLoan, after_elsewhere, before_elsewhere, contains_at, loan_of}
use Rattle.ms_pool.proofs.ledger.LoanAtLemmas.{replaced, replaced_at}
use Rattle.ms_pool.proofs.ledger.LoanOrderLemmas.{StartsElsewhere, start_of}
use Rattle.ms_pool.proofs.ledger.LedgerSlotLemmas.{starts_in}
use Rattle.ms_pool.specs.Placing.{IsLentThere}

-- An index of a list, as it is read, and as it is where it is given what it has.
pub found_at : (chunks : List Chunk) (index : ℕ) (chunk : Chunk) → index < length chunks
    → chunk ≡ get_or chunks index chunk → slice_get chunks index ≡ Some chunk
found_at [] index chunk within e = absurd (omega arith)
found_at (c ∷ chunks) zero chunk within e = ap (λ (one : Chunk). Some one) (sym e)
found_at (c ∷ chunks) (suc index) chunk within e = found_at chunks index chunk (omega arith) e

-- The chunk of an account, in the pool.
pub record IsOwn (space : Space) (lender : Lender) (owner : ℕ) (chunk : Chunk) : Type 0 where
  pub loan : IsLoan owner chunk (ledger_of lender).loans
  pub there : IsLentThere lender space chunk
  pub placed : IsPart chunk.start chunk.level

lent_by : (owner : ℕ) (chunk : Chunk) (before after : List Loan)
    → is_lent_in (before ++ record { owner = owner; chunk = chunk } ∷ after) chunk ≡ true
lent_by owner chunk before after =
    list_any-append (is_at chunk) before (record { owner = owner; chunk = chunk } ∷ after)
    ∙ ap (λ b. list_any (is_at chunk) before || (b || list_any (is_at chunk) after))
    (itself (chunk.start == chunk.start) (chunk.level == chunk.level) (eq-eqb chunk.start chunk.start refl)
    (eq-eqb chunk.level chunk.level refl))
    ∙ or_true (list_any (is_at chunk) before)
  where
    itself : (a b : Bool) → a ≡ true → b ≡ true → (a && b) ≡ true
    itself a b e f = rw (e, f) refl

    or_true : (a : Bool) → (a || (true || list_any (is_at chunk) after)) ≡ true
    or_true true = refl
    or_true false = refl

pub is_own : (lender : Lender) (account : AccountState) (index : ℕ) (chunk : Chunk) → IsKept lender
    → Serves (ledger_of lender) account → AreChunks account.space account.chunks
    → slice_get account.chunks index ≡ Some chunk → IsOwn account.space lender account.owner chunk
is_own lender account index chunk kept served chunks found = record {
  loan = loan;
  there = record {
    lent = ap (λ (l : List Loan). is_lent_in l chunk) loan.is ∙ lent_by account.owner chunk loan.before loan.after;
    reserved = own_reserved account.space here;
  };
  placed = All-contains (λ (one : Chunk). IsPart one.start one.level) account.chunks chunk chunks.parts has;
}
  where
    has : Contains account.chunks chunk
    has = contains_at account.chunks index chunk found

    loan : IsLoan account.owner chunk (ledger_of lender).loans
    loan = loan_of account.owner chunk (ledger_of lender).loans
        (Contains-permutation account.chunks (chunks_of (ledger_of lender) account.owner) chunk
        (IsPermutation-sym (chunks_of (ledger_of lender) account.owner) account.chunks served.chunks) has)

    here : is_in account.space chunk.start ≡ true
    here = starts_in account.space chunk.start
        (All-contains (λ (one : Chunk). IsSlotOf account.space (slot_of one.start)) account.chunks chunk chunks.inside
        has)

    of_middle : (slots : List ℕ) (b a : List Chunk)
        → list_all (λ (one : Chunk). is_reserved slots (slot_of one.start)) (b ++ chunk ∷ a) ≡ true
        → is_reserved slots (slot_of chunk.start) ≡ true
    of_middle slots b a all =
        let both =
        and_parts (list_all (λ (one : Chunk). is_reserved slots (slot_of one.start)) b)
        (list_all (λ (one : Chunk). is_reserved slots (slot_of one.start)) (chunk ∷ a))
        (sym (list_all-append (λ (one : Chunk). is_reserved slots (slot_of one.start)) b (chunk ∷ a)) ∙ all) in
        (and_parts (is_reserved slots (slot_of chunk.start))
        (list_all (λ (one : Chunk). is_reserved slots (slot_of one.start)) a) both.1).0

    all_reserved : (space : Space)
        → list_all (λ (one : Chunk). is_reserved (slots_of space lender.nodes) (slot_of one.start))
        (chunks_in space (ledger_of lender).loans) ≡ true
    all_reserved NonClass = (kept.sound.spaces NonClass).held.reserved
    all_reserved Class = (kept.sound.spaces Class).held.reserved

    own_reserved : (space : Space) → is_in space chunk.start ≡ true
        → is_reserved (slots_of space lender.nodes) (slot_of chunk.start) ≡ true
    own_reserved space there =
        of_middle (slots_of space lender.nodes) (chunks_in space loan.before) (chunks_in space loan.after)
        (ap (list_all (λ (one : Chunk). is_reserved (slots_of space lender.nodes) (slot_of one.start)))
        (sym (ap (chunks_in space) loan.is
        ∙ chunks_in-here space loan.before (record { owner = account.owner; chunk = chunk }) loan.after there))
        ∙ all_reserved space)

-- No loan from its start has a greater front than one that is no smaller.
pub no_more : (lender : Lender) (owner : ℕ) (chunk greater : Chunk) → IsKept lender
    → IsLoan owner chunk (ledger_of lender).loans → greater.start ≡ chunk.start → chunk.front ≤ greater.front
    → All (HasNoMore greater) (ledger_of lender).loans
no_more lender owner chunk greater kept loan same higher =
    All-from_recursion (HasNoMore greater) (ledger_of lender).loans
    (subst (AllByRecursion (HasNoMore greater)) (sym loan.is)
    (both_joined (HasNoMore greater) loan.before (own ∷ loan.after)
    (none loan.before (before_elsewhere loan.before own loan.after sorted))
    ((λ e. higher), none loan.after (after_elsewhere loan.before own loan.after sorted))))
  where
    own : Loan
    own = record { owner = owner; chunk = chunk }

    sorted : IsStrictlySortedBy nat_cmp (map start_of (loan.before ++ own ∷ loan.after))
    sorted = subst (λ (l : List Loan). IsStrictlySortedBy nat_cmp (map start_of l)) loan.is
        (sorted_from_strictly_increasing (map start_of (ledger_of lender).loans) kept.sound.order)

    none : (loans : List Loan) → AllByRecursion (StartsElsewhere chunk.start) loans
        → AllByRecursion (HasNoMore greater) loans
    none [] all = tt
    none (x ∷ loans) all = ((λ e. absurd (all.0 (e ∙ same))), none loans all.1)

-- What the chunk becomes, by how it reaches the words.
pub ReachedBy : PoolState → Chunk → Chunk → ℕ → Type 0
ReachedBy pool chunk greater total = ((greater ≡ with_front pool chunk total) × (total ≤ size_of chunk.level))
    ⊎ ((greater ≡ parent_with_front pool chunk total) × (total ≤ 2 * size_of chunk.level)
    × (has_room pool chunk ≡ true))

pub reached_by : (pool : PoolState) (chunk greater : Chunk) (total : ℕ) (may_enlarge : Bool)
    → reached pool chunk total may_enlarge ≡ Some greater → ReachedBy pool chunk greater total
unfolding ReachedBy
reached_by pool chunk greater total may_enlarge is =
    go (nat_le total (size_of chunk.level))
    (nat_le total (2 * size_of chunk.level) && may_enlarge && has_room pool chunk) refl refl
    (sym (reached-is pool chunk total may_enlarge (nat_le total (size_of chunk.level))
    (nat_le total (2 * size_of chunk.level) && may_enlarge && has_room pool chunk) refl refl) ∙ is)
  where
    some : Chunk → Option Chunk
    some one = Some one

    same_chunk : (a b : Chunk) → Some a ≡ Some b → b ≡ a
    same_chunk a b e = cc

    go : (a b : Bool) → nat_le total (size_of chunk.level) ≡ a
        → (nat_le total (2 * size_of chunk.level) && may_enlarge && has_room pool chunk) ≡ b
        → by_tests pool chunk total a b ≡ Some greater
        → ((greater ≡ with_front pool chunk total) × (total ≤ size_of chunk.level))
        ⊎ ((greater ≡ parent_with_front pool chunk total) × (total ≤ 2 * size_of chunk.level)
        × (has_room pool chunk ≡ true))
    go true b e f h = inl (same_chunk (with_front pool chunk total) greater h, leb-true total (size_of chunk.level) e)
    go false true e f h =
        let outer = and_parts (nat_le total (2 * size_of chunk.level) && may_enlarge) (has_room pool chunk) f in
        let inner = and_parts (nat_le total (2 * size_of chunk.level)) may_enlarge outer.0 in
        inr (
          same_chunk (parent_with_front pool chunk total) greater h,
          leb-true total (2 * size_of chunk.level) inner.0,
          outer.1,
        )
    go false false e f h = absurd (cc)

pub record WellReached (space : Space) (lender : Lender) (chunk greater : Chunk) : Type 0 where
  pub start : greater.start ≡ chunk.start
  pub placed : IsPart greater.start greater.level
  pub some : 1 ≤ greater.front
  pub within : greater.front ≤ size_of greater.level
  pub grows : (greater.level ≡ chunk.level)
      ⊎ ((greater.level + 1 ≡ chunk.level) × (has_room (state_in space (ledger_of lender)) chunk ≡ true))

pub well_reached : (space : Space) (lender : Lender) (chunk greater : Chunk) (total : ℕ) (may_enlarge : Bool)
    → IsPart chunk.start chunk.level → 1 ≤ total
    → reached (state_in space (ledger_of lender)) chunk total may_enlarge ≡ Some greater
    → WellReached space lender chunk greater
unfolding ReachedBy has_room
well_reached space lender chunk greater total may_enlarge placed some is =
    elim (reached_by pool chunk greater total may_enlarge is) [
      | inl here ↦
          let front = has_front_for lender.policy chunk.start chunk.level total some here.1 in
          subst (WellReached space lender chunk) (sym here.0)
          (record { start = refl; placed = placed; some = front.some; within = front.within; grows = inl refl })
      | inr above ↦
          let leads =
          and_parts (nat_lt 0 chunk.level && is_leader chunk.start chunk.level)
          (is_free pool (buddy_start chunk.start chunk.level) chunk.level) above.2 in
          let root = and_parts (nat_lt 0 chunk.level) (is_leader chunk.start chunk.level) leads.0 in
          let no_root = ltb-true 0 chunk.level root.0 in
          let front =
          has_front_for lender.policy chunk.start (chunk.level - 1) total some
          (omega (arith, above.1, parent_size chunk.level no_root placed.0)) in
          subst (WellReached space lender chunk) (sym above.0) (record {
            start = refl;
            placed = (omega (arith, placed.0), eqb-true _ 0 root.1);
            some = front.some;
            within = front.within;
            grows = inr (omega (arith, no_root), above.2);
          })
    ]
  where
    pool : PoolState
    pool = state_in space (ledger_of lender)

pub record FitsThere (space : Space) (greater : Chunk) : Type 0 where
  pub inside : IsRunOf space greater.start greater.front
  pub fits : greater.start + greater.front < 2 ^ 63

pub fits_there : (space : Space) (lender : Lender) (chunk greater : Chunk) → IsKept lender
    → is_reserved (slots_of space lender.nodes) (slot_of chunk.start) ≡ true
    → WellReached space lender chunk greater → FitsThere space greater
fits_there space lender chunk greater kept reserved well =
    let there : is_reserved (slots_of space lender.nodes) (slot_of greater.start) ≡ true =
    ap (λ (s : ℕ). is_reserved (slots_of space lender.nodes) (slot_of s)) well.start ∙ reserved in
    record {
      inside = run_of_open space greater.start greater.front
          (omega (arith, well.within, ends_in_node greater.start greater.level well.placed)) 0
          (open_is_of_space space lender.nodes (slot_of greater.start) kept.nodes kept.sound.nodes.1 (inl there));
      fits = omega (
        arith,
        well.within,
        ends_in_node greater.start greater.level well.placed,
        kept.nodes.class_slots,
        open_is_low space lender.nodes (slot_of greater.start) kept.nodes kept.sound.nodes.1 (inl there),
      );
    }

-- A chunk that stays leaves the ledger as it was.
pub stays_as_it_was : (old : Ledger) (owner : ℕ) (chunk : Chunk) → IsSoundLedger old → IsLoan owner chunk old.loans
    → old ≡ with_grown old chunk
stays_as_it_was old owner chunk sound loan =
    ap₂ made (sound.spaces NonClass).committed (sound.spaces Class).committed
    ∙ ap (λ (l : List Loan). recommitted (record old { loans = l })) (sym same)
  where
    made : List ℕ → List ℕ → Ledger
    made committed class_committed = record old { committed = committed; class_committed = class_committed }

    own : List Loan
    own = loan.before ++ record { owner = owner; chunk = chunk } ∷ loan.after

    same : replaced chunk old.loans ≡ old.loans
    same = ap (replaced chunk) loan.is
        ∙ replaced_at owner chunk chunk loan.before loan.after refl
        (subst (λ (l : List Loan). IsStrictlyIncreasing (map start_of l)) loan.is sound.order)
        ∙ sym loan.is

-- The limit, as the space sees it.
pub within_space : (space : Space) (lender : Lender) (greater : Chunk) → IsKept lender
    → length lender.nodes.granules + lacking (state_in space (ledger_of lender)) greater ≤ lender.nodes.limits.granules
    → committed_count (state_in space (ledger_of lender)) + granules_missing (state_in space (ledger_of lender)) greater
    ≤ lender.nodes.limits.granules
unfolding lacking
within_space space lender greater kept within = omega (arith, within, all_committed space lender kept)

pub past_space : (space : Space) (lender : Lender) (chunk greater : Chunk) (total : ℕ) (may_enlarge : Bool)
    → IsKept lender → chunk.front < total
    → reached (state_in space (ledger_of lender)) chunk total may_enlarge ≡ Some greater
    → lender.nodes.limits.granules < length lender.nodes.granules + lacking (state_in space (ledger_of lender)) greater
    → grown (state_in space (ledger_of lender)) chunk total may_enlarge
    ≡ Err (CommitLimit (length lender.nodes.granules) lender.nodes.limits.granules
    (lacking (state_in space (ledger_of lender)) greater))
unfolding lacking
past_space space lender chunk greater total may_enlarge kept more is past =
    grown_past (state_in space (ledger_of lender)) chunk greater total may_enlarge more is
    (omega (arith, past, all_committed space lender kept))
    ∙ ap (λ (n : ℕ). full n) (sym (all_committed space lender kept))
  where
    full : ℕ → Result Chunk Refusal
    full committed =
        Err (CommitLimit committed lender.nodes.limits.granules
        (granules_missing (state_in space (ledger_of lender)) greater))
