-- A pool that comes out of its lock and the loaders of all shares belong together: each share's
-- seat serves its loaders, and each owner is served once. For `gather`.
use Rattle.std.proofs.Common.{◌≡◌, ℕ, ◌+◌, ◌≤◌, Bool, true, false, cond, ◌||◌, inl, inr, List, [], ◌∷◌, ◌++◌, map}
use Rattle.std.proofs.Common.{length, refl, sym, ap, ◌∙◌, subst, eq-eqb, ne_eqb, zero-add, arith}
use Rattle.std.specs.Prelude.{◌==◌}
use Rattle.std.specs.List.{All, AllByRecursion, sum_by, filter}
use Rattle.std.specs.List.Sorted.{IsPermutation}
use Rattle.std.specs.Map.{values_of}
use Rattle.std.proofs.lemmas.Bool.{cases_lt, cases_eq, le-leb}
use Rattle.std.proofs.lemmas.List.{append_assoc}
use Rattle.std.proofs.lemmas.List.Sums.{sum_by-cons}
use Rattle.std.proofs.lemmas.List.Elements.{All-from_recursion, All-map, All-nil, recursion_from_All}
use Rattle.ms_base.specs.declared.kind.Space.{Space}
use Rattle.ms_base.specs.declared.kind.Space.TheVariants.{NonClass, Class}
use Rattle.ms_base.specs.declared.span.Chunk.{Chunk}
use Rattle.ms_base.specs.Committed.{is_among}
use Rattle.ms_base.specs.Names.{AreNamed}
use Rattle.ms_pool.specs.Account.{AccountState}
use Rattle.ms_pool.specs.Ledger.{Loan, Ledger, Serves, IsSoundLedger, chunks_of, is_owned_by, opened_in}
use Rattle.ms_loader.specs.Loader.{LoaderView, IsSoundView}
use Rattle.ms_loaders.specs.System.{accounts_of, owners_of, AreTogether}
use Rattle.ms_shared.specs.declared.lock_rule.SeatView.{SeatView}
use Rattle.ms_shared.specs.Entries.{Entry, Has, AreRecords, once_given, one_if as entry_if, times as entries_of}
use Rattle.ms_shared.specs.SeatView.{SeatState, ServesBy, Gathers, opened_by}
use Rattle.ms_shared.proofs.RecordLemmas.{has_record, has_times, once_given-le}
use Rattle.ms_run.specs.declared.share.Share.{Share}
use Rattle.ms_run.specs.Manned.{IsManned}
use Rattle.ms_run.specs.Shares.{IsMannedShare}
use Rattle.ms_run.specs.Joined.{AreJoined, seat_of}
use Rattle.ms_run.proofs.sharing.GatherLemmas.{Loaders, joined_sum, joined_all}
use Rattle.ms_loaders.proofs.steps.ServedLemmas.{times, one_if, is_it}
use Rattle.ms_loaders.proofs.sums.FitLemmas.{owner_of}
use Rattle.ms_loaders.proofs.sums.OwnedLoanLemmas.{chunk_of}
use Rattle.ms_run.proofs.ShareSumLemmas.{OfBoth, all_seats, by_account, by_loader, one_each, ones, owned, owned_sum}
use Rattle.ms_run.proofs.ShareSumLemmas.{seats_sum, sums_le, sums_same}

-- A number that stands among others.
among : (number : ℕ) (numbers : List ℕ) → is_among numbers number ≡ true → 1 ≤ times number numbers
among number [] there = absurd (cc)
among number (n ∷ numbers) there =
    elim (n == number) as (λ b. (n == number) ≡ b → (b || is_among numbers number) ≡ true
    → 1 ≤ times number (n ∷ numbers)) [
      | true ↦ λ here there. omega (arith, sum_by-cons (is_it number) n numbers, ap one_if here)
      | false ↦ λ past there. omega (arith, sum_by-cons (is_it number) n numbers, among number numbers there)
    ] refl there

counted_among : (number : ℕ) (numbers : List ℕ) → 1 ≤ times number numbers → is_among numbers number ≡ true
counted_among number [] some = absurd (omega (arith, some))
counted_among number (n ∷ numbers) some =
    elim (n == number) as (λ b. (n == number) ≡ b → (b || is_among numbers number) ≡ true) [
      | true ↦ λ here. refl
      | false ↦ λ past. counted_among number numbers
          (omega (arith, some, sum_by-cons (is_it number) n numbers, ap one_if past))
    ] refl

-- A seat's entries of an owner.
record HasSome (owner : ℕ) (entries : List Entry) : Type 0 where
  chunks : List Chunk
  entry : Has entries owner chunks

has_some : (owner : ℕ) (entries : List Entry) → 1 ≤ entries_of owner entries → HasSome owner entries
has_some owner [] some = absurd (omega (arith, some))
has_some owner (entry ∷ entries) some =
    elim (cases_eq entry.0 owner) [
      | inl here ↦ record { chunks = entry.1; entry = inl (ap (λ (n : ℕ). (n, entry.1)) here) }
      | inr past ↦ let rest = has_some owner entries (later (entry.0 == owner) (ne_eqb entry.0 owner past) some) in
          record { chunks = rest.chunks; entry = inr rest.entry }
    ]
  where
    later : (b : Bool) → b ≡ false → 1 ≤ entry_if b + entries_of owner entries → 1 ≤ entries_of owner entries
    later true e some = absurd (cc)
    later false e some = omega (arith, some)

-- One share: its seat has as many entries of an owner as it has accounts of it, or more.
owner_served : (seat : SeatView) (owner : ℕ) (accounts : List AccountState) → AllByRecursion (ServesBy seat) accounts
    → 1 ≤ times owner (map owner_of accounts)
    → 1 ≤ entries_of owner seat.served
owner_served seat owner [] all some = absurd (omega (arith, some))
owner_served seat owner (account ∷ accounts) all some = elim (cases_eq account.owner owner) [
  | inl here ↦ subst (λ (n : ℕ). 1 ≤ entries_of n seat.served) here
      (omega (arith, has_times seat.served account.owner all.0.chunks all.0.entry))
  | inr past ↦ owner_served seat owner accounts all.1
      (omega (
        arith,
        some,
        sum_by-cons (is_it owner) account.owner (map owner_of accounts),
        ap one_if (ne_eqb account.owner owner past),
      ))
]

within_entries : (share : Share) (owner : ℕ) → IsManned share.seat.knows share.loaders
    → times owner (owners_of share.loaders) ≤ entries_of owner share.seat.knows.served
within_entries share owner manned = elim (cases_lt (times owner (owners_of share.loaders)) 1) [
  | inl none ↦ omega (arith, none)
  | inr some ↦
      omega (
        arith,
        manned.distinct owner,
        owner_served share.seat.knows owner (accounts_of share.loaders)
            (recursion_from_All _ (accounts_of share.loaders) manned.served) some,
      )
]

-- Its accounts are served by the pool.
all_serve : (pool : Ledger) (seat : SeatView) (accounts : List AccountState) → AreRecords pool seat.served
    → AllByRecursion (ServesBy seat) accounts → AllByRecursion (Serves pool) accounts
all_serve pool seat [] records all = tt
all_serve pool seat (account ∷ accounts) records all =
    let its = has_record pool seat.served account.owner all.0.chunks records all.0.entry in (
      record {
        some = its.some;
        given = its.given;
        chunks = subst (λ (l : List Chunk). IsPermutation l account.chunks) (sym its.chunks_are) all.0.same;
      },
      all_serve pool seat accounts records all.1,
    )

-- What each share has, by its seat and its loaders.
record IsSeated (pool : Ledger) (share : Share) : Type 0 where
  manned : IsManned share.seat.knows share.loaders
  records : AreRecords pool share.seat.knows.served

both_facts : (pool : Ledger) (shares : List Share)
    → AllByRecursion IsMannedShare shares
    → AllByRecursion (λ (share : Share). AreRecords pool share.seat.knows.served) shares
    → AllByRecursion (IsSeated pool) shares
both_facts pool [] manned records = tt
both_facts pool (share ∷ shares) manned records =
    (record { manned = manned.0; records = records.0 }, both_facts pool shares manned.1 records.1)

module _ {P Q : Share → Type 0} (weaker : (share : Share) → P share → Q share) where
  each : (shares : List Share) → AllByRecursion P shares → AllByRecursion Q shares
  each [] all = tt
  each (share ∷ shares) all = (weaker share all.0, each shares all.1)

-- An owner that holds a chunk is among the owners of the share that serves it.
abbrev owners_in : ℕ → Share → ℕ
owners_in owner share = times owner (owners_of share.loaders)

abbrev entries_in : ℕ → Share → ℕ
entries_in owner share = entries_of owner share.seat.knows.served

holder_here : (pool : Ledger) (owner : ℕ) (share : Share) → IsSeated pool share → (chunks_of pool owner ≡ [] → ⊥)
    → 1 ≤ entries_in owner share → 1 ≤ owners_in owner share
holder_here pool owner share ours holds some =
    let its = has_some owner share.seat.knows.served some in
    let is = has_record pool share.seat.knows.served owner its.chunks ours.records its.entry in
    elim (ours.manned.no_other owner its.chunks its.entry) [
      | inl none ↦ absurd (holds (is.chunks_are ∙ none))
      | inr there ↦ among owner (owners_of share.loaders) there
    ]

holder_there : (pool : Ledger) (owner : ℕ) → (chunks_of pool owner ≡ [] → ⊥) → (shares : List Share)
    → AllByRecursion (IsSeated pool) shares
    → 1 ≤ sum_by (entries_in owner) shares → 1 ≤ sum_by (owners_in owner) shares
holder_there pool owner holds [] all some = absurd (omega (arith, some))
holder_there pool owner holds (share ∷ shares) all some = elim (cases_lt (entries_in owner share) 1) [
  | inl none ↦
      omega (
        arith,
        sum_by-cons (owners_in owner) share shares,
        holder_there pool owner holds shares all.1
            (omega (arith, some, none, sum_by-cons (entries_in owner) share shares)),
      )
  | inr here ↦ omega (arith, sum_by-cons (owners_in owner) share shares, holder_here pool owner share all.0 holds here)
]

owner_holds : (owner : ℕ) (before after : List Loan) (loan : Loan) → loan.owner ≡ owner
    → map chunk_of (filter (is_owned_by owner) (before ++ loan ∷ after)) ≡ [] → ⊥
owner_holds owner [] after loan same none =
    let own = filter (is_owned_by owner) after in
    absurd (let first = ap (λ b. map chunk_of (cond b (loan ∷ own) own)) (eq-eqb loan.owner owner same) in
    let e = sym first ∙ none in cc)
owner_holds owner (one ∷ before) after loan same none =
    let own = filter (is_owned_by owner) (before ++ loan ∷ after) in
    elim (one.owner == owner) as (λ b. map chunk_of (cond b (one ∷ own) own) ≡ [] → ⊥) [
      | true ↦ λ none. absurd (cc)
      | false ↦ λ none. owner_holds owner before after loan same none
    ] none

given_once : (owner given : ℕ) → 1 ≤ owner → owner ≤ given → once_given owner given ≡ 1
given_once owner given low up = rw (le-leb 1 owner low) (rw (le-leb owner given up) refl)

-- Loaders are sound by their entries, as by their values.
abbrev IsSoundEntry : ℕ × LoaderView → Type 0
IsSoundEntry entry = IsSoundView entry.1

values_all : (loaders : Loaders) → AllByRecursion IsSoundView (values_of loaders) → AllByRecursion IsSoundEntry loaders
values_all [] all = tt
values_all (entry ∷ loaders) all = (all.0, values_all loaders all.1)

module _ (pool : Ledger) (shares : List Share) (loaders : Loaders) (sound : IsSoundLedger pool)
    (gathers : Gathers (map seat_of shares) pool)
    (all_manned : All IsMannedShare shares)
    (joined : AreJoined [] shares loaders) where
  manned : AllByRecursion IsMannedShare shares
  manned = recursion_from_All _ shares all_manned

  ours : AllByRecursion (IsSeated pool) shares
  ours = both_facts pool shares manned
      (all_seats (λ (seat : SeatState). AreRecords pool seat.knows.served) shares
      (recursion_from_All _ (map seat_of shares) gathers.served))

  all_sum : (f : ℕ × LoaderView → ℕ) → sum_by f loaders ≡ sum_by (λ (share : Share). sum_by f share.loaders) shares
  all_sum f = joined_sum f [] shares loaders joined ∙ zero-add _

  -- The owners of all loaders.
  all_owners : (owner : ℕ) → times owner (owners_of loaders) ≡ sum_by (owners_in owner) shares
  all_owners owner = owned_sum owner loaders ∙ all_sum (owned owner)
      ∙ sym (sums_same (owners_in owner) (λ (share : Share). sum_by (owned owner) share.loaders) shares
      (each (λ share its. owned_sum owner share.loaders) shares ours))

  all_entries : (owner : ℕ) → sum_by (entries_in owner) shares ≡ once_given owner pool.given
  all_entries owner = sym (seats_sum (λ (seat : SeatState). entries_of owner seat.knows.served) shares)
      ∙ gathers.once owner

  distinct : (owner : ℕ) → times owner (owners_of loaders) ≤ 1
  distinct owner = omega (
    arith,
    all_owners owner,
    sums_le (owners_in owner) (entries_in owner) shares
        (each (λ share its. within_entries share owner its.manned) shares ours),
    all_entries owner,
    once_given-le owner pool.given,
  )

  -- Each account is served.
  served : AllByRecursion (Serves pool) (accounts_of loaders)
  served = by_account (Serves pool) loaders
      (recursion_from_All _ loaders
      (joined_all (OfBoth (Serves pool)) [] shares loaders joined (All-nil (OfBoth (Serves pool)))
      (each (λ share its. All-from_recursion _ share.loaders (by_loader (Serves pool) share.loaders
      (all_serve pool share.seat.knows (accounts_of share.loaders) its.records
      (recursion_from_All _ (accounts_of share.loaders) its.manned.served)))) shares ours)))

  -- As many accounts are open in each space as there are loaders.
  pub as_many : (space : Space) → opened_in pool space ≡ length loaders
  as_many space = gathers.opened space ∙ seats_sum (λ (seat : SeatState). opened_by seat.knows space) shares
      ∙ sums_same (λ (share : Share). opened_by share.seat.knows space) (λ (share : Share). sum_by one_each share.loaders)
      shares
      (each (λ share its. its.manned.opened space ∙ sym (ones share.loaders)) shares ours)
      ∙ sym (all_sum one_each) ∙ ones loaders

  -- No other owner has a loan.
  no_others : (before rest : List Loan) → before ++ rest ≡ pool.loans
      → AllByRecursion (λ (loan : Loan). (1 ≤ loan.owner) × (loan.owner ≤ pool.given)) rest
      → AllByRecursion (λ (loan : Loan). is_among (owners_of loaders) loan.owner ≡ true) rest
  no_others before [] is all = tt
  no_others before (loan ∷ rest) is all = (
    counted_among loan.owner (owners_of loaders) (omega (
      arith,
      all_owners loan.owner,
      holder_there pool loan.owner
          (λ none. owner_holds loan.owner before rest loan refl
          (ap (λ (l : List Loan). map chunk_of (filter (is_owned_by loan.owner) l)) is ∙ none)) shares ours
          (omega (arith, all_entries loan.owner, given_once loan.owner pool.given all.0.0 all.0.1)),
    )),
    no_others (before ++ loan ∷ []) rest (append_assoc before (loan ∷ []) rest ∙ is) all.1,
  )

  -- So pool and loaders belong together.
  pub are_together : AreNamed loaders → AreTogether pool loaders
  are_together names = record {
    ledger_sound = sound;
    loaders_sound =
        All-map IsSoundView (λ (entry : ℕ × LoaderView). entry.1) loaders
        (joined_all IsSoundEntry [] shares loaders joined (All-nil IsSoundEntry)
        (each (λ share its. All-from_recursion IsSoundEntry share.loaders
        (values_all share.loaders (recursion_from_All IsSoundView (values_of share.loaders) its.manned.sound))) shares
        ours));
    names = names;
    served = record {
      served = All-from_recursion (Serves pool) (accounts_of loaders) served;
      distinct = distinct;
      no_other = All-from_recursion _ pool.loans (no_others [] pool.loans refl (recursion_from_All _ pool.loans sound.owners));
      opened = as_many NonClass;
      class_opened = as_many Class;
    };
  }
