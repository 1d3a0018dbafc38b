-- The chunks that the pool has lent are those that the loaders hold, in another order; so the
-- machine that a pool and its loaders are is good, and its granules are the pool's.
use Rattle.std.proofs.Common.{◌≡◌, ℕ, Bool, true, false, cond, not, ◌&&◌, ◌||◌, List, [], ◌∷◌, ◌++◌, map, ◌-◌}
use Rattle.std.proofs.Common.{refl, sym, ap, ◌∙◌, subst, inl, inr, arith, append-nil}
use Rattle.std.specs.Prelude.{◌==◌}
use Rattle.std.specs.List.{All, AllByRecursion, filter, flat_map}
use Rattle.std.specs.List.Sorted.{IsPermutation}
use Rattle.std.specs.Map.{values_of}
use Rattle.std.proofs.lemmas.Bool.{and_parts, and_from, or_cases, eqb-true, eq-eqb, both_ways}
use Rattle.std.proofs.lemmas.Nat.{pow_pos}
use Rattle.std.proofs.lemmas.List.{map-append, append_assoc}
use Rattle.std.proofs.lemmas.List.Elements.{filter-append, recursion_from_All, All-from_recursion}
use Rattle.std.proofs.lemmas.List.Sorted.{IsPermutation-refl, IsPermutation-trans, IsPermutation-append}
use Rattle.std.proofs.lemmas.List.Sorted.{IsPermutation-filter_both, IsPermutation-map}
use Rattle.ms_base.specs.declared.kind.Space.{Space}
use Rattle.ms_base.specs.declared.kind.Space.TheVariants.{NonClass, Class}
use Rattle.ms_base.specs.declared.span.Chunk.{Chunk}
use Rattle.ms_base.specs.Part.{IsPart, slot_of}
use Rattle.ms_base.specs.Spaces.{IsSlotOf, is_in}
use Rattle.ms_base.specs.Committed.{is_among}
use Rattle.ms_base.specs.State.{arena_of, chunks_held, pool_of, committed_now, recommitted as machine_recommitted}
use Rattle.ms_base.specs.Good.{IsSoundLoader, IsGood}
use Rattle.ms_base.proofs.free.AlikeLemmas.{permuted_are_alike}
use Rattle.ms_base.proofs.free.OrderLemmas.{sound_permuted, committed_alike}
use Rattle.ms_base.proofs.arena.BlockLemmas.{not_in_other}
use Rattle.ms_pool.specs.Account.{AccountState}
use Rattle.ms_pool.specs.Ledger.{Loan, Ledger, Serves, held_in, is_owned_by, state_in, recommitted}
use Rattle.ms_loader.specs.Loader.{LoaderView, IsSoundView}
use Rattle.ms_loaders.specs.System.{states_of, accounts_of, owners_of, machine_of, AreDistinct, AreServed, AreTogether}
use Rattle.ms_loaders.proofs.TimesLemmas.{Tells, kept-permuted}
use Rattle.ms_loader.proofs.MappedLemmas.{rises-mapped}
use Rattle.ms_loader.proofs.calls.LoaderSpaceLemmas.{chunk_in_space}
use Rattle.ms_loaders.proofs.sums.OwnedLoanLemmas.{chunk_of, owned, others, owned_elsewhere, distinct_rest, not_again}

-- The test that tells chunks.
abbrev same_chunk : Chunk → Chunk → Bool
same_chunk a b = (a.start == b.start) && ((a.level == b.level) && (a.front == b.front))

equal_chunks : (a b : Chunk) → a.start ≡ b.start → a.level ≡ b.level → a.front ≡ b.front → a ≡ b
equal_chunks a b s l f =
    let first : a ≡ record { start = b.start; level = a.level; front = a.front } =
    ap (λ (n : ℕ). record { start = n; level = a.level; front = a.front }) s in
    let second : a ≡ record { start = b.start; level = b.level; front = a.front } =
    first ∙ ap (λ (n : ℕ). record { start = b.start; level = n; front = a.front }) l in
    second ∙ ap (λ (n : ℕ). record { start = b.start; level = b.level; front = n }) f

tells_chunks : Tells same_chunk
tells_chunks = record {
  equal = λ a b e.
      let first = and_parts (a.start == b.start) ((a.level == b.level) && (a.front == b.front)) e in
      let rest = and_parts (a.level == b.level) (a.front == b.front) first.1 in
      equal_chunks a b (eqb-true a.start b.start first.0) (eqb-true a.level b.level rest.0)
      (eqb-true a.front b.front rest.1);
  itself = λ a. and_from (a.start == a.start) ((a.level == a.level) && (a.front == a.front))
      (eq-eqb a.start a.start refl)
      (and_from (a.level == a.level) (a.front == a.front) (eq-eqb a.level a.level refl) (eq-eqb a.front a.front refl));
}

-- The loans of accounts whose owners differ are those accounts' chunks, where no other owner has
-- one.
abbrev pub HasOwner : List ℕ → Loan → Type 0
HasOwner owners loan = is_among owners loan.owner ≡ true

abbrev pub owner_of : AccountState → ℕ
owner_of account = account.owner

rest_have : (owner : ℕ) (owners : List ℕ) (loans : List Loan) → AllByRecursion (HasOwner (owner ∷ owners)) loans
    → AllByRecursion (HasOwner owners) (others owner loans)
rest_have owner owners [] all = tt
rest_have owner owners (loan ∷ loans) all =
    elim (loan.owner == owner) as (λ b. (loan.owner == owner) ≡ b
    → AllByRecursion (HasOwner owners) (cond (not b) (loan ∷ others owner loans) (others owner loans))) [
      | true ↦ λ same. rest_have owner owners loans all.1
      | false ↦ λ past. (
        elim (or_cases (owner == loan.owner) (is_among owners loan.owner) all.0) [
          | inl here ↦
              absurd (both_ways (loan.owner == owner) past
              (eq-eqb loan.owner owner (sym (eqb-true owner loan.owner here))))
          | inr there ↦ there
        ],
        rest_have owner owners loans all.1,
      )
    ] refl

rest_served : (owner : ℕ) (accounts : List AccountState) (loans : List Loan)
    → is_among (map owner_of accounts) owner ≡ false
    → AllByRecursion (λ (account : AccountState). IsPermutation (owned account.owner loans) account.chunks) accounts
    → AllByRecursion
    (λ (account : AccountState). IsPermutation (owned account.owner (others owner loans)) account.chunks) accounts
rest_served owner [] loans none all = tt
rest_served owner (account ∷ accounts) loans none all =
    elim (account.owner == owner) as (λ b. (account.owner == owner) ≡ b
    → (b || is_among (map owner_of accounts) owner) ≡ false
    → IsPermutation (owned account.owner (others owner loans)) account.chunks
    × AllByRecursion (λ (one : AccountState). IsPermutation (owned one.owner (others owner loans)) one.chunks)
    accounts) [
      | true ↦ λ same none. absurd (cc)
      | false ↦ λ past none. (
        subst (λ (l : List Chunk). IsPermutation l account.chunks)
            (sym (owned_elsewhere account.owner owner loans
            (λ e. both_ways (account.owner == owner) past (eq-eqb account.owner owner e)))) all.0,
        rest_served owner accounts loans none all.1,
      )
    ] refl none

abbrev chunks_in : List AccountState → List Chunk
chunks_in accounts = flat_map (λ (account : AccountState). account.chunks) accounts

loans_are : (accounts : List AccountState) (loans : List Loan) → AllByRecursion (HasOwner (map owner_of accounts)) loans
    → AreDistinct (map owner_of accounts)
    → AllByRecursion (λ (account : AccountState). IsPermutation (owned account.owner loans) account.chunks) accounts
    → IsPermutation (map chunk_of loans) (chunks_in accounts)
loans_are [] [] have distinct served = IsPermutation-refl []
loans_are [] (loan ∷ loans) have distinct served = absurd (let e = have.0 in cc)
loans_are (account ∷ accounts) loans have distinct served =
    IsPermutation-trans (map chunk_of loans) (owned account.owner loans ++ map chunk_of (others account.owner loans))
    (account.chunks ++ chunks_in accounts)
    (subst (IsPermutation (map chunk_of loans))
    (map-append chunk_of (filter (is_owned_by account.owner) loans) (others account.owner loans))
    (IsPermutation-map chunk_of loans (filter (is_owned_by account.owner) loans ++ others account.owner loans)
    (IsPermutation-filter_both (is_owned_by account.owner) (λ loan. not (is_owned_by account.owner loan))
    (λ loan. refl) loans)))
    (IsPermutation-append (owned account.owner loans) account.chunks (map chunk_of (others account.owner loans))
    (chunks_in accounts) served.0
    (loans_are accounts (others account.owner loans) (rest_have account.owner (map owner_of accounts) loans have)
    (distinct_rest account.owner (map owner_of accounts) distinct)
    (rest_served account.owner accounts loans (not_again account.owner (map owner_of accounts) distinct) served.1)))

-- Of a loader's chunks those of a space are those of its arena there.
all_kept : (p : Chunk → Bool) (chunks : List Chunk) → AllByRecursion (λ chunk. p chunk ≡ true) chunks
    → filter p chunks ≡ chunks
all_kept p [] all = refl
all_kept p (c ∷ chunks) all = ap (λ b. cond b (c ∷ filter p chunks) (filter p chunks)) all.0
    ∙ ap (λ (l : List Chunk). c ∷ l) (all_kept p chunks all.1)

none_kept : (p : Chunk → Bool) (chunks : List Chunk) → AllByRecursion (λ chunk. p chunk ≡ false) chunks
    → filter p chunks ≡ []
none_kept p [] all = refl
none_kept p (c ∷ chunks) all = ap (λ b. cond b (c ∷ filter p chunks) (filter p chunks)) all.0 ∙ none_kept p chunks all.1

abbrev lies_there : Space → Chunk → Bool
lies_there space chunk = is_in space chunk.start

they_lie : (space : Space) (chunks : List Chunk)
    → AllByRecursion (λ (chunk : Chunk). IsPart chunk.start chunk.level) chunks
    → AllByRecursion (λ (chunk : Chunk). IsSlotOf space (slot_of chunk.start)) chunks
    → AllByRecursion (λ chunk. lies_there space chunk ≡ true) chunks
they_lie space [] parts slots = tt
they_lie space (c ∷ chunks) parts slots = (
  chunk_in_space space c c.start parts.0 slots.0 (omega arith) (omega (arith, pow_pos (19 - c.level))),
  they_lie space chunks parts.1 slots.1,
)

not_there : (one other : Space) (chunks : List Chunk) → ((word : ℕ) → is_in one word ≡ true → is_in other word ≡ false)
    → AllByRecursion (λ chunk. lies_there one chunk ≡ true) chunks
    → AllByRecursion (λ chunk. lies_there other chunk ≡ false) chunks
not_there one other [] apart all = tt
not_there one other (c ∷ chunks) apart all = (apart c.start all.0, not_there one other chunks apart all.1)

of_space : (space : Space) (loader : LoaderView) → IsSoundView loader
    → filter (lies_there space) loader.state.arena.chunks ++ filter (lies_there space) loader.state.class_arena.chunks
    ≡ (arena_of space loader.state).chunks
of_space space loader sound = go space
  where
    lie : (one : Space) → AllByRecursion (λ chunk. lies_there one chunk ≡ true) (arena_of one loader.state).chunks
    lie one =
        they_lie one (arena_of one loader.state).chunks
        (recursion_from_All _ (arena_of one loader.state).chunks (sound.chunks one).parts)
        (recursion_from_All _ (arena_of one loader.state).chunks (sound.chunks one).inside)

    go : (one : Space)
        → filter (lies_there one) loader.state.arena.chunks ++ filter (lies_there one) loader.state.class_arena.chunks
        ≡ (arena_of one loader.state).chunks
    go NonClass =
        ap (λ (l : List Chunk). l ++ filter (lies_there NonClass) loader.state.class_arena.chunks)
        (all_kept (lies_there NonClass) loader.state.arena.chunks (lie NonClass))
        ∙ ap (λ (l : List Chunk). loader.state.arena.chunks ++ l)
        (none_kept (lies_there NonClass) loader.state.class_arena.chunks
        (not_there Class NonClass loader.state.class_arena.chunks (not_in_other Class) (lie Class)))
        ∙ append-nil loader.state.arena.chunks
    go Class =
        ap (λ (l : List Chunk). l ++ filter (lies_there Class) loader.state.class_arena.chunks)
        (none_kept (lies_there Class) loader.state.arena.chunks
        (not_there NonClass Class loader.state.arena.chunks (not_in_other NonClass) (lie NonClass)))
        ∙ all_kept (lies_there Class) loader.state.class_arena.chunks (lie Class)

held_by_loaders : (space : Space) (loaders : List (ℕ × LoaderView)) → AllByRecursion IsSoundView (values_of loaders)
    → filter (lies_there space) (chunks_in (accounts_of loaders)) ≡ chunks_held space (states_of loaders)
held_by_loaders space [] all = refl
held_by_loaders space (e ∷ es) all =
    let own = e.1.state.arena.chunks in
    let its = e.1.state.class_arena.chunks in
    filter-append (lies_there space) own (its ++ chunks_in (accounts_of es))
    ∙ ap (λ (l : List Chunk). filter (lies_there space) own ++ l)
    (filter-append (lies_there space) its (chunks_in (accounts_of es)))
    ∙ sym (append_assoc (filter (lies_there space) own) (filter (lies_there space) its)
    (filter (lies_there space) (chunks_in (accounts_of es))))
    ∙ ap (λ (l : List Chunk). l ++ filter (lies_there space) (chunks_in (accounts_of es))) (of_space space e.1 all.0)
    ∙ ap (λ (l : List Chunk). (arena_of space e.1.state).chunks ++ l) (held_by_loaders space es all.1)

-- The pool's chunks of a space are the loaders'.
permutations : (ledger : Ledger) (accounts : List AccountState) → AllByRecursion (Serves ledger) accounts
    → AllByRecursion (λ (account : AccountState). IsPermutation (owned account.owner ledger.loans) account.chunks)
    accounts
permutations ledger [] all = tt
permutations ledger (account ∷ accounts) all = (all.0.chunks, permutations ledger accounts all.1)

pub fits : (ledger : Ledger) (loaders : List (ℕ × LoaderView)) → All IsSoundView (values_of loaders)
    → AreServed ledger loaders → (space : Space)
    → IsPermutation (held_in space ledger) (chunks_held space (states_of loaders))
fits ledger loaders sound served space =
    subst (IsPermutation (held_in space ledger))
    (held_by_loaders space loaders (recursion_from_All IsSoundView (values_of loaders) sound))
    (kept-permuted same_chunk tells_chunks (lies_there space) (map chunk_of ledger.loans)
    (chunks_in (accounts_of loaders))
    (loans_are (accounts_of loaders) ledger.loans
    (recursion_from_All (HasOwner (owners_of loaders)) ledger.loans served.no_other) served.distinct
    (permutations ledger (accounts_of loaders)
    (recursion_from_All (Serves ledger) (accounts_of loaders) served.served))))

-- So the machine is good.
states_sound : (loaders : List (ℕ × LoaderView)) → AllByRecursion IsSoundView (values_of loaders)
    → AllByRecursion IsSoundLoader (values_of (states_of loaders))
states_sound [] all = tt
states_sound (e ∷ es) all = (all.0.sound, states_sound es all.1)

pub machine_is_good : (ledger : Ledger) (loaders : List (ℕ × LoaderView)) → AreTogether ledger loaders
    → IsGood (machine_of ledger loaders)
machine_is_good ledger loaders its = record {
  loaders =
      All-from_recursion IsSoundLoader (values_of (states_of loaders))
      (states_sound loaders (recursion_from_All IsSoundView (values_of loaders) its.loaders_sound));
  names = rises-mapped (λ (loader : LoaderView). loader.state) loaders its.names;
  pools = λ space. sound_permuted (state_in space ledger) (chunks_held space (states_of loaders))
      (fits ledger loaders its.loaders_sound its.served space) (its.ledger_sound.spaces space);
  given = its.ledger_sound.given;
}

-- And its granules follow as the pool's do.
pub recommitted_machine : (ledger : Ledger) (loaders : List (ℕ × LoaderView))
    → ((space : Space) → IsPermutation (held_in space ledger) (chunks_held space (states_of loaders)))
    → machine_of (recommitted ledger) loaders ≡ machine_recommitted (machine_of ledger loaders)
recommitted_machine ledger loaders same =
    ap (λ (l : List ℕ). machine_of
    (record ledger { committed = l; class_committed = committed_now (state_in Class ledger) }) loaders)
    (now NonClass)
    ∙ ap (λ (l : List ℕ). machine_of
    (record ledger { committed = committed_now (pool_of NonClass (machine_of ledger loaders)); class_committed = l })
    loaders) (now Class)
  where
    now : (space : Space)
        → committed_now (state_in space ledger) ≡ committed_now (pool_of space (machine_of ledger loaders))
    now space =
        sym (committed_alike (state_in space ledger) (chunks_held space (states_of loaders))
        (permuted_are_alike (held_in space ledger) (chunks_held space (states_of loaders)) (same space)))
