-- Whose a word is, from its owner: the loans of the word's owner have it, and so has the account of
-- that number, which is one of a loader's. `System::holder` uses these.
use Rattle.std.proofs.Common.{◌≡◌, ◌&&◌, ℕ, Bool, true, false, cond, Some, None, List, [], ◌∷◌, map, refl, sym, ap, ◌∙◌}
use Rattle.std.proofs.Common.{inl, inr, subst}
use Rattle.std.specs.Prelude.{◌==◌, ◌||◌, IsTrue, IfSome, IfNone, Option}
use Rattle.std.specs.List.{AllByRecursion, list_any, filter, find}
use Rattle.std.specs.Option.{option_map}
use Rattle.std.proofs.lemmas.Bool.{and_parts, and_from, or_cases, or_left, or_right, or_from, both_ways, eqb-true, eq-eqb}
use Rattle.std.proofs.lemmas.List.Folds.{list_any-append}
use Rattle.std.proofs.lemmas.List.Sorted.{list_any-IsPermutation}
use Rattle.ms_base.specs.declared.span.Chunk.{Chunk}
use Rattle.ms_base.specs.declared.kind.Space.TheVariants.{NonClass, Class}
use Rattle.ms_base.specs.Committed.{is_among}
use Rattle.ms_base.specs.Names.{named}
use Rattle.ms_base.proofs.entries.EntryLemmas.{split_at}
use Rattle.ms_pool.specs.Account.{AccountState}
use Rattle.ms_pool.specs.Ledger.{Loan, Ledger, Serves, chunks_of, is_owned_by}
use Rattle.ms_pool.specs.Owners.{is_in_chunk, is_in_loan, owner_at}
use Rattle.ms_pool.proofs.ledger.LoanLemmas.{owned_by}
use Rattle.ms_loaders.specs.Holder.{has_owner, holds_word, is_holder, is_owner}
use Rattle.ms_loader.specs.Loader.{LoaderView, account_in}
use Rattle.ms_loaders.specs.System.{accounts_of, owners_of, states_of}

-- A loan of the word's owner has the word; where it has no owner no loan has it.
loan_has : (loans : List Loan) (word owner : ℕ) → owner_at loans word ≡ Some owner
    → list_any (is_in_chunk word) (owned_by owner loans) ≡ true
loan_has [] word owner e = absurd (cc)
loan_has (loan ∷ loans) word owner e = go (is_in_loan word loan) refl e (loan_has loans word owner)
  where
    own : List Loan
    own = filter (is_owned_by owner) loans

    chunk_of : Loan → Chunk
    chunk_of one = one.chunk

    go : (b : Bool) → is_in_loan word loan ≡ b
        → option_map (λ (one : Loan). one.owner) (cond b (Some loan) (find (is_in_loan word) loans)) ≡ Some owner
        → (owner_at loans word ≡ Some owner → list_any (is_in_chunk word) (owned_by owner loans) ≡ true)
        → list_any (is_in_chunk word) (owned_by owner (loan ∷ loans)) ≡ true
    go true h e later = let same : loan.owner ≡ owner = cc in
        ap (λ (b : Bool). list_any (is_in_chunk word) (map chunk_of (cond b (loan ∷ own) own)))
        (eq-eqb loan.owner owner same)
        ∙ or_left (is_in_chunk word loan.chunk) (list_any (is_in_chunk word) (map chunk_of own)) h
    go false h e later = elim (loan.owner == owner) as (λ b. list_any (is_in_chunk word)
        (map chunk_of (cond b (loan ∷ own) own)) ≡ true) [
          | true ↦ or_right (is_in_chunk word loan.chunk) (list_any (is_in_chunk word) (map chunk_of own)) (later e)
          | false ↦ later e
        ]

none_has : (loans : List Loan) (word owner : ℕ) → owner_at loans word ≡ None
    → list_any (is_in_chunk word) (owned_by owner loans) ≡ false
none_has [] word owner e = refl
none_has (loan ∷ loans) word owner e = go (is_in_loan word loan) refl e (none_has loans word owner)
  where
    own : List Loan
    own = filter (is_owned_by owner) loans

    chunk_of : Loan → Chunk
    chunk_of one = one.chunk

    go : (b : Bool) → is_in_loan word loan ≡ b
        → option_map (λ (one : Loan). one.owner) (cond b (Some loan) (find (is_in_loan word) loans)) ≡ None
        → (owner_at loans word ≡ None → list_any (is_in_chunk word) (owned_by owner loans) ≡ false)
        → list_any (is_in_chunk word) (owned_by owner (loan ∷ loans)) ≡ false
    go true h e later = absurd (cc)
    go false h e later = elim (loan.owner == owner) as (λ b. list_any (is_in_chunk word)
        (map chunk_of (cond b (loan ∷ own) own)) ≡ false) [
          | true ↦ or_from (is_in_chunk word loan.chunk) (list_any (is_in_chunk word) (map chunk_of own)) h (later e)
          | false ↦ later e
        ]

-- What is true of all owners of loans is true of the word's.
owner_known : (P : ℕ → Type 0) (loans : List Loan) (word owner : ℕ) → AllByRecursion (λ (loan : Loan). P loan.owner) loans
    → owner_at loans word ≡ Some owner → P owner
owner_known P [] word owner all e = absurd (cc)
owner_known P (loan ∷ loans) word owner all e = go (is_in_loan word loan) e (owner_known P loans word owner all.1)
  where
    go : (b : Bool) → option_map (λ (one : Loan). one.owner) (cond b (Some loan) (find (is_in_loan word) loans)) ≡ Some owner
        → (owner_at loans word ≡ Some owner → P owner) → P owner
    go true e later = let same : loan.owner ≡ owner = cc in subst P same all.0
    go false e later = later e

-- An account has what the loans of its owner have.
account_has : (ledger : Ledger) (account : AccountState) (word : ℕ) → Serves ledger account
    → list_any (is_in_chunk word) account.chunks ≡ list_any (is_in_chunk word) (chunks_of ledger account.owner)
account_has ledger account word served =
    sym (list_any-IsPermutation (is_in_chunk word) (chunks_of ledger account.owner) account.chunks served.chunks)

module _ (ledger : Ledger) (word : ℕ) where
  -- A loader with an account of the word's owner holds it.
  view_holds : (loader : LoaderView) (owner : ℕ) → Serves ledger (account_in NonClass loader)
      → Serves ledger (account_in Class loader) → list_any (is_in_chunk word) (chunks_of ledger owner) ≡ true
      → is_owner owner loader ≡ true → holds_word word loader.state ≡ true
  view_holds loader owner served class_served has its =
      elim (or_cases (loader.owner == owner) (loader.class_owner == owner) its) [
        | inl here ↦ or_left (list_any (is_in_chunk word) loader.state.arena.chunks)
            (list_any (is_in_chunk word) loader.state.class_arena.chunks)
            (account_has ledger (account_in NonClass loader) word served
            ∙ ap (λ (n : ℕ). list_any (is_in_chunk word) (chunks_of ledger n)) (eqb-true loader.owner owner here) ∙ has)
        | inr here ↦ or_right (list_any (is_in_chunk word) loader.state.arena.chunks)
            (list_any (is_in_chunk word) loader.state.class_arena.chunks)
            (account_has ledger (account_in Class loader) word class_served
            ∙ ap (λ (n : ℕ). list_any (is_in_chunk word) (chunks_of ledger n)) (eqb-true loader.class_owner owner here)
            ∙ has)
      ]

  owner_holds : (loaders : List (ℕ × LoaderView)) (name owner : ℕ)
      → AllByRecursion (Serves ledger) (accounts_of loaders)
      → list_any (is_in_chunk word) (chunks_of ledger owner) ≡ true
      → list_any (has_owner name owner) loaders ≡ true
      → list_any (is_holder name word) (states_of loaders) ≡ true
  owner_holds [] name owner served has found = absurd (cc)
  owner_holds (e ∷ es) name owner served has found =
      elim (or_cases (has_owner name owner e) (list_any (has_owner name owner) es) found) [
        | inl here ↦
            let parts = and_parts (e.0 == name) (is_owner owner e.1) here in
            or_left (is_holder name word (e.0, e.1.state)) (list_any (is_holder name word) (states_of es))
            (and_from (e.0 == name) (holds_word word e.1.state) parts.0
            (view_holds e.1 owner served.0 served.1.0 has parts.1))
        | inr later ↦ or_right (is_holder name word (e.0, e.1.state)) (list_any (is_holder name word) (states_of es))
            (owner_holds es name owner served.1.1 has later)
      ]

  -- Where the word has no owner no loader holds it.
  pub none_holds : (loaders : List (ℕ × LoaderView)) (name : ℕ) → AllByRecursion (Serves ledger) (accounts_of loaders)
      → owner_at ledger.loans word ≡ None → list_any (is_holder name word) (states_of loaders) ≡ false
  none_holds [] name served none = refl
  none_holds (e ∷ es) name served none =
      or_from (is_holder name word (e.0, e.1.state)) (list_any (is_holder name word) (states_of es))
      (neither (e.0 == name) (holds_word word e.1.state)
      (or_from (list_any (is_in_chunk word) e.1.state.arena.chunks)
      (list_any (is_in_chunk word) e.1.state.class_arena.chunks)
      (account_has ledger (account_in NonClass e.1) word served.0 ∙ none_has ledger.loans word e.1.owner none)
      (account_has ledger (account_in Class e.1) word served.1.0 ∙ none_has ledger.loans word e.1.class_owner none)))
      (none_holds es name served.1.1 none)
    where
      neither : (a b : Bool) → b ≡ false → (a && b) ≡ false
      neither true b h = h
      neither false b h = refl

  -- The loader with an account of the word's owner is its holder.
  pub owners_loader_holds : (loaders : List (ℕ × LoaderView)) (name owner : ℕ)
      → AllByRecursion (Serves ledger) (accounts_of loaders) → owner_at ledger.loans word ≡ Some owner
      → list_any (has_owner name owner) loaders ≡ true → list_any (is_holder name word) (states_of loaders) ≡ true
  owners_loader_holds loaders name owner served e found =
      owner_holds loaders name owner served (loan_has ledger.loans word owner e) found

-- An owner among those of the loaders is one's.
owner_named : (loaders : List (ℕ × LoaderView)) (owner : ℕ) → is_among (owners_of loaders) owner ≡ true
    → (name : ℕ) × (list_any (has_owner name owner) loaders ≡ true)
owner_named [] owner among = absurd (cc)
owner_named (e ∷ es) owner among =
    elim (or_cases (e.1.owner == owner) (is_among (e.1.class_owner ∷ owners_of es) owner) among) [
      | inl its ↦ (e.0, here (or_left (e.1.owner == owner) (e.1.class_owner == owner) its))
      | inr rest ↦ elim (or_cases (e.1.class_owner == owner) (is_among (owners_of es) owner) rest) [
        | inl its ↦ (e.0, here (or_right (e.1.owner == owner) (e.1.class_owner == owner) its))
        | inr later ↦ let there = owner_named es owner later in
            (there.0, or_right (has_owner there.0 owner e) (list_any (has_owner there.0 owner) es) there.1)
      ]
    ]
  where
    here : is_owner owner e.1 ≡ true → list_any (has_owner e.0 owner) (e ∷ es) ≡ true
    here its = or_left (has_owner e.0 owner e) (list_any (has_owner e.0 owner) es)
        (and_from (e.0 == e.0) (is_owner owner e.1) (eq-eqb e.0 e.0 refl) its)

-- So a word's owner is a loader's.
pub owner_is_a_loaders : (ledger : Ledger) (loaders : List (ℕ × LoaderView)) (word owner : ℕ)
    → AllByRecursion (λ (loan : Loan). IsTrue (is_among (owners_of loaders) loan.owner)) ledger.loans
    → owner_at ledger.loans word ≡ Some owner → ((name : ℕ) → list_any (has_owner name owner) loaders ≡ false) → ⊥
owner_is_a_loaders ledger loaders word owner no_other e none =
    let known = owner_known (λ (n : ℕ). IsTrue (is_among (owners_of loaders) n)) ledger.loans word owner no_other e in
    let named = owner_named loaders owner known in
    both_ways (list_any (has_owner named.0 owner) loaders) (none named.0) named.1

-- The loader that has a name is among those with an account of a number, where it has one.
pub looked_up : (loaders : List (ℕ × LoaderView)) (name owner : ℕ) (loader : LoaderView)
    → named loaders name ≡ Some loader → is_owner owner loader ≡ true → list_any (has_owner name owner) loaders ≡ true
looked_up loaders name owner loader found its =
    let split = split_at loaders name loader found in
    let after = list_any (has_owner name owner) split.after in
    ap (list_any (has_owner name owner)) split.is
    ∙ list_any-append (has_owner name owner) split.before ((name, loader) ∷ split.after)
    ∙ or_right (list_any (has_owner name owner) split.before) (has_owner name owner (name, loader) || after)
    (or_left (has_owner name owner (name, loader)) after
    (and_from (name == name) (is_owner owner loader) (eq-eqb name name refl) its))

-- What a look for the owner's loader finds, or not, is the holder.
pub holder_told : (ledger : Ledger) (loaders : List (ℕ × LoaderView)) (word owner : ℕ) (found : Option ℕ)
    → AllByRecursion (Serves ledger) (accounts_of loaders)
    → AllByRecursion (λ (loan : Loan). IsTrue (is_among (owners_of loaders) loan.owner)) ledger.loans
    → owner_at ledger.loans word ≡ Some owner
    → IfSome found (λ name. list_any (has_owner name owner) loaders ≡ true)
    → IfNone found ((name : ℕ) → list_any (has_owner name owner) loaders ≡ false)
    → IfSome found (λ name. list_any (is_holder name word) (states_of loaders) ≡ true)
    × IfNone found ((name : ℕ) → list_any (is_holder name word) (states_of loaders) ≡ false)
holder_told ledger loaders word owner (Some name) served no_other e some none =
    (owners_loader_holds ledger word loaders name owner served e some, tt)
holder_told ledger loaders word owner None served no_other e some none =
    (tt, absurd (owner_is_a_loaders ledger loaders word owner no_other e none))

pub only_told : (loaders : List (ℕ × LoaderView)) (word : ℕ) (found : Option ℕ)
    → IfSome found (λ name. list_any (is_holder name word) (states_of loaders) ≡ true)
    → ((name other : ℕ) → list_any (is_holder name word) (states_of loaders) ≡ true
    → list_any (is_holder other word) (states_of loaders) ≡ true → other ≡ name)
    → IfSome found (λ name. (other : ℕ) → list_any (is_holder other word) (states_of loaders) ≡ true → other ≡ name)
only_told loaders word (Some name) held one = λ other too. one name other held too
only_told loaders word None held one = tt
