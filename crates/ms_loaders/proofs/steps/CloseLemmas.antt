-- Pool and loaders stay together, and the machine makes its step, where a loader is made, refused
-- for want of memory, or unloaded, and where nodes are purged.
use Rattle.std.proofs.Common.{◌≡◌, ◌≢◌, ◌≤◌, ◌<◌, ◌+◌, ℕ, Bool, true, false, cond, not, ◌||◌, None, List, [], ◌∷◌, ◌++◌}
use Rattle.std.proofs.Common.{map, length, refl, sym, ap, ◌∙◌, subst, inl, inr, arith}
use Rattle.std.specs.Prelude.{◌==◌}
use Rattle.std.specs.Ordering.{nat_cmp}
use Rattle.std.specs.List.{AllByRecursion, filter, flat_map}
use Rattle.std.specs.List.Sorted.{IsPermutation}
use Rattle.std.specs.Map.{values_of}
use Rattle.std.proofs.lemmas.Bool.{eq-eqb, ne_eqb, cases_lt, cases_eq}
use Rattle.std.proofs.lemmas.List.{length-append, map-append}
use Rattle.std.proofs.lemmas.List.Concat.{flat_map-append}
use Rattle.std.proofs.lemmas.List.Sums.{sum_by-append, sum_by-cons}
use Rattle.std.proofs.lemmas.List.Elements.{recursion_from_All, All-from_recursion}
use Rattle.std.proofs.lemmas.List.Sorted.{IsPermutation-refl}
use Rattle.std.proofs.lemmas.Map.Views.{All-values-insert_entry}
use Rattle.ms_base.specs.declared.kind.Kind.{Kind}
use Rattle.ms_base.specs.declared.kind.Space.{Space}
use Rattle.ms_base.specs.declared.kind.Space.TheVariants.{NonClass, Class}
use Rattle.ms_base.specs.declared.span.Chunk.{Chunk}
use Rattle.ms_base.specs.Committed.{is_among}
use Rattle.ms_base.specs.Names.{named, with_new}
use Rattle.ms_base.specs.State.{LoaderState, empty_loader}
use Rattle.ms_base.proofs.entries.EntryLemmas.{Gap, gap_at, values_joined}
use Rattle.ms_base.proofs.entries.NameLemmas.{rises_with_new}
use Rattle.ms_base.proofs.runs.ApartLemmas.{list_any-with}
use Rattle.ms_pool.specs.Account.{AccountState}
use Rattle.ms_pool.specs.Ledger.{Loan, Ledger, Serves, IsSoundLedger, is_owned_by, with_opened}
use Rattle.ms_pool.specs.Calls.{new_account}
use Rattle.ms_loader.specs.Loader.{LoaderView, account_in, new_loader, IsSoundView}
use Rattle.ms_loaders.specs.System.{states_of, accounts_of, owners_of, machine_of, AreTogether}
use Rattle.ms_loader.proofs.MappedLemmas.{new-mapped}
use Rattle.ms_loaders.proofs.sums.FitLemmas.{HasOwner, owner_of}
use Rattle.ms_loaders.proofs.sums.OwnedLoanLemmas.{owned, others}
use Rattle.ms_loaders.proofs.steps.ServedLemmas.{one_if, accounts_split, times, is_it, times_split}

abbrev state_of : LoaderView → LoaderState
state_of loader = loader.state

-- An owner that no loan has.
none_owned : (owner : ℕ) (loans : List Loan) → AllByRecursion (λ (loan : Loan). loan.owner ≢ owner) loans
    → owned owner loans ≡ []
none_owned owner [] all = refl
none_owned owner (loan ∷ loans) all =
    ap (λ b. map (λ (l : Loan). l.chunk)
    (cond b (loan ∷ filter (is_owned_by owner) loans) (filter (is_owned_by owner) loans)))
    (ne_eqb loan.owner owner all.0) ∙ none_owned owner loans all.1

pub all_others : (owner : ℕ) (loans : List Loan) → AllByRecursion (λ (loan : Loan). loan.owner ≢ owner) loans
    → others owner loans ≡ loans
all_others owner [] all = refl
all_others owner (loan ∷ loans) all =
    ap (λ b. cond (not b) (loan ∷ others owner loans) (others owner loans)) (ne_eqb loan.owner owner all.0)
    ∙ ap (λ (l : List Loan). loan ∷ l) (all_others owner loans all.1)

pub fresh_owner : (given owner : ℕ) → given < owner → (loans : List Loan)
    → AllByRecursion (λ (loan : Loan). (1 ≤ loan.owner) × (loan.owner ≤ given)) loans
    → AllByRecursion (λ (loan : Loan). loan.owner ≢ owner) loans
fresh_owner given owner above [] all = tt
fresh_owner given owner above (loan ∷ loans) all =
    ((λ same. omega (arith, above, all.0.1, same)), fresh_owner given owner above loans all.1)

-- Where owner numbers are given out, those that were are served still.
pub served_with : (old new : Ledger) → new.loans ≡ old.loans → old.given ≤ new.given → (accounts : List AccountState)
    → AllByRecursion (Serves old) accounts → AllByRecursion (Serves new) accounts
served_with old new same more [] all = tt
served_with old new same more (account ∷ accounts) all = (
  record {
    some = all.0.some;
    given = omega (arith, all.0.given, more);
    chunks = subst (λ (loans : List Loan). IsPermutation (owned account.owner loans) account.chunks)
        (sym same) all.0.chunks;
  },
  served_with old new same more accounts all.1,
)

serves_new : (ledger : Ledger) (owner : ℕ) (space : Space) → 1 ≤ owner → owner ≤ ledger.given
    → AllByRecursion (λ (loan : Loan). loan.owner ≢ owner) ledger.loans → Serves ledger (new_account owner space)
serves_new ledger owner space some given none =
    record {
      some = some;
      given = given;
      chunks = subst (λ (l : List Chunk). IsPermutation l []) (sym (none_owned owner ledger.loans none))
          (IsPermutation-refl []);
    }

times_split_one : (number x : ℕ) (numbers : List ℕ) → times number (x ∷ numbers) ≡ is_it number x + times number numbers
times_split_one number x numbers = sum_by-cons (is_it number) x numbers

-- No owner of an account is above those given out.
below_given : (ledger : Ledger) (number : ℕ) → ledger.given < number → (accounts : List AccountState)
    → AllByRecursion (Serves ledger) accounts → times number (map owner_of accounts) ≡ 0
below_given ledger number above [] all = refl
below_given ledger number above (account ∷ accounts) all =
    omega (
      arith,
      times_split_one number account.owner (map owner_of accounts),
      ap one_if (ne_eqb account.owner number (λ same. omega (arith, above, all.0.given, same))),
      below_given ledger number above accounts all.1,
    )

-- The ledger with both accounts of a new loader.
abbrev pub with_both : Ledger → Ledger
with_both old = with_opened (with_opened old NonClass) Class

abbrev pub first_account : Ledger → AccountState
first_account old = new_account (old.given + 1) NonClass

abbrev pub second_account : Ledger → AccountState
second_account old = new_account (old.given + 2) Class

-- Accounts, and numbers, between others.
pub accounts_joined : (b a : List (ℕ × LoaderView)) → accounts_of (b ++ a) ≡ accounts_of b ++ accounts_of a
accounts_joined b a =
    ap (flat_map (λ (loader : LoaderView). account_in NonClass loader ∷ account_in Class loader ∷ []))
    (values_joined b a)
    ∙ flat_map-append (λ (loader : LoaderView). account_in NonClass loader ∷ account_in Class loader ∷ []) (values_of b)
    (values_of a)

put_between : (P : AccountState → Type 0) (b a : List AccountState) (x y : AccountState) → P x → P y
    → AllByRecursion P (b ++ a) → AllByRecursion P (b ++ x ∷ y ∷ a)
put_between P [] a x y first second all = (first, (second, all))
put_between P (z ∷ b) a x y first second all = (all.0, put_between P b a x y first second all.1)

pub among_more : (number : ℕ) (b a : List ℕ) (x y : ℕ) → is_among (b ++ a) number ≡ true
    → is_among (b ++ x ∷ y ∷ a) number ≡ true
among_more number b a x y there = list_any-with (λ other. other == number) b x (y ∷ a)
    ∙ ap (λ t. (x == number) || t) (list_any-with (λ other. other == number) b y a)
    ∙ either (x == number) (y == number) there
  where
    either : (c d : Bool) {e : Bool} → e ≡ true → (c || (d || e)) ≡ true
    either true d e = refl
    either false true e = refl
    either false false e = e

-- Of two numbers one at most is it.
pub few : (x y number : ℕ) → x < y → is_it number x + is_it number y ≤ 1
few x y number less = elim (cases_eq x number) [
  | inl same ↦
      omega (arith, ap one_if (eq-eqb x number same), ap one_if (ne_eqb y number (λ e. omega (arith, e, same, less))))
  | inr differ ↦ omega (arith, ap one_if (ne_eqb x number differ), at_most (y == number))
]
  where
    at_most : (b : Bool) → one_if b ≤ 1
    at_most true = omega arith
    at_most false = omega arith

-- A loader made.
module _ (old : Ledger) (loaders : List (ℕ × LoaderView)) (name : ℕ) (kind : Kind) (unused : named loaders name ≡ None)
    (its : AreTogether old loaders) where
  made : LoaderView
  made = new_loader (first_account old) (second_account old) kind

  gap : Gap loaders name
  gap = gap_at loaders name unused

  loans_given : AllByRecursion (λ (loan : Loan). (1 ≤ loan.owner) × (loan.owner ≤ old.given)) old.loans
  loans_given = recursion_from_All _ old.loans its.ledger_sound.owners

  all_served : AllByRecursion (Serves old) (accounts_of loaders)
  all_served = recursion_from_All (Serves old) (accounts_of loaders) its.served.served

  joined : accounts_of loaders ≡ accounts_of gap.before ++ accounts_of gap.after
  joined = ap accounts_of gap.is ∙ accounts_joined gap.before gap.after

  pub first_served : Serves (with_both old) (first_account old)
  first_served =
      serves_new (with_both old) (old.given + 1) NonClass (omega arith) (omega arith)
      (fresh_owner old.given (old.given + 1) (omega arith) old.loans loans_given)

  pub second_served : Serves (with_both old) (second_account old)
  second_served =
      serves_new (with_both old) (old.given + 2) Class (omega arith) (omega arith)
      (fresh_owner old.given (old.given + 2) (omega arith) old.loans loans_given)

  pub together_made : IsSoundLedger (with_both old)
      → IsSoundView (new_loader (first_account old) (second_account old) kind)
      → AreTogether (with_both old) (with_new loaders name (new_loader (first_account old) (second_account old) kind))
  together_made ledger_sound sound = record {
    ledger_sound = ledger_sound;
    loaders_sound =
        All-values-insert_entry nat_cmp name (new_loader (first_account old) (second_account old) kind) IsSoundView
        loaders its.loaders_sound sound;
    names = rises_with_new loaders name (new_loader (first_account old) (second_account old) kind) its.names;
    served = record {
      served = All-from_recursion (Serves (with_both old))
          (accounts_of (with_new loaders name (new_loader (first_account old) (second_account old) kind)))
          (subst (λ (l : List AccountState). AllByRecursion (Serves (with_both old)) l) (sym now)
          (put_between (Serves (with_both old)) (accounts_of gap.before) (accounts_of gap.after) (first_account old)
          (second_account old) first_served second_served
          (subst (λ (l : List AccountState). AllByRecursion (Serves (with_both old)) l) joined
          (served_with old (with_both old) refl (omega arith) (accounts_of loaders) all_served))));
      distinct =
          λ number. subst (λ (l : List AccountState). times number (map owner_of l) ≤ 1) (sym now) (counted number);
      no_other = All-from_recursion _ old.loans (wider old.loans (recursion_from_All _ old.loans its.served.no_other));
      opened = ap (λ (n : ℕ). n + 1) its.served.opened ∙ sym long;
      class_opened = ap (λ (n : ℕ). n + 1) its.served.class_opened ∙ sym long;
    };
  }
    where
      now : accounts_of (with_new loaders name (new_loader (first_account old) (second_account old) kind))
          ≡ accounts_of gap.before ++ first_account old ∷ second_account old ∷ accounts_of gap.after
      now = ap accounts_of (gap.made (new_loader (first_account old) (second_account old) kind))
          ∙ accounts_split gap.before gap.after name (new_loader (first_account old) (second_account old) kind)

      long : length (with_new loaders name (new_loader (first_account old) (second_account old) kind))
          ≡ length loaders + 1
      long = ap length (gap.made (new_loader (first_account old) (second_account old) kind))
          ∙ length-append gap.before ((name, new_loader (first_account old) (second_account old) kind) ∷ gap.after)
          ∙ omega (arith, ap length gap.is, length-append gap.before gap.after)

      counted : (number : ℕ)
          → times number
          (map owner_of (accounts_of gap.before ++ first_account old ∷ second_account old ∷ accounts_of gap.after)) ≤ 1
      counted number = elim (cases_lt old.given number) [
        | inl above ↦
            omega (
              arith,
              parts,
              few (old.given + 1) (old.given + 2) number (omega arith),
              below_given old number above (accounts_of loaders) all_served,
              before,
            )
        | inr below ↦
            omega (
              arith,
              parts,
              ap one_if (ne_eqb (old.given + 1) number (λ e. omega (arith, e, below))),
              ap one_if (ne_eqb (old.given + 2) number (λ e. omega (arith, e, below))),
              its.served.distinct number,
              before,
            )
      ]
        where
          parts : times number
              (map owner_of (accounts_of gap.before ++ first_account old ∷ second_account old ∷ accounts_of gap.after))
              ≡ times number (map owner_of (accounts_of gap.before)) + is_it number (old.given + 1) + is_it number
              (old.given + 2) + times number (map owner_of (accounts_of gap.after))
          parts = ap (times number)
              (map-append owner_of (accounts_of gap.before)
              (first_account old ∷ second_account old ∷ accounts_of gap.after))
              ∙ times_split number (map owner_of (accounts_of gap.before)) (map owner_of (accounts_of gap.after))
              (old.given + 1) (old.given + 2)

          before : times number (owners_of loaders)
              ≡ times number (map owner_of (accounts_of gap.before)) + times number
              (map owner_of (accounts_of gap.after))
          before = ap (λ (l : List AccountState). times number (map owner_of l)) joined
              ∙ ap (times number) (map-append owner_of (accounts_of gap.before) (accounts_of gap.after))
              ∙ sum_by-append (is_it number) (map owner_of (accounts_of gap.before))
              (map owner_of (accounts_of gap.after))

      wider : (loans : List Loan) → AllByRecursion (HasOwner (owners_of loaders)) loans
          → AllByRecursion
          (HasOwner (owners_of (with_new loaders name (new_loader (first_account old) (second_account old) kind))))
          loans
      wider [] all = tt
      wider (loan ∷ loans) all = (
        ap (λ (l : List AccountState). is_among (map owner_of l) loan.owner) now
            ∙ ap (λ (l : List ℕ). is_among l loan.owner)
            (map-append owner_of (accounts_of gap.before)
            (first_account old ∷ second_account old ∷ accounts_of gap.after))
            ∙ among_more loan.owner (map owner_of (accounts_of gap.before)) (map owner_of (accounts_of gap.after))
            (old.given + 1) (old.given + 2)
            (ap (λ (l : List ℕ). is_among l loan.owner)
            (sym (ap (map owner_of) joined ∙ map-append owner_of (accounts_of gap.before) (accounts_of gap.after)))
            ∙ all.0),
        wider loans all.1,
      )

  pub machine_made : machine_of (with_both old)
      (with_new loaders name (new_loader (first_account old) (second_account old) kind))
      ≡ record (machine_of old loaders) {
        loaders = with_new (states_of loaders) name (empty_loader kind);
        given = old.given + 2;
      }
  machine_made =
      ap (λ (l : List (ℕ × LoaderState)). record (machine_of (with_both old) loaders) { loaders = l })
      (new-mapped state_of loaders name (new_loader (first_account old) (second_account old) kind))
      ∙ ap (λ (n : ℕ).
      record (machine_of old loaders) { loaders = with_new (states_of loaders) name (empty_loader kind); given = n })
      (omega arith)
