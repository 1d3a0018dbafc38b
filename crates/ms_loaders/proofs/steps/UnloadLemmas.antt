-- Pool and loaders stay together, and the machine makes its step, where a loader is unloaded, or is
-- refused once its accounts were opened; both close two accounts.
use Rattle.std.proofs.Common.{◌≡◌, ◌≢◌, ◌≤◌, ◌+◌, ℕ, Bool, true, false, cond, not, ◌||◌, Some, List, [], ◌∷◌}
use Rattle.std.proofs.Common.{◌++◌, map, length, refl, sym, ap, ◌∙◌, subst, arith}
use Rattle.std.specs.Prelude.{◌==◌}
use Rattle.std.specs.Ordering.{nat_cmp}
use Rattle.std.specs.List.{All, AllByRecursion}
use Rattle.std.specs.List.Sorted.{IsPermutation}
use Rattle.std.specs.BTreeMap.{is_at}
use Rattle.std.proofs.lemmas.Bool.{eqb-true, eq-eqb, both_ways}
use Rattle.std.proofs.lemmas.List.{length-append, map-append}
use Rattle.std.proofs.lemmas.List.Sums.{sum_by-append, sum_by-cons}
use Rattle.std.proofs.lemmas.List.Elements.{recursion_from_All, All-from_recursion}
use Rattle.std.proofs.lemmas.Map.Views.{All-map-remove_entry}
use Rattle.ms_base.specs.declared.kind.Space.TheVariants.{NonClass, Class}
use Rattle.ms_base.specs.declared.span.Chunk.{Chunk}
use Rattle.ms_base.specs.Committed.{is_among}
use Rattle.ms_base.specs.Names.{named, without}
use Rattle.ms_base.specs.State.{LoaderState, chunks_held, recommitted as machine_recommitted}
use Rattle.ms_base.specs.Good.{IsGood}
use Rattle.ms_base.specs.Transition.{Unloads, HasOwnerNumbers}
use Rattle.ms_base.proofs.entries.EntryLemmas.{Split, split_at, rises_without}
use Rattle.ms_base.proofs.machine.GoodLemmas.{good_with_numbers_used}
use Rattle.ms_base.proofs.machine.ChangeLemmas.{recommitted_same}
use Rattle.ms_base.proofs.runs.ApartLemmas.{list_any-with}
use Rattle.ms_pool.specs.Account.{AccountState}
use Rattle.ms_pool.specs.Ledger.{Loan, Ledger, Serves, IsSoundLedger, held_in, others_than, with_both_closed}
use Rattle.ms_loader.specs.Loader.{LoaderView, account_in, IsSoundView}
use Rattle.ms_loaders.specs.System.{states_of, accounts_of, owners_of, machine_of, AreTogether}
use Rattle.ms_loader.proofs.MappedLemmas.{without-mapped}
use Rattle.ms_loaders.proofs.sums.FitLemmas.{HasOwner, owner_of, fits, machine_is_good}
use Rattle.ms_loaders.proofs.sums.OwnedLoanLemmas.{owned, others, owned_elsewhere}
use Rattle.ms_loaders.proofs.sums.FitLemmas.{recommitted_machine}
use Rattle.ms_loaders.proofs.steps.ServedLemmas.{accounts_split, times, is_it, it_is, times_split, all_parts}
use Rattle.ms_loaders.proofs.steps.CloseLemmas.{accounts_joined, all_others, fresh_owner, served_with, with_both}
use Rattle.ms_loaders.proofs.steps.CloseLemmas.{first_account, second_account}
use Rattle.ms_loaders.proofs.steps.StepLemmas.{has_loader}

abbrev pub state_of : LoaderView → LoaderState
state_of loader = loader.state

-- Loans that are kept have an owner of the others.
kept_have : (gone : ℕ) (owners fewer : List ℕ)
    → ((number : ℕ) → is_among owners number ≡ true → (number == gone) ≡ false → is_among fewer number ≡ true)
    → (loans : List Loan)
    → AllByRecursion (HasOwner owners) loans → AllByRecursion (HasOwner fewer) (others gone loans)
kept_have gone owners fewer each [] all = tt
kept_have gone owners fewer each (loan ∷ loans) all =
    elim (loan.owner == gone) as (λ b. (loan.owner == gone) ≡ b
    → AllByRecursion (HasOwner fewer) (cond (not b) (loan ∷ others gone loans) (others gone loans))) [
      | true ↦ λ same. kept_have gone owners fewer each loans all.1
      | false ↦ λ past. (each loan.owner all.0 past, kept_have gone owners fewer each loans all.1)
    ] refl

without_one : (b a : List ℕ) (gone number : ℕ) → is_among (b ++ gone ∷ a) number ≡ true → (number == gone) ≡ false
    → is_among (b ++ a) number ≡ true
without_one b a gone number there past =
    pick (gone == number) refl (sym (list_any-with (λ other. other == number) b gone a) ∙ there)
  where
    pick : (t : Bool) → (gone == number) ≡ t → (t || is_among (b ++ a) number) ≡ true → is_among (b ++ a) number ≡ true
    pick true e h = absurd (both_ways (number == gone) past (eq-eqb number gone (sym (eqb-true gone number e))))
    pick false e h = h

-- Accounts of other owners than two that are closed are served still.
still_served : (old new : Ledger) (x y : ℕ) → new.loans ≡ others y (others x old.loans) → new.given ≡ old.given
    → (accounts : List AccountState)
    → times x (map owner_of accounts) ≡ 0 → times y (map owner_of accounts) ≡ 0 → AllByRecursion (Serves old) accounts
    → AllByRecursion (Serves new) accounts
still_served old new x y loans given [] none_x none_y all = tt
still_served old new x y loans given (account ∷ accounts) none_x none_y all = (
  record {
    some = all.0.some;
    given = omega (arith, all.0.given, given);
    chunks = subst (λ (l : List Chunk). IsPermutation l account.chunks) (sym (ap (owned account.owner) loans
        ∙ owned_elsewhere account.owner y (others x old.loans)
        (differs account.owner y (omega (arith, none_y, sum_by-cons (is_it y) account.owner (map owner_of accounts))))
        ∙ owned_elsewhere account.owner x old.loans
        (differs account.owner x (omega (arith, none_x, sum_by-cons (is_it x) account.owner (map owner_of accounts))))))
        all.0.chunks;
  },
  still_served old new x y loans given accounts
      (omega (arith, none_x, sum_by-cons (is_it x) account.owner (map owner_of accounts)))
      (omega (arith, none_y, sum_by-cons (is_it y) account.owner (map owner_of accounts))) all.1,
)
  where
    differs : (a b : ℕ) → is_it b a ≡ 0 → a ≢ b
    differs a b none same = omega (arith, none, it_is b, ap (is_it b) same)

pub both_all : (P : AccountState → Type 0) (b a : List AccountState) → AllByRecursion P b → AllByRecursion P a
    → AllByRecursion P (b ++ a)
both_all P [] a first last = last
both_all P (x ∷ b) a first last = (first.0, both_all P b a first.1 last)

module _ (old new : Ledger) (loaders : List (ℕ × LoaderView)) (name : ℕ) (v : LoaderView)
    (found : named loaders name ≡ Some v)
    (closed : new ≡ with_both_closed old (account_in NonClass v) (account_in Class v)) (sound : IsSoundLedger new)
    (its : AreTogether old loaders) where
  split : Split loaders name v
  split = split_at loaders name v found

  first : List AccountState
  first = accounts_of split.before

  last : List AccountState
  last = accounts_of split.after

  before : accounts_of loaders ≡ accounts_of split.before ++ account_in NonClass v ∷ account_in Class v
      ∷ accounts_of split.after
  before = ap accounts_of split.is ∙ accounts_split split.before split.after name v

  now : accounts_of (without loaders name) ≡ accounts_of split.before ++ accounts_of split.after
  now = ap accounts_of split.gone ∙ accounts_joined split.before split.after

  counts : (number : ℕ) → times number (owners_of loaders)
      ≡ times number (map owner_of (accounts_of split.before)) + is_it number v.owner + is_it number v.class_owner
      + times number (map owner_of (accounts_of split.after))
  counts number = ap (λ (l : List AccountState). times number (map owner_of l)) before
      ∙ ap (times number)
      (map-append owner_of (accounts_of split.before)
      (account_in NonClass v ∷ account_in Class v ∷ accounts_of split.after))
      ∙ times_split number (map owner_of (accounts_of split.before)) (map owner_of (accounts_of split.after)) v.owner
      v.class_owner

  loans_are : new.loans ≡ others v.class_owner (others v.owner old.loans)
  loans_are = ap (λ (l : Ledger). l.loans) closed

  parts : AllByRecursion (Serves old) (accounts_of split.before) × Serves old (account_in NonClass v)
      × Serves old (account_in Class v) × AllByRecursion (Serves old) (accounts_of split.after)
  parts = all_parts (Serves old) (accounts_of split.before) (accounts_of split.after) (account_in NonClass v)
      (account_in Class v)
      (subst (λ (l : List AccountState). AllByRecursion (Serves old) l) before
      (recursion_from_All (Serves old) (accounts_of loaders) its.served.served))

  long : length loaders ≡ length (without loaders name) + 1
  long = ap length split.is ∙ length-append split.before ((name, v) ∷ split.after)
      ∙ omega (arith, ap length split.gone, length-append split.before split.after)

  pub together_unloaded : AreTogether new (without loaders name)
  together_unloaded = record {
    ledger_sound = sound;
    loaders_sound =
        All-map-remove_entry (is_at (nat_cmp name)) (λ (e : ℕ × LoaderView). e.1) IsSoundView loaders its.loaders_sound;
    names = rises_without loaders name its.names;
    served = record {
      served = All-from_recursion (Serves new) (accounts_of (without loaders name))
          (subst (λ (l : List AccountState). AllByRecursion (Serves new) l) (sym now)
          (both_all (Serves new) (accounts_of split.before) (accounts_of split.after)
          (still_served old new v.owner v.class_owner loans_are (ap (λ (l : Ledger). l.given) closed)
          (accounts_of split.before)
          (omega (arith, its.served.distinct v.owner, counts v.owner, it_is v.owner))
          (omega (arith, its.served.distinct v.class_owner, counts v.class_owner, it_is v.class_owner)) parts.0)
          (still_served old new v.owner v.class_owner loans_are (ap (λ (l : Ledger). l.given) closed)
          (accounts_of split.after)
          (omega (arith, its.served.distinct v.owner, counts v.owner, it_is v.owner))
          (omega (arith, its.served.distinct v.class_owner, counts v.class_owner, it_is v.class_owner)) parts.3)));
      distinct = λ number. omega (
        arith,
        its.served.distinct number,
        counts number,
        ap (λ (l : List AccountState). times number (map owner_of l)) now,
        ap (times number) (map-append owner_of (accounts_of split.before) (accounts_of split.after)),
        sum_by-append (is_it number) (map owner_of (accounts_of split.before)) (map owner_of (accounts_of split.after)),
      );
      no_other =
          All-from_recursion _ new.loans
          (subst (λ (l : List Loan). AllByRecursion (HasOwner (owners_of (without loaders name))) l) (sym loans_are)
          (subst (λ (l : List ℕ). AllByRecursion (HasOwner l) (others v.class_owner (others v.owner old.loans)))
          (sym (ap (map owner_of) now ∙ map-append owner_of (accounts_of split.before) (accounts_of split.after)))
          (kept_have v.class_owner
          (map owner_of (accounts_of split.before) ++ v.class_owner ∷ map owner_of (accounts_of split.after))
          (map owner_of (accounts_of split.before) ++ map owner_of (accounts_of split.after))
          (without_one (map owner_of (accounts_of split.before)) (map owner_of (accounts_of split.after)) v.class_owner)
          (others v.owner old.loans)
          (kept_have v.owner
          (map owner_of (accounts_of split.before) ++ v.owner ∷ v.class_owner ∷ map owner_of
          (accounts_of split.after))
          (map owner_of (accounts_of split.before) ++ v.class_owner ∷ map owner_of (accounts_of split.after))
          (without_one (map owner_of (accounts_of split.before))
          (v.class_owner ∷ map owner_of (accounts_of split.after)) v.owner) old.loans
          (subst (λ (l : List ℕ). AllByRecursion (HasOwner l) old.loans)
          (ap (map owner_of) before
          ∙ map-append owner_of (accounts_of split.before)
          (account_in NonClass v ∷ account_in Class v ∷ accounts_of split.after))
          (recursion_from_All _ old.loans its.served.no_other))))));
      opened = ap (λ (l : Ledger). l.opened) closed ∙ omega (arith, its.served.opened, long);
      class_opened = ap (λ (l : Ledger). l.class_opened) closed ∙ omega (arith, its.served.class_opened, long);
    };
  }

  pub is_unloaded : Unloads (machine_of old loaders) name (machine_of new (without loaders name))
      × IsGood (machine_of new (without loaders name))
  is_unloaded = (
    record {
      loader = v.state;
      has = has_loader old loaders name v found;
      after = ap (λ (l : Ledger). machine_of l (without loaders name)) closed
          ∙ recommitted_machine mid (without loaders name)
          (λ space. subst
          (λ (l : Ledger). IsPermutation (held_in space l) (chunks_held space (states_of (without loaders name))))
          closed
          (fits new (without loaders name) together_unloaded.loaders_sound together_unloaded.served space))
          ∙ ap (λ (l : List (ℕ × LoaderState)). machine_recommitted (record (machine_of old loaders) { loaders = l }))
          (without-mapped state_of loaders name);
    },
    machine_is_good new (without loaders name) together_unloaded,
  )
    where
      mid : Ledger
      mid = record old { loans = others_than v.class_owner (others_than v.owner old.loans) }

-- A loader that is refused once its accounts were opened: both are closed again, and two owner
-- numbers are used up.
module _ (old new : Ledger) (loaders : List (ℕ × LoaderView))
    (closed : new ≡ with_both_closed (with_both old) (first_account old) (second_account old))
    (sound : IsSoundLedger new)
    (its : AreTogether old loaders) where
  given : AllByRecursion (λ (loan : Loan). (1 ≤ loan.owner) × (loan.owner ≤ old.given)) old.loans
  given = recursion_from_All _ old.loans its.ledger_sound.owners

  same_loans : others (old.given + 2) (others (old.given + 1) old.loans) ≡ old.loans
  same_loans =
      ap (others (old.given + 2))
      (all_others (old.given + 1) old.loans (fresh_owner old.given (old.given + 1) (omega arith) old.loans given))
      ∙ all_others (old.given + 2) old.loans (fresh_owner old.given (old.given + 2) (omega arith) old.loans given)

  loans_same : new.loans ≡ old.loans
  loans_same = ap (λ (l : Ledger). l.loans) closed ∙ same_loans

  more : new.given ≡ old.given + 2
  more = ap (λ (l : Ledger). l.given) closed ∙ omega arith

  pub together_again : AreTogether new loaders
  together_again = record {
    ledger_sound = sound;
    loaders_sound = its.loaders_sound;
    names = its.names;
    served = record {
      served = All-from_recursion (Serves new) (accounts_of loaders)
          (served_with old new loans_same (omega (arith, more)) (accounts_of loaders)
          (recursion_from_All (Serves old) (accounts_of loaders) its.served.served));
      distinct = its.served.distinct;
      no_other = subst (λ (l : List Loan). All (HasOwner (owners_of loaders)) l) (sym loans_same) its.served.no_other;
      opened = ap (λ (l : Ledger). l.opened) closed ∙ omega (arith, its.served.opened);
      class_opened = ap (λ (l : Ledger). l.class_opened) closed ∙ omega (arith, its.served.class_opened);
    };
  }

  pub numbers_used : machine_of new loaders ≡ record (machine_of old loaders) { given = old.given + 2 }
  numbers_used =
      ap (λ (l : Ledger). machine_of l loaders) closed
      ∙ recommitted_machine mid loaders
      (λ space. subst (λ (l : Ledger). IsPermutation (held_in space l) (chunks_held space (states_of loaders))) closed
      (fits new loaders its.loaders_sound together_again.served space))
      ∙ ap (λ (n : ℕ). machine_recommitted (record (machine_of old loaders) { given = n })) (omega arith)
      ∙ recommitted_same (record (machine_of old loaders) { given = old.given + 2 })
      (good_with_numbers_used (machine_of old loaders) (omega (arith, sound.given, more))
      (machine_is_good old loaders its))
    where
      mid : Ledger
      mid = record (with_both old) { loans = others (old.given + 2) (others (old.given + 1) old.loans) }

  pub numbers_left : HasOwnerNumbers (machine_of old loaders)
  numbers_left = omega (arith, sound.given, more)
