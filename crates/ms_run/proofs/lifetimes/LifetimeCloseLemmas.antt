-- A seat and its loaders where both accounts of a loader are closed. For `unload`, and for
-- `new_loader` where memory for the loader is refused.
use Rattle.std.proofs.Common.{◌≡◌, ◌≢◌, ◌+◌, ◌<◌, ℕ, true, cond, Some, None, List, refl, [], ◌∷◌, ◌++◌, map, length}
use Rattle.std.proofs.Common.{sym, ap, ◌∙◌, subst, ◌⊎◌, inl, inr, ⊎_elim, IsTrue, arith}
use Rattle.std.specs.List.{AllByRecursion}
use Rattle.std.specs.Ordering.{nat_cmp, match_ordering, is_eq}
use Rattle.std.specs.BTreeMap.{is_at}
use Rattle.std.specs.declared.cmp.Ordering.TheVariants.{Less, Equal, Greater}
use Rattle.std.proofs.lemmas.Bool.{cases_eq}
use Rattle.std.proofs.lemmas.List.{length-append, map-append}
use Rattle.std.proofs.lemmas.List.Sums.{sum_by-append}
use Rattle.std.proofs.lemmas.List.Elements.{recursion_from_All, All-from_recursion}
use Rattle.std.proofs.lemmas.Map.Views.{All-map-remove_entry}
use Rattle.ms_base.specs.declared.kind.Space.{Space}
use Rattle.ms_base.specs.declared.kind.Space.TheVariants.{NonClass, Class}
use Rattle.ms_base.specs.Committed.{is_among}
use Rattle.ms_base.specs.Names.{named, with_new, without}
use Rattle.ms_base.proofs.entries.EntryLemmas.{Split, split_at, rises_without}
use Rattle.ms_base.proofs.entries.LookupLemmas.{at_itself}
use Rattle.ms_pool.specs.Account.{AccountState}
use Rattle.ms_pool.specs.Ledger.{Ledger, chunks_of, others_than}
use Rattle.ms_pool.specs.Calls.{ClosedBoth}
use Rattle.ms_pool.proofs.ledger.FewerLemmas.{none_left, none_still}
use Rattle.ms_pool.proofs.ledger.LedgerCloseLemmas.{both_closed_keeps_others}
use Rattle.ms_loader.specs.Loader.{LoaderView, account_in, IsSoundView}
use Rattle.ms_loaders.specs.System.{accounts_of, owners_of}
use Rattle.ms_loaders.proofs.sums.FitLemmas.{owner_of}
use Rattle.ms_loaders.proofs.steps.ServedLemmas.{accounts_split, times, is_it, it_is, times_split, all_parts}
use Rattle.ms_loaders.proofs.steps.CloseLemmas.{accounts_joined}
use Rattle.ms_loaders.proofs.steps.UnloadLemmas.{both_all}
use Rattle.ms_shared.specs.declared.lock_rule.SeatView.{SeatView}
use Rattle.ms_shared.specs.SeatView.{SeatState, ServesBy, OverLock, opened_by, view_after}
use Rattle.ms_run.specs.Manned.{IsManned}
use Rattle.ms_run.proofs.lifetimes.LifetimeLemmas.{NoOther, no_other_then, served_apart, without_one}

-- Two accounts are closed over the lock.
pub record Closes (old new : SeatState) (account class_account : AccountState) : Type 0 where
  pub event : OverLock (λ before after. ClosedBoth before account class_account after) old new
  pub others : (other : AccountState) → other.owner ≢ account.owner → other.owner ≢ class_account.owner
      → ServesBy old.knows other → ServesBy new.knows other
  pub counted : (space : Space) → opened_by new.knows space + 1 ≡ opened_by old.knows space

module _ (loaders : List (ℕ × LoaderView)) (name : ℕ) (v : LoaderView) (found : named loaders name ≡ Some v) where
  split : Split loaders name v
  split = split_at loaders name v found

  abbrev first : List AccountState
  first = accounts_of split.before

  abbrev last : List AccountState
  last = accounts_of split.after

  abbrev first_owners : List ℕ
  first_owners = map owner_of first

  abbrev last_owners : List ℕ
  last_owners = map owner_of last

  before : accounts_of loaders ≡ first ++ account_in NonClass v ∷ account_in Class v ∷ last
  before = ap accounts_of split.is ∙ accounts_split split.before split.after name v

  now : accounts_of (without loaders name) ≡ first ++ last
  now = ap accounts_of split.gone ∙ accounts_joined split.before split.after

  owners_before : owners_of loaders ≡ first_owners ++ v.owner ∷ v.class_owner ∷ last_owners
  owners_before =
      ap (map owner_of) before ∙ map-append owner_of first (account_in NonClass v ∷ account_in Class v ∷ last)

  owners_now : owners_of (without loaders name) ≡ first_owners ++ last_owners
  owners_now = ap (map owner_of) now ∙ map-append owner_of first last

  counts : (number : ℕ)
      → times number (owners_of loaders) ≡ times number first_owners + is_it number v.owner + is_it number v.class_owner
      + times number last_owners
  counts number = ap (times number) owners_before ∙ times_split number first_owners last_owners v.owner v.class_owner

  counts_now : (number : ℕ)
      → times number (owners_of (without loaders name)) ≡ times number first_owners + times number last_owners
  counts_now number = ap (times number) owners_now ∙ sum_by-append (is_it number) first_owners last_owners

  long : length loaders ≡ length (without loaders name) + 1
  long = ap length split.is ∙ length-append split.before ((name, v) ∷ split.after)
      ∙ omega (arith, ap length split.gone, length-append split.before split.after)

  parts : (seat : SeatView) → IsManned seat loaders
      → AllByRecursion (ServesBy seat) first × ServesBy seat (account_in NonClass v)
      × ServesBy seat (account_in Class v) × AllByRecursion (ServesBy seat) last
  parts seat its = all_parts (ServesBy seat) first last (account_in NonClass v) (account_in Class v)
      (subst (AllByRecursion (ServesBy seat)) before
      (recursion_from_All (ServesBy seat) (accounts_of loaders) its.served))

  -- A seat that serves the loaders counts some accounts.
  pub counts_some : (seat : SeatView) → IsManned seat loaders → (space : Space) → 0 < opened_by seat space
  counts_some seat its space = omega (arith, its.opened space, long)

  module _ (old new : SeatState) (closes : Closes old new (account_in NonClass v) (account_in Class v))
      (its : IsManned old.knows loaders) where
    abbrev pool : Ledger
    pool = closes.event.before

    abbrev later : Ledger
    later = closes.event.after

    each_then : (owner : ℕ) → (chunks_of pool owner ≡ []) ⊎ IsTrue (is_among (owners_of loaders) owner)
        → (chunks_of later owner ≡ []) ⊎ IsTrue (is_among (first_owners ++ last_owners) owner)
    each_then owner told = elim (cases_eq owner v.owner) [
      | inl same ↦ inl (ap (chunks_of later) same ∙ ap (λ (l : Ledger). chunks_of l v.owner) closes.event.called
          ∙ none_still v.owner _ (others_than v.owner pool.loans) (none_left v.owner pool.loans))
      | inr differs ↦ elim (cases_eq owner v.class_owner) [
        | inl same ↦
            inl (ap (chunks_of later) same ∙ ap (λ (l : Ledger). chunks_of l v.class_owner) closes.event.called
            ∙ none_left v.class_owner (others_than v.owner pool.loans))
        | inr too ↦ ⊎_elim
            (λ empty. inl (ap (λ (l : Ledger). chunks_of l owner) closes.event.called
            ∙ both_closed_keeps_others pool (account_in NonClass v) (account_in Class v) owner differs too ∙ empty))
            (λ among. inr (without_one first_owners last_owners v.class_owner owner too
            (without_one first_owners (v.class_owner ∷ last_owners) v.owner owner differs
            (subst (λ (owners : List ℕ). is_among owners owner ≡ true) owners_before among))))
            told
      ]
    ]

    none_now : NoOther (owners_of (without loaders name)) new.knows
    none_now = subst (λ (s : SeatState). NoOther (owners_of (without loaders name)) s.knows) (sym closes.event.left)
        (subst (λ (owners : List ℕ). NoOther owners (view_after pool later old.knows)) (sym owners_now)
        (no_other_then pool later old.knows (owners_of loaders) (first_owners ++ last_owners) closes.event.known
        its.no_other each_then
        (λ owner more. let same : later.given ≡ pool.given = ap (λ (l : Ledger). l.given) closes.event.called in
        let low = more.0 in let up = more.1 in absurd (omega arith))))

    pub manned_closed : IsManned new.knows (without loaders name)
    manned_closed = let served = parts old.knows its in record {
      served = All-from_recursion (ServesBy new.knows) (accounts_of (without loaders name))
          (subst (AllByRecursion (ServesBy new.knows)) (sym now)
          (both_all (ServesBy new.knows) first last
          (served_apart old.knows new.knows v.owner v.class_owner closes.others first
          (omega (arith, its.distinct v.owner, counts v.owner, it_is v.owner))
          (omega (arith, its.distinct v.class_owner, counts v.class_owner, it_is v.class_owner)) served.0)
          (served_apart old.knows new.knows v.owner v.class_owner closes.others last
          (omega (arith, its.distinct v.owner, counts v.owner, it_is v.owner))
          (omega (arith, its.distinct v.class_owner, counts v.class_owner, it_is v.class_owner)) served.3)));
      distinct = λ number. omega (arith, its.distinct number, counts number, counts_now number);
      no_other = none_now;
      opened = λ space. omega (arith, closes.counted space, its.opened space, long);
      sound = All-map-remove_entry (is_at (nat_cmp name)) (λ (e : ℕ × LoaderView). e.1) IsSoundView loaders its.sound;
      names = rises_without loaders name its.names;
    }

-- A name that was just made and is taken out again leaves what was.
pub new_then_without : {X : Type 0} (entries : List (ℕ × X)) (name : ℕ) (x : X) → named entries name ≡ None
    → without (with_new entries name x) name ≡ entries
new_then_without [] name x none = rw (at_itself name) refl
new_then_without {X} (e ∷ es) name x none =
    elim (nat_cmp name e.0) as (λ o. nat_cmp name e.0 ≡ o → cond (is_eq o) (Some e.1) (named es name) ≡ None
    → without (match_ordering o ((name, x) ∷ e ∷ es) ((e.0, x) ∷ es) (e ∷ with_new es name x)) name ≡ e ∷ es) [
      | Less ↦ λ p none. rw (at_itself name) refl
      | Equal ↦ λ p none. absurd (cc)
      | Greater ↦ λ p none. rw p (ap (λ (l : List (ℕ × X)). e ∷ l) (new_then_without es name x none))
    ] refl none
