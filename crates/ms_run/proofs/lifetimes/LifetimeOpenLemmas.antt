-- A seat and its loaders where both accounts of a loader are opened, or are refused. For
-- `new_loader`.
use Rattle.std.proofs.Common.{◌≡◌, ◌+◌, ◌≤◌, ℕ, true, None, List, [], ◌∷◌, ◌++◌, map, length, sym, ap, ◌∙◌, subst, ◌⊎◌}
use Rattle.std.proofs.Common.{inl, inr, ⊎_elim, arith}
use Rattle.std.specs.Prelude.{Ok, Err}
use Rattle.std.specs.List.{AllByRecursion}
use Rattle.std.specs.Ordering.{nat_cmp}
use Rattle.std.proofs.lemmas.Bool.{ne_eqb, cases_lt, cases_eq}
use Rattle.std.proofs.lemmas.List.{length-append, map-append}
use Rattle.std.proofs.lemmas.List.Sums.{sum_by-append}
use Rattle.std.proofs.lemmas.List.Elements.{recursion_from_All, All-from_recursion}
use Rattle.std.proofs.lemmas.Map.Views.{All-values-insert_entry}
use Rattle.ms_base.specs.declared.kind.Kind.{Kind}
use Rattle.ms_base.specs.declared.kind.Space.{Space}
use Rattle.ms_base.specs.declared.kind.Space.TheVariants.{NonClass, Class}
use Rattle.ms_base.specs.declared.refusal.Refusal.{Refusal}
use Rattle.ms_base.specs.Committed.{is_among}
use Rattle.ms_base.specs.Names.{named, with_new}
use Rattle.ms_base.proofs.entries.EntryLemmas.{Gap, gap_at}
use Rattle.ms_base.proofs.entries.NameLemmas.{rises_with_new}
use Rattle.ms_pool.specs.Account.{AccountState}
use Rattle.ms_pool.specs.Ledger.{Ledger}
use Rattle.ms_pool.specs.Calls.{OpenedBoth, new_account}
use Rattle.ms_pool.proofs.ledger.ClosedLemmas.{both_opened_keeps}
use Rattle.ms_loader.specs.Loader.{LoaderView, new_loader, IsSoundView}
use Rattle.ms_loaders.specs.System.{accounts_of, owners_of}
use Rattle.ms_loaders.proofs.sums.FitLemmas.{owner_of}
use Rattle.ms_loaders.proofs.steps.ServedLemmas.{accounts_split, times, is_it, one_if, times_split, all_joined}
use Rattle.ms_loaders.proofs.steps.CloseLemmas.{accounts_joined, few}
use Rattle.ms_loaders.proofs.events.OpenCallLemmas.{new_is_sound}
use Rattle.ms_shared.specs.SeatView.{SeatState, ServesBy, OverLock, opened_by, view_after}
use Rattle.ms_run.specs.Manned.{IsManned}
use Rattle.ms_run.proofs.lifetimes.LifetimeLemmas.{IsNew, NoOther, no_other_then, all_served, below_given, among_new}
use Rattle.ms_loaders.proofs.steps.CloseLemmas.{among_more}

-- Both accounts refused: all stays.
pub manned_refused : (old new : SeatState) (loaders : List (ℕ × LoaderView)) (refusal : Refusal)
    → OverLock (λ before after. OpenedBoth before (Err refusal) after) old new
    → ((other : AccountState) → ServesBy old.knows other → ServesBy new.knows other)
    → ((space : Space) → opened_by new.knows space ≡ opened_by old.knows space)
    → IsManned old.knows loaders → IsManned new.knows loaders
manned_refused old new loaders refusal event others counted its = record {
  served = All-from_recursion (ServesBy new.knows) (accounts_of loaders)
      (all_served old.knows new.knows others (accounts_of loaders)
      (recursion_from_All (ServesBy old.knows) (accounts_of loaders) its.served));
  distinct = its.distinct;
  no_other = subst (λ (s : SeatState). NoOther (owners_of loaders) s.knows) (sym event.left)
      (no_other_then event.before event.after old.knows (owners_of loaders) (owners_of loaders) event.known its.no_other
      (λ owner. ⊎_elim
      (λ empty. inl (both_opened_keeps event.before (Err refusal) event.after event.called owner ∙ empty))
      (λ among. inr among))
      (λ owner more. let same : event.after.given ≡ event.before.given = ap (λ (l : Ledger). l.given) event.called.2 in
      let low = more.0 in let up = more.1 in absurd (omega arith)));
  opened = λ space. counted space ∙ its.opened space;
  sound = its.sound;
  names = its.names;
}

-- Both accounts opened: the seat serves a loader that is made of them.
abbrev first_of : Ledger → AccountState
first_of pool = new_account (pool.given + 1) NonClass

abbrev second_of : Ledger → AccountState
second_of pool = new_account (pool.given + 2) Class

module _ (old new : SeatState) (loaders : List (ℕ × LoaderView)) (name : ℕ) (kind : Kind)
    (accounts : AccountState × AccountState) (unused : named loaders name ≡ None)
    (event : OverLock (λ before after. OpenedBoth before (Ok accounts) after) old new)
    (first_served : ServesBy new.knows accounts.0) (second_served : ServesBy new.knows accounts.1)
    (others : (other : AccountState) → ServesBy old.knows other → ServesBy new.knows other)
    (counted : (space : Space) → opened_by new.knows space ≡ opened_by old.knows space + 1)
    (its : IsManned old.knows loaders) where
  abbrev pool : Ledger
  pool = event.before

  abbrev v : LoaderView
  v = new_loader (first_of pool) (second_of pool) kind

  gap : Gap loaders name
  gap = gap_at loaders name unused

  abbrev first : List AccountState
  first = accounts_of gap.before

  abbrev last : List AccountState
  last = accounts_of gap.after

  joined : accounts_of loaders ≡ first ++ last
  joined = ap accounts_of gap.is ∙ accounts_joined gap.before gap.after

  now : accounts_of (with_new loaders name v) ≡ first ++ first_of pool ∷ second_of pool ∷ last
  now = ap accounts_of (gap.made v) ∙ accounts_split gap.before gap.after name v

  owners_joined : owners_of loaders ≡ map owner_of first ++ map owner_of last
  owners_joined = ap (map owner_of) joined ∙ map-append owner_of first last

  owners_now : owners_of (with_new loaders name v) ≡ map owner_of first ++ (pool.given + 1) ∷ (pool.given + 2)
      ∷ map owner_of last
  owners_now = ap (map owner_of) now ∙ map-append owner_of first (first_of pool ∷ second_of pool ∷ last)

  long : length (with_new loaders name v) ≡ length loaders + 1
  long = ap length (gap.made v) ∙ length-append gap.before ((name, v) ∷ gap.after)
      ∙ omega (arith, ap length gap.is, length-append gap.before gap.after)

  all_before : AllByRecursion (ServesBy old.knows) (accounts_of loaders)
  all_before = recursion_from_All (ServesBy old.knows) (accounts_of loaders) its.served

  distinct_now : (number : ℕ)
      → times number (map owner_of first ++ (pool.given + 1) ∷ (pool.given + 2) ∷ map owner_of last) ≤ 1
  distinct_now number = elim (cases_lt pool.given number) [
    | inl above ↦
        omega (
          arith,
          parts,
          few (pool.given + 1) (pool.given + 2) number (omega arith),
          below_given pool old.knows number event.known above (accounts_of loaders) all_before,
          before,
        )
    | inr below ↦ omega (
      arith,
      parts,
      ap one_if (ne_eqb (pool.given + 1) number (λ e. omega (arith, e, below))),
      ap one_if (ne_eqb (pool.given + 2) number (λ e. omega (arith, e, below))),
      its.distinct number,
      before,
    )
  ]
    where
      parts : times number (map owner_of first ++ (pool.given + 1) ∷ (pool.given + 2) ∷ map owner_of last)
          ≡ times number (map owner_of first) + is_it number (pool.given + 1) + is_it number (pool.given + 2)
          + times number (map owner_of last)
      parts = times_split number (map owner_of first) (map owner_of last) (pool.given + 1) (pool.given + 2)

      before : times number (owners_of loaders) ≡ times number (map owner_of first) + times number (map owner_of last)
      before = ap (times number) owners_joined ∙ sum_by-append (is_it number) (map owner_of first) (map owner_of last)

  one_of_two : (owner : ℕ) → IsNew pool event.after owner → (pool.given + 1 ≡ owner) ⊎ (pool.given + 2 ≡ owner)
  one_of_two owner more =
      let given : event.after.given ≡ pool.given + 1 + 1 = ap (λ (l : Ledger). l.given) event.called.1 in let low =
      more.0 in let up = more.1 in
      elim (cases_eq (pool.given + 1) owner) [
        | inl same ↦ inl same
        | inr differ ↦
            inr (omega (arith, differ, given, low, up))
      ]

  none_now : NoOther (owners_of (with_new loaders name v)) new.knows
  none_now = subst (λ (s : SeatState). NoOther (owners_of (with_new loaders name v)) s.knows) (sym event.left)
      (subst (λ (owners : List ℕ). NoOther owners (view_after pool event.after old.knows)) (sym owners_now)
      (no_other_then pool event.after old.knows (owners_of loaders)
      (map owner_of first ++ (pool.given + 1) ∷ (pool.given + 2) ∷ map owner_of last) event.known its.no_other
      (λ owner. ⊎_elim (λ empty. inl (both_opened_keeps pool (Ok accounts) event.after event.called owner ∙ empty))
      (λ among. inr
      (among_more owner (map owner_of first) (map owner_of last) (pool.given + 1) (pool.given + 2)
      (subst (λ (owners : List ℕ). is_among owners owner ≡ true) owners_joined among))))
      (λ owner more. among_new owner (map owner_of first) (map owner_of last) (pool.given + 1) (pool.given + 2)
      (one_of_two owner more))))

  manned_made : IsManned new.knows (with_new loaders name v)
  manned_made = record {
    served = All-from_recursion (ServesBy new.knows) (accounts_of (with_new loaders name v))
        (subst (AllByRecursion (ServesBy new.knows)) (sym now)
        (all_joined (ServesBy new.knows) first last (first_of pool) (second_of pool)
        (all_served old.knows new.knows others first parts.0)
        (subst (λ (two : AccountState × AccountState). ServesBy new.knows two.0) event.called.0 first_served)
        (subst (λ (two : AccountState × AccountState). ServesBy new.knows two.1) event.called.0 second_served)
        (all_served old.knows new.knows others last parts.1)));
    distinct = λ number. subst (λ (owners : List ℕ). times number owners ≤ 1) (sym owners_now) (distinct_now number);
    no_other = none_now;
    opened = λ space. counted space ∙ ap (λ (n : ℕ). n + 1) (its.opened space) ∙ sym long;
    sound = All-values-insert_entry nat_cmp name v IsSoundView loaders its.sound
        (new_is_sound kind (first_of pool) (second_of pool));
    names = rises_with_new loaders name v its.names;
  }
    where
      both : (b a : List AccountState) → AllByRecursion (ServesBy old.knows) (b ++ a)
          → AllByRecursion (ServesBy old.knows) b × AllByRecursion (ServesBy old.knows) a
      both [] a all = (tt, all)
      both (x ∷ b) a all = let rest = both b a all.1 in ((all.0, rest.0), rest.1)

      parts : AllByRecursion (ServesBy old.knows) first × AllByRecursion (ServesBy old.knows) last
      parts = both first last (subst (AllByRecursion (ServesBy old.knows)) joined all_before)

  pub manned_opened : IsManned new.knows (with_new loaders name (new_loader accounts.0 accounts.1 kind))
  manned_opened =
      subst (λ (two : AccountState × AccountState). IsManned new.knows
      (with_new loaders name (new_loader two.0 two.1 kind))) (sym event.called.0) manned_made
