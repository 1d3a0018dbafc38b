-- A loader handed on from seat to seat by its two accounts: each seat serves its own loaders before
-- and after, and no owner is of both. For `hand_on`.
use Rattle.std.proofs.Common.{◌≡◌, ◌≢◌, ◌≤◌, ◌+◌, ℕ, true, Some, None, List, [], ◌∷◌, ◌++◌, map, length, sym, ap}
use Rattle.std.proofs.Common.{◌∙◌, subst, ◌⊎◌, inl, inr, ⊎_elim, arith, ◌<◌, IsTrue}
use Rattle.std.specs.List.{AllByRecursion}
use Rattle.std.specs.Ordering.{nat_cmp}
use Rattle.std.specs.BTreeMap.{is_at}
use Rattle.std.proofs.lemmas.List.{length-append, map-append}
use Rattle.std.proofs.lemmas.List.Sums.{sum_by-append}
use Rattle.std.proofs.lemmas.List.Elements.{recursion_from_All, All-from_recursion}
use Rattle.std.proofs.lemmas.Map.Views.{All-map-remove_entry, All-values-insert_entry}
use Rattle.ms_base.specs.declared.kind.Space.{Space}
use Rattle.ms_base.specs.declared.kind.Space.TheVariants.{NonClass, Class}
use Rattle.ms_base.specs.declared.span.Chunk.{Chunk}
use Rattle.ms_base.specs.Committed.{is_among}
use Rattle.ms_base.specs.Names.{named, with_new, without}
use Rattle.ms_base.proofs.entries.EntryLemmas.{Split, split_at, Gap, gap_at, rises_without}
use Rattle.ms_base.proofs.entries.NameLemmas.{rises_with_new}
use Rattle.ms_pool.specs.Account.{AccountState}
use Rattle.ms_loader.specs.Loader.{LoaderView, account_in, IsSoundView}
use Rattle.ms_loaders.specs.System.{accounts_of, owners_of}
use Rattle.ms_shared.specs.declared.lock_rule.SeatView.{SeatView}
use Rattle.ms_shared.specs.Entries.{Has, only, all_but}
use Rattle.ms_shared.specs.SeatView.{ServesBy, opened_by, without_account, with_account}
use Rattle.ms_shared.proofs.HandLemmas.{handed_serves, left_serves, taker_serves}
use Rattle.ms_run.specs.Dealing.{Loaded, AreBeside}
use Rattle.ms_loaders.proofs.steps.CloseLemmas.{accounts_joined}
use Rattle.ms_loaders.proofs.steps.ServedLemmas.{accounts_split, all_joined, all_parts, is_it, it_is}
use Rattle.ms_loaders.proofs.steps.StillTogetherLemmas.{named_sound}
use Rattle.ms_loaders.proofs.steps.ServedLemmas.{owners_split}
use Rattle.ms_loaders.proofs.steps.ServedLemmas.{served_still, times, times_split}
use Rattle.ms_loaders.proofs.sums.FitLemmas.{owner_of}
use Rattle.ms_loaders.proofs.steps.UnloadLemmas.{both_all}
use Rattle.ms_run.proofs.lifetimes.LifetimeLemmas.{all_served, has_either, without_one}
use Rattle.ms_run.proofs.sharing.HandedEntryLemmas.{halves, it_itself, of_one, of_others, with_it}

module _ (name : ℕ) (v : LoaderView) (loaders others : Loaded) (from to : SeatView)
    (found : named loaders name ≡ Some v) (its : AreBeside from loaders to others) where
  split : Split loaders name v
  split = split_at loaders name v found

  all_are : accounts_of loaders ≡ accounts_of split.before ++ account_in NonClass v ∷ account_in Class v
      ∷ accounts_of split.after
  all_are = ap accounts_of split.is ∙ accounts_split split.before split.after name v

  left_are : accounts_of (without loaders name) ≡ accounts_of split.before ++ accounts_of split.after
  left_are = ap accounts_of split.gone ∙ accounts_joined split.before split.after

  owners_are : owners_of loaders ≡ owners_of split.before ++ v.owner ∷ v.class_owner ∷ owners_of split.after
  owners_are = ap owners_of split.is ∙ owners_split split.before split.after name v

  left_owners : owners_of (without loaders name) ≡ owners_of split.before ++ owners_of split.after
  left_owners = ap (map owner_of) left_are ∙ map-append owner_of (accounts_of split.before) (accounts_of split.after)

  counts : (number : ℕ) → times number (owners_of loaders)
      ≡ times number (owners_of split.before) + is_it number v.owner + is_it number v.class_owner + times number
      (owners_of split.after)
  counts number =
      ap (times number) owners_are
      ∙ times_split number (owners_of split.before) (owners_of split.after) v.owner v.class_owner

  left_counts : (number : ℕ)
      → times number (owners_of (without loaders name))
      ≡ times number (owners_of split.before) + times number (owners_of split.after)
  left_counts number =
      ap (times number) left_owners ∙ sum_by-append (is_it number) (owners_of split.before) (owners_of split.after)

  long : length loaders ≡ length (without loaders name) + 1
  long = ap length split.is ∙ length-append split.before ((name, v) ∷ split.after)
      ∙ omega (arith, ap length split.gone, length-append split.before split.after)

  own_differ : v.class_owner ≢ v.owner
  own_differ same = omega (arith, its.manned.distinct v.owner, counts v.owner, it_is v.owner, ap (is_it v.owner) same)

  owner_alone : (times v.owner (owners_of split.before) ≡ 0) × (times v.owner (owners_of split.after) ≡ 0)
  owner_alone = (
    omega (arith, its.manned.distinct v.owner, counts v.owner, it_is v.owner),
    omega (arith, its.manned.distinct v.owner, counts v.owner, it_is v.owner),
  )

  class_alone : (times v.class_owner (owners_of split.before) ≡ 0) × (times v.class_owner (owners_of split.after) ≡ 0)
  class_alone = (
    omega (arith, its.manned.distinct v.class_owner, counts v.class_owner, it_is v.class_owner),
    omega (arith, its.manned.distinct v.class_owner, counts v.class_owner, it_is v.class_owner),
  )

  parts : AllByRecursion (ServesBy from) (accounts_of split.before) × ServesBy from (account_in NonClass v)
      × ServesBy from (account_in Class v)
      × AllByRecursion (ServesBy from) (accounts_of split.after)
  parts = all_parts (ServesBy from) (accounts_of split.before) (accounts_of split.after) (account_in NonClass v)
      (account_in Class v)
      (subst (AllByRecursion (ServesBy from)) all_are
      (recursion_from_All (ServesBy from) (accounts_of loaders) its.manned.served))

  pub serves_first : ServesBy from (account_in NonClass v)
  serves_first = parts.1

  pub serves_second : ServesBy (without_account v.owner NonClass from) (account_in Class v)
  serves_second = left_serves from v.owner NonClass (account_in Class v) own_differ parts.2

  pub counts_first : 0 < opened_by from NonClass
  counts_first = omega (arith, its.manned.opened NonClass, long)

  pub counts_second : 0 < opened_by (without_account v.owner NonClass from) Class
  counts_second = omega (arith, its.manned.opened Class, long)

  still : (accounts : List AccountState) → times v.owner (map owner_of accounts) ≡ 0
      → times v.class_owner (map owner_of accounts) ≡ 0
      → AllByRecursion (ServesBy from) accounts
      → AllByRecursion (ServesBy (without_account v.class_owner Class (without_account v.owner NonClass from))) accounts
  still accounts none none_class all =
      served_still (ServesBy (without_account v.owner NonClass from))
      (ServesBy (without_account v.class_owner Class (without_account v.owner NonClass from))) v.class_owner
      (λ other differs serves. left_serves (without_account v.owner NonClass from) v.class_owner Class other differs
      serves) accounts none_class
      (served_still (ServesBy from) (ServesBy (without_account v.owner NonClass from)) v.owner
      (λ other differs serves. left_serves from v.owner NonClass other differs serves) accounts none all)

  left_no_other : (owner : ℕ) (chunks : List Chunk)
      → Has (all_but v.class_owner (all_but v.owner from.served)) owner chunks
      → (chunks ≡ []) ⊎ IsTrue (is_among (owners_of (without loaders name)) owner)
  left_no_other owner chunks here =
      let second = of_others v.class_owner (all_but v.owner from.served) owner chunks here in
      let one = of_others v.owner from.served owner chunks second.0 in
      ⊎_elim (λ none. inl none)
      (λ among. inr (ap (λ (l : List ℕ). is_among l owner) left_owners
      ∙ without_one (owners_of split.before) (owners_of split.after) v.class_owner owner second.1
      (without_one (owners_of split.before) (v.class_owner ∷ owners_of split.after) v.owner owner one.1
      (ap (λ (l : List ℕ). is_among l owner) (sym owners_are) ∙ among))))
      (its.manned.no_other owner chunks one.0)

  left_opened : (space : Space)
      → opened_by (without_account v.class_owner Class (without_account v.owner NonClass from)) space
      ≡ length (without loaders name)
  left_opened NonClass = omega (arith, its.manned.opened NonClass, long)
  left_opened Class = omega (arith, its.manned.opened Class, long)

  v_sound : IsSoundView v
  v_sound = named_sound loaders name v found its.manned.sound

  module _ (none : named others name ≡ None) where
    gap : Gap others name
    gap = gap_at others name none

    others_are : accounts_of others ≡ accounts_of gap.before ++ accounts_of gap.after
    others_are = ap accounts_of gap.is ∙ accounts_joined gap.before gap.after

    made_are : accounts_of (with_new others name v)
        ≡ accounts_of gap.before ++ account_in NonClass v ∷ account_in Class v ∷ accounts_of gap.after
    made_are = ap accounts_of (gap.made v) ∙ accounts_split gap.before gap.after name v

    other_owners : owners_of others ≡ owners_of gap.before ++ owners_of gap.after
    other_owners = ap (map owner_of) others_are ∙ map-append owner_of (accounts_of gap.before) (accounts_of gap.after)

    made_owners : owners_of (with_new others name v)
        ≡ owners_of gap.before ++ v.owner ∷ v.class_owner ∷ owners_of gap.after
    made_owners = ap owners_of (gap.made v) ∙ owners_split gap.before gap.after name v

    other_counts : (number : ℕ)
        → times number (owners_of others) ≡ times number (owners_of gap.before) + times number (owners_of gap.after)
    other_counts number =
        ap (times number) other_owners ∙ sum_by-append (is_it number) (owners_of gap.before) (owners_of gap.after)

    made_counts : (number : ℕ) → times number (owners_of (with_new others name v))
        ≡ times number (owners_of gap.before) + is_it number v.owner + is_it number v.class_owner + times number
        (owners_of gap.after)
    made_counts number =
        ap (times number) made_owners
        ∙ times_split number (owners_of gap.before) (owners_of gap.after) v.owner v.class_owner

    made_long : length (with_new others name v) ≡ length others + 1
    made_long = ap length (gap.made v) ∙ length-append gap.before ((name, v) ∷ gap.after)
        ∙ omega (arith, ap length gap.is, length-append gap.before gap.after)

    apart_still : (number : ℕ)
        → times number (owners_of (without loaders name)) + times number (owners_of (with_new others name v)) ≤ 1
    apart_still number =
        omega (arith, its.apart number, counts number, left_counts number, other_counts number, made_counts number)

    abbrev most : SeatView
    most = with_account v.class_owner Class (without_account v.owner NonClass from)
        (with_account v.owner NonClass from to)

    kept : (other : AccountState) → ServesBy to other → ServesBy most other
    kept other serves =
        taker_serves (without_account v.owner NonClass from) (with_account v.owner NonClass from to) v.class_owner Class
        other
        (taker_serves from to v.owner NonClass other serves)

    made_serves : AllByRecursion (ServesBy most)
        (accounts_of gap.before ++ account_in NonClass v ∷ account_in Class v ∷ accounts_of gap.after)
    made_serves =
        let both = halves (ServesBy to) (accounts_of gap.before) (accounts_of gap.after)
        (subst (AllByRecursion (ServesBy to)) others_are
        (recursion_from_All (ServesBy to) (accounts_of others) its.to_manned.served)) in
        all_joined (ServesBy most) (accounts_of gap.before) (accounts_of gap.after) (account_in NonClass v)
        (account_in Class v)
        (all_served to most kept (accounts_of gap.before) both.0)
        (taker_serves (without_account v.owner NonClass from) (with_account v.owner NonClass from to) v.class_owner
        Class (account_in NonClass v)
        (handed_serves from to (account_in NonClass v) serves_first))
        (handed_serves (without_account v.owner NonClass from) (with_account v.owner NonClass from to)
        (account_in Class v) serves_second)
        (all_served to most kept (accounts_of gap.after) both.1)

    made_no_other : (owner : ℕ) (chunks : List Chunk)
        → Has ((to.served ++ only v.owner from.served) ++ only v.class_owner (all_but v.owner from.served)) owner chunks
        → (chunks ≡ []) ⊎ IsTrue (is_among (owners_of (with_new others name v)) owner)
    made_no_other owner chunks here =
        ⊎_elim
        (λ front. ⊎_elim
        (λ was. ⊎_elim (λ none. inl none)
        (λ among. inr (ap (λ (l : List ℕ). is_among l owner) made_owners
        ∙ with_it (owners_of gap.before) (v.class_owner ∷ owners_of gap.after) v.owner owner
        (with_it (owners_of gap.before) (owners_of gap.after) v.class_owner owner
        (ap (λ (l : List ℕ). is_among l owner) (sym other_owners) ∙ among))))
        (its.to_manned.no_other owner chunks was))
        (λ one. inr (ap (λ (l : List ℕ). is_among l owner) made_owners
        ∙ subst (λ (n : ℕ). is_among (owners_of gap.before ++ v.owner ∷ v.class_owner ∷ owners_of gap.after) n ≡ true)
        (sym (of_one v.owner from.served owner chunks one))
        (it_itself (owners_of gap.before) (v.class_owner ∷ owners_of gap.after) v.owner)))
        (has_either to.served (only v.owner from.served) owner chunks front))
        (λ one. inr (ap (λ (l : List ℕ). is_among l owner) made_owners
        ∙ subst (λ (n : ℕ). is_among (owners_of gap.before ++ v.owner ∷ v.class_owner ∷ owners_of gap.after) n ≡ true)
        (sym (of_one v.class_owner (all_but v.owner from.served) owner chunks one))
        (with_it (owners_of gap.before) (v.class_owner ∷ owners_of gap.after) v.owner v.class_owner
        (it_itself (owners_of gap.before) (owners_of gap.after) v.class_owner))))
        (has_either (to.served ++ only v.owner from.served) (only v.class_owner (all_but v.owner from.served)) owner
        chunks here)

    made_opened : (space : Space) → opened_by most space ≡ length (with_new others name v)
    made_opened NonClass = omega (arith, its.to_manned.opened NonClass, made_long)
    made_opened Class = omega (arith, its.to_manned.opened Class, made_long)

    pub handed : AreBeside (without_account v.class_owner Class (without_account v.owner NonClass from))
        (without loaders name)
        (with_account v.class_owner Class (without_account v.owner NonClass from)
        (with_account v.owner NonClass from to)) (with_new others name v)
    handed = record {
      manned = record {
        served = All-from_recursion
            (ServesBy (without_account v.class_owner Class (without_account v.owner NonClass from)))
            (accounts_of (without loaders name))
            (subst (AllByRecursion
            (ServesBy (without_account v.class_owner Class (without_account v.owner NonClass from)))) (sym left_are)
            (both_all (ServesBy (without_account v.class_owner Class (without_account v.owner NonClass from)))
            (accounts_of split.before) (accounts_of split.after)
            (still (accounts_of split.before) owner_alone.0 class_alone.0 parts.0)
            (still (accounts_of split.after) owner_alone.1 class_alone.1 parts.3)));
        distinct = λ number. omega (arith, apart_still number);
        no_other = left_no_other;
        opened = left_opened;
        sound = All-map-remove_entry (is_at (nat_cmp name)) (λ (e : ℕ × LoaderView). e.1) IsSoundView loaders
            its.manned.sound;
        names = rises_without loaders name its.manned.names;
      };
      to_manned = record {
        served = All-from_recursion (ServesBy most) (accounts_of (with_new others name v))
            (subst (AllByRecursion (ServesBy most)) (sym made_are) made_serves);
        distinct = λ number. omega (arith, apart_still number);
        no_other = made_no_other;
        opened = made_opened;
        sound = All-values-insert_entry nat_cmp name v IsSoundView others its.to_manned.sound v_sound;
        names = rises_with_new others name v its.to_manned.names;
      };
      apart = apart_still;
    }
