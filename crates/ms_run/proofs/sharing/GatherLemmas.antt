-- Loaders put together: one by one, and a share's after another's. For `insert_all`, `join` and
-- `take_apart`.
use Rattle.std.proofs.Common.{◌≡◌, ℕ, ◌+◌, zero, suc, Some, None, List, [], ◌∷◌, ◌++◌, refl, sym, ap, ◌∙◌}
use Rattle.std.proofs.Common.{subst, append-nil, inl, inr, ◌⊎◌, option_map, arith}
use Rattle.std.specs.Prelude.{slice_get}
use Rattle.std.specs.Ordering.{nat_cmp}
use Rattle.std.specs.List.{All, AllByRecursion, sum_by}
use Rattle.std.specs.List.Sorted.{IsPermutation}
use Rattle.std.specs.BTreeMap.{is_at}
use Rattle.std.proofs.lemmas.Bool.{cases_eq, false_from_ne_true}
use Rattle.std.proofs.lemmas.List.Sums.{sum_by-cons, sum_by-append}
use Rattle.std.proofs.lemmas.List.Elements.{All-append}
use Rattle.std.proofs.lemmas.List.Sorted.{IsPermutation-refl, IsPermutation-sym, IsPermutation-trans}
use Rattle.std.proofs.lemmas.List.Sorted.{IsPermutation-append_left, IsPermutation-append_comm, IsPermutation-middle}
use Rattle.std.proofs.lemmas.List.Sorted.{All-permutation, sum_by-IsPermutation}
use Rattle.std.proofs.lemmas.Option.{same_Some}
use Rattle.ms_base.specs.declared.refusal.Refusal.{Refusal}
use Rattle.ms_base.specs.declared.refusal.Refusal.TheVariants.{OutOfMemory, LoaderExists}
use Rattle.ms_base.specs.Names.{AreNamed, named, with_new, without}
use Rattle.ms_base.proofs.entries.EntryLemmas.{gap_at, rises_without, same_name}
use Rattle.ms_base.proofs.entries.LookupLemmas.{at_itself, named_new_same, named_new_other}
use Rattle.ms_base.proofs.events.SeenEntryLemmas.{named_without_same}
use Rattle.ms_loader.specs.Loader.{LoaderView}
use Rattle.ms_loader_map.specs.Loaders.{InsertRefused}
use Rattle.ms_loaders.specs.System.{states_of}
use Rattle.ms_run.specs.declared.share.Share.{Share}
use Rattle.ms_run.specs.Shares.{Position, AreApart, IsGathered}
use Rattle.ms_run.specs.Joined.{HaveOtherNames, IsJoined, AreJoined, IsWantOrUnsettled}
use Rattle.ms_loaders.proofs.steps.UnloadLemmas.{state_of}
use Rattle.ms_run.proofs.TouchLemmas.{named_states}

abbrev pub Loaders : Type 0
Loaders = List (ℕ × LoaderView)

-- No loader, and the other way round.
pub joined_none : (whole : Loaders) → IsJoined whole [] whole
joined_none whole = record {
  same = subst (IsPermutation whole) (sym (append-nil whole)) (IsPermutation-refl whole);
  others = λ name none. refl;
  own = λ name none. none;
}

pub joined_swapped : (whole part new : Loaders) → IsJoined part whole new → IsJoined whole part new
joined_swapped whole part new joined = record {
  same = IsPermutation-trans new (part ++ whole) (whole ++ part) joined.same (IsPermutation-append_comm part whole);
  others = λ name none. joined.own name none;
  own = λ name none. joined.others name none;
}

-- Names rise: what follows the first has other names.
record FirstNamed (name : ℕ) (es : Loaders) : Type 0 where
  none : named es name ≡ None
  rest : AreNamed es

first_is : (name : ℕ) (loader : LoaderView) (es : Loaders) → AreNamed ((name, loader) ∷ es) → FirstNamed name es
first_is name loader es h = record {
  none = subst (λ (l : Loaders). named l name ≡ None) gone (named_without_same ((name, loader) ∷ es) name h);
  rest = subst AreNamed gone (rises_without ((name, loader) ∷ es) name h);
}
  where
    gone : without ((name, loader) ∷ es) name ≡ es
    gone = rw (at_itself name) refl

pub rest_named : (part rest : Loaders) (name : ℕ) (loader : LoaderView) → part ≡ (name, loader) ∷ rest → AreNamed part
    → AreNamed rest
rest_named part rest name loader is h = (first_is name loader rest (subst AreNamed is h)).rest

-- One loader more.
with_it : (whole : Loaders) (name : ℕ) (loader : LoaderView) → named whole name ≡ None
    → IsPermutation (with_new whole name loader) ((name, loader) ∷ whole)
with_it whole name loader unused =
    let gap = gap_at whole name unused in
    subst (λ (l : Loaders). IsPermutation l ((name, loader) ∷ whole)) (sym (gap.made loader))
    (subst (λ (l : Loaders). IsPermutation (gap.before ++ (name, loader) ∷ gap.after) ((name, loader) ∷ l)) (sym gap.is)
    (IsPermutation-middle gap.before (name, loader) gap.after))

found_first : (name : ℕ) (loader : LoaderView) (rest : Loaders) → named ((name, loader) ∷ rest) name ≡ Some loader
found_first name loader rest = rw (at_itself name) refl

past_first : (name : ℕ) (loader : LoaderView) (rest : Loaders) (other : ℕ) → (name ≡ other → ⊥)
    → named ((name, loader) ∷ rest) other ≡ named rest other
past_first name loader rest other past =
    rw (false_from_ne_true (is_at (nat_cmp other) name) (λ e. past (same_name other name e))) refl

joined_first : (whole rest mid new : Loaders) (name : ℕ) (loader : LoaderView) → FirstNamed name rest
    → named whole name ≡ None
    → mid ≡ with_new whole name loader → IsJoined mid rest new → IsJoined whole ((name, loader) ∷ rest) new
joined_first whole rest mid new name loader first unused made joined = record {
  same = IsPermutation-trans new (mid ++ rest) (whole ++ (name, loader) ∷ rest) joined.same
      (IsPermutation-trans (mid ++ rest) ((name, loader) ∷ (whole ++ rest)) (whole ++ (name, loader) ∷ rest)
      (IsPermutation-append_left rest mid ((name, loader) ∷ whole)
      (subst (λ (l : Loaders). IsPermutation l ((name, loader) ∷ whole)) (sym made)
      (with_it whole name loader unused)))
      (IsPermutation-sym (whole ++ (name, loader) ∷ rest) ((name, loader) ∷ (whole ++ rest))
      (IsPermutation-middle whole (name, loader) rest)));
  others = λ other none. elim (at_or_past other) [
    | inl here ↦
        absurd (let found = found_first name loader rest in
        let none' = subst (λ (n : ℕ). named ((name, loader) ∷ rest) n ≡ None) (sym here) none in cc)
    | inr past ↦ joined.others other (sym (past_it other past) ∙ none) ∙ ap (λ (l : Loaders). named l other) made
        ∙ named_new_other whole name loader other past
  ];
  own = λ other none. elim (at_or_past other) [
    | inl here ↦ subst (λ (n : ℕ). named new n ≡ named ((name, loader) ∷ rest) n) here
        (joined.others name first.none ∙ ap (λ (l : Loaders). named l name) made ∙ named_new_same whole name loader
        ∙ sym (found_first name loader rest))
    | inr past ↦
        joined.own other
        (ap (λ (l : Loaders). named l other) made ∙ named_new_other whole name loader other past ∙ none)
        ∙ sym (past_it other past)
  ];
}
  where
    at_or_past : (other : ℕ) → (name ≡ other) ⊎ (name ≡ other → ⊥)
    at_or_past other = cases_eq name other

    past_it : (other : ℕ) → (name ≡ other → ⊥) → named ((name, loader) ∷ rest) other ≡ named rest other
    past_it other past = past_first name loader rest other past

pub joined_more : (whole part rest mid new : Loaders) (name : ℕ) (loader : LoaderView) → part ≡ (name, loader) ∷ rest
    → AreNamed part → named whole name ≡ None
    → mid ≡ with_new whole name loader → IsJoined mid rest new → IsJoined whole part new
joined_more whole part rest mid new name loader is rises unused made joined =
    subst (λ (l : Loaders). IsJoined whole l new) (sym is)
    (joined_first whole rest mid new name loader (first_is name loader rest (subst AreNamed is rises)) unused made
    joined)

-- No name is in both: so it is the other way round, and once a loader has moved; and no insertion
-- is refused for its name.
pub other_names : (whole part : Loaders) → HaveOtherNames whole part → HaveOtherNames part whole
other_names whole part differ name = elim (differ name) [ inl none ↦ inr none | inr none ↦ inl none ]

pub others_more : (whole part rest mid : Loaders) (name : ℕ) (loader : LoaderView) → part ≡ (name, loader) ∷ rest
    → AreNamed part
    → mid ≡ with_new whole name loader → HaveOtherNames whole part → HaveOtherNames mid rest
others_more whole part rest mid name loader is rises made differ other = elim (cases_eq name other) [
  | inl here ↦
      inr (subst (λ (n : ℕ). named rest n ≡ None) here (first_is name loader rest (subst AreNamed is rises)).none)
  | inr past ↦ elim (differ other) [
    | inl none ↦ inl (ap (λ (l : Loaders). named l other) made ∙ named_new_other whole name loader other past ∙ none)
    | inr none ↦
        inr (sym (past_first name loader rest other past) ∙ sym (ap (λ (l : Loaders). named l other) is) ∙ none)
  ]
]

pub only_want : (whole part rest : Loaders) (name : ℕ) (loader : LoaderView) (refusal : Refusal)
    → part ≡ (name, loader) ∷ rest → HaveOtherNames whole part
    → InsertRefused whole name refusal → refusal ≡ OutOfMemory
only_want whole part rest name loader refusal is differ refused = elim (differ name) [
  | inl none ↦ unused refusal none refused
  | inr none ↦ absurd (let found = ap (λ (l : Loaders). named l name) is ∙ found_first name loader rest in cc)
]
  where
    unused : (r : Refusal) → named whole name ≡ None → InsertRefused whole name r → r ≡ OutOfMemory
    unused OutOfMemory none refused = refl
    unused LoaderExists none refused = absurd (let found = refused.1 in cc)
    unused _ none refused = absurd refused

pub may_be_told : (refusal : Refusal) → refusal ≡ OutOfMemory → IsWantOrUnsettled refusal
may_be_told refusal is = subst IsWantOrUnsettled (sym is) tt

-- The loaders of shares: each sum is theirs, what is true of each of theirs is true, and each has
-- its name.
pub joined_sum : (f : ℕ × LoaderView → ℕ) (old : Loaders) (shares : List Share) (new : Loaders)
    → AreJoined old shares new
    → sum_by f new ≡ sum_by f old + sum_by (λ (share : Share). sum_by f share.loaders) shares
joined_sum f old [] new joined = omega (arith, ap (sum_by f) joined)
joined_sum f old (share ∷ shares) new joined = omega (
  arith,
  joined_sum f joined.0 shares new joined.2,
  sum_by-IsPermutation f joined.0 (old ++ share.loaders) joined.1.same,
  sum_by-append f old share.loaders,
  sum_by-cons (λ (s : Share). sum_by f s.loaders) share shares,
)

pub joined_all : (P : ℕ × LoaderView → Type 0) (old : Loaders) (shares : List Share) (new : Loaders)
    → AreJoined old shares new
    → All P old → AllByRecursion (λ (share : Share). All P share.loaders) shares → All P new
joined_all P old [] new joined before all = subst (All P) (sym joined) before
joined_all P old (share ∷ shares) new joined before all =
    joined_all P joined.0 shares new joined.2
    (All-permutation P (old ++ share.loaders) joined.0 (IsPermutation-sym joined.0 (old ++ share.loaders) joined.1.same)
    (All-append P old share.loaders before all.0)) all.1

abbrev NamesNone : ℕ → List Share → Type 0
NamesNone name shares = (at : ℕ) (share : Share) → slice_get shares at ≡ Some share → named share.loaders name ≡ None

joined_none_named : (name : ℕ) (old : Loaders) (shares : List Share) (new : Loaders) → AreJoined old shares new
    → NamesNone name shares
    → named new name ≡ named old name
joined_none_named name old [] new joined none = ap (λ (l : Loaders). named l name) joined
joined_none_named name old (share ∷ shares) new joined none =
    joined_none_named name joined.0 shares new joined.2 (λ at one there. none (suc at) one there)
    ∙ joined.1.others name (none 0 share refl)

pub joined_named : (name : ℕ) (old : Loaders) (shares : List Share) (new : Loaders) (at : ℕ) (own : Share)
    → AreJoined old shares new → slice_get shares at ≡ Some own
    → ((other : ℕ) (share : Share) → slice_get shares other ≡ Some share → (other ≡ at → ⊥)
    → named share.loaders name ≡ None)
    → named old name ≡ None → named new name ≡ named own.loaders name
joined_named name old [] new at own joined there apart none = absurd (cc)
joined_named name old (share ∷ shares) new zero own joined there apart none =
    joined_none_named name joined.0 shares new joined.2 (λ at one here. apart (suc at) one here (λ e. omega (arith, e)))
    ∙ joined.1.own name none ∙ ap (λ (s : Share). named s.loaders name) (same_Some share own there)
joined_named name old (share ∷ shares) new (suc at) own joined there apart none =
    joined_named name joined.0 shares new at own joined.2 there
    (λ other one here differ. apart (suc other) one here (λ e. differ (omega (arith, e))))
    (joined.1.others name (apart 0 share refl (λ e. omega (arith, e))) ∙ none)

pub views_gathered : (position : Position) (shares : List Share) (loaders : Loaders) → AreJoined [] shares loaders
    → AreApart position shares → (at : ℕ) (share : Share) (name : ℕ) → slice_get shares at ≡ Some share
    → position (Some name) ≡ at → named loaders name ≡ named share.loaders name
views_gathered position shares loaders joined apart at share name there goes =
    joined_named name [] shares loaders at share joined there
    (λ other one here differ. apart other one name here (λ e. differ (sym e ∙ goes))) refl

pub all_gathered : (position : Position) (shares : List Share) (loaders : Loaders) → AreJoined [] shares loaders
    → AreApart position shares
    → IsGathered position shares (states_of loaders)
all_gathered position shares loaders joined apart at share name there goes =
    named_states loaders name
    ∙ ap (option_map state_of) (views_gathered position shares loaders joined apart at share name there goes)
    ∙ sym (named_states share.loaders name)
