-- Shares whose loaders have names that differ, as they are gathered one by one.
use Rattle.std.proofs.Common.{◌≡◌, ℕ, ◌+◌, ◌<◌, suc, Some, None, List, [], ◌∷◌, refl, sym, ◌∙◌}
use Rattle.std.proofs.Common.{subst, inl, inr, arith}
use Rattle.std.specs.Prelude.{slice_get}
use Rattle.std.specs.List.{AllByRecursion}
use Rattle.std.proofs.lemmas.Bool.{cases_eq}
use Rattle.ms_base.specs.Names.{named}
use Rattle.ms_run.specs.declared.share.Share.{Share}
use Rattle.ms_run.specs.Shares.{Position, AreApart}
use Rattle.ms_run.specs.Joined.{HaveOtherNames, IsJoined}
use Rattle.ms_run.proofs.sharing.GatherLemmas.{Loaders}

-- No name is in two of the shares that are left, nor in one of these and the loaders so far.
abbrev pub DifferFrom : Loaders → List Share → Type 0
DifferFrom loaders shares = AllByRecursion (λ (share : Share). HaveOtherNames loaders share.loaders) shares

abbrev pub Differ : List Share → Type 0
Differ [] = Unit {0}
Differ (share ∷ shares) = DifferFrom share.loaders shares × Differ shares

abbrev pub AreOthers : Loaders → List Share → Type 0
AreOthers loaders shares = DifferFrom loaders shares × Differ shares

none_differ : (shares : List Share) → DifferFrom [] shares
none_differ [] = tt
none_differ (share ∷ shares) = ((λ name. inl refl), none_differ shares)

-- Of two shares one isn't the position of a name's lines.
abbrev AreApartFrom : Position → ℕ → List Share → Type 0
AreApartFrom position first shares =
    (at : ℕ) (share : Share) (name : ℕ) → slice_get shares at ≡ Some share → (position (Some name) ≡ first + at → ⊥)
    → named share.loaders name ≡ None

later_differ : (position : Position) (first more : ℕ) (share : Share) (shares : List Share)
    → ((name : ℕ) → (position (Some name) ≡ first → ⊥) → named share.loaders name ≡ None)
    → first < more → AreApartFrom position more shares → DifferFrom share.loaders shares
later_differ position first more share [] own less apart = tt
later_differ position first more share (other ∷ shares) own less apart = (
  (λ name. elim (cases_eq (position (Some name)) first) [
    | inl here ↦ inr (apart 0 other name refl (λ e. omega (arith, e, here, less)))
    | inr past ↦ inl (own name past)
  ]),
  later_differ position first (more + 1) share shares own (omega (arith, less))
      (λ at one name there past. apart (suc at) one name there (λ e. past (omega (arith, e)))),
)

all_differ : (position : Position) (first : ℕ) (shares : List Share) → AreApartFrom position first shares → Differ shares
all_differ position first [] apart = tt
all_differ position first (share ∷ shares) apart = (
  later_differ position first (first + 1) share shares
      (λ name past. apart 0 share name refl (λ e. past (omega (arith, e)))) (omega arith) rest,
  all_differ position (first + 1) shares rest,
)
  where
    rest : AreApartFrom position (first + 1) shares
    rest at one name there past = apart (suc at) one name there (λ e. past (omega (arith, e)))

pub begin_apart : (position : Position) (loaders : Loaders) (left all : List Share) → AreApart position all → loaders ≡ []
    → left ≡ all → AreOthers loaders left
begin_apart position loaders left all apart none same =
    subst (λ (l : List Share). AreOthers loaders l) (sym same)
    (subst (λ (l : Loaders). AreOthers l all) (sym none) (
      none_differ all,
      all_differ position 0 all (λ at share name there past. apart at share name there (λ e. past (omega (arith, e)))),
    ))

joined_differ : (loaders new : Loaders) (share : Share) (shares : List Share) → IsJoined loaders share.loaders new
    → DifferFrom loaders shares → DifferFrom share.loaders shares
    → DifferFrom new shares
joined_differ loaders new share [] joined differ own = tt
joined_differ loaders new share (other ∷ shares) joined differ own = (
  (λ name. elim (differ.0 name) [
    | inr none ↦ inr none
    | inl none ↦ elim (own.0 name) [ inr none' ↦ inr none' | inl none' ↦ inl (joined.own name none ∙ none') ]
  ]),
  joined_differ loaders new share shares joined differ.1 own.1,
)

pub next_differs : (loaders : Loaders) (share : Share) (left left' : List Share) → left ≡ share ∷ left'
    → AreOthers loaders left → HaveOtherNames loaders share.loaders
next_differs loaders share left left' is differ = (subst (λ (l : List Share). AreOthers loaders l) is differ).0.0

pub still_differ : (loaders new : Loaders) (share : Share) (left left' : List Share) → left ≡ share ∷ left'
    → AreOthers loaders left → IsJoined loaders share.loaders new
    → AreOthers new left'
still_differ loaders new share left left' is differ joined =
    let all = subst (λ (l : List Share). AreOthers loaders l) is differ in
    (joined_differ loaders new share left' joined all.0.1 all.1.0, all.1.1)
