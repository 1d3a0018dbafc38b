-- The loaders of some names, while they go over to another share. For `hand_all`.
use Rattle.std.proofs.Common.{◌≡◌, ◌≢◌, ℕ, true, false, ◌||◌, None, List, [], ◌∷◌, refl, sym, ap, ◌∙◌, subst, ◌⊎◌, inl}
use Rattle.std.proofs.Common.{inr, ⊎_elim, eq-eqb, ne_eqb}
use Rattle.std.specs.Prelude.{◌==◌}
use Rattle.std.specs.List.{AllByRecursion}
use Rattle.std.proofs.lemmas.Bool.{both_ways, or_right}
use mathlib.Core.Logic.{dite}
use native.Mathlib.Decide.{ℕ_discrete}
use Rattle.ms_base.specs.Committed.{is_among}
use Rattle.ms_base.specs.Names.{named}
use Rattle.ms_run.specs.Dealing.{Loaded, IsHanded, AreHanded}

-- The loader of a name went over, or is where it was.
abbrev pub IsEither : Loaded → Loaded → Loaded → ℕ → Type 0
IsEither loaders after others name =
    ((named others name ≡ named loaders name) × (named after name ≡ None))
    ⊎ ((named others name ≡ None) × (named after name ≡ named loaders name))

-- The loaders of some names, while they go over: those of the names that are left haven't.
pub record IsHanding (names : List ℕ) (loaders after others : Loaded) (left : List ℕ) : Type 0 where
  pub apart : (name : ℕ) → is_among names name ≡ false
      → (named others name ≡ None) × (named after name ≡ named loaders name)
  pub each : (name : ℕ) → IsEither loaders after others name
  pub none : (name : ℕ) → is_among names name ≡ true → is_among left name ≡ false → named after name ≡ None
  pub placed : AllByRecursion (λ (name : ℕ). is_among names name ≡ true) left

all_among : (names left : List ℕ) → ((name : ℕ) → is_among left name ≡ true → is_among names name ≡ true)
    → AllByRecursion (λ (name : ℕ). is_among names name ≡ true) left
all_among names [] sub = tt
all_among names (x ∷ xs) sub = (
  sub x (ap (λ b. b || is_among xs x) (eq-eqb x x refl)),
  all_among names xs (λ name e. sub name (or_right (x == name) (is_among xs name) e)),
)

pub handing_starts : (loaders others : Loaded) (names left : List ℕ) → others ≡ [] → left ≡ names
    → IsHanding names loaders loaders others left
handing_starts loaders others names left nothing are = rw (nothing, are) (record {
  apart = λ name differs. (refl, refl);
  each = λ name. inr (refl, refl);
  none = λ name is nope. absurd (both_ways (is_among names name) nope is);
  placed = all_among names names (λ name e. e);
})

pub handing_on : (all : List ℕ) (loaders after others after' others' : Loaded) (name : ℕ) (names : List ℕ)
    → IsHanding all loaders after others (name ∷ names) → IsHanded name after others after' others'
    → IsHanding all loaders after' others' names
handing_on all loaders after others after' others' name names its went = record {
  apart = λ n differs.
      let stay = went.stay n
      (λ same. both_ways (is_among all n) differs (subst (λ (k : ℕ). is_among all k ≡ true) same its.placed.0)) in
      (stay.1 ∙ (its.apart n differs).0, stay.0 ∙ (its.apart n differs).1);
  each = λ n. dite (ℕ_discrete name n) (λ same. subst (IsEither loaders after' others') same here)
      (λ differs. past n differs);
  none = λ n is nope. dite (ℕ_discrete name n) (λ same. subst (λ (k : ℕ). named after' k ≡ None) same went.gone)
      (λ differs. (went.stay n differs).0
      ∙ its.none n is (ap (λ b. b || is_among names n) (ne_eqb name n differs) ∙ nope));
  placed = its.placed.1;
}
  where
    here : IsEither loaders after' others' name
    here = ⊎_elim
        (λ some. ⊎_elim (λ gone. absurd (some.0 gone.1)) (λ not_yet. inl (some.1 ∙ not_yet.1, went.gone))
        (its.each name))
        (λ none. ⊎_elim (λ gone. inl (none.1 ∙ gone.0, went.gone))
        (λ not_yet. inr (none.1 ∙ not_yet.0, went.gone ∙ sym none.0 ∙ not_yet.1)) (its.each name))
        went.there

    past : (n : ℕ) → name ≢ n → IsEither loaders after' others' n
    past n differs = ⊎_elim
        (λ gone. inl ((went.stay n differs).1 ∙ gone.0, (went.stay n differs).0 ∙ gone.1))
        (λ not_yet. inr ((went.stay n differs).1 ∙ not_yet.0, (went.stay n differs).0 ∙ not_yet.1))
        (its.each n)

pub handing_ends : (names : List ℕ) (loaders after others : Loaded) → IsHanding names loaders after others []
    → AreHanded names loaders after others
handing_ends names loaders after others its = record {
  here = λ name is. (
    ⊎_elim (λ gone. gone.0) (λ not_yet. not_yet.0 ∙ sym (its.none name is refl) ∙ not_yet.1) (its.each name),
    its.none name is refl,
  );
  apart = its.apart;
}
