-- Entries by name that give the same at each name give the same together; so entries with the same
-- values are the same, and a change is taken back by another.
use Rattle.std.proofs.Common.{◌≡◌, ℕ, true, false, cond, Option, Some, None, List, [], ◌∷◌, ◌++◌, refl, sym, ap, ◌∙◌}
use Rattle.std.proofs.Common.{inl, inr}
use Rattle.std.specs.Prelude.{⊤}
use Rattle.std.specs.Ordering.{nat_cmp, ordering_reverse}
use Rattle.std.specs.declared.cmp.Ordering.{Ordering}
use Rattle.std.specs.declared.cmp.Ordering.TheVariants.{Less, Equal, Greater}
use Rattle.std.specs.List.{All, AllByRecursion, flat_map}
use Rattle.std.proofs.lemmas.List.Elements.{All-from_recursion}
use Rattle.std.specs.List.Sorted.{IsStrictlySortedBy}
use Rattle.std.specs.Map.{keys_of, values_of}
use Rattle.std.specs.BTreeMap.{is_at}
use Rattle.std.proofs.lemmas.Bool.{cases_eq, false_from_ne_true}
use Rattle.std.proofs.lemmas.Cmp.{nat_cmp_total}
use Rattle.std.proofs.lemmas.Map.Lookups.{exact_unsigned}
use Rattle.std.proofs.lemmas.Map.Keys.{sorted_from_strictly_increasing}
use Rattle.std.proofs.lemmas.Map.Steps.{set_value_same}
use Rattle.ms_base.specs.Names.{AreNamed, named, with_new, with_changed, without}
use Rattle.ms_base.proofs.entries.LookupLemmas.{at_itself}
use Rattle.ms_base.proofs.entries.NameLemmas.{rises_with_new}
use Rattle.ms_base.proofs.entries.EntryLemmas.{same_name, rises_without}
use Rattle.ms_base.proofs.entries.LookupLemmas.{named_new_same, named_new_other, named_without_other, changed_twice}

-- The names are all above one.
abbrev AreAbove : {X : Type 0} → ℕ → List (ℕ × X) → Type 0
AreAbove low es = AllByRecursion (λ k. nat_cmp low k ≡ Less) (keys_of es)

-- What is below all names, or the same as a lower bound of theirs, is none of them.
not_less : (low k : ℕ) → nat_cmp low k ≡ Less → is_at (nat_cmp low) k ≡ false
not_less low k p = rw p refl

none_above : {X : Type 0} (low : ℕ) (es : List (ℕ × X)) → AreAbove low es → named es low ≡ None
none_above low [] above = refl
none_above low (e ∷ es) above = rw (not_less low e.0 above.0) (none_above low es above.1)

above_lower : {X : Type 0} (low name : ℕ) (es : List (ℕ × X)) → nat_cmp low name ≡ Less → AreAbove name es
    → AreAbove low es
above_lower low name [] h above = tt
above_lower low name (e ∷ es) h above = (nat_cmp_total.trans low name e.0 h above.0, above_lower low name es h above.1)

past : (name other : ℕ) → (name ≡ other → ⊥) → is_at (nat_cmp name) other ≡ false
past name other differ = false_from_ne_true (is_at (nat_cmp name) other) (λ e. differ (sym (same_name name other e)))

-- What each name gives, and what no name gives.
abbrev pub given : {X A : Type 0} → (ℕ → X → List A) → ℕ → Option X → List A
given g name None = []
given g name (Some value) = g name value

abbrev all_of : {X A : Type 0} → (ℕ → X → List A) → List (ℕ × X) → List A
all_of g es = flat_map (λ (e : ℕ × _). g e.0 e.1) es

-- Names in rising order, by recursion.
abbrev Rises : {X : Type 0} → List (ℕ × X) → Type 0
Rises [] = ⊤
Rises (e ∷ es) = AreAbove e.0 es × Rises es

rises_from_sorted : {X : Type 0} (es : List (ℕ × X)) → IsStrictlySortedBy nat_cmp (keys_of es) → Rises es
unfolding IsStrictlySortedBy
rises_from_sorted [] h = tt
rises_from_sorted (e ∷ es) h = (h.0, rises_from_sorted es h.1)

rises : {X : Type 0} (es : List (ℕ × X)) → AreNamed es → Rises es
rises es named = rises_from_sorted es (sorted_from_strictly_increasing (keys_of es) named)

-- The first entry has its name alone, and the others have all other names.
at_first : {X : Type 0} (e : ℕ × X) (es : List (ℕ × X)) → named (e ∷ es) e.0 ≡ Some e.1
at_first e es = rw (at_itself e.0) refl

after_first : {X : Type 0} (e : ℕ × X) (es : List (ℕ × X)) (name : ℕ) → (name ≡ e.0 → ⊥)
    → named (e ∷ es) name ≡ named es name
after_first e es name differ = rw (past name e.0 differ) refl

-- Of two lists the first entries may be left out, where they give the same or nothing.
module _ {X A : Type 0} (g : ℕ → X → List A) where
  abbrev Same : List (ℕ × X) → List (ℕ × X) → Type 0
  Same es fs = (name : ℕ) → given g name (named es name) ≡ given g name (named fs name)

  without_both : (e f : ℕ × X) (es fs : List (ℕ × X)) → e.0 ≡ f.0 → AreAbove e.0 es → AreAbove f.0 fs
      → Same (e ∷ es) (f ∷ fs) → Same es fs
  without_both e f es fs eq above above_too same name = elim (cases_eq name e.0) [
    | inl is ↦ ap (given g name) (ap (named es) is ∙ none_above e.0 es above) ∙ sym
        (ap (given g name) (ap (named fs) (is ∙ eq) ∙ none_above f.0 fs above_too))
    | inr other ↦ sym (ap (given g name) (after_first e es name other)) ∙ same name
        ∙ ap (given g name) (after_first f fs name (λ is. other (is ∙ sym eq)))
  ]

  without_first : (e : ℕ × X) (es fs : List (ℕ × X)) → AreAbove e.0 es → named fs e.0 ≡ None → Same (e ∷ es) fs
      → Same es fs
  without_first e es fs above none same name = elim (cases_eq name e.0) [
    | inl is ↦ ap (given g name) (ap (named es) is ∙ none_above e.0 es above) ∙ sym
        (ap (given g name) (ap (named fs) is ∙ none))
    | inr other ↦ sym (ap (given g name) (after_first e es name other)) ∙ same name
  ]

  gives_nothing : (e : ℕ × X) (es fs : List (ℕ × X)) → named fs e.0 ≡ None → Same (e ∷ es) fs → g e.0 e.1 ≡ []
  gives_nothing e es fs none same = sym (ap (given g e.0) (at_first e es)) ∙ same e.0 ∙ ap (given g e.0) none

  turned : (es fs : List (ℕ × X)) → Same es fs → Same fs es
  turned es fs same name = sym (same name)

  pub alike : (es fs : List (ℕ × X)) → Rises es → Rises fs → Same es fs → all_of g es ≡ all_of g fs
  alike [] [] r s same = refl
  alike [] (f ∷ fs) r s same =
      sym (ap (λ (l : List A). l ++ all_of g fs) (gives_nothing f fs [] refl (turned [] (f ∷ fs) same))
      ∙ sym (alike [] fs r s.1 (turned fs [] (without_first f fs [] s.0 refl (turned [] (f ∷ fs) same)))))
  alike (e ∷ es) [] r s same =
      ap (λ (l : List A). l ++ all_of g es) (gives_nothing e es [] refl same) ∙ alike es [] r.1 s
      (without_first e es [] r.0 refl same)
  alike (e ∷ es) (f ∷ fs) r s same =
      elim (nat_cmp e.0 f.0) as (λ (o : Ordering). nat_cmp e.0 f.0 ≡ o → all_of g (e ∷ es) ≡ all_of g (f ∷ fs)) [
        | Less ↦ λ p. let none : named (f ∷ fs) e.0 ≡ None =
            none_above e.0 (f ∷ fs) (p, above_lower e.0 f.0 fs p s.0) in
            ap (λ (l : List A). l ++ all_of g es) (gives_nothing e es (f ∷ fs) none same) ∙ alike es (f ∷ fs) r.1 s
            (without_first e es (f ∷ fs) r.0 none same)
        | Equal ↦ λ p. let eq : e.0 ≡ f.0 = exact_unsigned e.0 f.0 p in
            let first : g e.0 e.1 ≡ g f.0 f.1 = sym (ap (given g e.0) (at_first e es)) ∙ same e.0 ∙ ap
            (λ (n : ℕ). given g n (named (f ∷ fs) n)) eq ∙ ap (given g f.0) (at_first f fs) in
            ap (λ (l : List A). l ++ all_of g es) first ∙ ap (λ (l : List A). g f.0 f.1 ++ l)
            (alike es fs r.1 s.1 (without_both e f es fs eq r.0 s.0 same))
        | Greater ↦ λ p. let less : nat_cmp f.0 e.0 ≡ Less = nat_cmp_total.antisymm f.0 e.0 ∙ ap ordering_reverse p in
            let none : named (e ∷ es) f.0 ≡ None = none_above f.0 (e ∷ es) (less, above_lower f.0 e.0 es less r.0) in
            sym (ap (λ (l : List A). l ++ all_of g fs)
            (gives_nothing f fs (e ∷ es) none (turned (e ∷ es) (f ∷ fs) same))
            ∙ sym (alike (e ∷ es) fs r s.1 (turned fs (e ∷ es)
            (without_first f fs (e ∷ es) s.0 none (turned (e ∷ es) (f ∷ fs) same)))))
      ] refl

-- So entries with the same value at each name are the same.
itself : {X : Type 0} (es : List (ℕ × X)) → all_of (λ name value. (name, value) ∷ []) es ≡ es
itself [] = refl
itself (e ∷ es) = ap (λ (l : List (ℕ × _)). e ∷ l) (itself es)

pub same_entries : {X : Type 0} (es fs : List (ℕ × X)) → AreNamed es → AreNamed fs
    → ((name : ℕ) → named es name ≡ named fs name) → es ≡ fs
same_entries {X} es fs r s same =
    sym (itself es) ∙ alike listed es fs (rises es r) (rises fs s)
    (λ name. ap (given listed name) (same name)) ∙ itself fs
  where
    listed : ℕ → X → List (ℕ × X)
    listed name value = (name, value) ∷ []

-- And what entries give through a function of their values alone.
pub same_given : {X A : Type 0} (f : X → List A) (es fs : List (ℕ × X)) → AreNamed es → AreNamed fs
    → ((name : ℕ) → given (λ _ value. f value) name (named es name) ≡ given (λ _ value. f value) name (named fs name))
    → flat_map f (values_of es) ≡ flat_map f (values_of fs)
same_given f es fs r s same = from_values es ∙ alike (λ _ value. f value) es fs (rises es r) (rises fs s) same
    ∙ sym (from_values fs)
  where
    from_values : (es : List (ℕ × _)) → flat_map f (values_of es) ≡ all_of (λ _ value. f value) es
    from_values [] = refl
    from_values (e ∷ es) = ap (λ l. f e.1 ++ l) (from_values es)

-- A name that is removed is gone.
gone : {X : Type 0} (es : List (ℕ × X)) (name : ℕ) → Rises es → named (without es name) name ≡ None
gone [] name r = refl
gone (e ∷ es) name r =
    elim (is_at (nat_cmp name) e.0) as (λ b. is_at (nat_cmp name) e.0 ≡ b → named
    (cond b es (e ∷ without es name)) name ≡ None) [
      | true ↦ λ at. ap (named es) (sym (same_name name e.0 at)) ∙ none_above e.0 es r.0
      | false ↦ λ not. rw not (gone es name r.1)
    ] refl

pub named_without_same : {X : Type 0} (es : List (ℕ × X)) (name : ℕ) → AreNamed es → named (without es name) name ≡ None
named_without_same es name r = gone es name (rises es r)

-- A change is taken back by another.
pub changed_back : {X : Type 0} (es : List (ℕ × X)) (name : ℕ) (other is : X) → named es name ≡ Some is
    → with_changed (with_changed es name other) name is ≡ es
changed_back es name other is found = changed_twice es name other is ∙ set_value_same (is_at (nat_cmp name)) es is found

pub new_back : {X : Type 0} (es : List (ℕ × X)) (name : ℕ) (is : X) → AreNamed es → named es name ≡ Some is
    → with_new (without es name) name is ≡ es
new_back es name is r found = same_entries (with_new (without es name) name is) es
    (rises_with_new (without es name) name is (rises_without es name r)) r (λ other. elim (cases_eq name other) [
      | inl eq ↦ ap (named (with_new (without es name) name is)) (sym eq) ∙ named_new_same (without es name) name is
          ∙ sym found ∙ ap (named es) eq
      | inr differ ↦ named_new_other (without es name) name is other differ ∙ named_without_other es name other differ
    ])

pub without_back : {X : Type 0} (es : List (ℕ × X)) (name : ℕ) (is : X) → AreNamed es → named es name ≡ None
    → without (with_new es name is) name ≡ es
without_back es name is r none = same_entries (without (with_new es name is) name) es
    (rises_without (with_new es name is) name (rises_with_new es name is r)) r (λ other. elim (cases_eq name other) [
      | inl eq ↦ ap (named (without (with_new es name is) name)) (sym eq)
          ∙ named_without_same (with_new es name is) name
          (rises_with_new es name is r) ∙ sym none ∙ ap (named es) eq
      | inr differ ↦ named_without_other (with_new es name is) name other differ
          ∙ named_new_other es name is other differ
    ])

-- What holds of the value that each name has holds of all values.
all_named : {X : Type 0} (P : X → Type 0) (es : List (ℕ × X)) → Rises es
    → ((name : ℕ) (value : X) → named es name ≡ Some value → P value) → AllByRecursion P (values_of es)
all_named P [] r each = tt
all_named {X} P (e ∷ es) r each = (
  each e.0 e.1 (at_first e es),
  all_named P es r.1 (λ name value found. elim (cases_eq name e.0) [
    | inl is ↦ absurd (none_found value (sym found ∙ ap (named es) is ∙ none_above e.0 es r.0))
    | inr other ↦ each name value (after_first e es name other ∙ found)
  ]),
)
  where
    none_found : (value : X) → Some value ≡ None → ⊥
    none_found value e = absurd (cc)

pub all_values : {X : Type 0} (P : X → Type 0) (es : List (ℕ × X)) → AreNamed es
    → ((name : ℕ) (value : X) → named es name ≡ Some value → P value) → All P (values_of es)
all_values P es r each = All-from_recursion P (values_of es) (all_named P es (rises es r) each)
