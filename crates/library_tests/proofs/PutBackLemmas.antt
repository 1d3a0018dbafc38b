-- An entry that is taken out and put back under its name: the entries are as before. Used by
-- `settled_late`.
use Rattle.std.proofs.Common.{◌≡◌, ℕ, cond, List, [], ◌∷◌, Some, refl, ap, sym, subst, ◌∙◌}
use Rattle.std.specs.Ordering.{nat_cmp, match_ordering, is_eq}
use Rattle.std.specs.declared.cmp.Ordering.TheVariants.{Less, Equal, Greater}
use Rattle.std.proofs.lemmas.Cmp.{nat_cmp_total}
use Rattle.std.specs.List.{AllByRecursion}
use Rattle.std.specs.List.Sorted.{IsStrictlySortedBy}
use Rattle.std.specs.Map.{keys_of}
use Rattle.std.specs.BTreeMap.{insert_entry}
use Rattle.std.proofs.lemmas.Map.Keys.{sorted_from_strictly_increasing}
use Rattle.ms_base.specs.Names.{AreNamed, named, with_new, without}
use Rattle.ms_base.proofs.entries.EntryLemmas.{same_name}

-- A name is above what is below all others.
abbrev IsAbove : ℕ → ℕ → Type 0
IsAbove low name = nat_cmp low name ≡ Less

-- No entry has a name below all names.
none_below : {X : Type 0} (low : ℕ) (es : List (ℕ × X)) (name : ℕ) (value : X) → IsAbove name low
    → AllByRecursion (IsAbove low) (keys_of es) → named es name ≡ Some value → ⊥
none_below low [] name value below all found = absurd (cc)
none_below {X} low (e ∷ es) name value below all found =
    none_below low es name value below all.1
    (ap (λ o. cond (is_eq o) (Some e.1) (named es name)) (sym (nat_cmp_total.trans name low e.0 below all.0)) ∙ found)

-- A name below all names comes first.
comes_first : {X : Type 0} (es : List (ℕ × X)) (name : ℕ) (value : X)
    → AllByRecursion (IsAbove name) (keys_of es) → insert_entry nat_cmp es name value ≡ (name, value) ∷ es
comes_first [] name value all = refl
comes_first (e ∷ es) name value all = rw all.0 refl

back_sorted : {X : Type 0} (es : List (ℕ × X)) (name : ℕ) (value : X) → IsStrictlySortedBy nat_cmp (keys_of es)
    → named es name ≡ Some value → insert_entry nat_cmp (without es name) name value ≡ es
unfolding IsStrictlySortedBy
back_sorted [] name value h found = absurd (cc)
back_sorted {X} (e ∷ es) name value h found =
    elim (nat_cmp name e.0) as (λ o. nat_cmp name e.0 ≡ o → cond (is_eq o) (Some e.1) (named es name) ≡ Some value
    → insert_entry nat_cmp (cond (is_eq o) es (e ∷ without es name)) name value ≡ e ∷ es) [
      | Less ↦ λ p found. absurd (none_below e.0 es name value p h.0 found)
      | Equal ↦ λ p found. at_head (same_name name e.0 (ap is_eq p)) (cc)
      | Greater ↦
          λ p found.
          ap (λ o. match_ordering o ((name, value) ∷ e ∷ without es name) ((e.0, value) ∷ without es name)
          (e ∷ insert_entry nat_cmp (without es name) name value)) p
          ∙ ap (λ l. e ∷ l) (back_sorted es name value h.1 found)
    ] refl found
  where
    at_head : e.0 ≡ name → e.1 ≡ value → insert_entry nat_cmp es name value ≡ e ∷ es
    at_head is same =
        comes_first es name value (subst (λ low. AllByRecursion (IsAbove low) (keys_of es)) is h.0)
        ∙ ap (λ (k : ℕ). (k, value) ∷ es) (sym is) ∙ ap (λ (v : X). (e.0, v) ∷ es) (sym same)

-- The entries are as before.
pub put_back : {X : Type 0} (es : List (ℕ × X)) (name : ℕ) (value : X) → AreNamed es
    → named es name ≡ Some value → with_new (without es name) name value ≡ es
put_back es name value rises found =
    back_sorted es name value (sorted_from_strictly_increasing (keys_of es) rises) found
