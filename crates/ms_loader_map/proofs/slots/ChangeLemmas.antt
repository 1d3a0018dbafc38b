-- The list of loaders by name where one comes, is changed or goes at its number, and what is kept
-- true then. The functions of `Loaders` use these.
use Rattle.std.proofs.Common.{◌≡◌, ℕ, zero, suc, ◌+◌, ◌*◌, ◌-◌, ◌≤◌, cond, Option, Some, None, List, [], ◌∷◌, length}
use Rattle.std.proofs.Common.{refl, sym, ap, ◌∙◌, inl, inr, arith, IfSome, true, false}
use Rattle.std.specs.Ordering.{nat_cmp}
use Rattle.std.specs.BTreeMap.{is_at}
use Rattle.std.proofs.lemmas.Bool.{cases_eq, eq-eqb, ne_eqb}
use Rattle.std.proofs.lemmas.List.{length-append}
use Rattle.ms_base.specs.Names.{AreNamed, named, with_new, with_changed, without}
use Rattle.ms_base.proofs.entries.EntryLemmas.{gap_at, split_at, rises_with_changed, rises_without}
use Rattle.ms_base.proofs.entries.LookupLemmas.{at_itself, named_new_same, named_new_other, named_changed_same}
use Rattle.ms_base.proofs.entries.LookupLemmas.{named_changed_other, named_without_other}
use Rattle.ms_base.proofs.entries.NameLemmas.{rises_with_new}
use Rattle.ms_base.proofs.events.SeenEntryLemmas.{same_entries, named_without_same}
use Rattle.ms_loader_map.specs.Slots.{AreAtNames, IsNext, ChangesAt, slot_at, filled_from, rest_of, value_of, with_first}
use Rattle.ms_loader_map.proofs.slots.PageLemmas.{next_rest, past_pages}
use Rattle.ms_loader_map.proofs.slots.FilledLemmas.{named_at_names, rises_at_names}

abbrev Pages : Type 0 → Type 0
Pages X = List (List (Option (ℕ × X)))

module _ {X : Type 0} where
  -- What a name has, and that the names rise.
  pub named_rest : (pages : Pages X) (name : ℕ) → AreAtNames (slot_at pages)
      → named (rest_of pages 0) name ≡ value_of (slot_at pages name)
  named_rest pages name at_names = named_at_names (slot_at pages) at_names 0 (256 * length pages - 0) name (omega arith)
      (λ past. past_pages pages name (omega (arith, past)))

  pub rises_rest : (pages : Pages X) → AreAtNames (slot_at pages) → AreNamed (rest_of pages 0)
  rises_rest pages at_names = rises_at_names (slot_at pages) 0 (256 * length pages - 0) at_names

  -- What stands at a number that has changed, and at the others.
  pub here : (old new : ℕ → Option (ℕ × X)) (name : ℕ) (entry : Option (ℕ × X)) → ChangesAt old name entry new
      → (other : ℕ) → name ≡ other → new other ≡ entry
  here old new name entry at_names other same =
      at_names other ∙ ap (λ b. cond b entry (old other)) (eq-eqb name other same)

  pub there : (old new : ℕ → Option (ℕ × X)) (name : ℕ) (entry : Option (ℕ × X)) → ChangesAt old name entry new
      → (other : ℕ) → (name ≡ other → ⊥) → new other ≡ old other
  there old new name entry at_names other differ =
      at_names other ∙ ap (λ b. cond b entry (old other)) (ne_eqb name other differ)

  pub stay_at_names : (old new : ℕ → Option (ℕ × X)) (name : ℕ) (entry : Option (ℕ × X)) → ChangesAt old name entry new
      → AreAtNames old → IfSome entry (λ e. e.0 ≡ name) → AreAtNames new
  stay_at_names old new name entry at_names were own number = elim (cases_eq name number) [
    | inl same ↦ rw (here old new name entry at_names number same) (rw (← same) own)
    | inr differ ↦ rw (there old new name entry at_names number differ) (were number)
  ]

  -- Lists of the same names with the same, and one with a new name, a changed one and one less.
  pub same_rest : (old new : Pages X) → AreAtNames (slot_at old) → AreAtNames (slot_at new)
      → ((number : ℕ) → slot_at new number ≡ slot_at old number) → rest_of new 0 ≡ rest_of old 0
  same_rest old new were are same =
      same_entries (rest_of new 0) (rest_of old 0) (rises_rest new are) (rises_rest old were)
      (λ name. named_rest new name are ∙ ap value_of (same name) ∙ sym (named_rest old name were))

  pub new_rest : (old new : Pages X) (name : ℕ) (value : X) → AreAtNames (slot_at old)
      → ChangesAt (slot_at old) name (Some (name, value)) (slot_at new)
      → rest_of new 0 ≡ with_new (rest_of old 0) name value
  new_rest old new name value were at_names = same_entries (rest_of new 0) (with_new (rest_of old 0) name value)
      (rises_rest new are) (rises_with_new (rest_of old 0) name value (rises_rest old were))
      (λ other. named_rest new other are ∙ elim (cases_eq name other) [
        | inl same ↦ ap value_of (here (slot_at old) (slot_at new) name (Some (name, value)) at_names other same)
            ∙ sym (named_new_same (rest_of old 0) name value)
            ∙ ap (named (with_new (rest_of old 0) name value)) same
        | inr differ ↦ ap value_of (there (slot_at old) (slot_at new) name (Some (name, value)) at_names other differ)
            ∙ sym (named_rest old other were) ∙ sym (named_new_other (rest_of old 0) name value other differ)
      ])
    where
      are : AreAtNames (slot_at new)
      are = stay_at_names (slot_at old) (slot_at new) name (Some (name, value)) at_names were refl

  pub changed_rest : (old new : Pages X) (name : ℕ) (was value : X) → AreAtNames (slot_at old)
      → ChangesAt (slot_at old) name (Some (name, value)) (slot_at new) → named (rest_of old 0) name ≡ Some was
      → rest_of new 0 ≡ with_changed (rest_of old 0) name value
  changed_rest old new name was value were at_names found =
      same_entries (rest_of new 0) (with_changed (rest_of old 0) name value)
      (rises_rest new are) (rises_with_changed (rest_of old 0) name value (rises_rest old were))
      (λ other. named_rest new other are ∙ elim (cases_eq name other) [
        | inl same ↦ ap value_of (here (slot_at old) (slot_at new) name (Some (name, value)) at_names other same)
            ∙ sym (named_changed_same (rest_of old 0) name was value found)
            ∙ ap (named (with_changed (rest_of old 0) name value)) same
        | inr differ ↦ ap value_of (there (slot_at old) (slot_at new) name (Some (name, value)) at_names other differ)
            ∙ sym (named_rest old other were) ∙ sym (named_changed_other (rest_of old 0) name value other differ)
      ])
    where
      are : AreAtNames (slot_at new)
      are = stay_at_names (slot_at old) (slot_at new) name (Some (name, value)) at_names were refl

  pub changed_nothing : (es : List (ℕ × X)) (name : ℕ) (value : X) → named es name ≡ None
      → with_changed es name value ≡ es
  changed_nothing [] name value none = refl
  changed_nothing (e ∷ es) name value none =
      elim (is_at (nat_cmp name) e.0) as (λ b. cond b (Some e.1) (named es name) ≡ None
      → cond b ((e.0, value) ∷ es) (e ∷ with_changed es name value) ≡ e ∷ es) [
        | true ↦ λ none. absurd (cc none)
        | false ↦ λ none. ap (λ (l : List (ℕ × X)). e ∷ l) (changed_nothing es name value none)
      ] none

  pub gone_rest : (old new : Pages X) (name : ℕ) → AreAtNames (slot_at old)
      → ChangesAt (slot_at old) name None (slot_at new) → rest_of new 0 ≡ without (rest_of old 0) name
  gone_rest old new name were at_names = same_entries (rest_of new 0) (without (rest_of old 0) name)
      (rises_rest new are) (rises_without (rest_of old 0) name (rises_rest old were))
      (λ other. named_rest new other are ∙ elim (cases_eq name other) [
        | inl same ↦ ap value_of (here (slot_at old) (slot_at new) name None at_names other same)
            ∙ sym (named_without_same (rest_of old 0) name (rises_rest old were))
            ∙ ap (named (without (rest_of old 0) name)) same
        | inr differ ↦ ap value_of (there (slot_at old) (slot_at new) name None at_names other differ)
            ∙ sym (named_rest old other were) ∙ sym (named_without_other (rest_of old 0) name other differ)
      ])
    where
      are : AreAtNames (slot_at new)
      are = stay_at_names (slot_at old) (slot_at new) name None at_names were tt

  -- How many there are at most, and once one came, was changed or went.
  few_from : (at : ℕ → Option (ℕ × X)) (from count : ℕ) → length (filled_from at from count) ≤ count
  few_from at from zero = omega arith
  few_from at from (suc count) = elim (at from) as
      (λ o. length (with_first o (filled_from at (suc from) count)) ≤ suc count) [
        | None ↦ omega (arith, few_from at (suc from) count)
        | Some e ↦ omega (arith, few_from at (suc from) count)
      ]

  pub few_rest : (pages : Pages X) → length (rest_of pages 0) ≤ 256 * length pages
  few_rest pages = omega (arith, few_from (slot_at pages) 0 (256 * length pages - 0))

  pub one_more : (es : List (ℕ × X)) (name : ℕ) (value : X) → named es name ≡ None
      → length (with_new es name value) ≡ length es + 1
  one_more es name value none = let gap = gap_at es name none in
      ap length (gap.made value) ∙ omega (
        arith,
        length-append gap.before ((name, value) ∷ gap.after),
        length-append gap.before gap.after,
        ap length gap.is,
      )

  pub one_less : (es : List (ℕ × X)) (name : ℕ) (value : X) → named es name ≡ Some value
      → length es ≡ length (without es name) + 1
  one_less es name value found = let split = split_at es name value found in omega (
    arith,
    length-append split.before ((name, value) ∷ split.after),
    length-append split.before split.after,
    ap length split.is,
    ap length split.gone,
  )

  -- The first of all is taken out: the others are left.
  pub first_rest : (old new : Pages X) (number : ℕ) (e : ℕ × X) → AreAtNames (slot_at old)
      → IsNext (slot_at old) 0 number e → ChangesAt (slot_at old) e.0 None (slot_at new)
      → rest_of old 0 ≡ e ∷ rest_of new 0
  first_rest old new number e were next at_names =
      let all : rest_of old 0 ≡ e ∷ rest_of old (number + 1) = next_rest old 0 number e next in
      let others : without (e ∷ rest_of old (number + 1)) e.0 ≡ rest_of old (number + 1) = rw (at_itself e.0) refl in
      all ∙ ap (λ (es : List (ℕ × X)). e ∷ es)
      (sym (gone_rest old new e.0 were at_names ∙ ap (λ (es : List (ℕ × X)). without es e.0) all ∙ others))
