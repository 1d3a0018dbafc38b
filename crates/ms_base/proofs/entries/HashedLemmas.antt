-- Entries in no order, as a hash map has them: by name they are a list in rising order that gives
-- the same at each name, and a change of the map is one of that list.
use Rattle.std.proofs.Common.{◌≡◌, ℕ, cond, Option, Some, None, List, [], ◌∷◌, refl, sym, ap}
use Rattle.std.proofs.Common.{◌∙◌, inl, inr, arith}
use Rattle.std.specs.Prelude.{nat_eq}
use Rattle.std.specs.Map.{lookup}
use Rattle.std.proofs.lemmas.Bool.{cases_eq, eq-eqb, ne_eqb}
use Rattle.std.proofs.lemmas.Map.Entries.{lookup_head, lookup_tail}
use Rattle.ms_base.specs.Names.{AreNamed, named, with_new, without}
use Rattle.ms_base.specs.Hashed.{by_name}
use Rattle.ms_base.proofs.entries.EntryLemmas.{rises_without}
use Rattle.ms_base.proofs.entries.LookupLemmas.{named_new_same, named_new_other}
use Rattle.ms_base.proofs.entries.LookupLemmas.{named_without_other}
use Rattle.ms_base.proofs.entries.NameLemmas.{rises_with_new}
use Rattle.ms_base.proofs.events.SeenEntryLemmas.{same_entries, named_without_same}

-- The names rise, in whatever order the entries were.
pub rises_by_name : {X : Type 0} (es : List (ℕ × X)) → AreNamed (by_name es)
rises_by_name [] = λ k h. absurd (omega arith)
rises_by_name (e ∷ es) = rises_with_new (by_name es) e.0 e.1 (rises_by_name es)

-- What has a name: the first entry with that key.
pub named_by_name : {X : Type 0} (es : List (ℕ × X)) (name : ℕ) → named (by_name es) name ≡ lookup (nat_eq name) es
named_by_name [] name = refl
named_by_name (e ∷ es) name = elim (cases_eq e.0 name) [
  | inl same ↦ ap (named (with_new (by_name es) e.0 e.1)) (sym same) ∙ named_new_same (by_name es) e.0 e.1
      ∙ sym (lookup_head (nat_eq name) e es (eq-eqb name e.0 (sym same)))
  | inr differ ↦ named_new_other (by_name es) e.0 e.1 name differ ∙ named_by_name es name
      ∙ sym (lookup_tail (nat_eq name) e es (ne_eqb name e.0 (λ e_is. differ (sym e_is))))
]

-- Which list in rising order they are.
pub by_name_is : {X : Type 0} (es named_es : List (ℕ × X)) → AreNamed named_es
    → ((name : ℕ) → lookup (nat_eq name) es ≡ named named_es name) → by_name es ≡ named_es
by_name_is es named_es rises same =
    same_entries (by_name es) named_es (rises_by_name es) rises (λ name. named_by_name es name ∙ same name)

-- A name has this value, or none, and all others have what they had, as a hash map's clauses say
-- it.
abbrev pub Sets : {X : Type 0} → List (ℕ × X) → List (ℕ × X) → ℕ → Option X → Type 0
Sets old new name value = (other : ℕ) → lookup (nat_eq other) new ≡ cond (nat_eq name other) value
    (lookup (nat_eq other) old)

set_here : {X : Type 0} (old new : List (ℕ × X)) (name : ℕ) (value : Option X) → Sets old new name value
    → (other : ℕ) → name ≡ other → lookup (nat_eq other) new ≡ value
set_here old new name value sets other same =
    sets other ∙ ap (λ b. cond b value (lookup (nat_eq other) old)) (eq-eqb name other same)

set_other : {X : Type 0} (old new : List (ℕ × X)) (name : ℕ) (value : Option X) → Sets old new name value
    → (other : ℕ) → (name ≡ other → ⊥) → lookup (nat_eq other) new ≡ named (by_name old) other
set_other old new name value sets other differ =
    sets other ∙ ap (λ b. cond b value (lookup (nat_eq other) old)) (ne_eqb name other differ)
    ∙ sym (named_by_name old other)

-- A new name, and a name that goes.
pub new_by_name : {X : Type 0} (old new : List (ℕ × X)) (name : ℕ) (value : X) → Sets old new name (Some value)
    → by_name new ≡ with_new (by_name old) name value
new_by_name old new name value sets =
    by_name_is new (with_new (by_name old) name value) (rises_with_new (by_name old) name value (rises_by_name old))
    (λ other. elim (cases_eq name other) [
      | inl same ↦ set_here old new name (Some value) sets other same ∙ sym (named_new_same (by_name old) name value)
          ∙ ap (named (with_new (by_name old) name value)) same
      | inr differ ↦ set_other old new name (Some value) sets other differ
          ∙ sym (named_new_other (by_name old) name value other differ)
    ])

pub without_by_name : {X : Type 0} (old new : List (ℕ × X)) (name : ℕ) → Sets old new name None
    → by_name new ≡ without (by_name old) name
without_by_name old new name sets =
    by_name_is new (without (by_name old) name) (rises_without (by_name old) name (rises_by_name old))
    (λ other. elim (cases_eq name other) [
      | inl same ↦ set_here old new name None sets other same
          ∙ sym (named_without_same (by_name old) name (rises_by_name old))
          ∙ ap (named (without (by_name old) name)) same
      | inr differ ↦ set_other old new name None sets other differ
          ∙ sym (named_without_other (by_name old) name other differ)
    ])
