-- What has a name after entries changed: the new value at the name itself, the former at any other.
use Rattle.std.proofs.Common.{◌≡◌, ℕ, true, false, cond, Some, List, [], ◌∷◌, refl, sym, ap, ◌∙◌, arith}
use Rattle.std.specs.Ordering.{nat_cmp, match_ordering, is_eq}
use Rattle.std.specs.declared.cmp.Ordering.TheVariants.{Less, Equal, Greater}
use Rattle.std.specs.BTreeMap.{is_at}
use Rattle.std.proofs.lemmas.Bool.{false_from_ne_true}
use Rattle.std.proofs.lemmas.Bool.Decides.{nat_tests}
use Rattle.ms_base.specs.Names.{named, with_new, with_changed, without}
use Rattle.ms_base.proofs.entries.EntryLemmas.{same_name}

pub at_itself : (name : ℕ) → is_at (nat_cmp name) name ≡ true
at_itself name = grind (arith, nat_tests)

not_at_other : (name other : ℕ) → (name ≡ other → ⊥) → is_at (nat_cmp other) name ≡ false
not_at_other name other differ = false_from_ne_true (is_at (nat_cmp other) name) (λ e. differ (same_name other name e))

pub named_changed_same : {X : Type 0} (es : List (ℕ × X)) (name : ℕ) (was is : X) → named es name ≡ Some was
    → named (with_changed es name is) name ≡ Some is
named_changed_same [] name was is found = absurd (cc)
named_changed_same {X} (e ∷ es) name was is found =
    elim (is_at (nat_cmp name) e.0) as (λ b. is_at (nat_cmp name) e.0 ≡ b → cond b (Some e.1) (named es name) ≡ Some was
    → named (cond b ((e.0, is) ∷ es) (e ∷ with_changed es name is)) name ≡ Some is) [
      | true ↦ λ here found. rw here refl
      | false ↦ λ past found. rw past (named_changed_same es name was is found)
    ] refl found

pub named_changed_other : {X : Type 0} (es : List (ℕ × X)) (name : ℕ) (is : X) (other : ℕ) → (name ≡ other → ⊥)
    → named (with_changed es name is) other ≡ named es other
named_changed_other [] name is other differ = refl
named_changed_other {X} (e ∷ es) name is other differ =
    elim (is_at (nat_cmp name) e.0) as (λ b. is_at (nat_cmp name) e.0 ≡ b
    → named (cond b ((e.0, is) ∷ es) (e ∷ with_changed es name is)) other ≡ named (e ∷ es) other) [
      | true ↦ λ here. let past = not_at_other e.0 other (λ e_is. differ (sym (same_name name e.0 here) ∙ e_is)) in
          rw past refl
      | false ↦ λ past. ap (cond (is_at (nat_cmp other) e.0) (Some e.1)) (named_changed_other es name is other differ)
    ] refl

pub named_new_same : {X : Type 0} (es : List (ℕ × X)) (name : ℕ) (is : X) → named (with_new es name is) name ≡ Some is
named_new_same [] name is = rw (at_itself name) refl
named_new_same {X} (e ∷ es) name is =
    elim (nat_cmp name e.0) as (λ o. nat_cmp name e.0 ≡ o
    → named (match_ordering o ((name, is) ∷ e ∷ es) ((e.0, is) ∷ es) (e ∷ with_new es name is)) name ≡ Some is) [
      | Less ↦ λ p. rw (at_itself name) refl
      | Equal ↦ λ p. rw p refl
      | Greater ↦ λ p. rw p (named_new_same es name is)
    ] refl

pub named_new_other : {X : Type 0} (es : List (ℕ × X)) (name : ℕ) (is : X) (other : ℕ) → (name ≡ other → ⊥)
    → named (with_new es name is) other ≡ named es other
named_new_other [] name is other differ = rw (not_at_other name other differ) refl
named_new_other {X} (e ∷ es) name is other differ =
    elim (nat_cmp name e.0) as (λ o. nat_cmp name e.0 ≡ o
    → named (match_ordering o ((name, is) ∷ e ∷ es) ((e.0, is) ∷ es) (e ∷ with_new es name is)) other
    ≡ named (e ∷ es) other) [
      | Less ↦ λ p. rw (not_at_other name other differ) refl
      | Equal ↦ λ p. let past = not_at_other e.0 other (λ e_is. differ (sym (same_name name e.0 (ap is_eq p)) ∙ e_is))
          in rw past refl
      | Greater ↦ λ p. ap (cond (is_at (nat_cmp other) e.0) (Some e.1)) (named_new_other es name is other differ)
    ] refl

pub named_without_other : {X : Type 0} (es : List (ℕ × X)) (name other : ℕ) → (name ≡ other → ⊥)
    → named (without es name) other ≡ named es other
named_without_other [] name other differ = refl
named_without_other {X} (e ∷ es) name other differ =
    elim (is_at (nat_cmp name) e.0) as (λ b. is_at (nat_cmp name) e.0 ≡ b
    → named (cond b es (e ∷ without es name)) other ≡ named (e ∷ es) other) [
      | true ↦ λ here. let past = not_at_other e.0 other (λ e_is. differ (sym (same_name name e.0 here) ∙ e_is)) in
          rw past refl
      | false ↦ λ past. ap (cond (is_at (nat_cmp other) e.0) (Some e.1)) (named_without_other es name other differ)
    ] refl

-- Of two changes at a name the later stays.
pub changed_twice : {X : Type 0} (es : List (ℕ × X)) (name : ℕ) (first second : X)
    → with_changed (with_changed es name first) name second ≡ with_changed es name second
changed_twice [] name first second = refl
changed_twice {X} (e ∷ es) name first second =
    elim (is_at (nat_cmp name) e.0) as (λ b. is_at (nat_cmp name) e.0 ≡ b
    → with_changed (cond b ((e.0, first) ∷ es) (e ∷ with_changed es name first)) name second
    ≡ cond b ((e.0, second) ∷ es) (e ∷ with_changed es name second)) [
      | true ↦ λ here. rw here refl
      | false ↦ λ past. rw past (ap (λ (l : List (ℕ × X)). e ∷ l) (changed_twice es name first second))
    ] refl
