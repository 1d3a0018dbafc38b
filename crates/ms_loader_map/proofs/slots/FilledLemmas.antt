-- Entries that stand at their names, as a list: it rises, gives at each name what stands there, and
-- an entry that comes, is changed or goes is one change of that list. `Loaders` uses these.
use Rattle.std.proofs.Common.{◌≡◌, ℕ, zero, suc, ◌+◌, ◌<◌, ◌≤◌, false, Option, Some, None}
use Rattle.std.proofs.Common.{refl, sym, ap, inl, inr, arith, IfSome, subst}
use Rattle.std.specs.Ordering.{nat_cmp}
use Rattle.std.specs.Cmp.{nat_cmp_is}
use Rattle.std.specs.declared.cmp.Ordering.TheVariants.{Less}
use Rattle.std.specs.List.{AllByRecursion}
use Rattle.std.specs.List.Sorted.{IsStrictlySortedBy}
use Rattle.std.specs.Map.{keys_of}
use Rattle.std.specs.BTreeMap.{is_at}
use Rattle.std.proofs.lemmas.Bool.{cases_eq, false_from_ne_true}
use Rattle.std.proofs.lemmas.Map.Keys.{IsStrictlyIncreasing-from_sorted}
use Rattle.ms_base.specs.Names.{AreNamed, named}
use Rattle.ms_base.proofs.entries.EntryLemmas.{same_name}
use Rattle.ms_base.proofs.entries.LookupLemmas.{at_itself}
use Rattle.ms_loader_map.specs.Slots.{AreAtNames, filled_from, value_of, with_first}

-- The names are above all lower numbers, and rise.
above : {X : Type 0} (at : ℕ → Option (ℕ × X)) → AreAtNames at → (low from count : ℕ) → low < from
    → AllByRecursion (λ k. nat_cmp low k ≡ Less) (keys_of (filled_from at from count))
above at at_names low from zero less = tt
above {X} at at_names low from (suc count) less =
    elim (at from) as (λ o. IfSome o (λ e. e.0 ≡ from)
    → AllByRecursion (λ k. nat_cmp low k ≡ Less) (keys_of (with_first o (filled_from at (suc from) count)))) [
      | None ↦ λ same. above at at_names low (suc from) count (omega (arith, less))
      | Some e ↦ λ same. (
        sym (nat_cmp_is low e.0 Less (omega (arith, less, same))),
        above at at_names low (suc from) count (omega (arith, less)),
      )
    ] (at_names from)

sorted_from : {X : Type 0} (at : ℕ → Option (ℕ × X)) → AreAtNames at → (from count : ℕ)
    → IsStrictlySortedBy nat_cmp (keys_of (filled_from at from count))
unfolding IsStrictlySortedBy
sorted_from at at_names from zero = tt
sorted_from {X} at at_names from (suc count) =
    elim (at from) as (λ o. IfSome o (λ e. e.0 ≡ from)
    → IsStrictlySortedBy nat_cmp (keys_of (with_first o (filled_from at (suc from) count)))) [
      | None ↦ λ same. sorted_from at at_names (suc from) count
      | Some e ↦ λ same. (
        above at at_names e.0 (suc from) count (omega (arith, same)),
        sorted_from at at_names (suc from) count,
      )
    ] (at_names from)

pub rises_at_names : {X : Type 0} (at : ℕ → Option (ℕ × X)) (from count : ℕ) → AreAtNames at
    → AreNamed (filled_from at from count)
rises_at_names at from count at_names = IsStrictlyIncreasing-from_sorted _ (sorted_from at at_names from count)

-- What a name has: what stands at it, from the first number on.
past : (name other : ℕ) → (name ≡ other → ⊥) → is_at (nat_cmp name) other ≡ false
past name other differ = false_from_ne_true (is_at (nat_cmp name) other) (λ e. differ (sym (same_name name other e)))

none_below : {X : Type 0} (at : ℕ → Option (ℕ × X)) → AreAtNames at → (from count name : ℕ) → name < from
    → named (filled_from at from count) name ≡ None
none_below at at_names from zero name less = refl
none_below {X} at at_names from (suc count) name less =
    elim (at from) as (λ o. IfSome o (λ e. e.0 ≡ from)
    → named (with_first o (filled_from at (suc from) count)) name ≡ None) [
      | None ↦ λ same. none_below at at_names (suc from) count name (omega (arith, less))
      | Some e ↦ λ same. rw (past name e.0 (λ p. absurd (omega (arith, p, same, less))))
          (none_below at at_names (suc from) count name (omega (arith, less)))
    ] (at_names from)

pub named_at_names : {X : Type 0} (at : ℕ → Option (ℕ × X)) → AreAtNames at → (from count name : ℕ) → from ≤ name
    → (from + count ≤ name → at name ≡ None) → named (filled_from at from count) name ≡ value_of (at name)
named_at_names at at_names from zero name least past_all = sym (ap value_of (past_all (omega (arith, least))))
named_at_names {X} at at_names from (suc count) name least past_all = elim (cases_eq from name) [
  | inl same ↦ subst (λ n. named (filled_from at from (suc count)) n ≡ value_of (at n)) same
      (elim (at from) as (λ o. IfSome o (λ e. e.0 ≡ from)
      → named (with_first o (filled_from at (suc from) count)) from ≡ value_of o) [
        | None ↦ λ same. none_below at at_names (suc from) count from (omega arith)
        | Some e ↦ λ same. rw same (rw (at_itself from) refl)
      ] (at_names from))
  | inr differ ↦
      let later : named (filled_from at (suc from) count) name ≡ value_of (at name) =
      named_at_names at at_names (suc from) count name (omega (arith, least, differ)) (λ h. past_all (omega (arith, h))) in
      elim (at from) as (λ o. IfSome o (λ e. e.0 ≡ from)
      → named (with_first o (filled_from at (suc from) count)) name ≡ value_of (at name)) [
        | None ↦ λ same. later
        | Some e ↦ λ same. rw (past name e.0 (λ p. differ (omega (arith, p, same)))) later
      ] (at_names from)
]
