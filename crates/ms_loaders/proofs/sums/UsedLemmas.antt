-- The words in use and those committed, of both spaces: their sums over loaders, and that they can
-- be counted.
use Rattle.std.proofs.Common.{◌≡◌, ◌≤◌, ◌+◌, ◌*◌, ℕ, List, [], ◌∷◌, Some, None, length, refl, sym, ap, ◌∙◌, arith}
use Rattle.std.specs.List.{sum_by}
use Rattle.std.specs.Map.{values_of}
use Rattle.std.specs.Option.{option_map}
use Rattle.std.proofs.lemmas.List.Sums.{sum_by-cons}
use Rattle.std.proofs.Math.Nat.{add-mul}
use Rattle.ms_base.specs.declared.kind.Space.TheVariants.{NonClass, Class}
use Rattle.ms_base.specs.Names.{named}
use Rattle.ms_base.specs.Policy.{granule_of}
use Rattle.ms_base.specs.State.{LoaderState, Machine, pool_of}
use Rattle.ms_base.specs.Totals.{used_of, used_words}
use Rattle.ms_base.specs.Good.{IsGood}
use Rattle.ms_base.proofs.machine.SumLemmas.{used_below, few_slots, committed_within_slots}
use Rattle.ms_loader.specs.Loader.{LoaderView}
use Rattle.ms_loaders.specs.System.{states_of}
use Rattle.ms_loader.specs.Amounts.{amounts_at, amounts_if}
use Rattle.ms_loader_map.specs.Used.{used_by, used_at, used_if}
use Rattle.ms_loader.proofs.MappedLemmas.{named-mapped}

-- A loader's words in use, in both spaces.
abbrev pub used_in_both : LoaderView → ℕ
used_in_both loader = used_by loader.state

pub used_is : (loaders : List (ℕ × LoaderView)) → sum_by used_in_both (values_of loaders)
    ≡ sum_by (λ (loader : LoaderState). used_of loader.arena) (values_of (states_of loaders)) + sum_by
    (λ (loader : LoaderState). used_of loader.class_arena) (values_of (states_of loaders))
used_is [] = refl
used_is (e ∷ es) = omega (
  arith,
  sum_by-cons used_in_both e.1 (values_of es),
  sum_by-cons (λ (loader : LoaderState). used_of loader.arena) e.1.state (values_of (states_of es)),
  sum_by-cons (λ (loader : LoaderState). used_of loader.class_arena) e.1.state (values_of (states_of es)),
  used_is es,
)

-- Both can be counted.
pub used_fits : (m : Machine) → IsGood m → used_words NonClass m + used_words Class m ≤ 80 * 1048576
used_fits m good = omega (arith, used_below NonClass m good, used_below Class m good)

pub committed_fits : (m : Machine) → IsGood m
    → (length m.committed + length m.class_committed) * granule_of m.limits.policy ≤ 80 * 1048576
committed_fits m good = omega (
  arith,
  add-mul (length m.committed) (length m.class_committed) (granule_of m.limits.policy),
  committed_within_slots (pool_of NonClass m) (good.pools NonClass),
  committed_within_slots (pool_of Class m) (good.pools Class),
  few_slots NonClass m (good.pools NonClass),
  few_slots Class m (good.pools Class),
)

pub class_committed_fits : (m : Machine) → IsGood m
    → length m.class_committed * granule_of m.limits.policy ≤ 80 * 1048576
class_committed_fits m good = omega (
  arith,
  committed_within_slots (pool_of Class m) (good.pools Class),
  few_slots Class m (good.pools Class),
)

-- A machine's loader of a name has in use what the loader of that name has.
pub used_mapped : (loaders : List (ℕ × LoaderView)) (name : ℕ)
    → used_at (named loaders name) ≡ used_if (named (states_of loaders) name)
used_mapped loaders name =
    elim (named loaders name) as (λ found. used_at found
    ≡ used_if (option_map (λ (loader : LoaderView). loader.state) found)) [
      | Some loader ↦ refl
      | None ↦ refl
    ] ∙ ap used_if (sym (named-mapped (λ (loader : LoaderView). loader.state) loaders name))

-- And so are the words of each space.
pub amounts_mapped : (loaders : List (ℕ × LoaderView)) (name : ℕ)
    → amounts_at (named loaders name) ≡ amounts_if (named (states_of loaders) name)
amounts_mapped loaders name =
    elim (named loaders name) as (λ found. amounts_at found
    ≡ amounts_if (option_map (λ (loader : LoaderView). loader.state) found)) [
      | Some loader ↦ refl
      | None ↦ refl
    ] ∙ ap amounts_if (sym (named-mapped (λ (loader : LoaderView). loader.state) loaders name))
