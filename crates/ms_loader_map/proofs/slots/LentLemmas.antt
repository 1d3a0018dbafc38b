-- A loader that was lent at its number: what is kept, and the list, whatever it is then, or where
-- there is none. `Loaders::get_mut` uses these.
use Rattle.std.proofs.Common.{◌≡◌, ℕ, Option, Some, None, List, refl, sym, ap, ◌∙◌, subst}
use Rattle.ms_base.specs.Names.{with_changed}
use Rattle.ms_loader.specs.Loader.{LoaderView}
use Rattle.ms_loader_map.specs.Lent.{pages_with, with_loader}
use Rattle.ms_loader_map.specs.Slots.{AreKept, AreAtNames, ChangesAt, slot_at, rest_of, value_of}
use Rattle.ms_loader_map.proofs.slots.ChangeLemmas.{changed_nothing, changed_rest, named_rest, same_rest}
use Rattle.ms_loader_map.proofs.slots.KeptLemmas.{kept_changed, kept_same, nothing_gone, own_name}
use Rattle.ms_loader_map.proofs.slots.PageLemmas.{filled_with}

module _ (pages : List (List (Option (ℕ × LoaderView)))) (name : ℕ) (loader : LoaderView) where
  -- What stands at each number then, where nothing stood at this one, and where a loader did.
  with_nothing : slot_at pages name ≡ None → (number : ℕ)
      → slot_at (pages_with pages name loader) number ≡ slot_at pages number
  with_nothing none = nothing_gone (slot_at pages) (slot_at (pages_with pages name loader)) name
      (subst
      (λ o. ChangesAt (slot_at pages) name (with_loader o loader) (slot_at (pages_with pages name loader))) none
      (filled_with pages name loader)) none

  with_one : (e : ℕ × LoaderView) → AreAtNames (slot_at pages) → slot_at pages name ≡ Some e
      → ChangesAt (slot_at pages) name (Some (name, loader)) (slot_at (pages_with pages name loader))
  with_one e at_names found =
      subst (λ n. ChangesAt (slot_at pages) name (Some (n, loader)) (slot_at (pages_with pages name loader)))
      (own_name (slot_at pages) name e at_names found)
      (subst
      (λ o. ChangesAt (slot_at pages) name (with_loader o loader) (slot_at (pages_with pages name loader))) found
      (filled_with pages name loader))

  stands : (e : ℕ × LoaderView) → AreAtNames (slot_at pages) → slot_at pages name ≡ Some e
      → slot_at pages name ≡ Some (name, e.1)
  stands e at_names found = found ∙ ap (λ n. Some (n, e.1)) (own_name (slot_at pages) name e at_names found)

  pub kept_lent : (first count : ℕ) → AreKept pages first count → AreKept (pages_with pages name loader) first count
  kept_lent first count kept =
      elim (slot_at pages name) as
      (λ o. slot_at pages name ≡ o → AreKept (pages_with pages name loader) first count) [
        | None ↦ λ none. kept_same pages (pages_with pages name loader) first count kept (with_nothing none)
        | Some e ↦ λ found. kept_changed pages (pages_with pages name loader) first count name e.1 loader kept
            (with_one e kept.at_names found) (stands e kept.at_names found)
      ] refl

  pub changed_lent : (first count : ℕ) → AreKept pages first count
      → rest_of (pages_with pages name loader) 0 ≡ with_changed (rest_of pages 0) name loader
  changed_lent first count kept =
      elim (slot_at pages name) as (λ o. slot_at pages name ≡ o
      → rest_of (pages_with pages name loader) 0 ≡ with_changed (rest_of pages 0) name loader) [
        | None ↦ λ none. same_rest pages (pages_with pages name loader) kept.at_names (kept_lent first count kept).at_names
            (with_nothing none) ∙ sym (changed_nothing (rest_of pages 0) name loader
            (named_rest pages name kept.at_names ∙ ap value_of none))
        | Some e ↦ λ found. changed_rest pages (pages_with pages name loader) name e.1 loader kept.at_names
            (with_one e kept.at_names found) (named_rest pages name kept.at_names ∙ ap value_of found)
      ] refl
