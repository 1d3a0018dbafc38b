-- What the code picks is what the model picks: the part that is found first, or a new root.
use Rattle.std.proofs.Common.{◌≡◌, ◌≤◌, ℕ, ◌*◌, max, Bool, true, false, not, ◌&&◌, ◌||◌, ◌==◌, List, [], ◌∷◌, length}
use Rattle.std.proofs.Common.{refl, sym, ap, subst, ◌∙◌, arith, Some, None, eqb-true, le-leb, inl, inr}
use Rattle.std.specs.Prelude.{Option, nat_le, slice_get}
use Rattle.std.specs.Option.{unwrap_or}
use Rattle.std.specs.List.{AllByRecursion, list_any}
use Rattle.std.proofs.lemmas.Bool.{and_parts, false_from_ne_true, or_cases}
use Rattle.ms_base.specs.declared.span.Span.{Span}
use Rattle.ms_base.specs.Part.{is_reserved, node_words, slot_of}
use Rattle.ms_base.specs.FreeParts.{IsFreePart, free_parts}
use Rattle.ms_base.proofs.free.RoomLemmas.{listed_is_free}
use Rattle.std.proofs.lemmas.List.Elements.{All-contains}
use Rattle.std.proofs.lemmas.List.Folds.{Any-from_list_any}
use Rattle.ms_base.specs.State.{PoolState}
use Rattle.ms_base.specs.Laws.{IsFound}
use Rattle.ms_base.specs.PoolSteps.Pick.{candidates, lowest_unreserved, new_root}
use Rattle.ms_base.specs.PoolSteps.Causes.{has_room, node_limit}
use Rattle.ms_base.proofs.free.PickLemmas.{candidates_are_free}
use Rattle.ms_pool.specs.Searching.{first_found, is_full, part_picked}
use Rattle.ms_pool.proofs.ledger.FoundLemmas.{room_is_found}

same_some : {X : Type 0} (x y : X) → Some x ≡ Some y → x ≡ y
same_some {X = X} x y e = ap (λ (o : Option X). unwrap_or o x) e

first_holds : {X : Type 0} (P : X → Type 0) (xs : List X) (x : X) → AllByRecursion P xs → slice_get xs 0 ≡ Some x → P x
first_holds P [] x all is = absurd (cc)
first_holds P (y ∷ xs) x all is = subst P (same_some y x is) all.0

no_first : {X : Type 0} (xs : List X) → slice_get xs 0 ≡ None → xs ≡ []
no_first [] is = refl
no_first (y ∷ xs) is = absurd (cc)

any_weaker : {X : Type 0} (p q : X → Bool) → ((x : X) → p x ≡ true → q x ≡ true) → (xs : List X) → list_any p xs ≡ true
    → list_any q xs ≡ true
any_weaker p q step [] there = there
any_weaker p q step (x ∷ xs) there = elim (or_cases (p x) (list_any p xs) there) [
  | inl here ↦ ap (λ b. b || list_any q xs) (step x here)
  | inr later ↦ either (q x) (list_any q xs) (any_weaker p q step xs later)
]
  where
    either : (a c : Bool) → c ≡ true → (a || c) ≡ true
    either true c e = refl
    either false c e = e

found_room : (pool : PoolState) (m : ℕ) (part : Span) → IsFound pool m part → has_room pool m ≡ true
found_room pool m part found =
    any_weaker (λ (other : Span). (other.start == part.start) && (other.level == part.level))
    (λ (other : Span). nat_le other.level m)
    (λ other same. le-leb other.level m
    (omega (
      arith,
      found.serves,
      eqb-true other.level part.level (and_parts (other.start == part.start) (other.level == part.level) same).1,
    )))
    (free_parts pool.held pool.slots) found.free

-- A part is found.
pub picked_found : (pool : PoolState) (p m words : ℕ) (part : Span) → p ≤ m → first_found pool p m words ≡ Some part
    → (record { start = part.start; level = max part.level p } ≡ part_picked pool p m words) × (is_full pool m ≡ false)
unfolding first_found part_picked is_full
picked_found pool p m words part h is = (
  sym (ap (λ (o : Option Span). as_picked (unwrap_or o (new_root pool))) is),
  ap (λ b. not b && (length pool.slots == node_limit pool))
      (found_room pool m part
      (first_holds (IsFound pool m) (candidates pool p m words) part (candidates_are_free pool p m words h) is)),
)
  where
    as_picked : Span → Span
    as_picked one = record { start = one.start; level = max one.level p }

-- None is.
pub picked_new : (pool : PoolState) (p m words : ℕ) → first_found pool p m words ≡ None
    → (record { start = lowest_unreserved pool.slots * node_words; level = p } ≡ part_picked pool p m words)
    × (is_full pool m ≡ (length pool.slots == node_limit pool))
unfolding first_found part_picked is_full
picked_new pool p m words is = (
  ap (λ (level : ℕ). made level) from_root ∙ sym (ap (λ (o : Option Span). as_picked (unwrap_or o (new_root pool))) is),
  ap (λ b. not b && (length pool.slots == node_limit pool))
      (false_from_ne_true (has_room pool m)
      (λ room. room_is_found pool p m words room (no_first (candidates pool p m words) is))),
)
  where
    as_picked : Span → Span
    as_picked one = record { start = one.start; level = max one.level p }

    made : ℕ → Span
    made level = record { start = lowest_unreserved pool.slots * node_words; level = level }

    from_root : p ≡ max 0 p
    from_root = omega arith

-- A part that is found lies in a reserved slot; the root of a slot starts in it.
pub found_is_reserved : (pool : PoolState) (p m words : ℕ) (part : Span) → p ≤ m
    → first_found pool p m words ≡ Some part → is_reserved pool.slots (slot_of part.start) ≡ true
unfolding first_found
found_is_reserved pool p m words part h is =
    let found = first_holds (IsFound pool m) (candidates pool p m words) part (candidates_are_free pool p m words h) is
    in
    let other =
    Any-from_list_any (λ (one : Span). (one.start == part.start) && (one.level == part.level))
    (free_parts pool.held pool.slots) found.free in
    let free =
    All-contains (IsFreePart pool.held pool.slots) (free_parts pool.held pool.slots) other.1
    (listed_is_free pool.held pool.slots) (other.0, other.2, other.3) in
    ap (λ (start : ℕ). is_reserved pool.slots (slot_of start))
    (sym (eqb-true other.1.start part.start
    (and_parts (other.1.start == part.start) (other.1.level == part.level) other.4).0))
    ∙ free.reserved
