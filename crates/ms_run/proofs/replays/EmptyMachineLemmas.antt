-- The machine without loaders is good. For the begin of a replay.
use Rattle.std.proofs.Common.{◌≡◌, ◌≤◌, ◌+◌, ℕ, Bool, true, false, List, [], ◌∷◌}
use Rattle.std.proofs.Common.{refl, sym}
use Rattle.std.proofs.Common.{arith}
use Rattle.std.specs.Prelude.{◌&&◌, ◌||◌}
use Rattle.std.specs.List.{All, filter, flat_map}
use Rattle.std.specs.List.Sorted.{IsStrictlyIncreasing}
use Rattle.std.proofs.lemmas.List.FromFn.{get_or-range_with_len, length-range_with_len}
use Rattle.ms_base.specs.declared.kind.Space.{Space}
use Rattle.ms_base.specs.declared.kind.Space.TheVariants.{NonClass, Class}
use Rattle.ms_base.specs.declared.policy.Policy.{Policy}
use Rattle.ms_base.specs.declared.span.Chunk.{Chunk}
use Rattle.ms_base.specs.Policy.{keeps, granule_of}
use Rattle.ms_base.specs.Part.{IsPart}
use Rattle.ms_base.specs.Front.{HasFront}
use Rattle.ms_base.specs.Held.{AreHeld}
use Rattle.ms_base.specs.Spaces.{class_slots, IsSlotOf}
use Rattle.ms_base.specs.Committed.{is_committed_now, granules_of}
use Rattle.std.proofs.lemmas.List.Elements.{All-nil}
use Rattle.ms_base.specs.State.{Limits, empty_machine, pool_of}
use Rattle.ms_base.specs.Good.{IsGood, IsSoundLoader, IsSoundPool}

-- Nothing of it is committed, and nothing held.
none_pass : (p : ℕ → Bool) (xs : List ℕ) → ((n : ℕ) → p n ≡ false) → filter p xs ≡ []
none_pass p [] none = refl
none_pass p (x ∷ xs) none = rw (none x) (none_pass p xs none)

nothing_before : (policy : Policy) (number : ℕ) → is_committed_now policy [] [] number ≡ false
nothing_before policy number = no_and (keeps policy)
  where
    no_and : (b : Bool) → ((b && false) || false) ≡ false
    no_and true = refl
    no_and false = refl

none_held : (policy : Policy) (slots : List ℕ) → AreHeld policy slots []
none_held policy slots = record {
  parts = All-nil (λ (chunk : Chunk). IsPart chunk.start chunk.level);
  fronts = All-nil (HasFront policy);
  reserved = refl;
  apart = refl;
}

slots_rise : (n : ℕ) → IsStrictlyIncreasing (class_slots n)
slots_rise n k within =
    let here = get_or-range_with_len 64 n k 0 (omega (arith, within, length-range_with_len 64 n)) in
    let next = get_or-range_with_len 64 n (k + 1) 0 (omega (arith, within, length-range_with_len 64 n)) in
    omega (arith, here, next)

slots_below : (n : ℕ) → n ≤ 16 → All (IsSlotOf Class) (class_slots n)
slots_below n few = λ i d within.
    let is = get_or-range_with_len 64 n i d (omega (arith, within, length-range_with_len 64 n)) in
    (omega (arith, is), omega (arith, is, within, few, length-range_with_len 64 n))

empty_pool : (space : Space) (limits : Limits) → limits.class_nodes ≤ 16
    → IsSoundPool (pool_of space (empty_machine limits))
empty_pool NonClass limits few = record {
  held = none_held limits.policy [];
  slots = λ k within. absurd (omega (arith, within));
  below = All-nil (IsSlotOf NonClass);
  committed = refl;
  granules = omega arith;
  reserved = omega arith;
}
empty_pool Class limits few = record {
  held = none_held limits.policy (class_slots limits.class_nodes);
  slots = slots_rise limits.class_nodes;
  below = slots_below limits.class_nodes few;
  committed =
      sym (none_pass (is_committed_now limits.policy [] [])
      (flat_map (granules_of (granule_of limits.policy)) (class_slots limits.class_nodes))
      (nothing_before limits.policy));
  granules = omega arith;
  reserved = omega (arith, length-range_with_len 64 limits.class_nodes);
}

pub good_when_empty : (limits : Limits) → limits.class_nodes ≤ 16 → IsGood (empty_machine limits)
good_when_empty limits few = record {
  loaders = All-nil IsSoundLoader;
  names = λ k within. absurd (omega (arith, within));
  pools = λ space. empty_pool space limits few;
  given = omega arith;
}
