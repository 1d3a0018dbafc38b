-- The front of a new chunk: it is one, and reaches as far as was asked.
use Rattle.std.proofs.Common.{◌≡◌, ◌≤◌, ◌<◌, ◌+◌, ◌-◌, ◌*◌, ◌%◌, ◌^◌, ℕ, Bool, true, false, ◌||◌, if◌then◌else◌, refl}
use Rattle.std.proofs.Common.{sym, ap, ◌∙◌, arith, inl, inr}
use Rattle.std.specs.Prelude.{◌⊎◌}
use Rattle.std.proofs.lemmas.Nat.{mul-le, pow-add, pow_below, div-add-mod', mod-mul-add}
use Rattle.std.proofs.Math.Nat.{add-mul}
use Rattle.std.proofs.lemmas.Bool.{cases_lt, lt-ltb, le-ltb}
use Rattle.ms_base.specs.declared.policy.Policy.{Policy}
use Rattle.ms_base.specs.Policy.{granule_of, keeps}
use Rattle.ms_base.specs.Level.{size_of}
use Rattle.ms_base.specs.Front.{granules_for, front_for, HasFront}
use Rattle.ms_base.proofs.granules.PolicyLemmas.{granule_is_level, granule_some}

-- Whole granules reach so many words, and no further than a whole number of granules that does.
pub rounds_up : (granule words : ℕ) → 1 ≤ granule → words ≤ granules_for granule words * granule
rounds_up granule words some = omega (arith, div-add-mod' (words + granule - 1) granule)

rounds_within : (granule words c : ℕ) → 1 ≤ granule → words ≤ c * granule
    → granules_for granule words * granule ≤ c * granule
rounds_within granule words c some h = elim (cases_lt c (granules_for granule words)) [
  | inl k ↦
      absurd (omega (
        arith,
        div-add-mod' (words + granule - 1) granule,
        add-mul c 1 granule,
        mul-le (c + 1) granule (granules_for granule words) granule (omega arith) (omega arith),
      ))
  | inr k ↦ mul-le (granules_for granule words) granule c granule k (omega arith)
]

-- A granule that is a power of two makes up each chunk that is no smaller.
makes_up : (power level : ℕ) → 2 ^ power ≤ size_of level → size_of level ≡ 2 ^ (19 - level - power) * 2 ^ power
makes_up power level h = ap (λ (n : ℕ). 2 ^ n) exponent ∙ pow-add 2 (19 - level - power) power
  where
    below : power ≤ 19 - level
    below = elim (cases_lt (19 - level) power) [
      | inl k ↦ absurd (omega (arith, pow_below (19 - level) power k))
      | inr k ↦ k
    ]

    exponent : 19 - level ≡ 19 - level - power + power
    exponent = omega (arith, below)

-- So does the granule of each policy.
pub made_up : (policy : Policy) (level : ℕ) → granule_of policy ≤ size_of level
    → (count : ℕ) × (size_of level ≡ count * granule_of policy)
made_up policy level h =
    let granule = granule_is_level policy in
    let count : ℕ = 2 ^ (19 - level - (19 - granule.level)) in (
      count,
      makes_up (19 - granule.level) level (omega (arith, h, granule.is))
          ∙ ap (λ (n : ℕ). count * n) (sym granule.is),
    )

pub front_small : (policy : Policy) (size words : ℕ) → size < granule_of policy → front_for policy size words ≡ size
front_small policy size words h = rw (lt-ltb size (granule_of policy) h) (always (keeps policy))
  where
    always : (b : Bool) → (if b || true then size else granules_for (granule_of policy) words * granule_of policy)
        ≡ size
    always true = refl
    always false = refl

front_full : (policy : Policy) (size words : ℕ) → keeps policy ≡ true → front_for policy size words ≡ size
front_full policy size words e = rw e refl

pub front_whole : (policy : Policy) (size words : ℕ) → keeps policy ≡ false → granule_of policy ≤ size
    → front_for policy size words ≡ granules_for (granule_of policy) words * granule_of policy
front_whole policy size words e h = rw (e, le-ltb size (granule_of policy) h) refl

-- A front is the size, or whole granules within it.
front_cases : (policy : Policy) (level words : ℕ) → words ≤ size_of level
    → (front_for policy (size_of level) words ≡ size_of level)
    ⊎ ((granule_of policy ≤ size_of level)
    × (front_for policy (size_of level) words ≡ granules_for (granule_of policy) words * granule_of policy)
    × (granules_for (granule_of policy) words * granule_of policy ≤ size_of level))
front_cases policy level words h = elim (cases_lt (size_of level) (granule_of policy)) [
  | inl small ↦ inl (front_small policy (size_of level) words small)
  | inr large ↦ elim (keeps policy) as (λ b. keeps policy ≡ b → (front_for policy (size_of level) words ≡ size_of level)
      ⊎ ((granule_of policy ≤ size_of level)
      × (front_for policy (size_of level) words ≡ granules_for (granule_of policy) words * granule_of policy)
      × (granules_for (granule_of policy) words * granule_of policy ≤ size_of level))) [
        | true ↦ λ e. inl (front_full policy (size_of level) words e)
        | false ↦ λ e. let made = made_up policy level large in
            inr (
              large,
              front_whole policy (size_of level) words e large,
              omega (
                arith,
                made.1,
                rounds_within (granule_of policy) words made.0 (granule_some policy)
                    (omega (arith, h, made.1)),
              ),
            )
      ] refl
]

-- The front reaches as far as was asked.
pub front_reaches : (policy : Policy) (level words : ℕ) → words ≤ size_of level
    → words ≤ front_for policy (size_of level) words
front_reaches policy level words h = elim (front_cases policy level words h) [
  | inl full ↦ omega (arith, full, h)
  | inr whole ↦ omega (arith, whole.1, rounds_up (granule_of policy) words (granule_some policy))
]

-- The front of a new chunk for so many words is one.
pub has_front_for : (policy : Policy) (start level words : ℕ) → 1 ≤ words → words ≤ size_of level
    → HasFront policy (record { start = start; level = level; front = front_for policy (size_of level) words })
has_front_for policy start level words some h = record {
  some = omega (arith, front_reaches policy level words h);
  within = elim (front_cases policy level words h) [
    | inl full ↦ omega (arith, full)
    | inr whole ↦ omega (arith, whole.1, whole.2)
  ];
  small = λ k. front_small policy (size_of level) words k;
  whole = λ k. elim (front_cases policy level words h) [
    | inl full ↦ let made = made_up policy level k in ap (λ (n : ℕ). n % granule_of policy) (full ∙ made.1)
        ∙ rest_none made.0 (granule_of policy) (granule_some policy)
    | inr whole ↦ ap (λ (n : ℕ). n % granule_of policy) whole.1
        ∙ rest_none (granules_for (granule_of policy) words) (granule_of policy) (granule_some policy)
  ];
  full = λ e. front_full policy (size_of level) words e;
}
  where
    rest_none : (q g : ℕ) → 1 ≤ g → (q * g) % g ≡ 0
    rest_none q g some = ap (λ (n : ℕ). n % g) (the_sum q g) ∙ mod-mul-add q g 0 (omega arith)
      where
        the_sum : (q g : ℕ) → q * g ≡ q * g + 0
        the_sum q g = omega arith
