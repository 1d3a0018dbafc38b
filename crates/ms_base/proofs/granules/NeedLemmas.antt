-- A chunk that is lent keeps the limit of granules: its front meets no more of them than the words
-- need, and none is missing where a free part was committed enough.
use Rattle.std.proofs.Common.{◌≡◌, ◌≤◌, ◌<◌, ℕ, ◌+◌, ◌-◌, ◌*◌, ◌/◌, ◌%◌, Bool, true, false, cond, not}
use Rattle.std.proofs.Common.{List, [], ◌∷◌, length, refl, sym, ap, ◌∙◌, arith, inl, inr}
use Rattle.std.specs.List.{list_all, filter, range_with_len}
use Rattle.std.proofs.lemmas.Nat.{div-add-mod', mod_below, le-div}
use Rattle.std.proofs.Math.Nat.{add-mul, mul_assoc}
use Rattle.std.proofs.lemmas.Bool.{cases_lt, and_parts}
use Rattle.std.proofs.lemmas.List.FromFn.{length-range_with_len}
use Rattle.ms_base.specs.declared.policy.Policy.{Policy}
use Rattle.ms_base.specs.Policy.{granule_of, keeps}
use Rattle.ms_base.specs.Level.{size_of, highest_level}
use Rattle.ms_base.specs.Part.{IsPart}
use Rattle.ms_base.specs.Front.{granules_for, front_for}
use Rattle.ms_base.specs.Committed.{granules_meeting}
use Rattle.ms_base.specs.State.{PoolState}
use Rattle.ms_base.specs.PoolSteps.Pick.{granule_in, has_committed}
use Rattle.ms_base.specs.PoolSteps.Pick.{picked, chunk_picked}
use Rattle.ms_base.specs.PoolSteps.Causes.{has_committed_room, granules_missing}
use Rattle.ms_base.proofs.granules.CommittedLemmas.{length_filter}
use Rattle.ms_base.proofs.granules.PolicyLemmas.{granule_is_level, granule_some}
use Rattle.ms_base.proofs.free.PartLemmas.{by_number}
use Rattle.ms_base.proofs.free.HalvesLemmas.{size_some, size_falls}
use Rattle.ms_base.proofs.free.PickLemmas.{picked_serves}
use Rattle.ms_base.proofs.granules.GranuleLemmas.{below_from_product}
use Rattle.ms_base.proofs.granules.FreeGranuleLemmas.{meeting_lies_in, bounds_meet}
use Rattle.ms_base.proofs.granules.FrontLemmas.{made_up, front_small, front_whole}
use Rattle.std.proofs.Math.Nat.{mul-mod_left}
use Rattle.ms_base.proofs.granules.EnoughLemmas.{found_is_enough, picked_is_part}

-- A quotient by its bounds.
pub quotient_is : (x q g : ℕ) → 1 ≤ g → q * g ≤ x → x < q * g + g → x / g ≡ q
quotient_is x q g some low high = omega (arith, at_least, at_most)
  where
    at_least : q ≤ x / g
    at_least = le-div q x g (omega (arith, some)) low

    at_most : x / g < q + 1
    at_most = below_from_product (x / g) (q + 1) g (omega (arith, high, div-add-mod' x g, add-mul q 1 g))

-- A front meets the granules that the words meet, and as many as they need.
pub record Covers (granule start front words : ℕ) : Type 0 where
  pub last : (start + front - 1) / granule ≡ (start + words - 1) / granule
  pub count : (start + words - 1) / granule + 1 - start / granule ≡ granules_for granule words

covers_small : (policy : Policy) (start level words : ℕ) → IsPart start level → 1 ≤ words → words ≤ size_of level
    → size_of level < granule_of policy
    → Covers (granule_of policy) start (front_for policy (size_of level) words) words
covers_small policy start level words part some fits small = record {
  last = ap (λ (front : ℕ). (start + front - 1) / g) (front_small policy (size_of level) words small)
      ∙ last_of (size_of level) (omega (arith, size_some level)) (omega arith)
      ∙ sym (last_of words some fits);
  count = omega (
    arith,
    last_of words some fits,
    quotient_is (words + g - 1) 1 g (granule_some policy) (omega (arith, some))
        (omega (arith, small, fits)),
  );
}
  where
    g : ℕ
    g = granule_of policy

    first : ℕ
    first = start / g

    level_of : ℕ
    level_of = (granule_is_level policy).level

    is : g ≡ size_of level_of
    is = (granule_is_level policy).is

    deeper : level_of ≤ level
    deeper = elim (cases_lt level level_of) [
      | inl less ↦
          absurd (omega (arith, small, is, size_falls level level_of (omega arith)))
      | inr more ↦ more
    ]

    inside : (first * g ≤ start) × (start + size_of level ≤ first * g + size_of level_of)
    inside = meeting_lies_in (first * g) level_of start level (
      (granule_is_level policy).below,
      ap (λ (n : ℕ). first * n % size_of level_of) is
          ∙ mul-mod_left first (size_of level_of),
    ) part deeper
        (bounds_meet (first * g) (size_of level_of) start (size_of level)
        (omega (arith, div-add-mod' start g, size_some level))
        (omega (arith, is, div-add-mod' start g, mod_below start g (omega (arith, granule_some policy)))))

    last_of : (n : ℕ) → 1 ≤ n → n ≤ size_of level → (start + n - 1) / g ≡ first
    last_of n one most =
        quotient_is (start + n - 1) first g (granule_some policy) (omega (arith, inside.0, one))
        (omega (arith, inside.1, is, one, most))

covers_large : (policy : Policy) (start level words : ℕ) → keeps policy ≡ false → IsPart start level → 1 ≤ words
    → words ≤ size_of level → granule_of policy ≤ size_of level
    → Covers (granule_of policy) start (front_for policy (size_of level) words) words
covers_large policy start level words reclaims part some fits large = record {
  last = ap (λ (front : ℕ). (start + front - 1) / g) front_is ∙ last_front ∙ sym last_words;
  count = omega (arith, last_words, needed);
}
  where
    g : ℕ
    g = granule_of policy

    first : ℕ
    first = start / g

    more : ℕ
    more = (words - 1) / g

    made : (count : ℕ) × (size_of level ≡ count * g)
    made = made_up policy level large

    number : start ≡ start / size_of level * size_of level
    number = by_number start (size_of level) part.1

    multiple : start ≡ start / size_of level * made.0 * g
    multiple = number ∙ ap (λ (n : ℕ). start / size_of level * n) made.1
        ∙ sym (mul_assoc (start / size_of level) made.0 g)

    whole : start ≡ first * g
    whole = multiple
        ∙ ap (λ (n : ℕ). n * g)
        (sym (quotient_is start (start / size_of level * made.0) g (granule_some policy) (omega (arith, multiple))
        (omega (arith, multiple, granule_some policy))))

    needed : granules_for g words ≡ more + 1
    needed = quotient_is (words + g - 1) (more + 1) g (granule_some policy)
        (omega (arith, add-mul more 1 g, div-add-mod' (words - 1) g, some))
        (omega (
          arith,
          add-mul more 1 g,
          div-add-mod' (words - 1) g,
          mod_below (words - 1) g (omega (arith, granule_some policy)),
          some,
        ))

    front_is : front_for policy (size_of level) words ≡ (more + 1) * g
    front_is = front_whole policy (size_of level) words reclaims large ∙ ap (λ (n : ℕ). n * g) needed

    last_front : (start + (more + 1) * g - 1) / g ≡ first + more
    last_front = quotient_is (start + (more + 1) * g - 1) (first + more) g (granule_some policy)
        (omega (arith, whole, add-mul first more g, add-mul more 1 g, granule_some policy))
        (omega (arith, whole, add-mul first more g, add-mul more 1 g, granule_some policy))

    last_words : (start + words - 1) / g ≡ first + more
    last_words = quotient_is (start + words - 1) (first + more) g (granule_some policy)
        (omega (arith, whole, add-mul first more g, div-add-mod' (words - 1) g, some))
        (omega (
          arith,
          whole,
          add-mul first more g,
          div-add-mod' (words - 1) g,
          mod_below (words - 1) g (omega (arith, granule_some policy)),
          some,
        ))

pub front_covers : (policy : Policy) (start level words : ℕ) → keeps policy ≡ false → IsPart start level → 1 ≤ words
    → words ≤ size_of level
    → Covers (granule_of policy) start (front_for policy (size_of level) words) words
front_covers policy start level words reclaims part some fits = elim (cases_lt (size_of level) (granule_of policy)) [
  | inl small ↦ covers_small policy start level words part some fits small
  | inr large ↦ covers_large policy start level words reclaims part some fits large
]

-- Granules that are all committed are not missing, and no more are missing than there are.
none_missing : (p : ℕ → Bool) (xs : List ℕ) → list_all p xs ≡ true → length (filter (λ k. not (p k)) xs) ≡ 0
none_missing p [] all = refl
none_missing p (x ∷ xs) all =
    let both = and_parts (p x) (list_all p xs) all in
    ap (λ b. length (cond (not b) (x ∷ filter (λ k. not (p k)) xs) (filter (λ k. not (p k)) xs))) both.0
    ∙ none_missing p xs both.1

-- Under the policies balanced and aggressive, no more is missing than the words need, and nothing
-- where there is committed room.
pub chunk_covers : (pool : PoolState) (p m words : ℕ) → keeps pool.limits.policy ≡ false → p ≤ m
    → m ≤ highest_level → 1 ≤ words
    → words ≤ size_of m
    → Covers (granule_in pool) (chunk_picked pool p m words).start (chunk_picked pool p m words).front words
chunk_covers pool p m words reclaims h k some fits =
    front_covers pool.limits.policy (picked pool p m words).start (picked pool p m words).level words reclaims
    (picked_is_part pool p m words h k) some
    (omega (arith, fits, size_falls (picked pool p m words).level m (picked_serves pool p m words h).1))

pub missing_within : (pool : PoolState) (p m words : ℕ) → keeps pool.limits.policy ≡ false → p ≤ m
    → m ≤ highest_level → 1 ≤ words
    → words ≤ size_of m
    → granules_missing pool (chunk_picked pool p m words) ≤ granules_for (granule_in pool) words
missing_within pool p m words reclaims h k some fits =
    let covers = chunk_covers pool p m words reclaims h k some fits in
    let chunk = chunk_picked pool p m words in
    let granule = granule_in pool in
    omega (
      arith,
      length_filter (λ number. not (has_committed pool number)) (granules_meeting granule chunk.start chunk.front),
      length-range_with_len (chunk.start / granule)
          ((chunk.start + chunk.front - 1) / granule + 1 - chunk.start / granule),
      covers.last,
      covers.count,
    )

pub nothing_missing : (pool : PoolState) (p m words : ℕ) → keeps pool.limits.policy ≡ false → p ≤ m
    → m ≤ highest_level → 1 ≤ words
    → words ≤ size_of m
    → has_committed_room pool m words ≡ true → granules_missing pool (chunk_picked pool p m words) ≡ 0
nothing_missing pool p m words reclaims h k some fits room =
    let chunk = chunk_picked pool p m words in
    let granule = granule_in pool in
    ap (λ (last : ℕ). length
    (filter (λ number. not (has_committed pool number))
    (range_with_len (chunk.start / granule) (last + 1 - chunk.start / granule))))
    (chunk_covers pool p m words reclaims h k some fits).last
    ∙ none_missing (has_committed pool) (granules_meeting granule chunk.start words)
    (found_is_enough pool p m words h room)
