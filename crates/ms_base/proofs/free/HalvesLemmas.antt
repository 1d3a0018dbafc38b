-- Sizes of levels, multiples of them, and the two halves of a part. All lemmas on free parts use
-- these.
use Rattle.std.proofs.Common.{◌≡◌, ◌≤◌, ◌<◌, ℕ, suc, ◌+◌, ◌-◌, ◌*◌, ◌/◌, ◌%◌, ◌^◌, sym, ap, ◌∙◌, inl, inr, arith}
use Rattle.std.proofs.lemmas.Nat.{mul-le, pow-add, pow_pos, pow_below, mod-mul-add}
use Rattle.std.proofs.lemmas.Bool.{cases_lt}
use Rattle.std.proofs.Math.Nat.{add-mul, mul_assoc, mul-mod_left, add-mod_right, pow-le-pow_right}
use Rattle.ms_base.specs.Level.{size_of, highest_level}
use Rattle.ms_base.specs.Part.{parent_start}
use Rattle.ms_base.proofs.free.PartLemmas.{by_number, size_by_level}

-- A chunk of any level has some words.
pub size_some : (level : ℕ) → 1 ≤ size_of level
size_some level = omega (arith, pow_pos (19 - level))

-- A chunk of a greater level has no more words, and one of a strictly greater level fewer.
pub size_falls : (l k : ℕ) → l ≤ k → size_of k ≤ size_of l
size_falls l k h = pow-le-pow_right {n = 2} (omega arith) {i = 19 - k} {j = 19 - l} (omega (arith, h))

pub size_falls_strictly : (l k : ℕ) → l < k → k ≤ highest_level → size_of k < size_of l
size_falls_strictly l k h m = omega (
  arith,
  size_by_level l k (omega arith) m,
  mul-le 2 (size_of k) (2 ^ (k - l)) (size_of k) (pow_below 0 (k - l) (omega arith)) (omega arith),
  size_some k,
)

-- A multiple of a size is one of each smaller size.
pub multiple_of_smaller : (a l k : ℕ) → l ≤ k → k ≤ highest_level → a % size_of l ≡ 0 → a % size_of k ≡ 0
multiple_of_smaller a l k h m e =
    ap (λ (x : ℕ). x % size_of k) number ∙ mul-mod_left (a / size_of l * 2 ^ (k - l)) (size_of k)
  where
    number : a ≡ a / size_of l * 2 ^ (k - l) * size_of k
    number = by_number a (size_of l) e ∙ ap (λ (x : ℕ). a / size_of l * x) (size_by_level l k h m)
        ∙ sym (mul_assoc (a / size_of l) (2 ^ (k - l)) (size_of k))

-- Of two multiples, the greater is at least a step greater.
pub steps_apart : (a b t : ℕ) → a % t ≡ 0 → b % t ≡ 0 → a < b → a + t ≤ b
steps_apart a b t h k less = elim (cases_lt (a / t) (b / t)) [
  | inl m ↦ omega (
    arith,
    by_number a t h,
    by_number b t k,
    mul-le (a / t + 1) t (b / t) t (omega arith) (omega arith),
    add-mul (a / t) 1 t,
  )
  | inr m ↦ absurd (omega (arith, by_number a t h, by_number b t k, mul-le (b / t) t (a / t) t m (omega arith)))
]

-- The words of a part that has so many levels below it, and that a part of that size starts there.
abbrev pub words_over : ℕ → ℕ
words_over below = size_of (highest_level - below)

abbrev pub IsStart : ℕ → ℕ → Type 0
IsStart below start = start % words_over below ≡ 0

-- A part has the words of two halves.
pub size_of_halves : (below : ℕ) → below < highest_level → words_over (suc below) ≡ words_over below + words_over below
size_of_halves below h = ap (λ (n : ℕ). 2 ^ n) (exponent below h) ∙ twice (19 - (highest_level - below))
  where
    exponent : (below : ℕ) → below < highest_level
        → 19 - (highest_level - suc below) ≡ 1 + (19 - (highest_level - below))
    exponent below h = omega arith

    twice : (n : ℕ) → 2 ^ (1 + n) ≡ 2 ^ n + 2 ^ n
    twice n = omega (arith, pow-add 2 1 n)

-- A part's two halves start at its start and in its middle.
pub start_is_whole : (below start : ℕ) → below < highest_level → IsStart (suc below) start → IsStart below start
start_is_whole below start h whole =
    multiple_of_smaller start (highest_level - suc below) (highest_level - below) (omega arith) (omega arith) whole

pub middle_is_whole : (below start : ℕ) → below < highest_level → IsStart (suc below) start
    → IsStart below (start + words_over below)
middle_is_whole below start h whole = add-mod_right start (words_over below) ∙ start_is_whole below start h whole

-- The level above the halves' one.
level_above : (below : ℕ) → below < highest_level → (highest_level - below) - 1 ≡ highest_level - suc below
level_above below h = omega arith

-- The parent of both halves is the part.
pub parent_of_lower : (below start : ℕ) → below < highest_level → IsStart (suc below) start
    → parent_start start (highest_level - below) ≡ start
parent_of_lower below start h whole =
    ap (λ (l : ℕ). start - start % size_of l) (level_above below h) ∙ ap (λ (r : ℕ). start - r) whole ∙ omega arith

pub parent_of_upper : (below start : ℕ) → below < highest_level → IsStart (suc below) start
    → parent_start (start + words_over below) (highest_level - below) ≡ start
parent_of_upper below start h whole =
    ap (λ (l : ℕ). start + words_over below - (start + words_over below) % size_of l) (level_above below h)
    ∙ ap (λ (r : ℕ). start + words_over below - r) rest ∙ omega arith
  where
    size : ℕ
    size = words_over (suc below)

    rest : (start + words_over below) % size ≡ words_over below
    rest = ap (λ (a : ℕ). (a + words_over below) % size) (by_number start size whole)
        ∙ mod-mul-add (start / size) size (words_over below)
        (omega (arith, size_of_halves below h, size_some (highest_level - below)))
