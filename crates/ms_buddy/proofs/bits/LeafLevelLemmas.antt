-- Levels of free leaves as bits of a number: those of two numbers together, of one level, and of
-- none. For the pool, which puts the levels of many roots together.
use Rattle.std.proofs.Common.{◌≡◌, ◌<◌, ℕ, ◌^◌, ◌||◌, ap, ◌∙◌, inl, inr, arith, max, bit_or, true}
use Rattle.std.specs.Prelude.{◌==◌}
use Rattle.std.specs.Int.{bit_at}
use Rattle.std.proofs.lemmas.Bool.{cases_eq}
use Rattle.std.proofs.lemmas.Bool.Decides.{nat_tests}
use Rattle.std.proofs.lemmas.Nat.Bits.{bit_at_or, bit_at-lt, bit_at-zero, bit_at-pow_same, bit_at-pow_other}
use Rattle.ms_buddy.specs.Leaves.{has_level}

-- The bits of two numbers together.
pub has_level-or : (a b level : ℕ) → has_level (bit_or a b) level ≡ (has_level a level || has_level b level)
has_level-or a b level =
    ap (λ bit. bit == 1) (bit_at_or a b level)
    ∙ some (bit_at a level) (bit_at b level) (bit_at-lt a level) (bit_at-lt b level)
  where
    some : (x y : ℕ) → x < 2 → y < 2 → (max x y == 1) ≡ ((x == 1) || (y == 1))
    some x y h k = grind (arith, nat_tests)

-- The bit of one level.
pub has_level-one : (level wanted : ℕ) → has_level (2 ^ level) wanted ≡ (level == wanted)
has_level-one level wanted = elim (cases_eq wanted level) [
  | inl same ↦ ap (λ bit. bit == 1) (ap (bit_at (2 ^ level)) same ∙ bit_at-pow_same level) ∙ grind (arith, nat_tests)
  | inr other ↦ ap (λ bit. bit == 1) (bit_at-pow_other level wanted other) ∙ grind (arith, nat_tests)
]

-- No level has its bit in 0.
pub none_has : (wanted : ℕ) → has_level 0 wanted ≡ true → ⊥
none_has wanted e = absurd (cc (ap (λ bit. bit == 1) (bit_at-zero wanted), e))
