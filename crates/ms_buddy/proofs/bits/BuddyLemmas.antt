-- A part whose buddy's bit is clear doesn't merge with it. For the way down to the leaf that is
-- released.
use Rattle.std.proofs.Common.{◌≡◌, ◌<◌, ◌≤◌, ℕ, ◌+◌, ◌-◌, ◌*◌, ◌/◌, ◌%◌, true, false, refl}
use Rattle.std.proofs.Common.{sym, ap, ◌∙◌, arith}
use Rattle.std.specs.Prelude.{◌==◌}
use Rattle.std.proofs.lemmas.Bool.Decides.{nat_tests}
use Rattle.std.proofs.lemmas.Nat.{div-mul-add}
use Rattle.std.proofs.Math.Nat.{le_of_mul-le-mul_right, mod-lt}
use Rattle.ms_base.specs.declared.span.Span.{Span}
use Rattle.ms_base.specs.Level.{size_of, highest_level}
use Rattle.ms_buddy.specs.Counts.{buddy_of, holder_of, number_of}
use Rattle.ms_buddy.specs.Leaves.{span_at}
use Rattle.ms_buddy.specs.Tree.{IsRootPart}
use Rattle.ms_buddy.proofs.TreeHalvesLemmas.{lower_part, size_of-halves, size_of-some, upper_part}
use Rattle.ms_buddy.proofs.bits.NumberLemmas.{holder_part, number_words}

-- An offset lies past the last multiple of a size by less than the size.
pub past : (a w : ℕ) → 0 < w → a < a - a % w + w
past a w some = omega (arith, mod-lt a some)

-- The part of a level that holds an offset has the number that is told by the offset.
number_within : (level start at : ℕ) → IsRootPart level start → start ≤ at → at < start + size_of level
    → number_of (span_at at level) ≡ number_of (span_at start level)
unfolding number_of
number_within level start at of_root from below =
    ap (λ (n : ℕ). n / size_of level) there
    ∙ div-mul-add (number_of (span_at start level)) (size_of level) (at - start) (omega (arith, from, below))
  where
    there : 524288 + at ≡ number_of (span_at start level) * size_of level + (at - start)
    there = omega (arith, number_words level start of_root, from)

-- So the number is that of the part of a level that holds a part.
pub number_of-holder : (level : ℕ) (part : Span) → level ≤ highest_level → part.start < 524288
    → number_of (span_at part.start level) ≡ number_of (holder_of level part)
number_of-holder level part low below =
    number_within level (part.start - part.start % size_of level) part.start (holder_part level part low below)
    (omega arith) (past part.start (size_of level) (size_of-some level))

cancel : (a b w : ℕ) → 0 < w → a * w ≡ b * w → a ≡ b
cancel a b w some e =
    omega (arith, le_of_mul-le-mul_right {m = a} {n = b} {k = w} (omega (arith, e)) some, le_of_mul-le-mul_right {m = b} {n = a} {k = w} (omega (arith, e)) some)

-- The halves of a part have twice its number, and one more.
lower_number : (level start : ℕ) → IsRootPart level start → level < highest_level
    → number_of (span_at start (level + 1)) ≡ 2 * number_of (span_at start level)
lower_number level start of_root low =
    cancel _ _ (size_of (level + 1)) (size_of-some (level + 1)) (omega (
      arith,
      number_words (level + 1) start (lower_part level start of_root low),
      number_words level start of_root,
      ap (λ (n : ℕ). number_of (span_at start level) * n) (size_of-halves level low),
    ))

upper_number : (level start : ℕ) → IsRootPart level start → level < highest_level
    → number_of (span_at (start + size_of (level + 1)) (level + 1)) ≡ 2 * number_of (span_at start level) + 1
upper_number level start of_root low =
    cancel _ _ (size_of (level + 1)) (size_of-some (level + 1)) (omega (
      arith,
      number_words (level + 1) (start + size_of (level + 1)) (upper_part level start (start + size_of (level + 1)) of_root low refl),
      number_words level start of_root,
      ap (λ (n : ℕ). number_of (span_at start level) * n) (size_of-halves level low),
    ))

-- So each of them is the other's buddy.
buddy_of-even : (n : ℕ) → buddy_of (2 * n) ≡ 2 * n + 1
buddy_of-even n = rw (even n) refl
  where
    even : (n : ℕ) → (2 * n % 2 == 0) ≡ true
    even n = grind (arith, nat_tests)

buddy_of-odd : (n : ℕ) → buddy_of (2 * n + 1) ≡ 2 * n
buddy_of-odd n = rw (odd n) (omega arith)
  where
    odd : (n : ℕ) → ((2 * n + 1) % 2 == 0) ≡ false
    odd n = grind (arith, nat_tests)

pub upper_is_buddy : (level start at : ℕ) → IsRootPart level start → level < highest_level → start ≤ at
    → at < start + size_of (level + 1)
    → buddy_of (number_of (span_at at (level + 1))) ≡ number_of (span_at (start + size_of (level + 1)) (level + 1))
upper_is_buddy level start at of_root low from below =
    ap buddy_of (number_within (level + 1) start at (lower_part level start of_root low) from below
    ∙ lower_number level start of_root low) ∙ buddy_of-even (number_of (span_at start level))
    ∙ sym (upper_number level start of_root low)

pub lower_is_buddy : (level start at : ℕ) → IsRootPart level start → level < highest_level
    → start + size_of (level + 1) ≤ at → at < start + size_of level
    → buddy_of (number_of (span_at at (level + 1))) ≡ number_of (span_at start (level + 1))
lower_is_buddy level start at of_root low above below =
    ap buddy_of (number_within (level + 1) (start + size_of (level + 1)) at
    (upper_part level start (start + size_of (level + 1)) of_root low refl) above
    (omega (arith, below, size_of-halves level low)) ∙ upper_number level start of_root low)
    ∙ buddy_of-odd (number_of (span_at start level)) ∙ sym (lower_number level start of_root low)
