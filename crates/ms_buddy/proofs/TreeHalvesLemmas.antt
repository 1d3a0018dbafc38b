-- Halves of a part: their sizes and starts. For the walks down a node.
use Rattle.std.proofs.Common.{◌≡◌, ◌<◌, ◌≤◌, ℕ, ◌+◌, ◌-◌, ◌*◌, ◌/◌, ◌%◌, ◌^◌, sym, ap, subst, ◌∙◌, arith}
use Rattle.std.proofs.lemmas.Nat.{pow-add, div-add-mod', mod-mul-add, pow_pos}
use Rattle.std.proofs.Math.Nat.{mul-mod_left, add-mod_right}
use Rattle.ms_base.specs.Level.{size_of, highest_level}
use Rattle.ms_base.specs.declared.span.Span.{Span}
use Rattle.ms_buddy.specs.Counts.{holder_of}
use Rattle.ms_buddy.specs.Leaves.{span_at}
use Rattle.ms_buddy.specs.Tree.{IsRootPart}

-- A part has a word.
pub size_of-some : (level : ℕ) → 0 < size_of level
size_of-some level = pow_pos (19 - level)

-- A part is twice its half.
pub size_of-halves : (level : ℕ) → level < highest_level → size_of (level + 1) + size_of (level + 1) ≡ size_of level
size_of-halves level h =
    sym (ap (λ (n : ℕ). 2 ^ n) (exponent level h) ∙ pow-add 2 1 (19 - (level + 1)) ∙ twice (2 ^ (19 - (level + 1))))
  where
    exponent : (level : ℕ) → level < highest_level → 19 - level ≡ 1 + (19 - (level + 1))
    exponent level h = omega arith

    twice : (n : ℕ) → 2 ^ 1 * n ≡ n + n
    twice n = omega arith

-- A multiple of twice a number is one of the number.
pub halves_divide : (a h : ℕ) → a % (h + h) ≡ 0 → a % h ≡ 0
halves_divide a h e =
    subst (λ (x : ℕ). x % h ≡ 0) (sym (by_number (a / (h + h)) e (div-add-mod' a (h + h))))
    (mul-mod_left (a / (h + h) * 2) h)
  where
    by_number : (q : ℕ) → a % (h + h) ≡ 0 → q * (h + h) + a % (h + h) ≡ a → a ≡ q * 2 * h
    by_number q e d = omega arith

-- The lower half of a part of the root is one.
pub lower_part : (level start : ℕ) → IsRootPart level start → level < highest_level → IsRootPart (level + 1) start
lower_part level start of_root h = record {
  level_fits = omega arith;
  aligned =
      halves_divide start (size_of (level + 1))
      (subst (λ (x : ℕ). start % x ≡ 0) (sym (size_of-halves level h)) of_root.aligned);
  in_root = omega (arith, size_of-halves level h, of_root.in_root);
}

-- So is the upper half.
pub upper_part : (level start middle : ℕ) → IsRootPart level start → level < highest_level
    → middle ≡ start + size_of (level + 1)
    → IsRootPart (level + 1) middle
upper_part level start middle of_root h e = record {
  level_fits = omega arith;
  aligned =
      subst (λ (x : ℕ). x % size_of (level + 1) ≡ 0) (sym e)
      (add-mod_right start (size_of (level + 1)) ∙ (lower_part level start of_root h).aligned);
  in_root = omega (arith, size_of-halves level h, of_root.in_root);
}

-- A number past a multiple of another by less than that one has it as the multiple below it.
pub mod-past : (a h w : ℕ) → a % w ≡ 0 → h < w → (a + h) % w ≡ h
mod-past a h w e k = subst (λ (x : ℕ). (x + h) % w ≡ h) (sym (by_number a w e)) (mod-mul-add (a / w) w h k)
  where
    by_number : (a w : ℕ) → a % w ≡ 0 → a ≡ a / w * w
    by_number a w e = omega (arith, div-add-mod' a w)

floor : (a s w : ℕ) → s % w ≡ 0 → s ≤ a → a < s + w → a - a % w ≡ s
floor a s w e h k = omega (arith, there ∙ mod-past s (a - s) w e (omega arith))
  where
    there : a % w ≡ (s + (a - s)) % w
    there = let back : a ≡ s + (a - s) = omega arith in ap (λ (n : ℕ). n % w) back

-- A part starts in the part of a level that starts there.
pub holder_is : (level start : ℕ) (part : Span) → IsRootPart level start → start ≤ part.start
    → part.start < start + size_of level → holder_of level part ≡ span_at start level
holder_is level start part of_root from below =
    ap (λ (n : ℕ). span_at n level) (floor part.start start (size_of level) of_root.aligned from below)
