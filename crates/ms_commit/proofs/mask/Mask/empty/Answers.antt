use Rattle.std.proofs.Common.{◌≡◌, ℕ, ◌*◌, ◌%◌, ◌/◌, List, length, replicate, get_or, ap, ◌∙◌, inl, inr, arith}
use Rattle.std.specs.Prelude.{◌==◌}
use Rattle.std.proofs.lemmas.Bool.{cases_lt}
use Rattle.std.proofs.lemmas.List.{get_or-replicate, get_or_past, length-replicate}
use Rattle.std.proofs.lemmas.Nat.Bits.{bit_at-zero}
use Rattle.ms_commit.specs.Mask.{is_one, is_set}
use Rattle.ms_commit.proofs.RangeLemmas.{filter_none_in}
use Rattle.ms_commit.proofs.mask.Mask.empty.Goals as goal

zero_everywhere : (n index : ℕ) → let zeros : List ℕ = replicate n 0 in get_or zeros index 0 ≡ 0
zero_everywhere n index = elim (cases_lt index n) [
  | inl within ↦ get_or-replicate n index 0 0 within
  | inr past ↦ get_or_past (replicate n 0) index 0 (omega (arith, length-replicate {A = ℕ} n 0))
]

pub returns : goal.returns
returns g c = filter_none_in (is_set (replicate g.row.WORDS 0)) 0 (64 * length (replicate g.row.WORDS 0))
    (λ k low high. ap (λ word. is_one word (k % 64)) (zero_everywhere g.row.WORDS (k / 64))
    ∙ ap (λ bit. bit == 1) (bit_at-zero (k % 64)))
