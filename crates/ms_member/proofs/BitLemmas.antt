-- Bits that are written one index after another.
use Rattle.std.proofs.Common.{◌≡◌, ◌<◌, ◌+◌, ℕ, Bool, false, List, length, get_or, inl, inr, ap, sym, ◌∙◌, arith}
use Rattle.std.specs.Prelude.{slice_set}
use Rattle.std.proofs.lemmas.Bool.{cases_eq}
use Rattle.std.proofs.lemmas.Grind.{get_or-set_at}
use Rattle.std.proofs.lemmas.List.{get_or-set_other, length-set}

-- one element more is written
pub one_more : (f : ℕ → Bool) (out : List Bool) (index count : ℕ) (bit : Bool) → length out ≡ count → index < count
    → bit ≡ f index → ((k : ℕ) → k < index → get_or out k false ≡ f k)
    → (length (slice_set out index bit) ≡ count)
    × ((k : ℕ) → k < index + 1 → get_or (slice_set out index bit) k false ≡ f k)
one_more f out index count bit long less is so = (
  length-set out index bit ∙ long,
  λ k below. elim (cases_eq index k) [
    | inl same ↦ get_or-set_at out index k bit false (sym same) (omega (arith, long, less)) ∙ is ∙ ap f same
    | inr differ ↦ get_or-set_other out index k bit false (λ e. differ (sym e)) ∙ so k (omega (arith, below, differ))
  ],
)
