-- The tops of chunks: where there are none, and where one is added last.
use Rattle.std.proofs.Common.{◌≡◌, ℕ, Bool, true, List, [], ◌∷◌, ◌++◌, length, refl, ap}
use Rattle.std.specs.List.{list_all, zip}
use Rattle.ms_base.specs.declared.span.Chunk.{Chunk}
use Rattle.ms_base.specs.Place.{tops_with}

pub none_topped : (p : Chunk × ℕ → Bool) (chunks : List Chunk) → list_all p (zip {X = ℕ} chunks []) ≡ true
none_topped p [] = refl
none_topped p (c ∷ chunks) = refl

-- Where each chunk has its top, the new one comes last.
pub tops_pushed : (tops : List ℕ) (top : ℕ) → tops_with tops (length tops) top ≡ tops ++ top ∷ []
tops_pushed [] top = refl
tops_pushed (t ∷ tops) top = ap (λ l. t ∷ l) (tops_pushed tops top)
