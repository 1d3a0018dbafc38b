-- Loaders in order, with one more, and the first of them. `rank` and `largest` use these.
use Rattle.std.proofs.Common.{◌≡◌, ◌<◌, ◌+◌, ◌∙◌, ℕ, zero, suc, Bool, true, false, List, [], ◌∷◌, length, take, get_or}
use Rattle.std.proofs.Common.{sym, ap, refl, arith, if◌then◌else◌}
use Rattle.std.specs.Prelude.{cond}
use Rattle.std.specs.List.{insert}
use Rattle.std.proofs.lemmas.List.{take-take}
use Rattle.std.proofs.lemmas.List.Sums.{fold_more}
use Rattle.ms_page.specs.declared.holding.Holding.{Holding}
use Rattle.ms_page.specs.Largest.{comes_before, largest_of, position_of, ranked_of, ranked_with}

-- A loader is put where those that come before it end.
put_by : (holding other : Holding) (ranked : List Holding) (before : Bool) → comes_before other holding ≡ before
    → insert ranked (position_of holding ranked) holding ≡ ranked_with holding ranked
    → insert (other ∷ ranked) (position_of holding (other ∷ ranked)) holding ≡ ranked_with holding (other ∷ ranked)
put_by holding other ranked true before later =
    let next : 1 + position_of holding ranked ≡ suc (position_of holding ranked) = omega arith in
    ap (λ (position : ℕ). insert (other ∷ ranked) position holding)
    (ap (λ (b : Bool). cond b (1 + position_of holding ranked) 0) before ∙ next)
    ∙ ap (λ (l : List Holding). other ∷ l) later
    ∙ sym (ap (λ (b : Bool). if b then other ∷ ranked_with holding ranked else holding ∷ other ∷ ranked) before)
put_by holding other ranked false before later =
    ap (λ (position : ℕ). insert (other ∷ ranked) position holding)
    (ap (λ (b : Bool). cond b (1 + position_of holding ranked) 0) before)
    ∙ sym (ap (λ (b : Bool). if b then other ∷ ranked_with holding ranked else holding ∷ other ∷ ranked) before)

pub put_is : (holding : Holding) (ranked : List Holding)
    → insert ranked (position_of holding ranked) holding ≡ ranked_with holding ranked
put_is holding [] = refl
put_is holding (other ∷ ranked) =
    put_by holding other ranked (comes_before other holding) refl (put_is holding ranked)

-- The first twenty of all with one more need only the first twenty of all.
first_of : (few : ℕ) (other : Holding) (ranked : List Holding)
    → take few (other ∷ take few ranked) ≡ take few (other ∷ ranked)
first_of zero other ranked = refl
first_of (suc few) other ranked = ap (λ (l : List Holding). other ∷ l) (take-take few (suc few) ranked (omega arith))

with_by : (few : ℕ) (holding other : Holding) (ranked : List Holding) (before : Bool)
    → take few (ranked_with holding (take few ranked)) ≡ take few (ranked_with holding ranked)
    → take (suc few) (if before then other ∷ ranked_with holding (take few ranked) else holding ∷ other ∷ take few ranked)
    ≡ take (suc few) (if before then other ∷ ranked_with holding ranked else holding ∷ other ∷ ranked)
with_by few holding other ranked true later = ap (λ (l : List Holding). other ∷ l) later
with_by few holding other ranked false later = ap (λ (l : List Holding). holding ∷ l) (first_of few other ranked)

first_with : (few : ℕ) (holding : Holding) (ranked : List Holding)
    → take few (ranked_with holding (take few ranked)) ≡ take few (ranked_with holding ranked)
first_with zero holding ranked = refl
first_with (suc few) holding [] = refl
first_with (suc few) holding (other ∷ ranked) =
    with_by few holding other ranked (comes_before other holding) (first_with few holding ranked)

pub largest_more : (holdings : List Holding) (at : ℕ) (other : Holding) (so_far new : List Holding)
    → at < length holdings → so_far ≡ largest_of (take at holdings)
    → new ≡ take 20 (ranked_with (get_or holdings at other) so_far) → new ≡ largest_of (take (at + 1) holdings)
largest_more holdings at other so_far new more is added =
    let holding = get_or holdings at other in
    added ∙ ap (λ (l : List Holding). take 20 (ranked_with holding l)) is
    ∙ first_with 20 holding (ranked_of (take at holdings))
    ∙ ap (λ (l : List Holding). take 20 l)
    (sym (fold_more (λ (ranked : List Holding) (holding : Holding). ranked_with holding ranked) [] holdings at other more))
