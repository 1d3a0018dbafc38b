-- Sums over the views of all seats: where a view changes, one comes or two become one. The rules of
-- the meter and of the lock rest on these.
use Rattle.std.proofs.Common.{◌≡◌, ◌≤◌, ℕ, zero, suc, ◌+◌, ◌*◌, ◌/◌, ◌%◌, List, [], ◌∷◌, ◌++◌, length, set, sym, refl}
use Rattle.std.proofs.Common.{ap, ◌∙◌, subst, arith}
use Rattle.std.specs.List.{All, sum_by}
use Rattle.std.proofs.lemmas.List.Elements.{All-head, All-tail, All-cons, All-append, All-nil}
use Rattle.std.proofs.lemmas.List.Sums.{sum_by-cons, sum_by_push}
use Rattle.std.proofs.Math.Nat.{add-mul-mod_self_right, mod-add-div'}
use mathlib.Core.Option.{some, some-injective, some-ne-none}
use lib.ListN.{get_elem?}

module _ {V : Type 0} where
  -- One view is replaced.
  pub total-set : (f : V → ℕ) (views : List V) (seat : ℕ) (old new : V) → get_elem? views seat ≡ some old
      → sum_by f (set views seat new) + f old ≡ sum_by f views + f new
  total-set f [] seat old new at = absurd (some-ne-none old (sym at))
  total-set f (x ∷ xs) zero old new at =
      let same : f x ≡ f old = ap f (some-injective x old at) in omega (arith, sum_by-cons f x xs, sum_by-cons f new xs)
  total-set f (x ∷ xs) (suc seat) old new at =
      let rest = total-set f xs seat old new at in
      omega (arith, sum_by-cons f x xs, sum_by-cons f x (set xs seat new))

  -- One view is replaced by one that counts as much.
  pub total_kept : (f : V → ℕ) (views : List V) (seat : ℕ) (old new : V) → f old ≡ f new
      → get_elem? views seat ≡ some old
      → sum_by f (set views seat new) ≡ sum_by f views
  total_kept f views seat old new same at = let total = total-set f views seat old new at in omega arith

  -- What is counted at an index is counted.
  pub total_at : (f : V → ℕ) (views : List V) (seat : ℕ) (view : V) → get_elem? views seat ≡ some view
      → f view ≤ sum_by f views
  total_at f [] seat view at = absurd (some-ne-none view (sym at))
  total_at f (x ∷ xs) zero view at =
      let same : f x ≡ f view = ap f (some-injective x view at) in omega (arith, sum_by-cons f x xs)
  total_at f (x ∷ xs) (suc seat) view at = let rest = total_at f xs seat view at in omega (arith, sum_by-cons f x xs)

  -- Where g counts nothing, and f nothing where g does not, f counts nothing.
  none_else : (f g : V → ℕ) (views : List V)
      → ((seat : ℕ) (view : V) → get_elem? views seat ≡ some view → g view ≡ 0 → f view ≡ 0)
      → sum_by g views ≡ 0 → sum_by f views ≡ 0
  none_else f g [] idle none = refl
  none_else f g (x ∷ xs) idle none =
      let all = sum_by-cons g x xs in let here = idle 0 x refl (omega arith) in
      let rest = none_else f g xs (λ seat. idle (suc seat)) (omega arith) in omega (arith, sum_by-cons f x xs)

  -- Where all that g counts is in one index, and f counts nothing where g does not, f counts that
  -- index alone.
  pub alone : (f g : V → ℕ) (views : List V) (seat : ℕ) (view : V)
      → ((other : ℕ) (w : V) → get_elem? views other ≡ some w → g w ≡ 0 → f w ≡ 0)
      → get_elem? views seat ≡ some view → sum_by g views ≡ g view → sum_by f views ≡ f view
  alone f g [] seat view idle at all = absurd (some-ne-none view (sym at))
  alone f g (x ∷ xs) zero view idle at all =
      let fx : f x ≡ f view = ap f (some-injective x view at) in let gx : g x ≡ g view =
      ap g (some-injective x view at) in
      let split = sum_by-cons g x xs in
      let rest = none_else f g xs (λ other. idle (suc other)) (omega arith) in omega (arith, sum_by-cons f x xs)
  alone f g (x ∷ xs) (suc seat) view idle at all =
      let split = sum_by-cons g x xs in let own = total_at g xs seat view at in let here =
      idle 0 x refl (omega arith) in
      let rest = alone f g xs seat view (λ other. idle (suc other)) at (omega arith) in
      omega (arith, sum_by-cons f x xs)

  -- What is counted at two indices is counted.
  pub total_two : (f : V → ℕ) (views : List V) (seat other : ℕ) (view w : V) → (seat ≡ other → ⊥)
      → get_elem? views seat ≡ some view
      → get_elem? views other ≡ some w
      → f view + f w ≤ sum_by f views
  total_two f [] seat other view w differ at at' = absurd (some-ne-none view (sym at))
  total_two f (x ∷ xs) zero zero view w differ at at' = absurd (differ refl)
  total_two f (x ∷ xs) zero (suc other) view w differ at at' =
      let same : f x ≡ f view = ap f (some-injective x view at) in let rest = total_at f xs other w at' in
      omega (arith, sum_by-cons f x xs)
  total_two f (x ∷ xs) (suc seat) zero view w differ at at' =
      let same : f x ≡ f w = ap f (some-injective x w at') in let rest = total_at f xs seat view at in
      omega (arith, sum_by-cons f x xs)
  total_two f (x ∷ xs) (suc seat) (suc other) view w differ at at' =
      let rest = total_two f xs seat other view w (λ q. differ (ap suc q)) at at' in omega (arith, sum_by-cons f x xs)

  -- A view is cut in two, or two become one.
  pub total_cut : (f : V → ℕ) (views : List V) (seat : ℕ) (view left right : V) → f left + f right ≡ f view
      → get_elem? views seat ≡ some view
      → sum_by f (set views seat left ++ right ∷ []) ≡ sum_by f views
  total_cut f views seat view left right parts at =
      let one = total-set f views seat view left at in omega (arith, sum_by_push f (set views seat left) right)

  pub total_joined : (f : V → ℕ) (views : List V) (seat other : ℕ) (view w both spent : V)
      → f both + f spent ≡ f view + f w
      → get_elem? views seat ≡ some view
      → get_elem? (set views seat both) other ≡ some w
      → sum_by f (set (set views seat both) other spent) ≡ sum_by f views
  total_joined f views seat other view w both spent parts at at' =
      let one = total-set f views seat view both at in let two = total-set f (set views seat both) other w spent at' in
      omega arith

  -- A sum without the last element.
  pub total_popped : (f : V → ℕ) (old new : List V) (last : V) → old ≡ new ++ last ∷ []
      → f last + sum_by f new ≡ sum_by f old
  total_popped f old new last is =
      let all : sum_by f old ≡ sum_by f (new ++ last ∷ []) = ap (sum_by f) is in omega (arith, sum_by_push f new last)

  all_in_front : (P : V → Type 0) (xs : List V) (x : V) → All P (xs ++ x ∷ []) → All P xs
  all_in_front P [] x all = λ k d less. absurd (omega arith)
  all_in_front P (y ∷ ys) x all =
      All-cons P y ys (All-head P y (ys ++ x ∷ []) all) (all_in_front P ys x (All-tail P y (ys ++ x ∷ []) all))

  all_at_end : (P : V → Type 0) (xs : List V) (x : V) → All P (xs ++ x ∷ []) → P x
  all_at_end P [] x all = All-head P x [] all
  all_at_end P (y ∷ ys) x all = all_at_end P ys x (All-tail P y (ys ++ x ∷ []) all)

  -- What holds of all holds of all but the last, and of the last.
  pub all_front : (P : V → Type 0) (old new : List V) (last : V) → old ≡ new ++ last ∷ [] → All P old → All P new
  all_front P old new last is all = all_in_front P new last (subst (All P) is all)

  pub all_last : (P : V → Type 0) (old new : List V) (last : V) → old ≡ new ++ last ∷ [] → All P old → P last
  all_last P old new last is all = all_at_end P new last (subst (All P) is all)

  pub all_pushed : (P : V → Type 0) (old new : List V) (last : V) → new ≡ old ++ last ∷ [] → All P old → P last
      → All P new
  all_pushed P old new last is all here =
      subst (All P) (sym is) (All-append P old (last ∷ []) all (All-cons P last [] here (All-nil P)))

  pub none_left : (xs : List V) (n : ℕ) → n ≡ length xs → n ≡ 0 → xs ≡ []
  none_left [] n is none = refl
  none_left (x ∷ xs) n is none = absurd (omega arith)

-- A sum of which one part is reduced modulo m.
pub mod_shift : (new old a k m : ℕ) → new + a ≡ old + (a + k) % m → new % m ≡ (old + k) % m
mod_shift new old a k m is =
    let times = (a + k) / m in let rest = (a + k) % m in let parts : rest + times * m ≡ a + k =
    mod-add-div' (a + k) m in
    let much = times * m in let is' : new + a ≡ old + rest = is in let parts' : rest + much ≡ a + k = parts in
    let sum : new + much ≡ old + k = omega arith in
    sym (add-mul-mod_self_right new times m) ∙ ap (λ n. n % m) sum

pub mod_in : (n k m : ℕ) → (n % m + k) % m ≡ (n + k) % m
mod_in n k m =
    let times = n / m in let parts : n % m + times * m ≡ n = mod-add-div' n m in
    let much = times * m in let rest = n % m in let parts' : rest + much ≡ n = parts in
    let sum : rest + k + much ≡ n + k = omega arith in
    sym (add-mul-mod_self_right (rest + k) times m) ∙ ap (λ x. x % m) sum
