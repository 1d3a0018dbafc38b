-- Entries by name, with a new one and without one: what is found in them, how many they are, and
-- that the order of two additions does not matter. Used by the lemmas on runs by start.
use Rattle.std.proofs.Common.{◌≡◌, ◌≢◌, ℕ, ◌+◌, cond, List, [], ◌∷◌, length, Option, Some, None, refl, ap, sym, ◌∙◌}
use Rattle.std.proofs.Common.{arith}
use Rattle.std.specs.List.{AllByRecursion}
use Rattle.std.specs.Ordering.{nat_cmp, match_ordering, is_eq}
use Rattle.std.specs.declared.cmp.Ordering.TheVariants.{Less, Equal, Greater}
use Rattle.std.proofs.lemmas.Bool.Decides.{nat_tests}
use Rattle.std.proofs.lemmas.List.Sums.{sum_by-cons}
use Rattle.ms_base.specs.Names.{named, with_new, without}
use Rattle.ms_blocks.specs.FreeBlocks.{words_in}

-- Two additions at different names, in either order.
pub with_new-with_new : (es : List (ℕ × ℕ)) (k v j w : ℕ) → k ≢ j
    → with_new (with_new es j w) k v ≡ with_new (with_new es k v) j w
with_new-with_new [] k v j w ne = one k v j w ne
  where
    one : (k v j w : ℕ) → k ≢ j → with_new ((j, w) ∷ []) k v ≡ with_new ((k, v) ∷ []) j w
    one k v j w ne = grind (arith, nat_tests)
with_new-with_new (e ∷ es) k v j w ne = step e es k v j w ne (with_new-with_new es k v j w ne)
  where
    step : (e : ℕ × ℕ) (es : List (ℕ × ℕ)) (k v j w : ℕ) → k ≢ j
        → with_new (with_new es j w) k v ≡ with_new (with_new es k v) j w
        → with_new (with_new (e ∷ es) j w) k v ≡ with_new (with_new (e ∷ es) k v) j w
    step e es k v j w ne ih = grind (arith, nat_tests)

-- A new name is found, and the others as before.
pub named-with_new : (es : List (ℕ × ℕ)) (k v : ℕ) → named (with_new es k v) k ≡ Some v
named-with_new [] k v = one k v
  where
    one : (k v : ℕ) → named ((k, v) ∷ []) k ≡ Some v
    one k v = grind (arith, nat_tests)
named-with_new (e ∷ es) k v = step e es k v (named-with_new es k v)
  where
    step : (e : ℕ × ℕ) (es : List (ℕ × ℕ)) (k v : ℕ) → named (with_new es k v) k ≡ Some v
        → named (with_new (e ∷ es) k v) k ≡ Some v
    step e es k v ih = grind (arith, nat_tests)

pub named-with_new_other : (es : List (ℕ × ℕ)) (k v q : ℕ) → q ≢ k → named (with_new es k v) q ≡ named es q
named-with_new_other [] k v q ne = one k v q ne
  where
    one : (k v q : ℕ) → q ≢ k → named ((k, v) ∷ []) q ≡ None
    one k v q ne = grind (arith, nat_tests)
named-with_new_other (e ∷ es) k v q ne = step e es k v q ne (named-with_new_other es k v q ne)
  where
    step : (e : ℕ × ℕ) (es : List (ℕ × ℕ)) (k v q : ℕ) → q ≢ k → named (with_new es k v) q ≡ named es q
        → named (with_new (e ∷ es) k v) q ≡ named (e ∷ es) q
    step e es k v q ne ih = grind (arith, nat_tests)

-- What isn't found beside a new name is another one, and wasn't found before.
pub unnamed_is_other : (es : List (ℕ × ℕ)) (k v q : ℕ) → named (with_new es k v) q ≡ None → q ≢ k
unnamed_is_other es k v q none same = absurd (clash (named-with_new es k v)
    (ap (λ n. named (with_new es k v) n) (sym same) ∙ none))
  where
    clash : {x : Option ℕ} → x ≡ Some v → x ≡ None → ⊥
    clash e f = cc

pub unnamed_before : (es : List (ℕ × ℕ)) (k v q : ℕ) → named (with_new es k v) q ≡ None → named es q ≡ None
unnamed_before es k v q none = sym (named-with_new_other es k v q (unnamed_is_other es k v q none)) ∙ none

-- A new name that goes again leaves what was.
pub without-with_new : (es : List (ℕ × ℕ)) (k v : ℕ) → named es k ≡ None → without (with_new es k v) k ≡ es
without-with_new [] k v none = one k v
  where
    one : (k v : ℕ) → without ((k, v) ∷ []) k ≡ []
    one k v = grind (arith, nat_tests)
without-with_new (e ∷ es) k v none = step e es k v none (without-with_new es k v)
  where
    step : (e : ℕ × ℕ) (es : List (ℕ × ℕ)) (k v : ℕ) → named (e ∷ es) k ≡ None
        → (named es k ≡ None → without (with_new es k v) k ≡ es) → without (with_new (e ∷ es) k v) k ≡ e ∷ es
    step e es k v none ih = grind (arith, nat_tests)

pub words_in-cons : (e : ℕ × ℕ) (es : List (ℕ × ℕ)) → words_in (e ∷ es) ≡ e.1 + words_in es
words_in-cons e es = sum_by-cons (λ (e : ℕ × ℕ). e.1) e es

-- A new name is one entry more, and its value is added to the sum.
pub length-with_new : (es : List (ℕ × ℕ)) (k v : ℕ) → named es k ≡ None → length (with_new es k v) ≡ length es + 1
length-with_new [] k v none = refl
length-with_new (e ∷ es) k v none = step e es k v none (length-with_new es k v)
  where
    step : (e : ℕ × ℕ) (es : List (ℕ × ℕ)) (k v : ℕ) → named (e ∷ es) k ≡ None
        → (named es k ≡ None → length (with_new es k v) ≡ length es + 1)
        → length (with_new (e ∷ es) k v) ≡ length (e ∷ es) + 1
    step e es k v none ih = grind (arith, nat_tests)

pub sum-with_new : (es : List (ℕ × ℕ)) (k v : ℕ) → named es k ≡ None → words_in (with_new es k v) ≡ words_in es + v
sum-with_new [] k v none = omega arith
sum-with_new (e ∷ es) k v none =
    elim (nat_cmp k e.0) as (λ o. cond (is_eq o) (Some e.1) (named es k) ≡ None
    → words_in (match_ordering o ((k, v) ∷ e ∷ es) ((e.0, v) ∷ es) (e ∷ with_new es k v)) ≡ words_in (e ∷ es) + v) [
      | Less ↦ λ none. omega (arith, words_in-cons (k, v) (e ∷ es))
      | Equal ↦ λ none. absurd (cc)
      | Greater ↦ λ none. omega (arith, words_in-cons e (with_new es k v), words_in-cons e es, sum-with_new es k v none)
    ] none

-- What holds of all entries and of a new one holds of all then.
pub all-with_new : (P : ℕ × ℕ → Type 0) (es : List (ℕ × ℕ)) (k v : ℕ) → named es k ≡ None → AllByRecursion P es
    → P (k, v) → AllByRecursion P (with_new es k v)
all-with_new P [] k v none all here = (here, tt)
all-with_new P (e ∷ es) k v none all here =
    elim (nat_cmp k e.0) as (λ o. cond (is_eq o) (Some e.1) (named es k) ≡ None
    → AllByRecursion P (match_ordering o ((k, v) ∷ e ∷ es) ((e.0, v) ∷ es) (e ∷ with_new es k v))) [
      | Less ↦ λ none. (here, all)
      | Equal ↦ λ none. absurd (cc)
      | Greater ↦ λ none. (all.0, all-with_new P es k v none all.1 here)
    ] none
