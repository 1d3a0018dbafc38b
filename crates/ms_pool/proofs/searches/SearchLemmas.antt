-- The first that a list of free parts has, in parts: over levels, over slots, and over the two
-- roots of a slot. The searches' loops use these.
use Rattle.std.proofs.Common.{◌≡◌, ◌<◌, ◌≤◌, ℕ, zero, suc, ◌+◌, ◌-◌, min, Bool, true, false, cond, not, ◌&&◌, List}
use Rattle.std.proofs.Common.{[], ◌∷◌, ◌++◌, length, refl, sym, ap, ap₂, ne_eqb, ◌∙◌, arith, Option, Some, None, inl}
use Rattle.std.proofs.Common.{inr}
use Rattle.std.specs.Prelude.{nat_eq, slice_get}
use Rattle.std.specs.Option.{option_or}
use Rattle.std.specs.List.{filter, find, flat_map, list_all, range_with_len}
use Rattle.std.proofs.lemmas.Bool.{cases_lt}
use Rattle.std.proofs.lemmas.List.Folds.{find-append, flat_map-map}
use Rattle.ms_base.specs.declared.span.Span.{Span}
use Rattle.ms_base.specs.Level.{size_of}
use Rattle.ms_base.specs.FreeParts.{free_parts}
use Rattle.ms_base.specs.State.{PoolState}
use Rattle.ms_base.specs.PoolSteps.Pick.{found_at, levels_down, levels_up}
use Rattle.ms_base.proofs.free.HalvesLemmas.{size_falls}
use Rattle.ms_buddy.specs.Leaves.{has_level}
use Rattle.ms_pool.specs.Searching.{GrantNone, first_at, first_down, first_found, first_up, grants}

-- The first of a list, and the first that passes a test.
pub head-append : {X : Type 0} (xs ys : List X) → slice_get (xs ++ ys) 0 ≡ option_or (slice_get xs 0) (slice_get ys 0)
head-append [] ys = refl
head-append (x ∷ xs) ys = refl

pub head-filter : {X : Type 0} (p : X → Bool) (xs : List X) → slice_get (filter p xs) 0 ≡ find p xs
head-filter p [] = refl
head-filter p (x ∷ xs) =
    elim (p x) as (λ b. slice_get (cond b (x ∷ filter p xs) (filter p xs)) 0 ≡ cond b (Some x) (find p xs)) [
      | true ↦ refl
      | false ↦ head-filter p xs
    ]

-- One step of a loop over numbers: the first of what each gives.
range_step : (n end : ℕ) → n < end → range_with_len n (end - n) ≡ n ∷ range_with_len (n + 1) (end - (n + 1))
range_step n end h = ap (range_with_len n) one_more
  where
    one_more : end - n ≡ suc (end - (n + 1))
    one_more = omega arith

pub head_step : {X : Type 0} (f : ℕ → List X) (n end : ℕ) → n < end
    → slice_get (flat_map f (range_with_len n (end - n))) 0
    ≡ option_or (slice_get (f n) 0) (slice_get (flat_map f (range_with_len (n + 1) (end - (n + 1)))) 0)
head_step f n end h = ap (λ (l : List ℕ). slice_get (flat_map f l) 0) (range_step n end h)
    ∙ head-append (f n) (flat_map f (range_with_len (n + 1) (end - (n + 1))))

pub head_end : {X : Type 0} (f : ℕ → List X) (n end : ℕ) → end ≤ n
    → slice_get (flat_map f (range_with_len n (end - n))) 0 ≡ None
head_end f n end h = ap (λ (m : ℕ). slice_get (flat_map f (range_with_len n m)) 0) none
  where
    none : end - n ≡ 0
    none = omega arith

-- A part that is found ends the loop, none goes on.
pub found_here : {X : Type 0} (first rest : Option X) (x : X) → first ≡ Some x → option_or first rest ≡ Some x
found_here {X = X} first rest x e = ap (λ (o : Option X). option_or o rest) e

pub found_later : {X : Type 0} (first rest : Option X) → first ≡ None → option_or first rest ≡ rest
found_later {X = X} first rest e = ap (λ (o : Option X). option_or o rest) e

-- The same of a test over a list of lists.
pub find_step : {X : Type 0} (p : X → Bool) (f : ℕ → List X) (n end : ℕ) → n < end
    → find p (flat_map f (range_with_len n (end - n)))
    ≡ option_or (find p (f n)) (find p (flat_map f (range_with_len (n + 1) (end - (n + 1)))))
find_step p f n end h = ap (λ (l : List ℕ). find p (flat_map f l)) (range_step n end h)
    ∙ find-append p (f n) (flat_map f (range_with_len (n + 1) (end - (n + 1))))

pub find_end : {X : Type 0} (p : X → Bool) (f : ℕ → List X) (n end : ℕ) → end ≤ n
    → find p (flat_map f (range_with_len n (end - n))) ≡ None
find_end p f n end h = ap (λ (m : ℕ). find p (flat_map f (range_with_len n m))) none
  where
    none : end - n ≡ 0
    none = omega arith

-- What some numbers of a list give is what those give that pass a test.
pub flat_map-filter : {X : Type 0} (q : ℕ → Bool) (f : ℕ → List X) (xs : List ℕ)
    → flat_map f (filter q xs) ≡ flat_map (λ x. cond (q x) (f x) []) xs
flat_map-filter q f [] = refl
flat_map-filter q f (x ∷ xs) =
    elim (q x) as (λ b. flat_map f (cond b (x ∷ filter q xs) (filter q xs))
    ≡ cond b (f x) [] ++ flat_map (λ y. cond (q y) (f y) []) xs) [
      | true ↦ ap (λ l. f x ++ l) (flat_map-filter q f xs)
      | false ↦ flat_map-filter q f xs
    ]

-- No number of a list fails a test exactly where all pass it.
pub none_missing : (p : ℕ → Bool) (xs : List ℕ) → nat_eq (length (filter (λ x. not (p x)) xs)) 0 ≡ list_all p xs
none_missing p [] = refl
none_missing p (x ∷ xs) =
    elim (p x) as (λ b. nat_eq (length (cond (not b) (x ∷ filter (λ y. not (p y)) xs) (filter (λ y. not (p y)) xs))) 0
    ≡ (b && list_all p xs)) [
      | true ↦ none_missing p xs
      | false ↦ suc_is_some (length (filter (λ y. not (p y)) xs))
    ]
  where
    suc_is_some : (n : ℕ) → nat_eq (suc n) 0 ≡ false
    suc_is_some n = ne_eqb (suc n) 0 (omega arith)

-- The first of a level, and of all searches, in parts.
pub first_at-is : (pool : PoolState) (words : ℕ) (committed : Bool) (level : ℕ)
    → first_at pool words committed level ≡ slice_get (found_at pool words committed level) 0
unfolding first_at
first_at-is pool words committed level =
    sym (head-filter (grants pool words committed level) (free_parts pool.held pool.slots))

of_five : {X : Type 0} (a b c d e : List X)
    → slice_get (a ++ (b ++ (c ++ (d ++ (e ++ []))))) 0
    ≡ option_or (slice_get a 0)
    (option_or (slice_get b 0) (option_or (slice_get c 0) (option_or (slice_get d 0) (slice_get e 0))))
of_five (x ∷ a) b c d e = refl
of_five [] (x ∷ b) c d e = refl
of_five [] [] (x ∷ c) d e = refl
of_five [] [] [] (x ∷ d) e = refl
of_five [] [] [] [] (x ∷ e) = refl
of_five [] [] [] [] [] = refl

pub first_found-is : (pool : PoolState) (p m words : ℕ)
    → first_found pool p m words
    ≡ option_or (first_up pool words true p (min (p + 2) m)) (option_or (first_down pool words true p)
    (option_or (first_up pool words true p m)
    (option_or (first_up pool words false p m) (first_down pool words false p))))
unfolding first_found first_up first_down
first_found-is pool p m words =
    of_five (flat_map (found_at pool words true) (levels_up p (min (p + 2) m)))
    (flat_map (found_at pool words true) (levels_down p))
    (flat_map (found_at pool words true) (levels_up p m)) (flat_map (found_at pool words false) (levels_up p m))
    (flat_map (found_at pool words false) (levels_down p))

-- Levels that give nothing are passed over: those that are left decide.
skip_levels : {X : Type 0} (f : ℕ → List X) (n a end : ℕ) → a + n ≤ end
    → ((k : ℕ) → a ≤ k → k < a + n → slice_get (f k) 0 ≡ None)
    → slice_get (flat_map f (range_with_len a (end - a))) 0
    ≡ slice_get (flat_map f (range_with_len (a + n) (end - (a + n)))) 0
skip_levels f zero a end h none = ap (λ (m : ℕ). slice_get (flat_map f (range_with_len m (end - m))) 0) same
  where
    same : a ≡ a + 0
    same = omega arith
skip_levels f (suc n) a end h none =
    head_step f a end (omega arith)
    ∙ found_later (slice_get (f a) 0) (slice_get (flat_map f (range_with_len (a + 1) (end - (a + 1)))) 0)
    (none a (omega arith) (omega arith))
    ∙ skip_levels f n (a + 1) end (omega arith) (λ k low high. none k (omega arith) (omega arith))
    ∙ ap (λ (m : ℕ). slice_get (flat_map f (range_with_len m (end - m))) 0) same
  where
    same : a + 1 + n ≡ a + suc n
    same = omega arith

past_levels : {X : Type 0} (f : ℕ → List X) (a b end : ℕ) → a ≤ b → b ≤ end
    → ((k : ℕ) → a ≤ k → k < b → slice_get (f k) 0 ≡ None)
    → slice_get (flat_map f (range_with_len a (end - a))) 0 ≡ slice_get (flat_map f (range_with_len b (end - b))) 0
past_levels f a b end h k none =
    skip_levels f (b - a) a end (omega arith) (λ i low high. none i low (omega arith))
    ∙ ap (λ (m : ℕ). slice_get (flat_map f (range_with_len m (end - m))) 0) same
  where
    same : a + (b - a) ≡ b
    same = omega arith

-- Where no level is left that gives anything, nothing is found.
no_level_left : {X : Type 0} (f : ℕ → List X) (a end : ℕ)
    → ((k : ℕ) → a ≤ k → k < end → slice_get (f k) 0 ≡ None)
    → slice_get (flat_map f (range_with_len a (end - a))) 0 ≡ None
no_level_left f a end none = elim (cases_lt a end) [
  | inl before ↦ past_levels f a end end (omega arith) (omega arith) none ∙ head_end f end end (omega arith)
  | inr past ↦ head_end f a end past
]

-- Where a level's bit is clear, it gives nothing.
none_clear : (pool : PoolState) (words : ℕ) (committed : Bool) (levels level : ℕ)
    → GrantNone levels pool words committed → words ≤ size_of level → has_level levels level ≡ false
    → slice_get (found_at pool words committed level) 0 ≡ None
none_clear pool words committed levels level told fits clear =
    sym (first_at-is pool words committed level) ∙ told level fits clear

-- What is found from a level up to the most: the next level whose bit is set decides, or those
-- after it; where there is none, nothing is found.
abbrev pub found_from : PoolState → ℕ → Bool → ℕ → ℕ → Option Span
found_from pool words committed most from =
    slice_get (flat_map (found_at pool words committed) (range_with_len from (most + 1 - from))) 0

pub decided_up : (pool : PoolState) (words : ℕ) (committed : Bool) (levels most number from level : ℕ)
    (whole found : Option Span) → GrantNone levels pool words committed → words ≤ size_of most
    → number ≡ most → from ≤ level → level < number + 1
    → ((k : ℕ) → from ≤ k → k < level → has_level levels k ≡ false)
    → whole ≡ found_from pool words committed most from → found ≡ first_at pool words committed level
    → whole ≡ option_or found (found_from pool words committed most (level + 1))
decided_up pool words committed levels most number from level whole found told fits same low high clear is one =
    is ∙ past_levels (found_at pool words committed) from level (most + 1) low (omega (arith, same, high))
    (λ k past under. none_clear pool words committed levels k told
    (omega (arith, fits, size_falls k most (omega (arith, under, same, high))))
    (clear k past under))
    ∙ head_step (found_at pool words committed) level (most + 1) (omega (arith, same, high))
    ∙ ap (λ o. option_or o (found_from pool words committed most (level + 1)))
    (sym (one ∙ first_at-is pool words committed level))

pub none_up : (pool : PoolState) (words : ℕ) (committed : Bool) (levels most number from : ℕ) (whole : Option Span)
    → GrantNone levels pool words committed → words ≤ size_of most → number ≡ most
    → ((k : ℕ) → from ≤ k → k < number + 1 → has_level levels k ≡ false)
    → whole ≡ found_from pool words committed most from → whole ≡ None
none_up pool words committed levels most number from whole told fits same clear is =
    is ∙ no_level_left (found_at pool words committed) from (most + 1)
    (λ k low high. none_clear pool words committed levels k told
    (omega (arith, fits, size_falls k most (omega (arith, high))))
    (clear k low (omega (arith, same, high))))

-- The same from below a level down to 0, where levels are told by how far below the top they are.
abbrev pub found_below : PoolState → ℕ → Bool → ℕ → ℕ → Option Span
found_below pool words committed top end =
    slice_get (flat_map (λ below. found_at pool words committed (top - below))
    (range_with_len (top + 1 - end) (top + 1 - (top + 1 - end)))) 0

pub decided_down : (pool : PoolState) (words : ℕ) (committed : Bool) (levels top end level : ℕ)
    (whole found : Option Span) → GrantNone levels pool words committed → words ≤ size_of top
    → end ≤ top + 1 → level < end → ((k : ℕ) → level < k → k < end → has_level levels k ≡ false)
    → whole ≡ found_below pool words committed top end → found ≡ first_at pool words committed level
    → whole ≡ option_or found (found_below pool words committed top level)
decided_down pool words committed levels top end level whole found told fits within below clear is one =
    is ∙ past_levels from_top (top + 1 - end) (top - level) (top + 1) (omega (arith, within, below)) (omega arith)
    (λ k past under. none_clear pool words committed levels (top - k) told
    (omega (arith, fits, size_falls (top - k) top (omega arith)))
    (clear (top - k) (omega (arith, under)) (omega (arith, past, within, under))))
    ∙ head_step from_top (top - level) (top + 1) (omega arith)
    ∙ ap₂ option_or
    (ap (λ (l : ℕ). slice_get (found_at pool words committed l) 0) here
    ∙ sym (one ∙ first_at-is pool words committed level))
    (ap (λ (n : ℕ). slice_get (flat_map from_top (range_with_len n (top + 1 - n))) 0) next)
  where
    from_top : ℕ → List Span
    from_top below = found_at pool words committed (top - below)

    here : top - (top - level) ≡ level
    here = omega (arith, within, below)

    next : top - level + 1 ≡ top + 1 - level
    next = omega (arith, within, below)

pub none_down : (pool : PoolState) (words : ℕ) (committed : Bool) (levels top end : ℕ) (whole : Option Span)
    → GrantNone levels pool words committed → words ≤ size_of top → end ≤ top + 1
    → ((k : ℕ) → k < end → has_level levels k ≡ false) → whole ≡ found_below pool words committed top end
    → whole ≡ None
none_down pool words committed levels top end whole told fits within clear is =
    is ∙ no_level_left (λ below. found_at pool words committed (top - below)) (top + 1 - end) (top + 1)
    (λ k low high. none_clear pool words committed levels (top - k) told
    (omega (arith, fits, size_falls (top - k) top (omega arith)))
    (clear (top - k) (omega (arith, low, high, within))))

pub down_first : (pool : PoolState) (words : ℕ) (committed : Bool) (top : ℕ)
    → first_down pool words committed top ≡ found_below pool words committed top (top + 1)
unfolding first_down
down_first pool words committed top =
    ap (λ l. slice_get l 0)
    (flat_map-map (found_at pool words committed) (λ below. top - below) (range_with_len 0 (top + 1)))
    ∙ ap (λ (n : ℕ). slice_get (flat_map from_top (range_with_len 0 n)) 0) all
    ∙ ap (λ (n : ℕ). slice_get (flat_map from_top (range_with_len n (top + 1 - n))) 0) none
  where
    from_top : ℕ → List Span
    from_top below = found_at pool words committed (top - below)

    all : top + 1 ≡ top + 1 - 0
    all = omega arith

    none : 0 ≡ top + 1 - (top + 1)
    none = omega arith
