-- Where free parts of a level are committed enough: each that is smaller than a granule, and of the
-- others none unless the policy keeps what was committed.
use Rattle.std.proofs.Common.{◌≡◌, ◌<◌, ◌≤◌, ℕ, Bool, true, false, cond, not, ◌&&◌, ◌||◌, ◌==◌, List, [], ◌∷◌, refl}
use Rattle.std.proofs.Common.{sym, ap, subst, ◌∙◌, Some, None, arith, eqb-true}
use Rattle.std.specs.Prelude.{nat_le}
use Rattle.std.specs.List.{AllByRecursion, find}
use Rattle.std.proofs.lemmas.Bool.Decides.{nat_tests}
use Rattle.std.proofs.lemmas.List.Elements.{recursion_from_All}
use Rattle.ms_base.specs.declared.span.Span.{Span}
use Rattle.ms_base.specs.Level.{size_of}
use Rattle.ms_base.specs.Policy.{keeps}
use Rattle.ms_base.specs.Laws.Free.{IsEnoughBySize}
use Rattle.ms_base.specs.FreeParts.{IsFreePart, free_parts}
use Rattle.ms_base.specs.Good.{IsSoundPool}
use Rattle.ms_base.specs.PoolSteps.Pick.{granule_in, is_committed_enough}
use Rattle.ms_base.specs.State.{PoolState}
use Rattle.ms_base.proofs.free.RoomLemmas.{listed_is_free}
use Rattle.ms_base.proofs.granules.CommittedRoomLemmas.{enough_by_size}
use Rattle.ms_pool.specs.Searching.{first_at, grants}

free_ones : (pool : PoolState) → AllByRecursion (IsFreePart pool.held pool.slots) (free_parts pool.held pool.slots)
free_ones pool =
    recursion_from_All (IsFreePart pool.held pool.slots) (free_parts pool.held pool.slots)
    (listed_is_free pool.held pool.slots)

by_size : (pool : PoolState) (words level : ℕ) (part : Span) → IsSoundPool pool → 1 ≤ words → words ≤ size_of level
    → IsFreePart pool.held pool.slots part → part.level ≡ level → IsEnoughBySize pool part words
by_size pool words level part sound some fits free same =
    enough_by_size pool part words sound free some (subst (λ (l : ℕ). words ≤ size_of l) (sym same) fits)

-- Of parts smaller than a granule the first that is committed is the first.
small_find : (pool : PoolState) (words level : ℕ) (parts : List Span) → IsSoundPool pool → 1 ≤ words
    → words ≤ size_of level → size_of level < granule_in pool
    → AllByRecursion (IsFreePart pool.held pool.slots) parts
    → find (grants pool words true level) parts ≡ find (grants pool words false level) parts
small_find pool words level [] sound some fits small all = refl
small_find pool words level (part ∷ parts) sound some fits small all =
    ap (λ b. cond b (Some part) (find (grants pool words true level) parts)) (agree (part.level == level) refl)
    ∙ ap (λ o. cond (grants pool words false level part) (Some part) o)
    (small_find pool words level parts sound some fits small all.1)
  where
    agree : (b : Bool) → (part.level == level) ≡ b
        → (b && (not true || is_committed_enough pool words part))
        ≡ (b && (not false || is_committed_enough pool words part))
    agree true e = let same : part.level ≡ level = eqb-true part.level level e in
        (by_size pool words level part sound some fits all.0 same).small
        (subst (λ (l : ℕ). size_of l < granule_in pool) (sym same) small)
    agree false e = refl

pub small_are_enough : (pool : PoolState) (words level : ℕ) → IsSoundPool pool → 1 ≤ words → words ≤ size_of level
    → size_of level < granule_in pool
    → first_at pool words true level ≡ first_at pool words false level
unfolding first_at
small_are_enough pool words level sound some fits small =
    small_find pool words level (free_parts pool.held pool.slots) sound some fits small (free_ones pool)

-- So the mask decides nothing where the size is below a granule's, and need not be asked.
pub asked_by_size : (pool : PoolState) (words level size granule : ℕ) (asked : Bool) → IsSoundPool pool → 1 ≤ words
    → words ≤ size_of level → size ≡ size_of level → granule ≡ granule_in pool → asked ≡ nat_le granule size
    → first_at pool words asked level ≡ first_at pool words true level
asked_by_size pool words level size granule true sound some fits size_is granule_is is = refl
asked_by_size pool words level size granule false sound some fits size_is granule_is is =
    sym (small_are_enough pool words level sound some fits
    (omega (arith, size_is, granule_is, smaller granule size (sym is))))
  where
    smaller : (a b : ℕ) → nat_le a b ≡ false → b < a
    smaller a b e = grind (arith, nat_tests, e)

-- Of the others none is.
large_find : (pool : PoolState) (words level : ℕ) (parts : List Span) → IsSoundPool pool → 1 ≤ words
    → words ≤ size_of level → granule_in pool ≤ size_of level → keeps pool.limits.policy ≡ false
    → AllByRecursion (IsFreePart pool.held pool.slots) parts → find (grants pool words true level) parts ≡ None
large_find pool words level [] sound some fits large gives all = refl
large_find pool words level (part ∷ parts) sound some fits large gives all =
    ap (λ b. cond b (Some part) (find (grants pool words true level) parts)) (fails (part.level == level) refl)
    ∙ large_find pool words level parts sound some fits large gives all.1
  where
    fails : (b : Bool) → (part.level == level) ≡ b → (b && (not true || is_committed_enough pool words part)) ≡ false
    fails true e = let same : part.level ≡ level = eqb-true part.level level e in
        (by_size pool words level part sound some fits all.0 same).large gives
        (subst (λ (l : ℕ). granule_in pool ≤ size_of l) (sym same) large)
    fails false e = refl

pub large_are_not : (pool : PoolState) (words level : ℕ) → IsSoundPool pool → 1 ≤ words → words ≤ size_of level
    → granule_in pool ≤ size_of level → keeps pool.limits.policy ≡ false
    → first_at pool words true level ≡ None
unfolding first_at
large_are_not pool words level sound some fits large gives =
    large_find pool words level (free_parts pool.held pool.slots) sound some fits large gives (free_ones pool)
