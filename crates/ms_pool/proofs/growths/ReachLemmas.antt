-- The chunk that reaches so many words, from what the code has found out.
use Rattle.std.proofs.Common.{◌≡◌, ◌<◌, ◌≤◌, ℕ, ◌+◌, ◌-◌, ◌*◌, Bool, true, false, ◌&&◌, Some, None, refl, sym, ap, ◌∙◌}
use Rattle.std.proofs.Common.{le-leb}
use Rattle.std.proofs.lemmas.Bool.{lt-leb}
use Rattle.std.specs.Prelude.{Option, Result, Ok, Err, nat_le, if◌then◌else◌}
use Rattle.ms_base.specs.declared.policy.Policy.{Policy}
use Rattle.ms_base.specs.declared.refusal.Refusal.{Refusal}
use Rattle.ms_base.specs.declared.refusal.Refusal.TheVariants.{CommitLimit, NoRoom}
use Rattle.ms_base.specs.declared.span.Chunk.{Chunk}
use Rattle.ms_base.specs.Front.{front_for}
use Rattle.ms_base.specs.Level.{size_of}
use Rattle.ms_base.specs.State.{PoolState}
use Rattle.ms_base.specs.PoolSteps.Causes.{committed_count, granules_missing}
use Rattle.ms_base.specs.PoolSteps.{grown, may_become_parent, parent_with_front, with_front, within_limit}
use Rattle.ms_pool.specs.Growing.{has_room, reached}

-- By what the tests answer.
abbrev pub by_tests : PoolState → Chunk → ℕ → Bool → Bool → Option Chunk
by_tests pool chunk total fits room =
    if fits then Some (with_front pool chunk total) else if room then Some (parent_with_front pool chunk total) else
    None

pub reached-is : (pool : PoolState) (chunk : Chunk) (total : ℕ) (may_enlarge fits room : Bool)
    → nat_le total (size_of chunk.level) ≡ fits
    → (nat_le total (2 * size_of chunk.level) && may_enlarge && has_room pool chunk) ≡ room
    → reached pool chunk total may_enlarge ≡ by_tests pool chunk total fits room
unfolding reached
reached-is pool chunk total may_enlarge fits room e f = rw (e, f) refl

pub reached_front : (pool : PoolState) (chunk answer : Chunk) (total : ℕ) (may_enlarge : Bool)
    → total ≤ size_of chunk.level → answer ≡ with_front pool chunk total
    → Some answer ≡ reached pool chunk total may_enlarge
reached_front pool chunk answer total may_enlarge fits is =
    ap (λ (c : Chunk). Some c) is
    ∙ sym (reached-is pool chunk total may_enlarge true _ (le-leb total (size_of chunk.level) fits) refl)

pub reached_parent : (pool : PoolState) (chunk answer : Chunk) (total : ℕ) (may_enlarge : Bool)
    → size_of chunk.level < total → total ≤ 2 * size_of chunk.level → may_enlarge ≡ true
    → has_room pool chunk ≡ true → answer ≡ parent_with_front pool chunk total
    → Some answer ≡ reached pool chunk total may_enlarge
reached_parent pool chunk answer total may_enlarge more fits may room is =
    ap (λ (c : Chunk). Some c) is
    ∙ sym (reached-is pool chunk total may_enlarge false true (lt-leb total (size_of chunk.level) more)
    (all_true (nat_le total (2 * size_of chunk.level)) may_enlarge (has_room pool chunk)
    (le-leb total (2 * size_of chunk.level) fits) may room))
  where
    all_true : (a b c : Bool) → a ≡ true → b ≡ true → c ≡ true → (a && b && c) ≡ true
    all_true a b c e f g = rw (e, f, g) refl

pub reached_none : (pool : PoolState) (chunk : Chunk) (total : ℕ) (may_enlarge : Bool) → size_of chunk.level < total
    → (nat_le total (2 * size_of chunk.level) && may_enlarge && has_room pool chunk) ≡ false
    → None ≡ reached pool chunk total may_enlarge
reached_none pool chunk total may_enlarge more out =
    sym (reached-is pool chunk total may_enlarge false false (lt-leb total (size_of chunk.level) more) out)

pub third_false : (a b c : Bool) → c ≡ false → (a && b && c) ≡ false
third_false true true c e = e
third_false true false c e = refl
third_false false b c e = refl

pub second_false : (a b c : Bool) → b ≡ false → (a && b && c) ≡ false
second_false true false c e = refl
second_false false false c e = refl
second_false a true c e = absurd (cc)

pub first_false : (a b c : Bool) → a ≡ false → (a && b && c) ≡ false
first_false false b c e = refl
first_false true b c e = absurd (cc)

-- A chunk of that front, at its span or its parent's.
abbrev made_at : Policy → ℕ → ℕ → ℕ → Chunk
made_at policy start total level =
    record { start = start; level = level; front = front_for policy (size_of level) total }

pub parent_is : (policy : Policy) (start level above total : ℕ) (answer : Chunk)
    → answer ≡ made_at policy start total above → above ≡ level - 1 → answer ≡ made_at policy start total (level - 1)
parent_is policy start level above total answer is e = is ∙ ap (made_at policy start total) e

-- What `grow` answers then.
pub grown_stays : (pool : PoolState) (chunk : Chunk) (total : ℕ) (may_enlarge : Bool) → total ≤ chunk.front
    → grown pool chunk total may_enlarge ≡ Ok chunk
grown_stays pool chunk total may_enlarge fits = rw (le-leb total chunk.front fits) refl

abbrev by_reached : PoolState → Chunk → Option Chunk → Result Chunk Refusal
by_reached pool chunk (Some greater) = within_limit pool greater
by_reached pool chunk None = Err (NoRoom chunk.level)

by_either : (pool : PoolState) (chunk : Chunk) (total : ℕ) (fits room : Bool)
    → (if fits then within_limit pool (with_front pool chunk total) else if room then within_limit pool
    (parent_with_front pool chunk total) else Err (NoRoom chunk.level))
    ≡ by_reached pool chunk (by_tests pool chunk total fits room)
by_either pool chunk total true room = refl
by_either pool chunk total false true = refl
by_either pool chunk total false false = refl

grown-is : (pool : PoolState) (chunk : Chunk) (total : ℕ) (may_enlarge : Bool) → chunk.front < total
    → grown pool chunk total may_enlarge ≡ by_reached pool chunk (reached pool chunk total may_enlarge)
unfolding has_room reached
grown-is pool chunk total may_enlarge more =
    ap (λ b. if b then Ok chunk else if nat_le total (size_of chunk.level) then within_limit pool
    (with_front pool chunk total)
    else if nat_le total (2 * size_of chunk.level) && may_enlarge && may_become_parent pool chunk then within_limit pool
    (parent_with_front pool chunk total) else Err (NoRoom chunk.level))
    (lt-leb total chunk.front more)
    ∙ by_either pool chunk total (nat_le total (size_of chunk.level))
    (nat_le total (2 * size_of chunk.level) && may_enlarge && may_become_parent pool chunk)

pub grown_no_room : (pool : PoolState) (chunk : Chunk) (total : ℕ) (may_enlarge : Bool) → chunk.front < total
    → reached pool chunk total may_enlarge ≡ None
    → grown pool chunk total may_enlarge ≡ Err (NoRoom chunk.level)
grown_no_room pool chunk total may_enlarge more none =
    grown-is pool chunk total may_enlarge more ∙ ap (by_reached pool chunk) none

pub grown_within : (pool : PoolState) (chunk greater : Chunk) (total : ℕ) (may_enlarge : Bool) → chunk.front < total
    → reached pool chunk total may_enlarge ≡ Some greater
    → committed_count pool + granules_missing pool greater ≤ pool.limits.granules
    → grown pool chunk total may_enlarge ≡ Ok greater
grown_within pool chunk greater total may_enlarge more is within =
    grown-is pool chunk total may_enlarge more ∙ ap (by_reached pool chunk) is
    ∙ ap (λ b. if b then Ok greater else Err
    (CommitLimit (committed_count pool) pool.limits.granules (granules_missing pool greater)))
    (le-leb (committed_count pool + granules_missing pool greater) pool.limits.granules within)

pub grown_past : (pool : PoolState) (chunk greater : Chunk) (total : ℕ) (may_enlarge : Bool) → chunk.front < total
    → reached pool chunk total may_enlarge ≡ Some greater
    → pool.limits.granules < committed_count pool + granules_missing pool greater
    → grown pool chunk total may_enlarge
    ≡ Err (CommitLimit (committed_count pool) pool.limits.granules (granules_missing pool greater))
grown_past pool chunk greater total may_enlarge more is past =
    grown-is pool chunk total may_enlarge more ∙ ap (by_reached pool chunk) is
    ∙ ap (λ b. if b then Ok greater else Err
    (CommitLimit (committed_count pool) pool.limits.granules (granules_missing pool greater)))
    (lt-leb (committed_count pool + granules_missing pool greater) pool.limits.granules past)
