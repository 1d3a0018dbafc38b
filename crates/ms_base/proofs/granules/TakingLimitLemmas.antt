-- A chunk that is taken keeps the limit of granules. The law on taking uses this.
use Rattle.std.proofs.Common.{◌≡◌, ◌≤◌, ℕ, ◌+◌, Bool, true, false, not, ◌&&◌}
use Rattle.std.proofs.Common.{length, refl, sym, ap, subst, arith}
use Rattle.std.proofs.Common.{Ok, Err}
use Rattle.std.specs.Prelude.{nat_lt, Result, if◌then◌else◌}
use Rattle.std.proofs.lemmas.Bool.Decides.{nat_tests}
use Rattle.ms_base.specs.declared.span.Chunk.{Chunk}
use Rattle.ms_base.specs.Policy.{keeps}
use Rattle.ms_base.specs.Level.{size_of, highest_level}
use Rattle.ms_base.specs.Front.{granules_for}
use Rattle.ms_base.specs.State.{PoolState}
use Rattle.ms_base.specs.PoolSteps.Pick.{granule_in}
use Rattle.ms_base.specs.PoolSteps.Pick.{chunk_picked}
use Rattle.ms_base.specs.PoolSteps.Causes.{committed_count, node_limit, has_committed_room, granules_missing, granules_needed}
use Rattle.ms_base.specs.PoolSteps.Causes.{needs_none, meets_reserve_limit, meets_commit_limit}
use Rattle.ms_base.specs.PoolSteps.{taken}
use Rattle.ms_base.specs.Good.{IsSoundPool}
use Rattle.ms_base.specs.declared.refusal.Refusal.{Refusal}
use Rattle.ms_base.specs.declared.refusal.Refusal.TheVariants.{CommitLimit, ReserveLimit}
use Rattle.ms_base.proofs.granules.NeedLemmas.{missing_within, nothing_missing}

-- What an answered request says.
abbrev pub answer : Chunk → Result Chunk Refusal
answer chunk = Ok chunk

pub same_chunk : (a b : Chunk) → answer a ≡ answer b → a ≡ b
same_chunk a b e = cc

pub record IsTaken (pool : PoolState) (p m words : ℕ) (chunk : Chunk) : Type 0 where
  pub room : meets_reserve_limit pool m ≡ false
  pub granules : meets_commit_limit pool p m words ≡ false
  pub is : chunk ≡ chunk_picked pool p m words

pub taken_is : (pool : PoolState) (p m words : ℕ) (chunk : Chunk) → taken pool p m words ≡ Ok chunk
    → IsTaken pool p m words chunk
taken_is pool p m words chunk is =
    elim (meets_reserve_limit pool m) as (λ b. meets_reserve_limit pool m ≡ b
    → (if b then Err (ReserveLimit (length pool.slots) (node_limit pool)) else later
    (meets_commit_limit pool p m words)) ≡ Ok chunk → IsTaken pool p m words chunk) [
      | true ↦ λ e is. absurd (cc)
      | false ↦
          λ room is.
          elim (meets_commit_limit pool p m words) as (λ b. meets_commit_limit pool p m words ≡ b → later b ≡ Ok chunk
          → IsTaken pool p m words chunk) [
            | true ↦ λ e is. absurd (cc)
            | false ↦
                λ granules is.
                record { room = room; granules = granules; is = sym (same_chunk (chunk_picked pool p m words) chunk is) }
          ] refl is
    ] refl is
  where
    later : Bool → Result Chunk Refusal
    later b =
        if b then Err (CommitLimit (committed_count pool) pool.limits.granules (granules_needed pool p m words)) else Ok
        (chunk_picked pool p m words)

-- A request that is answered by a chunk keeps the limit of granules.
pub taking_keeps_the_limit : (pool : PoolState) (p m words : ℕ) (chunk : Chunk) → IsSoundPool pool
    → p ≤ m → m ≤ highest_level
    → 1 ≤ words → words ≤ size_of m
    → taken pool p m words ≡ Ok chunk → committed_count pool + granules_missing pool chunk ≤ pool.limits.granules
taking_keeps_the_limit pool p m words chunk sound h k some fits is =
    subst (λ (one : Chunk). committed_count pool + granules_missing pool one ≤ pool.limits.granules) (sym its.is)
    (elim (keeps pool.limits.policy) as (λ b. keeps pool.limits.policy ≡ b
    → committed_count pool + granules_missing pool picked_chunk ≤ pool.limits.granules) [
      | true ↦ λ e. let below = within (rw e refl) in
          omega (
            arith,
            below,
            ap (λ b. if b then granules_missing pool picked_chunk else granules_for (granule_in pool) words) e,
          )
      | false ↦
          λ e. elim (has_committed_room pool m words) as (λ b. has_committed_room pool m words ≡ b
          → committed_count pool + granules_missing pool picked_chunk ≤ pool.limits.granules) [
            | true ↦ λ room. omega (arith, nothing_missing pool p m words e h k some fits room, sound.granules)
            | false ↦ λ none. let below = within (rw (e, none) refl) in
                omega (
                  arith,
                  below,
                  missing_within pool p m words e h k some fits,
                  ap (λ b. if b then granules_missing pool picked_chunk else granules_for (granule_in pool) words) e,
                )
          ] refl
    ] refl)
  where
    its : IsTaken pool p m words chunk
    its = taken_is pool p m words chunk is

    picked_chunk : Chunk
    picked_chunk = chunk_picked pool p m words

    total : ℕ
    total = committed_count pool + granules_needed pool p m words

    within : needs_none pool m words ≡ false → total ≤ pool.limits.granules
    within e = not_over pool.limits.granules total (needs_none pool m words) (rw its.room at its.granules) e
      where
        not_over : (limit total : ℕ) (none : Bool) → (not false && (not none && nat_lt limit total)) ≡ false
            → none ≡ false → total ≤ limit
        not_over limit total false h e = over limit total h
          where
            over : (limit total : ℕ) → nat_lt limit total ≡ false → total ≤ limit
            over limit total h = grind (arith, nat_tests, h)
        not_over limit total true h e = absurd (cc)
