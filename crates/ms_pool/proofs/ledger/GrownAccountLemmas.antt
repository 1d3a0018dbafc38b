-- The account once one of its chunks has grown, and those of others. `Grew` is shown by these.
use Rattle.std.proofs.Common.{◌≡◌, ◌≢◌, ◌≤◌, ◌+◌, ℕ, Bool, Some, List, map}
use Rattle.std.proofs.Common.{refl, sym, ap, ◌∙◌, subst, arith, inl, inr, length-set}
use Rattle.std.specs.Prelude.{Ok, slice_get, slice_set}
use Rattle.std.specs.List.{Contains}
use Rattle.std.specs.List.Sorted.{IsPermutation}
use Rattle.std.proofs.lemmas.List.Elements.{All-contains, All-set}
use Rattle.std.proofs.lemmas.List.Sorted.{IsPermutation-map}
use Rattle.ms_base.specs.declared.span.Chunk.{Chunk}
use Rattle.ms_base.specs.Level.{size_of, highest_level}
use Rattle.ms_base.specs.Part.{IsPart, slot_of}
use Rattle.ms_base.specs.Spaces.{IsSlotOf}
use Rattle.ms_base.specs.State.{PoolState}
use Rattle.ms_base.specs.PoolSteps.{grown}
use Rattle.ms_base.proofs.arena.GrownLemmas.{GrowsClear, Parted, parted_at}
use Rattle.ms_pool.specs.Account.{AccountState, AreChunks}
use Rattle.ms_pool.specs.Lending.{Grows, reaching, span_of}
use Rattle.ms_pool.specs.Ledger.{Ledger, IsSoundLedger, Serves, chunks_of, state_in, with_grown}
use Rattle.ms_pool.proofs.ledger.LoanLemmas.{owned_by, owned_by-other}
use Rattle.ms_pool.proofs.ledger.AccountLemmas.{own_clear}
use Rattle.ms_pool.proofs.ledger.GreaterLemmas.{IsGreater, IsReached, grown_is_greater, grown_reaches, grown_is_apart}
use Rattle.ms_pool.proofs.ledger.LoanAtLemmas.{contains_at}
use Rattle.ms_pool.proofs.ledger.LoanAtLemmas.{swapped, swapped_at, owned_by-replaced}
use Rattle.ms_pool.proofs.ledger.GrowLemmas.{GrowsAt, grown_at, own_is_held, new_at, grown_is_sound}

-- The account with a greater chunk at an index.
abbrev pub with_greater : AccountState → ℕ → Chunk → AccountState
with_greater account index chunk = record account { chunks = slice_set account.chunks index chunk }

pub grown_serves : (old : Ledger) (account : AccountState) (index : ℕ) (was is : Chunk) → Serves old account
    → AreChunks account.space account.chunks
    → slice_get account.chunks index ≡ Some was → is.start ≡ was.start
    → Serves (with_grown old is) (with_greater account index is)
grown_serves old account index was is served chunks found same = record {
  some = served.some;
  given = served.given;
  chunks = subst (λ (l : List Chunk). IsPermutation (chunks_of (with_grown old is) account.owner) l)
      (swapped_at account.chunks index was is same chunks.apart found)
      (subst (λ (l : List Chunk). IsPermutation l (map (swapped is) account.chunks))
      (sym (owned_by-replaced account.owner is old.loans))
      (IsPermutation-map (swapped is) (chunks_of old account.owner) account.chunks served.chunks));
}

-- What others have stays.
pub grown_keeps_others : (old : Ledger) (account : AccountState) (was is : Chunk) (other : ℕ) → IsSoundLedger old
    → Serves old account
    → AreChunks account.space account.chunks → Contains account.chunks was → is.start ≡ was.start
    → other ≢ account.owner
    → chunks_of (with_grown old is) other ≡ chunks_of old other
grown_keeps_others old account was is other sound served chunks has same differs =
    ap (owned_by other) (new_at old account.space account.owner was is at sound same)
    ∙ owned_by-other other at.loan.before (record { owner = account.owner; chunk = is }) at.loan.after
    (λ e. differs (sym e))
    ∙ sym (ap (owned_by other) at.loan.is
    ∙ owned_by-other other at.loan.before (record { owner = account.owner; chunk = was }) at.loan.after
    (λ e. differs (sym e)))
  where
    at : GrowsAt old account.space account.owner was
    at = grown_at old account was served chunks has

-- The account's chunks with the greater one.
pub grown_are_chunks : (old : Ledger) (account : AccountState) (index : ℕ) (was is : Chunk) → Serves old account
    → AreChunks account.space account.chunks → slice_get account.chunks index ≡ Some was
    → IsGreater (state_in account.space old) was is
    → AreChunks account.space (slice_set account.chunks index is)
grown_are_chunks old account index was is served chunks found greater = record {
  parts = All-set (λ (one : Chunk). IsPart one.start one.level) account.chunks index is greater.placed chunks.parts;
  inside = All-set (λ (one : Chunk). IsSlotOf account.space (slot_of one.start)) account.chunks index is
      (subst (λ (s : ℕ). IsSlotOf account.space (slot_of s)) (sym greater.start)
      (All-contains (λ (one : Chunk). IsSlotOf account.space (slot_of one.start)) account.chunks was chunks.inside
      has)) chunks.inside;
  fronts = All-set (λ (one : Chunk). (1 ≤ one.front) × (one.front ≤ size_of one.level)) account.chunks index is
      (greater.front.some, greater.front.within) chunks.fronts;
  apart = rw parted.new
      (grown_is_apart parted.before was is parted.after low greater.start (rw parted.old at chunks.apart)
      (rw parted.old at own));
  few = omega (arith, length-set account.chunks index is, chunks.few);
}
  where
    has : Contains account.chunks was
    has = contains_at account.chunks index was found

    parted : Parted account.chunks index was is
    parted = parted_at account.chunks index was is found

    low : was.level ≤ highest_level
    low = (All-contains (λ (one : Chunk). IsPart one.start one.level) account.chunks was chunks.parts has).0

    own : GrowsClear account.chunks was is
    own = elim greater.clear [
      | inl level ↦ inl level
      | inr parent ↦
          inr (parent.0, own_clear old account (was.start + size_of was.level) was.level served chunks parent.1)
    ]

-- All that a grown chunk leaves.
pub record GrownWell (old : Ledger) (account : AccountState) (index : ℕ) (was is : Chunk) (total : ℕ)
    (may_enlarge : Bool) : Type 0 where
  pub sound : IsSoundLedger (with_grown old is)
  pub served : Serves (with_grown old is) (with_greater account index is)
  pub others : (other : AccountState) → other.owner ≢ account.owner → Serves old other
      → Serves (with_grown old is) other
  pub chunks : AreChunks account.space (slice_set account.chunks index is)
  pub start : is.start ≡ was.start
  pub reaches : is ≡ reaching old.limits.policy was total
  pub grows : Grows old.limits.policy was.start total may_enlarge account (span_of is) (with_greater account index is)

pub grown_well : (old : Ledger) (account : AccountState) (index : ℕ) (was is : Chunk) (total : ℕ) (may_enlarge : Bool)
    → IsSoundLedger old
    → Serves old account
    → AreChunks account.space account.chunks → slice_get account.chunks index ≡ Some was
    → grown (state_in account.space old) was total may_enlarge ≡ Ok is
    → GrownWell old account index was is total may_enlarge
grown_well old account index was is total may_enlarge sound served chunks found answered = record {
  sound = grown_is_sound old account was is sound served chunks has greater;
  served = grown_serves old account index was is served chunks found greater.start;
  others = λ other differs its. record {
    some = its.some;
    given = its.given;
    chunks = subst (λ (l : List Chunk). IsPermutation l other.chunks)
        (sym (grown_keeps_others old account was is other.owner sound served chunks has greater.start differs))
        its.chunks;
  };
  chunks = grown_are_chunks old account index was is served chunks found greater;
  start = greater.start;
  reaches = reached.is_reaching;
  grows = record {
    index = index;
    chunk = was;
    found = found;
    starts = refl;
    enlarged = reached.enlarged;
    answer = ap span_of reached.is_reaching;
    after = ap (with_greater account index) reached.is_reaching;
  };
}
  where
    has : Contains account.chunks was
    has = contains_at account.chunks index was found

    pool : PoolState
    pool = state_in account.space old

    held : Contains pool.held was
    held = own_is_held old account was served chunks has

    greater : IsGreater pool was is
    greater = grown_is_greater pool was is total may_enlarge (sound.spaces account.space) held answered

    reached : IsReached pool was is total may_enlarge
    reached =
        grown_reaches pool was is total may_enlarge
        (All-contains (λ (one : Chunk). (1 ≤ one.front) × (one.front ≤ size_of one.level)) account.chunks was
        chunks.fronts has).1 answered
