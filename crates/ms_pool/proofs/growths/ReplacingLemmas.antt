-- What `grow` knows, step by step: the chunk is found among the account's, the greater one is
-- reached, it has its span, and the account has it in place of the other.
use Rattle.std.proofs.Common.{◌≡◌, ◌<◌, ◌≤◌, ◌+◌, ℕ, Bool, Some, List, length, get_or, sym, subst, arith}
use Rattle.std.specs.Prelude.{Ok, IfSome, slice_get, Result}
use Rattle.ms_base.specs.declared.span.Chunk.{Chunk}
use Rattle.ms_base.specs.PoolSteps.{grown}
use Rattle.ms_base.proofs.events.GrownEventLemmas.{set_same}
use Rattle.ms_base.specs.declared.span.Span.{Span}
use Rattle.ms_base.specs.declared.refusal.Refusal.{Refusal}
use Rattle.ms_pool.specs.declared.lender.Lender.{Lender}
use Rattle.ms_pool.specs.Account.{AccountState, AreChunks}
use Rattle.ms_pool.specs.Ledger.{Serves, state_in, Ledger}
use Rattle.ms_pool.specs.Growing.{reached}
use Rattle.ms_pool.specs.Keeping.{IsKept, ledger_of}
use Rattle.ms_pool.specs.Placing.{MayBeReplaced}
use Rattle.ms_pool.specs.Searching.{lacking}
use Rattle.ms_pool.proofs.growths.GrowingLemmas.{FitsThere, IsOwn, WellReached, fits_there, found_at, is_own, no_more}
use Rattle.ms_pool.proofs.growths.GrowingLemmas.{well_reached, within_space}
use Rattle.ms_pool.proofs.growths.ReachLemmas.{grown_within, grown_stays}
use Rattle.ms_pool.proofs.ledger.GreaterLemmas.{IsGreater, grown_is_greater}
use Rattle.ms_pool.proofs.ledger.GrowLemmas.{GrownThere, grown_there, own_is_held}
use Rattle.ms_pool.proofs.ledger.GrownAccountLemmas.{GrownWell, grown_well}
use Rattle.ms_pool.proofs.ledger.GrownAccountLemmas.{with_greater}
use Rattle.ms_pool.proofs.ledger.LoanAtLemmas.{contains_at}
use Rattle.ms_pool.specs.Lending.{Grows, span_of}
use Rattle.ms_pool.specs.Calls.{GrewFrom, Grew}

-- The chunk stands at the index of an account that is served.
pub record IsFoundAt (lender : Lender) (account : AccountState) (start index : ℕ) (chunk : Chunk) : Type 0 where
  pub served : Serves (ledger_of lender) account
  pub chunks : AreChunks account.space account.chunks
  pub found : slice_get account.chunks index ≡ Some chunk
  pub starts : chunk.start ≡ start
  pub own : IsOwn account.space lender account.owner chunk

pub found_there : (lender : Lender) (account now : AccountState) (start index : ℕ) (chunk : Chunk) (items : List Chunk)
    → IsKept lender → account ≡ now → Serves (ledger_of lender) now → AreChunks account.space account.chunks
    → items ≡ account.chunks
    → index < length items → IfSome (slice_get items index) (λ (one : Chunk). one.start ≡ start)
    → chunk ≡ get_or account.chunks index chunk → IsFoundAt lender account start index chunk
found_there lender account now start index chunk items kept same served chunks listed within starts read = record {
  served = serves;
  chunks = chunks;
  found = found;
  starts = subst (λ o. IfSome o (λ (one : Chunk). one.start ≡ start)) found
      (subst (λ (l : List Chunk). IfSome (slice_get l index) (λ (one : Chunk). one.start ≡ start)) listed starts);
  own = is_own lender account index chunk kept serves chunks found;
}
  where
    serves : Serves (ledger_of lender) account
    serves = subst (Serves (ledger_of lender)) (sym same) served

    found : slice_get account.chunks index ≡ Some chunk
    found = found_at account.chunks index chunk (subst (λ (l : List Chunk). index < length l) listed within) read

-- The greater chunk is reached, and its front lies in the space.
pub record IsReachedThere (lender : Lender) (account : AccountState) (chunk greater : Chunk) : Type 0 where
  pub well : WellReached account.space lender chunk greater
  pub fits : FitsThere account.space greater

pub reached_there : (lender : Lender) (account : AccountState) (start index : ℕ) (chunk greater : Chunk) (total : ℕ)
    (may_enlarge : Bool)
    → IsKept lender → IsFoundAt lender account start index chunk → chunk.front < total
    → reached (state_in account.space (ledger_of lender)) chunk total may_enlarge ≡ Some greater
    → IsReachedThere lender account chunk greater
reached_there lender account start index chunk greater total may_enlarge kept at_ more is =
    let well = well_reached account.space lender chunk greater total may_enlarge at_.own.placed (omega (arith, more)) is
    in
    record { well = well; fits = fits_there account.space lender chunk greater kept at_.own.there.reserved well }

-- It is what the model says, and all is well with it.
pub record GrowsThere (lender : Lender) (account : AccountState) (index : ℕ) (chunk greater : Chunk) (total : ℕ)
    (may_enlarge : Bool) : Type 0 where
  pub answered : grown (state_in account.space (ledger_of lender)) chunk total may_enlarge ≡ Ok greater
  pub good : GrownWell (ledger_of lender) account index chunk greater total may_enlarge
  pub may : MayBeReplaced lender account.space chunk greater

pub grows_there : (lender : Lender) (account : AccountState) (start index : ℕ) (chunk greater : Chunk) (total : ℕ)
    (may_enlarge : Bool)
    → IsKept lender → IsFoundAt lender account start index chunk → chunk.front < total
    → reached (state_in account.space (ledger_of lender)) chunk total may_enlarge ≡ Some greater
    → length lender.nodes.granules + lacking (state_in account.space (ledger_of lender)) greater
    ≤ lender.nodes.limits.granules
    → GrowsThere lender account index chunk greater total may_enlarge
grows_there lender account start index chunk greater total may_enlarge kept at_ more is within = record {
  answered = answered;
  good = good;
  may = record {
    low = at_.own.placed.0;
    start = there.well.start;
    placed = there.well.placed;
    some = there.well.some;
    within = there.well.within;
    inside = there.fits.inside;
    higher = no_more lender account.owner chunk greater kept at_.own.loan there.well.start above.higher;
    grows = there.well.grows;
    limit = within;
    sound = good.sound;
  };
}
  where
    answered : grown (state_in account.space (ledger_of lender)) chunk total may_enlarge ≡ Ok greater
    answered = grown_within (state_in account.space (ledger_of lender)) chunk greater total may_enlarge more is
        (within_space account.space lender greater kept within)

    good : GrownWell (ledger_of lender) account index chunk greater total may_enlarge
    good = grown_well (ledger_of lender) account index chunk greater total may_enlarge kept.sound at_.served at_.chunks
        at_.found answered

    there : IsReachedThere lender account chunk greater
    there = reached_there lender account start index chunk greater total may_enlarge kept at_ more is

    above : IsGreater (state_in account.space (ledger_of lender)) chunk greater
    above = grown_is_greater (state_in account.space (ledger_of lender)) chunk greater total may_enlarge
        (kept.sound.spaces account.space)
        (own_is_held (ledger_of lender) account chunk at_.served at_.chunks
        (contains_at account.chunks index chunk at_.found)) answered

-- What the account has then: the chunk as it was, or the greater one in its place.
pub stays_there : (lender : Lender) (account : AccountState) (start index : ℕ) (chunk : Chunk) (total : ℕ)
    (may_enlarge : Bool)
    → IsKept lender → IsFoundAt lender account start index chunk → total ≤ chunk.front
    → Grows lender.policy start total may_enlarge account (span_of chunk) account
stays_there lender account start index chunk total may_enlarge kept at_ fits =
    subst (λ (s : ℕ). Grows lender.policy s total may_enlarge account (span_of chunk) account) at_.starts
    (subst (λ (l : List Chunk). Grows lender.policy chunk.start total may_enlarge account (span_of chunk)
    (record account { chunks = l })) (set_same account.chunks index chunk at_.found)
    (grown_well (ledger_of lender) account index chunk chunk total may_enlarge kept.sound at_.served at_.chunks
    at_.found
    (grown_stays (state_in account.space (ledger_of lender)) chunk total may_enlarge fits)).grows)

pub rises_there : (lender : Lender) (account : AccountState) (start index : ℕ) (chunk greater : Chunk) (total : ℕ)
    (may_enlarge : Bool)
    → IsFoundAt lender account start index chunk → GrowsThere lender account index chunk greater total may_enlarge
    → Grows lender.policy start total may_enlarge account (span_of greater) (with_greater account index greater)
rises_there lender account start index chunk greater total may_enlarge at_ grows =
    subst (λ (s : ℕ). Grows lender.policy s total may_enlarge account (span_of greater)
    (with_greater account index greater)) at_.starts grows.good.grows

-- What the call answers for the chunk, it answers for the start.
pub grew_there : (lender : Lender) (account : AccountState) (start index : ℕ) (chunk : Chunk) (total : ℕ)
    (may_enlarge : Bool) (answer : Result Span Refusal) (new : Ledger)
    → IsFoundAt lender account start index chunk
    → GrewFrom (ledger_of lender) account chunk total may_enlarge answer new
    → Grew (ledger_of lender) account start total may_enlarge answer new
grew_there lender account start index chunk total may_enlarge answer new at_ after =
    record { index = index; chunk = chunk; found = at_.found; starts = at_.starts; after = after }

-- What is held then.
pub grown_where_found : (lender : Lender) (account : AccountState) (start index : ℕ) (chunk greater : Chunk)
    (total : ℕ) (may_enlarge : Bool)
    → IsKept lender → IsFoundAt lender account start index chunk
    → GrowsThere lender account index chunk greater total may_enlarge
    → GrownThere (ledger_of lender) account chunk greater
grown_where_found lender account start index chunk greater total may_enlarge kept at_ grows =
    grown_there (ledger_of lender) account chunk greater kept.sound at_.served at_.chunks
    (contains_at account.chunks index chunk at_.found) grows.may.start
