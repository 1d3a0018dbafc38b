-- A call of grow, whatever it answers: all accounts are served still, and nothing changes but the
-- chunks of the call's account.
use Rattle.std.proofs.Common.{◌≡◌, ℕ, Bool, Some, List, refl, sym, ap, ◌∙◌, subst}
use Rattle.std.specs.Prelude.{Result, Ok, Err, IfOk, IfErr, OnErr, slice_get, slice_set}
use Rattle.ms_base.specs.declared.span.Chunk.{Chunk}
use Rattle.ms_base.specs.declared.span.Span.{Span}
use Rattle.ms_base.specs.declared.refusal.Refusal.{Refusal}
use Rattle.ms_base.specs.declared.refusal.Refusal.TheVariants.{CommitLimit, NoRoom}
use Rattle.ms_pool.specs.Account.{AccountState, AreChunks}
use Rattle.ms_pool.specs.Source.{IsGrowRefusal}
use Rattle.ms_pool.specs.Lending.{Grows, reaching}
use Rattle.ms_pool.specs.Ledger.{Ledger, IsSoundLedger, Serves}
use Rattle.ms_pool.specs.Calls.{GrewFrom, Grew}
use Rattle.ms_pool.proofs.ledger.LoanAtLemmas.{contains_at, same_from_start, swapped_at}
use Rattle.ms_pool.proofs.ledger.GrownAccountLemmas.{GrownWell, grown_well, with_greater, grown_keeps_others}
use Rattle.ms_pool.proofs.ledger.KeepsLemmas.{RaisesTally, Keeps, keeps_where_tallied, serves_where_tallied}

-- A chunk that doesn't grow.
pub grow_refused_raises : (old : Ledger) (account : AccountState) (chunk : Chunk) (total : ℕ) (may_enlarge : Bool)
    (refusal : Refusal) (new : Ledger)
    → GrewFrom old account chunk total may_enlarge (Err refusal) new → RaisesTally old new
grow_refused_raises old account chunk total may_enlarge (CommitLimit committed limit need) new refused =
    record { tallies = _; is = refused.1 }
grow_refused_raises old account chunk total may_enlarge (NoRoom level) new refused =
    record { tallies = _; is = refused.1 }
grow_refused_raises old account chunk total may_enlarge _ new refused = absurd refused

-- What a refusal of it is.
refusal_after : (old : Ledger) (account : AccountState) (chunk : Chunk) (total : ℕ) (may_enlarge : Bool)
    (answer : Result Span Refusal) (new : Ledger)
    → GrewFrom old account chunk total may_enlarge answer new → IfErr answer IsGrowRefusal
refusal_after old account chunk total may_enlarge (Ok span) new grew = tt
refusal_after old account chunk total may_enlarge (Err (CommitLimit committed limit need)) new grew = tt
refusal_after old account chunk total may_enlarge (Err (NoRoom level)) new grew = tt
refusal_after old account chunk total may_enlarge (Err _) new grew = absurd grew

pub grow_refusal : (old : Ledger) (account : AccountState) (start total : ℕ) (may_enlarge : Bool)
    (answer : Result Span Refusal) (new : Ledger)
    → Grew old account start total may_enlarge answer new → IfErr answer IsGrowRefusal
grow_refusal old account start total may_enlarge answer new grew =
    refusal_after old account grew.chunk total may_enlarge answer new grew.after

-- What a call leaves, by its answer for the chunk that it was asked for.
keeps_after : (old : Ledger) (account : AccountState) (index : ℕ) (chunk : Chunk) (total : ℕ) (may_enlarge : Bool)
    (answer : Result Span Refusal) (new : Ledger)
    → IsSoundLedger old → Serves old account → AreChunks account.space account.chunks
    → slice_get account.chunks index ≡ Some chunk
    → GrewFrom old account chunk total may_enlarge answer new → Keeps account.owner old new
keeps_after old account index chunk total may_enlarge (Ok span) new sound served chunks found
    (greater, answered, at, is) =
    let well = grown_well old account index chunk greater total may_enlarge sound served chunks found answered in
    subst (Keeps account.owner old) (sym is) (record {
      others = λ other differs. grown_keeps_others old account chunk greater other sound served chunks
          (contains_at account.chunks index chunk found) well.start differs;
      given = refl;
      opened = refl;
      limits = refl;
    })
keeps_after old account index chunk total may_enlarge (Err refusal) new sound served chunks found refused =
    keeps_where_tallied account.owner old new
    (grow_refused_raises old account chunk total may_enlarge refusal new refused)

pub grew_keeps : (old : Ledger) (account : AccountState) (start total : ℕ) (may_enlarge : Bool)
    (answer : Result Span Refusal) (new : Ledger)
    → IsSoundLedger old → Serves old account → AreChunks account.space account.chunks
    → Grew old account start total may_enlarge answer new
    → Keeps account.owner old new
grew_keeps old account start total may_enlarge answer new sound served chunks grew =
    keeps_after old account grew.index grew.chunk total may_enlarge answer new sound served chunks grew.found grew.after

-- The account that the call leaves is served: the start tells which of its chunks has grown.
serves_after : (old : Ledger) (account : AccountState) (index : ℕ) (chunk : Chunk) (total : ℕ) (may_enlarge : Bool)
    (answer : Result Span Refusal) (new : Ledger) (after : AccountState)
    → IsSoundLedger old → Serves old account → AreChunks account.space account.chunks
    → slice_get account.chunks index ≡ Some chunk
    → GrewFrom old account chunk total may_enlarge answer new
    → IfOk answer (λ span. Grows old.limits.policy chunk.start total may_enlarge account span after)
    → OnErr answer (after ≡ account)
    → Serves new after
serves_after old account index chunk total may_enlarge (Ok span) new after sound served chunks found
    (greater, answered, at, is) grows unchanged =
    subst (Serves new) (sym (grows.after ∙ ap (λ (l : List Chunk). record account { chunks = l }) same))
    (subst (λ (l : Ledger). Serves l (with_greater account index greater)) (sym is) well.served)
  where
    well : GrownWell old account index chunk greater total may_enlarge
    well = grown_well old account index chunk greater total may_enlarge sound served chunks found answered

    one : grows.chunk ≡ chunk
    one = same_from_start account.chunks grows.index index grows.chunk chunk chunks.apart grows.found found grows.starts

    same : slice_set account.chunks grows.index (reaching old.limits.policy grows.chunk total)
        ≡ slice_set account.chunks index greater
    same =
        ap (slice_set account.chunks grows.index)
        (ap (λ (c : Chunk). reaching old.limits.policy c total) one ∙ sym well.reaches)
        ∙ sym (swapped_at account.chunks grows.index grows.chunk greater (well.start ∙ sym grows.starts) chunks.apart
        grows.found)
        ∙ swapped_at account.chunks index chunk greater well.start chunks.apart found
serves_after old account index chunk total may_enlarge (Err refusal) new after sound served chunks found refused grows
    unchanged =
    subst (Serves new) (sym unchanged)
    (serves_where_tallied old new account
    (grow_refused_raises old account chunk total may_enlarge refusal new refused) served)

pub grew_serves : (old : Ledger) (account : AccountState) (start total : ℕ) (may_enlarge : Bool)
    (answer : Result Span Refusal) (new : Ledger) (after : AccountState)
    → IsSoundLedger old → Serves old account → AreChunks account.space account.chunks
    → Grew old account start total may_enlarge answer new
    → IfOk answer (λ span. Grows old.limits.policy start total may_enlarge account span after)
    → OnErr answer (after ≡ account)
    → Serves new after
grew_serves old account start total may_enlarge answer new after sound served chunks grew grows unchanged =
    serves_after old account grew.index grew.chunk total may_enlarge answer new after sound served chunks grew.found
    grew.after
    (subst (λ (s : ℕ). IfOk answer (λ span. Grows old.limits.policy s total may_enlarge account span after))
    (sym grew.starts) grows) unchanged
