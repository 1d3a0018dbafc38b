-- A call of take, whatever it answers: all accounts are served still, and nothing changes but the
-- chunks of the call's account.
use Rattle.ms_base.specs.Level.{highest_level}
use Rattle.std.proofs.Common.{◌≡◌, ◌≤◌, ℕ, refl, sym, ap, ◌∙◌, subst}
use Rattle.std.specs.Prelude.{Result, Ok, Err, IfOk, IfErr, OnErr}
use Rattle.ms_base.specs.declared.span.Span.{Span}
use Rattle.ms_base.specs.declared.refusal.Refusal.{Refusal}
use Rattle.ms_base.specs.declared.refusal.Refusal.TheVariants.{CommitLimit, ReserveLimit, OutOfMemory}
use Rattle.ms_pool.specs.Account.{AccountState, AreChunks}
use Rattle.ms_pool.specs.Source.{IsTakeRefusal}
use Rattle.ms_pool.specs.Lending.{Adds, MayTake, chunk_at, span_of}
use Rattle.ms_pool.specs.Ledger.{Ledger, IsSoundLedger, Serves}
use Rattle.ms_pool.specs.Calls.{Lends, TakeRefused, Took}
use Rattle.ms_pool.proofs.ledger.KeepsLemmas.{RaisesTally, Keeps, keeps_where_tallied, serves_where_tallied}
use Rattle.ms_pool.proofs.ledger.TakeLemmas.{TakenWell, taken_well, with_chunk, lent_keeps_others}

-- A request that is refused.
pub take_refused_raises : (old : Ledger) (account : AccountState) (wanted most words : ℕ) (refusal : Refusal)
    (new : Ledger)
    → TakeRefused old account wanted most words refusal new → RaisesTally old new
take_refused_raises old account wanted most words (CommitLimit committed limit need) new refused =
    record { tallies = _; is = refused.1 }
take_refused_raises old account wanted most words (ReserveLimit nodes limit) new refused =
    record { tallies = _; is = refused.1 }
take_refused_raises old account wanted most words OutOfMemory new refused =
    record { tallies = old.tallies; is = refused.1 }
take_refused_raises old account wanted most words _ new refused = absurd refused

pub took_keeps : (old : Ledger) (account : AccountState) (wanted most words : ℕ) (result : Result Span Refusal)
    (new : Ledger)
    → Took old account wanted most words result new → Keeps account.owner old new
took_keeps old account wanted most words (Ok span) new lends =
    subst (Keeps account.owner old) (sym lends.after) (record {
      others = λ other differs. lent_keeps_others old account.space account.owner lends.chunk other differs;
      given = refl;
      opened = refl;
      limits = refl;
    })
took_keeps old account wanted most words (Err refusal) new refused =
    keeps_where_tallied account.owner old new (take_refused_raises old account wanted most words refusal new refused)

-- What a refusal of it is.
pub take_refusal : (old : Ledger) (account : AccountState) (wanted most words : ℕ) (result : Result Span Refusal)
    (new : Ledger)
    → Took old account wanted most words result new → IfErr result IsTakeRefusal
take_refusal old account wanted most words (Ok span) new took = tt
take_refusal old account wanted most words (Err (CommitLimit committed limit need)) new took = tt
take_refusal old account wanted most words (Err (ReserveLimit nodes limit)) new took = tt
take_refusal old account wanted most words (Err OutOfMemory) new took = tt
take_refusal old account wanted most words (Err _) new took = absurd took

-- What a request may ask.
pub record MayAsk (wanted most words : ℕ) : Type 0 where
  pub may : MayTake wanted most words
  pub real : most ≤ highest_level

lends_well : (old : Ledger) (account : AccountState) (wanted most words : ℕ) (span : Span) (new : Ledger)
    → IsSoundLedger old
    → Serves old account
    → AreChunks account.space account.chunks → MayAsk wanted most words
    → (lends : Lends old account wanted most words span new)
    → TakenWell old account wanted most words lends.chunk
lends_well old account wanted most words span new sound served chunks asks lends =
    taken_well old account wanted most words lends.chunk sound served chunks asks.may.levels asks.real asks.may.some
    asks.may.fits lends.picked

-- The account that the call leaves is served.
pub took_serves : (old : Ledger) (account : AccountState) (wanted most words : ℕ) (result : Result Span Refusal)
    (new : Ledger) (after : AccountState)
    → IsSoundLedger old → Serves old account → AreChunks account.space account.chunks → MayAsk wanted most words
    → Took old account wanted most words result new
    → IfOk result (λ span. Adds old.limits.policy wanted most words account span after) → OnErr result (after ≡ account)
    → Serves new after
took_serves old account wanted most words (Ok span) new after sound served chunks asks lends adds unchanged =
    subst (Serves new) (well.adds.after ∙ sym same)
    (subst (λ (l : Ledger). Serves l (with_chunk account lends.chunk)) (sym lends.after) well.served)
  where
    well : TakenWell old account wanted most words lends.chunk
    well = lends_well old account wanted most words span new sound served chunks asks lends

    same : after ≡ with_chunk account (chunk_at old.limits.policy (span_of lends.chunk) words)
    same = adds.after ∙ ap (λ (one : Span). with_chunk account (chunk_at old.limits.policy one words)) lends.answer
took_serves old account wanted most words (Err refusal) new after sound served chunks asks refused adds unchanged =
    subst (Serves new) (sym unchanged)
    (serves_where_tallied old new account (take_refused_raises old account wanted most words refusal new refused)
    served)
