-- An allocation by the pool's calls, of which a refused growth isn't seen, is one over filled
-- pools: it is a step of the machine. For the run of the machine that an order of steps is.
use Rattle.std.proofs.Common.{◌≡◌, ℕ, Bool, Some, Result, Ok, Err, List, length, inl, inr, sym, ap, subst, arith}
use Rattle.ms_base.specs.declared.kind.Space.{Space}
use Rattle.ms_base.specs.declared.span.Block.{Block}
use Rattle.ms_base.specs.declared.span.Span.{Span}
use Rattle.ms_base.specs.declared.refusal.Refusal.{Refusal}
use Rattle.ms_base.specs.declared.refusal.Refusal.TheVariants.{CommitLimit, ReserveLimit, OutOfMemory}
use Rattle.ms_base.specs.declared.step.Reply.TheVariants.{At, Refused}
use Rattle.ms_base.specs.Names.{named, with_changed}
use Rattle.ms_base.specs.Request.{alloc_in}
use Rattle.ms_base.specs.Transition.{Transition}
use Rattle.ms_pool.specs.Account.{AccountState}
use Rattle.ms_pool.specs.Tallies.{no_tallies}
use Rattle.ms_pool.specs.Ledger.{Ledger, IsSoundLedger}
use Rattle.ms_pool.specs.Calls.{Took}
use Rattle.ms_arena.specs.Arena.{ArenaView}
use Rattle.ms_loader.specs.Loader.{LoaderView, IsSoundView, AllocatesBlock}
use Rattle.ms_loaders.specs.System.{machine_of, AreTogether}
use Rattle.ms_loaders.proofs.steps.OutcomeLemmas.{Outcome, GrewAtAll, TookAtAll}
use Rattle.ms_loaders.proofs.steps.AskedLemmas.{outcome}
use Rattle.ms_loaders.proofs.steps.AlikeLemmas.{allocates_by}
use Rattle.ms_loaders.proofs.steps.ServedLemmas.{apart_of, length_changed}
use Rattle.ms_loaders.proofs.steps.StillTogetherLemmas.{own_sound}
use Rattle.ms_loaders.proofs.steps.CallLemmas.{same_loaders}
use Rattle.ms_loaders.proofs.steps.AllocStepLemmas.{reply_to, alloc_goes}
use Rattle.ms_run.specs.Acts.{GrewSeen}
use Rattle.ms_run.proofs.machine.FilledLemmas.{filled, filled_sound, AreWhole, few_open}

-- What the pool's calls make of a filled pool.
grows : (n : ℕ) (old : Ledger) (account : AccountState) (start total : ℕ) (may_enlarge : Bool)
    (answer : Result Span Refusal) (new : Ledger) → GrewSeen old account start total may_enlarge answer new
    → GrewAtAll (filled n old) account start total may_enlarge answer (filled n new)
grows n old account start total may_enlarge (Ok span) new its = record {
  index = its.index;
  chunk = its.chunk;
  found = its.found;
  starts = its.starts;
  after = (its.after.0, its.after.1, its.after.2, ap (filled n) its.after.3);
}
grows n old account start total may_enlarge (Err refusal) new its =
    record { tallies = no_tallies; is = ap (filled n) its }

takes : (n : ℕ) (old : Ledger) (account : AccountState) (wanted most words : ℕ) (answer : Result Span Refusal)
    (new : Ledger) → Took old account wanted most words answer new
    → TookAtAll (filled n old) account wanted most words answer (filled n new)
takes n old account wanted most words (Ok span) new its =
    record { chunk = its.chunk; picked = its.picked; answer = its.answer; after = ap (filled n) its.after }
takes n old account wanted most words (Err (CommitLimit committed limit need)) new its =
    (its.0, record { tallies = no_tallies; is = ap (filled n) its.1 })
takes n old account wanted most words (Err (ReserveLimit nodes limit)) new its =
    (its.0, record { tallies = no_tallies; is = ap (filled n) its.1 })
takes n old account wanted most words (Err OutOfMemory) new its =
    (tt, record { tallies = no_tallies; is = ap (filled n) its.1 })
takes n old account wanted most words (Err _) new its = absurd its

-- No number is given out.
given_same : (was : ArenaView) (words : ℕ) (old : Ledger) (answer : Result Block Refusal) (is : ArenaView)
    (new : Ledger) → Outcome was words old answer is new → new.given ≡ old.given
given_same was words old (Ok block) is new its = elim its.how [
  | inl stays ↦ ap (λ (l : Ledger). l.given) stays.1
  | inr other ↦ elim other [
    | inl grown ↦ ap (λ (l : Ledger). l.given) grown.ledger
    | inr lent ↦ ap (λ (l : Ledger). l.given) lent.ledger
  ]
]
given_same was words old (Err refusal) is new its = ap (λ (l : Ledger). l.given) its.ledger.is

given_stays : (space : Space) (old new : Ledger) (name words : ℕ) (was is : LoaderView) (answer : Result Block Refusal)
    → IsSoundView was → AllocatesBlock GrewAtAll TookAtAll old.limits.policy space was name words old answer is new
    → new.given ≡ old.given
given_stays space old new name words was is answer sound (inl refused) = ap (λ (l : Ledger). l.given) refused.source
given_stays space old new name words was is answer sound (inr asks) =
    given_same asks.was words old answer asks.is new
    (outcome asks.was words old answer asks.is new (apart_of space was asks.was sound asks.arena) asks.allocates)

-- A refused one leaves its loader.
refused_leaves : (space : Space) (old new : Ledger) (name words : ℕ) (was is : LoaderView) (refusal : Refusal)
    → AllocatesBlock GrewAtAll TookAtAll old.limits.policy space was name words old (Err refusal) is new → is ≡ was
refused_leaves space old new name words was is refusal (inl refused) = refused.loader
refused_leaves space old new name words was is refusal (inr asks) = asks.follows

module _ (space : Space) (old new : Ledger) (loaders : List (ℕ × LoaderView)) (name block words : ℕ)
    (was is : LoaderView) (found : named loaders name ≡ Some was) (sound : IsSoundLedger new)
    (its : AreWhole old loaders) where
  abbrev n : ℕ
  n = length loaders

  module _ (answer : Result Block Refusal)
      (allocates : AllocatesBlock GrewSeen Took old.limits.policy space was block words old answer is new) where
    abbrev Filled : Type 0
    Filled = AllocatesBlock GrewAtAll TookAtAll old.limits.policy space was block words (filled n old) answer is (filled n new)

    all : Filled
    all = allocates_by (filled n) GrewSeen Took GrewAtAll TookAtAll (grows n) (takes n) old.limits.policy space was block
        words old answer is new allocates

    filled_is_sound : IsSoundLedger (filled n new)
    filled_is_sound = filled_sound n new
        (omega (
          arith,
          few_open old loaders its,
          given_stays space (filled n old) (filled n new) block words was is answer
              (own_sound (filled n old) loaders name was found its) all,
        )) sound

    both : IsSoundView is
        → AreTogether (filled n new) (with_changed loaders name is)
        × Transition (machine_of (filled n old) loaders) (alloc_in space name block words) (reply_to answer)
        (machine_of (filled n new) (with_changed loaders name is))
    both is_sound =
        alloc_goes space (filled n old) (filled n new) loaders name block words was is answer found all filled_is_sound
        is_sound its

  -- Pool and loaders are together still, and the machine makes the step.
  pub alloc_serves : (made : Block) → AllocatesBlock GrewSeen Took old.limits.policy space was block words old (Ok made) is new
      → IsSoundView is
      → AreWhole new (with_changed loaders name is)
      × Transition (machine_of old loaders) (alloc_in space name block words) (At made.start)
      (machine_of new (with_changed loaders name is))
  alloc_serves made allocates is_sound =
      let it = both (Ok made) allocates is_sound in (
        subst (λ (k : ℕ). AreTogether (filled k new) (with_changed loaders name is))
            (sym (length_changed loaders name is)) it.0,
        it.1,
      )

  pub alloc_refuses : (refusal : Refusal)
      → AllocatesBlock GrewSeen Took old.limits.policy space was block words old (Err refusal) is new
      → AreWhole new loaders
      × Transition (machine_of old loaders) (alloc_in space name block words) (Refused refusal) (machine_of new loaders)
  alloc_refuses refusal allocates =
      let same = refused_leaves space (filled n old) (filled n new) block words was is refusal (all (Err refusal) allocates)
      in
      let it = both (Err refusal) allocates
      (subst IsSoundView (sym same) (own_sound (filled n old) loaders name was found its)) in
      let stay = same_loaders loaders name was is found same in (
        subst (λ (l : List (ℕ × LoaderView)). AreTogether (filled n new) l) stay it.0,
        subst (λ (l : List (ℕ × LoaderView)). Transition (machine_of old loaders) (alloc_in space name block words)
            (Refused refusal) (machine_of new l)) stay it.1,
      )
