-- A chunk of a loader's account that is asked to grow as an event: it does, or is refused.
use Rattle.std.proofs.Common.{◌≡◌, ℕ, Bool, true, Some, Result, Ok, Err, List, map, cond, refl, sym, ap, ◌∙◌, subst}
use Rattle.std.specs.Prelude.{◌==◌, slice_get, slice_set}
use Rattle.ms_base.specs.declared.kind.Space.{Space}
use Rattle.ms_base.specs.declared.span.Chunk.{Chunk}
use Rattle.ms_base.specs.declared.span.Span.{Span}
use Rattle.ms_base.specs.declared.refusal.Refusal.{Refusal}
use Rattle.ms_base.specs.declared.refusal.Refusal.TheVariants.{CommitLimit, NoRoom}
use Rattle.ms_base.specs.Committed.{is_among}
use Rattle.ms_base.specs.Names.{named, with_changed}
use Rattle.ms_base.specs.State.{LoaderState, Machine, arena_of, with_arena, chunks_held, pool_of}
use Rattle.ms_base.specs.State.{recommitted as machine_recommitted}
use Rattle.ms_base.specs.Good.{IsSoundLoader}
use Rattle.ms_base.specs.PoolSteps.{grown}
use Rattle.ms_base.specs.Transition.{with_loader}
use Rattle.ms_base.specs.Run.Event.{growing, lent, refused, GrowsChunk, with_chunk_at}
use Rattle.ms_base.proofs.free.AlikeLemmas.{permuted_are_alike}
use Rattle.ms_base.proofs.free.OrderLemmas.{grown_alike}
use Rattle.ms_base.proofs.entries.LookupLemmas.{named_changed_same}
use Rattle.ms_base.proofs.machine.GoodLemmas.{loader_is_sound}
use Rattle.ms_base.proofs.events.GrownEventLemmas.{good_with_greater}
use Rattle.ms_pool.specs.Account.{AccountState, AreChunks}
use Rattle.ms_pool.specs.Lending.{span_of}
use Rattle.ms_pool.specs.Ledger.{Loan, Ledger, Serves, held_in, state_in, with_grown}
use Rattle.ms_pool.specs.Calls.{GrewFrom, Grew}
use Rattle.ms_pool.proofs.ledger.LoanAtLemmas.{same_from_start, owners_replaced}
use Rattle.ms_pool.proofs.ledger.GrownAccountLemmas.{GrownWell, grown_well}
use Rattle.ms_pool.proofs.ledger.GrewLemmas.{grow_refused_raises, grew_keeps}
use Rattle.ms_loader.specs.Loader.{LoaderView, account_in}
use Rattle.ms_loaders.specs.System.{states_of, owners_of, machine_of, AreTogether}
use Rattle.ms_loaders.specs.CallEvents.{IsEvent, IsThere, IsGrowCall, IsAnswered, with_chunks}
use Rattle.ms_loaders.proofs.sums.FitLemmas.{fits, machine_is_good}
use Rattle.ms_loaders.proofs.steps.StillTogetherLemmas.{own_sound, own_served}
use Rattle.ms_loaders.proofs.steps.StepLemmas.{has_loader, machine_with}
use Rattle.ms_loaders.proofs.events.TalliedLemmas.{together_tallied}
use Rattle.ms_loaders.proofs.events.ChangedLemmas.{LeavesChanged, same_with, together_changed, machine_follows}

module _ (space : Space) (old : Ledger) (loaders : List (ℕ × LoaderView)) (name : ℕ) (loader : LoaderView)
    (start total : ℕ) (may_enlarge : Bool) (there : IsThere old loaders name loader) where
  abbrev m : Machine
  m = machine_of old loaders

  abbrev own : List Chunk
  own = (arena_of space loader.state).chunks

  has : named m.loaders name ≡ Some loader.state
  has = has_loader old loaders name loader there.found

  served : Serves old (account_in space loader)
  served = own_served space old loaders name loader there.found there.together.served

  own_chunks : AreChunks space own
  own_chunks = (own_sound old loaders name loader there.found there.together).chunks space

  -- The machine's rule for growing answers as the pool's.
  grown_there : (chunk : Chunk)
      → grown (pool_of space m) chunk total may_enlarge ≡ grown (state_in space old) chunk total may_enlarge
  grown_there chunk =
      grown_alike (state_in space old) (chunks_held space (states_of loaders))
      (permuted_are_alike (held_in space old) (chunks_held space (states_of loaders))
      (fits old loaders there.together.loaders_sound there.together.served space)) chunk total may_enlarge

  -- The chunk grows.
  module _ (index : ℕ) (was greater : Chunk) (found : slice_get own index ≡ Some was) (starts : was.start ≡ start)
      (answered : grown (state_in space old) was total may_enlarge ≡ Ok greater) where
    abbrev after : Ledger
    after = with_grown old greater

    abbrev is : LoaderState
    is = with_arena space loader.state (with_chunk_at (arena_of space loader.state) index greater)

    well : GrownWell old (account_in space loader) index was greater total may_enlarge
    well = grown_well old (account_in space loader) index was greater total may_enlarge there.together.ledger_sound
        served own_chunks found answered

    abbrev next : Machine
    next = machine_recommitted (with_loader m name is)

    grows_is : GrowsChunk m space name start total may_enlarge greater next
    grows_is = record {
      loader = loader.state;
      index = index;
      was = was;
      asked = record { has = has; found = found; starts = starts };
      answer = grown_there was ∙ answered;
      after = refl;
    }

    sound : IsSoundLoader is
    sound = loader_is_sound next name is (named_changed_same m.loaders name loader.state is has)
        (good_with_greater space m name start total may_enlarge greater next
        (machine_is_good old loaders there.together) grows_is)

    leaves : LeavesChanged space old after loaders loader (slice_set own index greater)
    leaves = record {
      own = well.served;
      keeps = grew_keeps old (account_in space loader) start total may_enlarge (Ok (span_of greater)) after
          there.together.ledger_sound served own_chunks (record {
            index = index;
            chunk = was;
            found = found;
            starts = starts;
            after = (greater, answered, refl, refl);
          });
      no_other = owners_replaced (λ (owner : ℕ). is_among (owners_of loaders) owner ≡ true) greater old.loans
          there.together.served.no_other;
      ledger_sound = well.sound;
      sound = sound;
      chunks_sound = well.chunks;
    }

    abbrev others : List (ℕ × LoaderView)
    others = with_changed loaders name (with_chunks space loader (slice_set own index greater))

    together : AreTogether after others
    together = together_changed space old after loaders name loader (slice_set own index greater) there.found
        there.together leaves

    abbrev mid : Ledger
    mid = record old {
      loans = map (λ (loan : Loan). cond (loan.chunk.start == greater.start) (record loan { chunk = greater }) loan)
          old.loans;
    }

    machine_is : machine_of after others ≡ next
    machine_is = machine_follows mid others together
        ∙ ap machine_recommitted (machine_with old loaders name (with_chunks space loader (slice_set own index greater)))

    pub grows_chunk : IsEvent old loaders (growing space name start total may_enlarge) (lent greater) after others
    grows_chunk = record {
      happens = subst (GrowsChunk m space name start total may_enlarge greater) (sym machine_is) grows_is;
      together = together;
    }

  -- It doesn't.
  cause : (chunk : Chunk) (refusal : Refusal) (new : Ledger)
      → GrewFrom old (account_in space loader) chunk total may_enlarge (Err refusal) new
      → grown (pool_of space m) chunk total may_enlarge ≡ Err refusal
  cause chunk (CommitLimit committed limit need) new none = grown_there chunk ∙ none.0
  cause chunk (NoRoom level) new none = grown_there chunk ∙ none.0
  cause chunk _ new none = absurd none

  pub grows_none : (refusal : Refusal) (new : Ledger)
      → Grew old (account_in space loader) start total may_enlarge (Err refusal) new
      → IsEvent old loaders (growing space name start total may_enlarge) (refused refusal) new loaders
  grows_none refusal new grew =
      let raises = grow_refused_raises old (account_in space loader) grew.chunk total may_enlarge refusal new
      grew.after in
      record {
        happens = record {
          loader = loader.state;
          index = grew.index;
          was = grew.chunk;
          asked = record { has = has; found = grew.found; starts = grew.starts };
          cause = cause grew.chunk refusal new grew.after;
          after = ap (λ (l : Ledger). machine_of l loaders) raises.is;
        };
        together = together_tallied old new loaders raises.tallies raises.is there.together;
      }

-- The chunks that the call leaves to the account: its clauses find the chunk by the same start.
pub grows : (space : Space) (old new : Ledger) (loaders : List (ℕ × LoaderView)) (name : ℕ) (loader : LoaderView)
    (start total : ℕ) (may_enlarge : Bool) (result : Result Span Refusal) (account : AccountState)
    → IsGrowCall space old loaders name loader start total may_enlarge result account new
    → IsAnswered space old loaders name loader (growing space name start total may_enlarge) result account new
grows space old new loaders name loader start total may_enlarge (Ok span) account its = record {
  answer = lent its.grew.after.0;
  answers = its.grew.after.2;
  is = subst (λ (l : Ledger). IsEvent old loaders (growing space name start total may_enlarge)
      (lent its.grew.after.0) l (with_changed loaders name (with_chunks space loader account.chunks)))
      (sym its.grew.after.3)
      (subst (λ (a : AccountState). IsEvent old loaders (growing space name start total may_enlarge)
      (lent its.grew.after.0) (with_grown old its.grew.after.0)
      (with_changed loaders name (with_chunks space loader a.chunks))) (sym same)
      (grows_chunk space old loaders name loader start total may_enlarge its.there its.grown.index its.grown.chunk
      its.grew.after.0 its.grown.found its.grown.starts answered));
}
  where
    one : its.grown.chunk ≡ its.grew.chunk
    one = same_from_start (arena_of space loader.state).chunks its.grown.index its.grew.index its.grown.chunk
        its.grew.chunk ((own_sound old loaders name loader its.there.found its.there.together).chunks space).apart
        its.grown.found its.grew.found (its.grown.starts ∙ sym its.grew.starts)

    answered : grown (state_in space old) its.grown.chunk total may_enlarge ≡ Ok its.grew.after.0
    answered = ap (λ (c : Chunk). grown (state_in space old) c total may_enlarge) one ∙ its.grew.after.1

    same : account ≡ record (account_in space loader) {
      chunks = slice_set (arena_of space loader.state).chunks its.grown.index its.grew.after.0;
    }
    same = its.grown.after
        ∙ ap (λ (c : Chunk).
        record (account_in space loader) { chunks = slice_set (arena_of space loader.state).chunks its.grown.index c })
        (sym (well space old loaders name loader start total may_enlarge its.there its.grown.index its.grown.chunk
        its.grew.after.0 its.grown.found its.grown.starts answered).reaches)
grows space old new loaders name loader start total may_enlarge (Err refusal) account its = record {
  answer = refused refusal;
  answers = refl;
  is = subst (IsEvent old loaders (growing space name start total may_enlarge) (refused refusal) new)
      (sym (ap (λ (a : AccountState). with_changed loaders name (with_chunks space loader a.chunks)) its.unchanged
      ∙ same_with space loaders name loader its.there.found))
      (grows_none space old loaders name loader start total may_enlarge its.there refusal new its.grew);
}
