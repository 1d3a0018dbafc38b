-- A chunk that is taken for a loader's account as an event, or refused.
use Rattle.std.proofs.Common.{◌≡◌, ◌≤◌, ◌++◌, ◌∷◌, [], ℕ, Some, Result, Ok, Err, List, refl, sym, ap, ◌∙◌, subst, inl, inr}
use Rattle.std.proofs.Common.{true, ◌-◌, arith}
use Rattle.std.specs.Prelude.{is_ok}
use Rattle.std.proofs.lemmas.Nat.{pow_pos}
use Rattle.ms_base.specs.declared.kind.Space.{Space}
use Rattle.ms_base.specs.declared.kind.Space.TheVariants.{NonClass, Class}
use Rattle.ms_base.specs.declared.span.Chunk.{Chunk}
use Rattle.ms_base.specs.declared.span.Span.{Span}
use Rattle.ms_base.specs.declared.refusal.Refusal.{Refusal}
use Rattle.ms_base.specs.declared.refusal.Refusal.TheVariants.{CommitLimit, ReserveLimit, OutOfMemory}
use Rattle.ms_base.specs.Spaces.{by_space, is_in}
use Rattle.ms_base.specs.Names.{named, with_changed}
use Rattle.ms_base.specs.State.{LoaderState, Machine, arena_of, with_arena, chunks_held, slots_in, with_slots, pool_of}
use Rattle.ms_base.specs.State.{recommitted as machine_recommitted}
use Rattle.ms_base.specs.Good.{IsSoundLoader}
use Rattle.ms_base.specs.PoolSteps.{taken, slots_with}
use Rattle.ms_base.specs.Place.{with_chunk}
use Rattle.ms_base.specs.Transition.{with_loader}
use Rattle.ms_base.specs.Run.Event.{taking, lent, refused, IsAskable, Takes, LendsNone}
use Rattle.ms_base.proofs.free.AlikeLemmas.{permuted_are_alike}
use Rattle.ms_base.proofs.free.OrderLemmas.{taken_alike}
use Rattle.ms_base.proofs.entries.LookupLemmas.{named_changed_same}
use Rattle.ms_base.proofs.machine.GoodLemmas.{loader_is_sound}
use Rattle.ms_base.proofs.events.KeptEventLemmas.{good_with_taken}
use Rattle.ms_base.specs.Level.{highest_level}
use Rattle.ms_pool.specs.Account.{AccountState}
use Rattle.ms_pool.specs.Lending.{MayTake, chunk_at, span_of}
use Rattle.ms_pool.specs.Ledger.{Loan, Ledger, held_in, state_in, with_lent, with_loan}
use Rattle.ms_pool.specs.Calls.{TakeRefused}
use Rattle.ms_pool.proofs.ledger.LedgerSlotLemmas.{slot_of_space}
use Rattle.ms_pool.proofs.ledger.LoanOrderLemmas.{all_with}
use Rattle.ms_pool.proofs.ledger.TakenLemmas.{IsLendable, taken_is_lendable}
use Rattle.ms_pool.proofs.ledger.TakeLemmas.{TakenWell, taken_well}
use Rattle.ms_pool.proofs.ledger.TookLemmas.{take_refused_raises, took_keeps}
use Rattle.ms_loader.specs.Loader.{LoaderView, account_in}
use Rattle.ms_loaders.specs.System.{states_of, owners_of, machine_of, AreTogether}
use Rattle.ms_loaders.specs.CallEvents.{IsEvent, IsThere, IsTakeCall, IsAnswered, with_chunks}
use Rattle.ms_loader.proofs.calls.LoaderSpaceLemmas.{chunk_in_space}
use Rattle.ms_loaders.proofs.sums.FitLemmas.{HasOwner, fits, machine_is_good}
use Rattle.ms_loaders.proofs.steps.AddableLemmas.{taking_is_addable}
use Rattle.ms_loaders.proofs.steps.ServedLemmas.{own_is_among}
use Rattle.ms_loaders.proofs.steps.StillTogetherLemmas.{own_sound, own_served}
use Rattle.ms_loaders.proofs.steps.StepLemmas.{has_loader, machine_with}
use Rattle.ms_loaders.proofs.events.TalliedLemmas.{together_tallied}
use Rattle.ms_loaders.proofs.events.ChangedLemmas.{LeavesChanged, same_with, together_changed, machine_follows}

-- The machine's searches answer as the pool's.
pub taken_there : (space : Space) (old : Ledger) (loaders : List (ℕ × LoaderView)) → AreTogether old loaders
    → (p m words : ℕ)
    → taken (pool_of space (machine_of old loaders)) p m words ≡ taken (state_in space old) p m words
taken_there space old loaders its p m words =
    taken_alike (state_in space old) (chunks_held space (states_of loaders))
    (permuted_are_alike (held_in space old) (chunks_held space (states_of loaders))
    (fits old loaders its.loaders_sound its.served space)) p m words

module _ (space : Space) (old : Ledger) (loaders : List (ℕ × LoaderView)) (name : ℕ) (loader : LoaderView)
    (wanted most words : ℕ) (there : IsThere old loaders name loader) (may : MayTake wanted most words)
    (real : most ≤ highest_level) where
  abbrev m : Machine
  m = machine_of old loaders

  askable : IsAskable wanted most words
  askable = record { order = may.levels; least = real; some = may.some; fits = may.fits }

  has : named m.loaders name ≡ Some loader.state
  has = has_loader old loaders name loader there.found

  -- A chunk is lent.
  module _ (chunk : Chunk) (picked : taken (state_in space old) wanted most words ≡ Ok chunk) where
    abbrev after : Ledger
    after = with_lent old space (account_in space loader).owner chunk

    abbrev is : LoaderState
    is = with_arena space loader.state (with_chunk (arena_of space loader.state) chunk)

    abbrev longer : List Chunk
    longer = (arena_of space loader.state).chunks ++ chunk ∷ []

    well : TakenWell old (account_in space loader) wanted most words chunk
    well = taken_well old (account_in space loader) wanted most words chunk there.together.ledger_sound
        (own_served space old loaders name loader there.found there.together.served)
        ((own_sound old loaders name loader there.found there.together).chunks space) may.levels real may.some may.fits
        picked

    lendable : IsLendable (state_in space old) chunk
    lendable = taken_is_lendable (state_in space old) wanted most words chunk
        (there.together.ledger_sound.spaces space) may.levels real may.some may.fits picked

    here : is_in space chunk.start ≡ true
    here = chunk_in_space space chunk chunk.start lendable.placed
        (slot_of_space space old _ there.together.ledger_sound lendable.slot) (omega arith)
        (omega (arith, pow_pos (19 - chunk.level)))

    abbrev next : Machine
    next = machine_recommitted (with_slots space (with_loader m name is) (slots_with (slots_in space m) chunk.start))

    taking_is : Takes m space name wanted most words chunk next
    taking_is = record {
      loader = loader.state;
      has = has;
      askable = askable;
      answer = taken_there space old loaders there.together wanted most words ∙ picked;
      inside = here;
      after = refl;
    }

    sound : IsSoundLoader is
    sound = loader_is_sound next name is (named_changed_same m.loaders name loader.state is has)
        (good_with_taken taking_is_addable space m name wanted most words chunk next
        (machine_is_good old loaders there.together) taking_is)

    leaves : LeavesChanged space old after loaders loader longer
    leaves = record {
      own = well.served;
      keeps = took_keeps old (account_in space loader) wanted most words (Ok (span_of chunk)) after
          (record { chunk = chunk; picked = picked; answer = refl; after = refl });
      no_other = all_with (λ (loan : Loan). HasOwner (owners_of loaders) loan)
          (record { owner = (account_in space loader).owner; chunk = chunk }) old.loans
          (own_is_among space loaders name loader there.found) there.together.served.no_other;
      ledger_sound = well.sound;
      sound = sound;
      chunks_sound = well.chunks;
    }

    abbrev others : List (ℕ × LoaderView)
    others = with_changed loaders name (with_chunks space loader longer)

    together : AreTogether after others
    together = together_changed space old after loaders name loader longer there.found there.together leaves

    abbrev mid : Space → Ledger
    mid one = record old {
      loans = with_loan (record { owner = (account_in space loader).owner; chunk = chunk }) old.loans;
      slots = by_space one (slots_with old.slots chunk.start) old.slots;
    }

    slots_are : (one : Space)
        → machine_of (mid one) others ≡ with_slots one (with_loader m name is) (slots_with (slots_in one m) chunk.start)
    slots_are NonClass =
        ap (λ (o : Machine). record o { slots = slots_with old.slots chunk.start })
        (machine_with old loaders name (with_chunks space loader longer))
    slots_are Class = machine_with old loaders name (with_chunks space loader longer)

    machine_is : machine_of after others ≡ next
    machine_is = machine_follows (mid space) others together ∙ ap machine_recommitted (slots_are space)

    pub lends : IsEvent old loaders (taking space name wanted most words) (lent chunk) after others
    lends = record {
      happens = subst (Takes m space name wanted most words chunk) (sym machine_is) taking_is;
      together = together;
    }

  -- None is.
  cause : (refusal : Refusal) (new : Ledger) → TakeRefused old (account_in space loader) wanted most words refusal new
      → LendsNone (pool_of space m) wanted most words refusal
  cause (CommitLimit committed limit need) new none =
      inl (taken_there space old loaders there.together wanted most words ∙ none.0)
  cause (ReserveLimit nodes limit) new none =
      inl (taken_there space old loaders there.together wanted most words ∙ none.0)
  cause OutOfMemory new none =
      inr (ap is_ok (taken_there space old loaders there.together wanted most words ∙ none.0.1), refl)
  cause _ new none = absurd none

  pub lends_none : (refusal : Refusal) (new : Ledger)
      → TakeRefused old (account_in space loader) wanted most words refusal new
      → IsEvent old loaders (taking space name wanted most words) (refused refusal) new loaders
  lends_none refusal new none =
      let raises = take_refused_raises old (account_in space loader) wanted most words refusal new none in
      record {
        happens = record {
          loader = loader.state;
          has = has;
          askable = askable;
          cause = cause refusal new none;
          after = ap (λ (l : Ledger). machine_of l loaders) raises.is;
        };
        together = together_tallied old new loaders raises.tallies raises.is there.together;
      }

-- The chunks that the call leaves to the account.
pub takes : (space : Space) (old new : Ledger) (loaders : List (ℕ × LoaderView)) (name : ℕ) (loader : LoaderView)
    (wanted most words : ℕ) (result : Result Span Refusal) (account : AccountState)
    → IsTakeCall space old loaders name loader wanted most words result account new
    → IsAnswered space old loaders name loader (taking space name wanted most words) result account new
takes space old new loaders name loader wanted most words (Ok span) account its = record {
  answer = lent its.took.chunk;
  answers = its.took.answer;
  is = subst (λ (l : Ledger). IsEvent old loaders (taking space name wanted most words) (lent its.took.chunk) l
      (with_changed loaders name (with_chunks space loader account.chunks))) (sym its.took.after)
      (subst (λ (a : AccountState). IsEvent old loaders (taking space name wanted most words)
      (lent its.took.chunk) (with_lent old space (account_in space loader).owner its.took.chunk)
      (with_changed loaders name (with_chunks space loader a.chunks))) (sym same)
      (lends space old loaders name loader wanted most words its.there its.asks its.least its.took.chunk
      its.took.picked));
}
  where
    same : account
        ≡ record (account_in space loader) { chunks = (arena_of space loader.state).chunks ++ its.took.chunk ∷ [] }
    same = its.added.after
        ∙ ap (λ (one : Span). record (account_in space loader) {
          chunks = (arena_of space loader.state).chunks ++ chunk_at old.limits.policy one words ∷ [];
        }) its.took.answer
        ∙ sym (well space old loaders name loader wanted most words its.there its.asks its.least its.took.chunk
        its.took.picked).adds.after
takes space old new loaders name loader wanted most words (Err refusal) account its = record {
  answer = refused refusal;
  answers = refl;
  is = subst (IsEvent old loaders (taking space name wanted most words) (refused refusal) new)
      (sym (ap (λ (a : AccountState). with_changed loaders name (with_chunks space loader a.chunks)) its.unchanged
      ∙ same_with space loaders name loader its.there.found))
      (lends_none space old loaders name loader wanted most words its.there its.asks its.least refusal new its.took);
}
