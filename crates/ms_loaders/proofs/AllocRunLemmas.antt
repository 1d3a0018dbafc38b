-- What an allocation asked of the pool, as granules that came: none, those of a chunk that grew, or
-- of one that is new. `System::allocate_with_run` uses these.
use Rattle.std.proofs.Common.{◌≡◌, ℕ, ◌||◌, Bool, true, false, Some, Ok}
use Rattle.std.proofs.Common.{List, [], ◌∷◌, refl, sym, ap, ◌∙◌}
use Rattle.std.specs.Prelude.{slice_get}
use Rattle.std.specs.List.{Contains, flat_map, filter}
use Rattle.ms_base.specs.declared.kind.Space.{Space}
use Rattle.ms_base.specs.declared.kind.Space.TheVariants.{NonClass, Class}
use Rattle.ms_base.specs.declared.span.Chunk.{Chunk}
use Rattle.ms_base.specs.Committed.{committed_with, granules_of}
use Rattle.ms_base.specs.Part.{slot_of}
use Rattle.ms_base.specs.PoolSteps.{grown, slots_with}
use Rattle.ms_base.specs.Spaces.{by_space, is_in, other_space}
use Rattle.ms_base.specs.State.{committed_now}
use Rattle.ms_base.specs.PoolSteps.Pick.{granule_in, has_committed}
use Rattle.ms_base.proofs.arena.BlockLemmas.{not_in_other}
use Rattle.ms_base.proofs.granules.GranuleCountLemmas.{committed_in_slots, meets_front}
use Rattle.ms_base.proofs.granules.SlotGranuleLemmas.{committed_with_slot}
use Rattle.ms_base.proofs.granules.GranuleGrowingLemmas.{meets_further}
use Rattle.ms_pool.specs.Account.{AccountState, AreChunks}
use Rattle.ms_pool.specs.Ledger.{Ledger, Loan, IsSoundLedger, Serves, state_in, held_in, committed_of, with_lent, with_grown}
use Rattle.ms_pool.specs.Ledger.{recommitted, with_loan}
use Rattle.ms_pool.proofs.ledger.LoanLemmas.{chunks_in, chunks_in-append, chunks_in-here, chunks_in-with_elsewhere}
use Rattle.ms_pool.proofs.ledger.LoanLemmas.{Comes, comes}
use Rattle.ms_pool.proofs.ledger.LoanAtLemmas.{contains_at}
use Rattle.ms_pool.proofs.ledger.GreaterLemmas.{IsGreater, grown_is_greater}
use Rattle.ms_pool.proofs.ledger.GrowLemmas.{GrownThere, grown_there, own_is_held}
use Rattle.ms_pool.proofs.ledger.GrownAccountLemmas.{GrownWell, grown_well}
use Rattle.ms_loaders.proofs.CommitLemmas.{Commits}

-- The granules of a pool that follow its chunks and slots.
now_is : (space : Space) (mid : Ledger) → committed_of space (recommitted mid) ≡ committed_now (state_in space mid)
now_is NonClass mid = refl
now_is Class mid = refl

-- A pool in which a chunk of a space came or grew: what is committed of it now, and of the other
-- space.
abbrev pub CommitsIn : Space → Ledger → Ledger → List Chunk → Chunk → Type 0
CommitsIn space old new mid is =
    Commits (state_in space old) (held_in space new) (state_in space new).slots (committed_of space new)
    (state_in space new).elsewhere mid is

stays_elsewhere : (there : Space) (old mid : Ledger) → IsSoundLedger old → committed_of there mid ≡ committed_of there old
    → held_in there mid ≡ held_in there old → (state_in there mid).slots ≡ (state_in there old).slots
    → mid.limits ≡ old.limits → committed_of there (recommitted mid) ≡ committed_of there old
stays_elsewhere there old mid sound committed held slots limits =
    now_is there mid
    ∙ ap (λ l. committed_with l.policy (committed_of there mid) (held_in there mid) (state_in there mid).slots) limits
    ∙ ap (λ l. committed_with old.limits.policy l (held_in there mid) (state_in there mid).slots) committed
    ∙ ap (λ l. committed_with old.limits.policy (committed_of there old) l (state_in there mid).slots) held
    ∙ ap (λ l. committed_with old.limits.policy (committed_of there old) (held_in there old) l) slots
    ∙ sym (sound.spaces there).committed

only_one : (a : Bool) → (a || false) ≡ true → a ≡ true
only_one true e = e
only_one false e = e

module _ (space : Space) (old : Ledger) (owner : ℕ) (sound : IsSoundLedger old) where
  -- The last chunk of an account has grown.
  pub grown_commits : (chunks : List Chunk) (index : ℕ) (was is : Chunk) (total : ℕ) (may : Bool)
      → slice_get chunks index ≡ Some was → grown (state_in space old) was total may ≡ Ok is
      → Serves old (record { owner = owner; space = space; chunks = chunks }) → AreChunks space chunks
      → CommitsIn space old (with_grown old is) (was ∷ []) is × (is.start ≡ was.start)
      × (committed_of (other_space space) (with_grown old is) ≡ committed_of (other_space space) old)
  grown_commits chunks index was is total may found grows served its = (
    record {
      before = there.before;
      after = there.after;
      was_held = there.held;
      is_held = there.grown;
      sound = sound.spaces space;
      sound_after = well.sound.spaces space;
      now = now_is space (record old { loans = _ });
      as_before = committed_in_slots (state_in space old) (sound.spaces space);
      reaches = λ k any. meets_further (granule_in (state_in space old)) was is k well.start greater.higher
          (only_one (meets_front (granule_in (state_in space old)) was k) any);
    },
    well.start,
    stays_elsewhere (other_space space) old (record old { loans = _ }) sound refl there.elsewhere refl refl,
  )
    where
      account : AccountState
      account = record { owner = owner; space = space; chunks = chunks }

      has : Contains chunks was
      has = contains_at chunks index was found

      well : GrownWell old account index was is total may
      well = grown_well old account index was is total may sound served its found grows

      there : GrownThere old account was is
      there = grown_there old account was is sound served its has well.start

      greater : IsGreater (state_in space old) was is
      greater = grown_is_greater (state_in space old) was is total may (sound.spaces space)
          (own_is_held old account was served its has) grows

-- A chunk is new: the slots follow, and have what was committed.
abbrev mid_with : Space → Ledger → ℕ → Chunk → Ledger
mid_with space old owner chunk =
    record old {
      loans = with_loan (record { owner = owner; chunk = chunk }) old.loans;
      slots = by_space space (slots_with old.slots chunk.start) old.slots;
    }

slots_have : (space : Space) (old : Ledger) (owner : ℕ) (chunk : Chunk) → IsSoundLedger old
    → filter (has_committed (state_in space old))
    (flat_map (granules_of (granule_in (state_in space old))) (state_in space (mid_with space old owner chunk)).slots)
    ≡ committed_of space old
slots_have NonClass old owner chunk sound =
    committed_with_slot (state_in NonClass old) (slot_of chunk.start) (sound.spaces NonClass)
slots_have Class old owner chunk sound = committed_in_slots (state_in Class old) (sound.spaces Class)

slots_elsewhere : (space : Space) (old : Ledger) (owner : ℕ) (chunk : Chunk)
    → (state_in (other_space space) (mid_with space old owner chunk)).slots ≡ (state_in (other_space space) old).slots
slots_elsewhere NonClass old owner chunk = refl
slots_elsewhere Class old owner chunk = refl

pub lent_commits : (space : Space) (old : Ledger) (owner : ℕ) (chunk : Chunk) → IsSoundLedger old
    → IsSoundLedger (with_lent old space owner chunk) → is_in space chunk.start ≡ true
    → CommitsIn space old (with_lent old space owner chunk) [] chunk
    × (committed_of (other_space space) (with_lent old space owner chunk) ≡ committed_of (other_space space) old)
lent_commits space old owner chunk sound sound_after here = (
  record {
    before = chunks_in space its.before;
    after = chunks_in space its.after;
    was_held = ap (chunks_in space) its.old ∙ chunks_in-append space its.before its.after;
    is_held = ap (chunks_in space) its.new ∙ chunks_in-here space its.before loan its.after here;
    sound = sound.spaces space;
    sound_after = sound_after.spaces space;
    now = now_is space (mid_with space old owner chunk);
    as_before = slots_have space old owner chunk sound;
    reaches = λ k any. absurd (cc);
  },
  stays_elsewhere (other_space space) old (mid_with space old owner chunk) sound refl
      (chunks_in-with_elsewhere (other_space space) loan old.loans (not_in_other space chunk.start here))
      (slots_elsewhere space old owner chunk) refl,
)
  where
    loan : Loan
    loan = record { owner = owner; chunk = chunk }

    its : Comes loan old.loans (with_loan loan old.loans)
    its = comes loan old.loans
