-- A ledger stays sound where a chunk is lent that its space may lend.
use Rattle.std.proofs.Common.{◌≡◌, ◌≤◌, ◌+◌, ℕ, Bool, true, false, ◌||◌, List, ◌∷◌, ◌++◌, length, refl, sym, ap, ◌∙◌}
use Rattle.std.proofs.Common.{arith}
use Rattle.std.specs.List.{list_any}
use Rattle.ms_base.specs.declared.kind.Space.{Space}
use Rattle.ms_base.specs.declared.span.Chunk.{Chunk}
use Rattle.ms_base.specs.Part.{slot_of}
use Rattle.ms_base.specs.Spaces.{other_space, is_in}
use Rattle.ms_base.specs.Committed.{is_committed, committed_with}
use Rattle.ms_base.specs.State.{PoolState}
use Rattle.ms_base.specs.PoolSteps.Pick.{granule_in}
use Rattle.ms_base.specs.PoolSteps.Causes.{granules_missing}
use Rattle.ms_base.specs.PoolSteps.{slots_with}
use Rattle.ms_base.proofs.runs.ApartLemmas.{list_any-with}
use Rattle.ms_base.proofs.granules.GranuleCountLemmas.{meets_front, count_with_front}
use Rattle.ms_base.proofs.machine.HeldLemmas.{held_in, held_with}
use Rattle.ms_base.proofs.arena.BlockLemmas.{not_in_other}
use Rattle.ms_pool.specs.Account.{AccountState}
use Rattle.ms_pool.specs.Ledger.{Loan, Ledger, IsSoundLedger, Serves, state_in, with_lent, with_loan}
use Rattle.ms_pool.proofs.ledger.LoanLemmas.{Comes, comes, chunks_in, chunks_in-append, chunks_in-here}
use Rattle.ms_pool.proofs.ledger.LoanLemmas.{chunks_in-with_elsewhere}
use Rattle.ms_pool.proofs.ledger.SoundLemmas.{changed, sound_with_change}
use Rattle.ms_pool.proofs.ledger.TakenLemmas.{IsLendable}
use Rattle.ms_pool.proofs.ledger.LedgerSlotLemmas.{AreWithSlot, slot_of_space, starts_in, with_slot}
use Rattle.ms_pool.proofs.ledger.LoanOrderLemmas.{starts_elsewhere, order_with, all_with}

pub lent_is_sound : (old : Ledger) (account : AccountState) (chunk : Chunk) → IsSoundLedger old → Serves old account
    → IsLendable (state_in account.space old) chunk → IsSoundLedger (with_lent old account.space account.owner chunk)
lent_is_sound old account chunk sound served lendable =
    sound_with_change space old loans (slots_with old.slots chunk.start) sound
    (chunks_in-with_elsewhere (other_space space) loan old.loans (not_in_other space chunk.start here))
    (record {
      order = order_with loan old.loans (starts_elsewhere space chunk.start chunk.level old.loans here lendable.clear)
          sound.order;
      owners = all_with (λ (one : Loan). (1 ≤ one.owner) × (one.owner ≤ old.given)) loan old.loans
          (served.some, served.given) sound.owners;
      given = sound.given;
      opened = sound.opened;
    })
    (record {
      held = rw new
          (held_with old.limits.policy slots b chunk a lendable.placed lendable.front with_its.has
          (rw was at lendable.clear)
          (held_in old.limits.policy pool.slots slots (b ++ a)
          (with_its.still (b ++ a) (rw was at (sound.spaces space).held.reserved))
          (rw was at (sound.spaces space).held)));
      slots = with_its.rising;
      below = with_its.below;
      reserved = with_its.reserved;
    })
    (omega (arith, count, lendable.within))
  where
    space : Space
    space = account.space

    pool : PoolState
    pool = state_in space old

    loan : Loan
    loan = record { owner = account.owner; chunk = chunk }

    loans : List Loan
    loans = with_loan loan old.loans

    here : is_in space chunk.start ≡ true
    here = starts_in space chunk.start (slot_of_space space old (slot_of chunk.start) sound lendable.slot)

    slots : List ℕ
    slots = (state_in space (changed space old loans (slots_with old.slots chunk.start))).slots

    with_its : AreWithSlot space old slots (slot_of chunk.start)
    with_its = with_slot space old loans chunk.start sound lendable.slot

    its : Comes loan old.loans loans
    its = comes loan old.loans

    b : List Chunk
    b = chunks_in space its.before

    a : List Chunk
    a = chunks_in space its.after

    was : chunks_in space old.loans ≡ b ++ a
    was = ap (chunks_in space) its.old ∙ chunks_in-append space its.before its.after

    new : chunks_in space loans ≡ b ++ chunk ∷ a
    new = ap (chunks_in space) its.new ∙ chunks_in-here space its.before loan its.after here

    turned : (s t : Bool) → (s || t) ≡ (t || s)
    turned true true = refl
    turned true false = refl
    turned false true = refl
    turned false false = refl

    adds : (k : ℕ)
        → is_committed (granule_in pool) (chunks_in space loans) k
        ≡ (is_committed (granule_in pool) (chunks_in space old.loans) k || meets_front (granule_in pool) chunk k)
    adds k = let test : Chunk → Bool = λ c. meets_front (granule_in pool) c k in
        ap (list_any test) new ∙ list_any-with test b chunk a ∙ turned (test chunk) (list_any test (b ++ a))
        ∙ ap (λ (l : List Chunk). list_any test l || test chunk) (sym was)

    count : length (committed_with old.limits.policy pool.committed (chunks_in space loans) slots)
        ≡ length pool.committed + granules_missing pool chunk
    count = count_with_front pool (chunks_in space loans) slots chunk (sound.spaces space) lendable.placed
        lendable.front.some lendable.front.within
        with_its.rising with_its.has with_its.committed adds
