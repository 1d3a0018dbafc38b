-- Growing a chunk: the ledger stays sound, the account is served with the greater chunk, and all
-- others still.
use Rattle.std.proofs.Common.{◌≡◌, ◌≤◌, ◌+◌, ℕ, Bool, true, false, ◌||◌, List, [], ◌∷◌, ◌++◌, length, map}
use Rattle.std.proofs.Common.{refl, sym, ap, ◌∙◌, subst, arith}
use Rattle.std.specs.List.{Contains, list_any, list_all}
use Rattle.std.specs.List.Sorted.{IsStrictlyIncreasing}
use Rattle.std.proofs.lemmas.Bool.{and_parts}
use Rattle.std.proofs.lemmas.List.Elements.{All-contains, Contains-append_right}
use Rattle.std.proofs.lemmas.List.Folds.{list_all-append}
use Rattle.std.proofs.lemmas.List.Sorted.{Contains-permutation, IsPermutation-sym}
use Rattle.ms_base.specs.declared.kind.Space.{Space}
use Rattle.ms_base.specs.declared.span.Chunk.{Chunk}
use Rattle.ms_base.specs.Level.{highest_level}
use Rattle.ms_base.specs.Part.{IsPart, slot_of, is_reserved}
use Rattle.ms_base.specs.Spaces.{IsSlotOf, is_in, other_space}
use Rattle.ms_base.specs.Held.{AreHeld}
use Rattle.ms_base.specs.Committed.{is_committed, committed_with}
use Rattle.ms_base.specs.State.{PoolState}
use Rattle.ms_base.specs.PoolSteps.Pick.{granule_in}
use Rattle.ms_base.specs.PoolSteps.Causes.{granules_missing}
use Rattle.ms_base.proofs.granules.GranuleCountLemmas.{meets_front, count_with_front, committed_in_slots}
use Rattle.ms_base.proofs.machine.HeldLemmas.{held_rest, held_with}
use Rattle.ms_base.proofs.runs.ApartLemmas.{list_any-with}
use Rattle.ms_base.proofs.arena.BlockLemmas.{not_in_other}
use Rattle.ms_pool.specs.Account.{AccountState, AreChunks}
use Rattle.ms_pool.specs.Ledger.{Loan, Ledger, IsSoundLedger, Serves, chunks_of, state_in, with_grown}
use Rattle.ms_pool.proofs.ledger.LoanLemmas.{chunks_in, chunks_in-here, chunks_in-there}
use Rattle.ms_pool.proofs.ledger.SoundLemmas.{sound_with_loans}
use Rattle.ms_pool.proofs.ledger.LedgerSlotLemmas.{starts_in}
use Rattle.ms_pool.proofs.ledger.LoanOrderLemmas.{start_of}
use Rattle.ms_pool.proofs.ledger.GreaterLemmas.{IsGreater}
use Rattle.ms_pool.proofs.ledger.GreaterLemmas.{grown_meets_none}
use Rattle.ms_pool.proofs.ledger.LoanAtLemmas.{IsLoan, loan_of, replaced, replaced_at}
use Rattle.ms_pool.proofs.ledger.LoanAtLemmas.{order_replaced, owners_replaced}
use Rattle.ms_base.proofs.granules.GranuleGrowingLemmas.{meets_further}

-- The chunk of a loan in a space, and what holds of it.
middle : (b : List Chunk) (chunk : Chunk) (a : List Chunk) → Contains (b ++ chunk ∷ a) chunk
middle b chunk a = Contains-append_right b (chunk ∷ a) chunk (0, omega arith, refl)

turned : (old new rest : Bool) → (old ≡ true → new ≡ true) → (new || rest) ≡ ((old || rest) || new)
turned true new rest f = let e = f refl in rw e refl
turned false true true f = refl
turned false true false f = refl
turned false false true f = refl
turned false false false f = refl

-- The loans of the ledger, with the chunk that is grown among them.
pub record GrowsAt (old : Ledger) (space : Space) (owner : ℕ) (was : Chunk) : Type 0 where
  pub loan : IsLoan owner was old.loans
  pub here : is_in space was.start ≡ true
  pub there : is_in (other_space space) was.start ≡ false

pub grown_at : (old : Ledger) (account : AccountState) (was : Chunk) → Serves old account
    → AreChunks account.space account.chunks
    → Contains account.chunks was
    → GrowsAt old account.space account.owner was
grown_at old account was served chunks has = record {
  loan = loan_of account.owner was old.loans (Contains-permutation account.chunks (chunks_of old account.owner) was
      (IsPermutation-sym (chunks_of old account.owner) account.chunks served.chunks) has);
  here = here;
  there = not_in_other account.space was.start here;
}
  where
    here : is_in account.space was.start ≡ true
    here = starts_in account.space was.start
        (All-contains (λ (one : Chunk). IsSlotOf account.space (slot_of one.start)) account.chunks was chunks.inside
        has)

-- So the chunk is held in its space.
pub own_is_held : (old : Ledger) (account : AccountState) (was : Chunk) → Serves old account
    → AreChunks account.space account.chunks
    → Contains account.chunks was
    → Contains (chunks_in account.space old.loans) was
own_is_held old account was served chunks has = let at = grown_at old account was served chunks has in
    subst (λ (l : List Chunk). Contains l was)
    (sym (ap (chunks_in account.space) at.loan.is
    ∙ chunks_in-here account.space at.loan.before (record { owner = account.owner; chunk = was }) at.loan.after
    at.here))
    (middle (chunks_in account.space at.loan.before) was (chunks_in account.space at.loan.after))

-- The loans then, and those of the other space as before.
pub new_at : (old : Ledger) (space : Space) (owner : ℕ) (was is : Chunk) (at : GrowsAt old space owner was)
    → IsSoundLedger old
    → is.start ≡ was.start
    → replaced is old.loans ≡ at.loan.before ++ record { owner = owner; chunk = is } ∷ at.loan.after
new_at old space owner was is at sound same =
    ap (replaced is) at.loan.is ∙ replaced_at owner was is at.loan.before at.loan.after same
    (subst (λ (l : List Loan). IsStrictlyIncreasing (map start_of l)) at.loan.is sound.order)

pub grown_elsewhere : (old : Ledger) (account : AccountState) (was is : Chunk) → IsSoundLedger old → Serves old account
    → AreChunks account.space account.chunks
    → Contains account.chunks was → is.start ≡ was.start
    → chunks_in (other_space account.space) (replaced is old.loans) ≡ chunks_in (other_space account.space) old.loans
grown_elsewhere old account was is sound served chunks has same =
    let there = other_space account.space in
    let at = grown_at old account was served chunks has in
    ap (chunks_in there) (new_at old account.space account.owner was is at sound same)
    ∙ chunks_in-there there at.loan.before (record { owner = account.owner; chunk = is }) at.loan.after
    (ap (is_in there) same ∙ at.there)
    ∙ sym (ap (chunks_in there) at.loan.is
    ∙ chunks_in-there there at.loan.before (record { owner = account.owner; chunk = was }) at.loan.after at.there)

-- What is held once a chunk of an account has grown: the greater one in its place.
pub record GrownThere (old : Ledger) (account : AccountState) (was is : Chunk) : Type 0 where
  pub before : List Chunk
  pub after : List Chunk
  pub held : chunks_in account.space old.loans ≡ before ++ was ∷ after
  pub grown : chunks_in account.space (replaced is old.loans) ≡ before ++ is ∷ after
  pub elsewhere : chunks_in (other_space account.space) (replaced is old.loans)
      ≡ chunks_in (other_space account.space) old.loans

pub grown_there : (old : Ledger) (account : AccountState) (was is : Chunk) → IsSoundLedger old → Serves old account
    → AreChunks account.space account.chunks → Contains account.chunks was → is.start ≡ was.start
    → GrownThere old account was is
grown_there old account was is sound served chunks has same = record {
  before = chunks_in account.space at.loan.before;
  after = chunks_in account.space at.loan.after;
  held = ap (chunks_in account.space) at.loan.is
      ∙ chunks_in-here account.space at.loan.before (record { owner = account.owner; chunk = was }) at.loan.after
      at.here;
  grown = ap (chunks_in account.space) (new_at old account.space account.owner was is at sound same)
      ∙ chunks_in-here account.space at.loan.before (record { owner = account.owner; chunk = is }) at.loan.after
      (ap (is_in account.space) same ∙ at.here);
  elsewhere = grown_elsewhere old account was is sound served chunks has same;
}
  where
    at : GrowsAt old account.space account.owner was
    at = grown_at old account was served chunks has

pub grown_is_sound : (old : Ledger) (account : AccountState) (was is : Chunk) → IsSoundLedger old → Serves old account
    → AreChunks account.space account.chunks → Contains account.chunks was
    → IsGreater (state_in account.space old) was is
    → IsSoundLedger (with_grown old is)
grown_is_sound old account was is sound served chunks has greater =
    sound_with_loans space old loans sound (grown_elsewhere old account was is sound served chunks has greater.start)
    (record {
      order = order_replaced is old.loans sound.order;
      owners = owners_replaced (λ (owner : ℕ). (1 ≤ owner) × (owner ≤ old.given)) is old.loans sound.owners;
      given = sound.given;
      opened = sound.opened;
    })
    (rw new (held_with old.limits.policy pool.slots b is a greater.placed greater.front reserved
    (grown_meets_none b was is a low greater.start held.apart (rw old_is at greater.clear))
    (held_rest old.limits.policy pool.slots b (was ∷ []) a held)))
    (omega (arith, count, greater.within))
  where
    space : Space
    space = account.space

    pool : PoolState
    pool = state_in space old

    loans : List Loan
    loans = replaced is old.loans

    at : GrowsAt old space account.owner was
    at = grown_at old account was served chunks has

    before : List Loan
    before = at.loan.before

    after : List Loan
    after = at.loan.after

    b : List Chunk
    b = chunks_in space before

    a : List Chunk
    a = chunks_in space after

    old_is : chunks_in space old.loans ≡ b ++ was ∷ a
    old_is = ap (chunks_in space) at.loan.is
        ∙ chunks_in-here space before (record { owner = account.owner; chunk = was }) after at.here

    new : chunks_in space loans ≡ b ++ is ∷ a
    new = ap (chunks_in space) (new_at old space account.owner was is at sound greater.start)
        ∙ chunks_in-here space before (record { owner = account.owner; chunk = is }) after
        (ap (is_in space) greater.start ∙ at.here)

    held : AreHeld old.limits.policy pool.slots (b ++ was ∷ a)
    held = rw old_is at (sound.spaces space).held

    low : was.level ≤ highest_level
    low = (All-contains (λ (one : Chunk). IsPart one.start one.level) (b ++ was ∷ a) was held.parts (middle b was a)).0

    reserved : is_reserved pool.slots (slot_of is.start) ≡ true
    reserved = let test : Chunk → Bool = λ chunk. is_reserved pool.slots (slot_of chunk.start) in
        ap (λ (s : ℕ). is_reserved pool.slots (slot_of s)) greater.start
        ∙ (and_parts (test was) (list_all test a)
        (and_parts (list_all test b) (list_all test (was ∷ a))
        (sym (list_all-append test b (was ∷ a)) ∙ held.reserved)).1).0

    adds : (k : ℕ)
        → is_committed (granule_in pool) (chunks_in space loans) k
        ≡ (is_committed (granule_in pool) (chunks_in space old.loans) k || meets_front (granule_in pool) is k)
    adds k = let test : Chunk → Bool = λ c. meets_front (granule_in pool) c k in
        ap (list_any test) new ∙ list_any-with test b is a
        ∙ turned (test was) (test is) (list_any test (b ++ a))
        (meets_further (granule_in pool) was is k greater.start greater.higher)
        ∙ ap (λ (t : Bool). t || test is) (sym (ap (list_any test) old_is ∙ list_any-with test b was a))

    count : length (committed_with old.limits.policy pool.committed (chunks_in space loans) pool.slots)
        ≡ length pool.committed + granules_missing pool is
    count = count_with_front pool (chunks_in space loans) pool.slots is (sound.spaces space) greater.placed
        greater.front.some greater.front.within
        (sound.spaces space).slots reserved (committed_in_slots pool (sound.spaces space)) adds
