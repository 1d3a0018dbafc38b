-- Taking a chunk: the ledger stays sound, the account is served with it, all others still, and the
-- chunk is of a level that may serve.
use Rattle.std.proofs.Common.{◌≡◌, ◌≢◌, ◌≤◌, ℕ, List, [], ◌∷◌, ◌++◌, map, sym, ap, ◌∙◌, subst, arith}
use Rattle.std.specs.Prelude.{Ok}
use Rattle.std.specs.List.{All}
use Rattle.std.specs.List.Sorted.{IsPermutation}
use Rattle.std.proofs.lemmas.List.{append-nil, length-append, map-append}
use Rattle.std.proofs.lemmas.List.Elements.{All-push}
use Rattle.std.proofs.lemmas.List.Sorted.{IsPermutation-cons, IsPermutation-sym, IsPermutation-to_front}
use Rattle.std.proofs.lemmas.List.Sorted.{IsPermutation-trans}
use Rattle.ms_base.specs.declared.kind.Space.{Space}
use Rattle.ms_base.specs.declared.span.Chunk.{Chunk}
use Rattle.ms_base.specs.Level.{size_of, highest_level}
use Rattle.ms_base.specs.Part.{IsPart, slot_of}
use Rattle.ms_base.specs.Spaces.{IsSlotOf}
use Rattle.ms_base.specs.Held.{words_of}
use Rattle.ms_base.specs.Front.{front_for}
use Rattle.ms_base.specs.State.{PoolState}
use Rattle.ms_base.specs.PoolSteps.{taken}
use Rattle.ms_base.proofs.free.PickLemmas.{picked_serves}
use Rattle.ms_base.proofs.granules.TakingLimitLemmas.{IsTaken, taken_is}
use Rattle.ms_base.proofs.runs.ApartLemmas.{apart-with}
use Rattle.ms_pool.specs.Account.{AccountState, AreChunks}
use Rattle.ms_pool.specs.Lending.{Adds, span_of}
use Rattle.ms_pool.specs.Ledger.{Ledger, IsSoundLedger, Serves, chunks_of, state_in, with_lent}
use Rattle.ms_pool.proofs.ledger.LoanLemmas.{owned_by-with, owned_by-with_other}
use Rattle.ms_pool.proofs.ledger.TakenLemmas.{IsLendable, taken_is_lendable}
use Rattle.ms_pool.proofs.ledger.GreaterLemmas.{runs_from_clear}
use Rattle.ms_pool.proofs.ledger.LedgerSlotLemmas.{slot_of_space}
use Rattle.ms_pool.proofs.ledger.LentLemmas.{lent_is_sound}
use Rattle.ms_pool.proofs.ledger.AccountLemmas.{own_clear, own_are_few}

-- The account with a chunk more, added last.
abbrev pub with_chunk : AccountState → Chunk → AccountState
with_chunk account chunk = record account { chunks = account.chunks ++ chunk ∷ [] }

-- The ledger's record of an owner has the chunk too.
pub record_with : (old : Ledger) (account : AccountState) (chunk : Chunk) → Serves old account
    → IsPermutation (chunks_of (with_lent old account.space account.owner chunk) account.owner)
    (account.chunks ++ chunk ∷ [])
record_with old account chunk served =
    IsPermutation-trans new (chunk ∷ account.chunks) (account.chunks ++ chunk ∷ [])
    (IsPermutation-trans new (chunk ∷ chunks_of old account.owner) (chunk ∷ account.chunks)
    (IsPermutation-sym (chunk ∷ chunks_of old account.owner) new
    (owned_by-with (record { owner = account.owner; chunk = chunk }) old.loans))
    (IsPermutation-cons chunk (chunks_of old account.owner) account.chunks served.chunks))
    (IsPermutation-sym (account.chunks ++ chunk ∷ []) (chunk ∷ account.chunks)
    (IsPermutation-to_front account.chunks chunk))
  where
    new : List Chunk
    new = chunks_of (with_lent old account.space account.owner chunk) account.owner

pub lent_serves : (old : Ledger) (account : AccountState) (chunk : Chunk) → Serves old account
    → Serves (with_lent old account.space account.owner chunk) (with_chunk account chunk)
lent_serves old account chunk served =
    record { some = served.some; given = served.given; chunks = record_with old account chunk served }

-- What others have stays.
pub lent_keeps_others : (old : Ledger) (space : Space) (owner : ℕ) (chunk : Chunk) (other : ℕ) → other ≢ owner
    → chunks_of (with_lent old space owner chunk) other ≡ chunks_of old other
lent_keeps_others old space owner chunk other differs =
    owned_by-with_other other (record { owner = owner; chunk = chunk }) old.loans (λ same. differs (sym same))

pub lent_serves_others : (old : Ledger) (space : Space) (owner : ℕ) (chunk : Chunk) (other : AccountState)
    → other.owner ≢ owner
    → Serves old other
    → Serves (with_lent old space owner chunk) other
lent_serves_others old space owner chunk other differs served = record {
  some = served.some;
  given = served.given;
  chunks = subst (λ (l : List Chunk). IsPermutation l other.chunks)
      (sym (lent_keeps_others old space owner chunk other.owner differs)) served.chunks;
}

-- The account's chunks with another that meets none of them.
pub lent_are_chunks : (old : Ledger) (account : AccountState) (chunk : Chunk) → IsSoundLedger old → Serves old account
    → AreChunks account.space account.chunks → IsLendable (state_in account.space old) chunk
    → AreChunks account.space (account.chunks ++ chunk ∷ [])
lent_are_chunks old account chunk sound served chunks lendable = record {
  parts = All-push (λ (one : Chunk). IsPart one.start one.level) account.chunks chunk chunks.parts lendable.placed;
  inside = inside;
  fronts = All-push (λ (one : Chunk). (1 ≤ one.front) × (one.front ≤ size_of one.level)) account.chunks chunk
      chunks.fronts (lendable.front.some, lendable.front.within);
  apart = rw (map-append words_of account.chunks (chunk ∷ []))
      (apart-with (map words_of account.chunks) (words_of chunk) []
      (rw (append-nil (map words_of account.chunks))
      (runs_from_clear chunk account.chunks
      (own_clear old account chunk.start chunk.level served chunks lendable.clear)))
      (rw (append-nil (map words_of account.chunks)) chunks.apart));
  few = omega (arith, own_are_few old account sound served chunks, length-append account.chunks (chunk ∷ []));
}
  where
    slot : IsSlotOf account.space (slot_of chunk.start)
    slot = slot_of_space account.space old (slot_of chunk.start) sound lendable.slot

    inside : All (λ (one : Chunk). IsSlotOf account.space (slot_of one.start)) (account.chunks ++ chunk ∷ [])
    inside = All-push (λ (one : Chunk). IsSlotOf account.space (slot_of one.start)) account.chunks chunk chunks.inside
        slot

-- What the chunk is to the account.
pub taken_adds : (old : Ledger) (account : AccountState) (wanted most words : ℕ) (chunk : Chunk) → wanted ≤ most
    → taken (state_in account.space old) wanted most words ≡ Ok chunk
    → Adds old.limits.policy wanted most words account (span_of chunk) (with_chunk account chunk)
taken_adds old account wanted most words chunk serves is = record {
  at_least = subst (λ (one : Chunk). wanted ≤ one.level) (sym its.is) (picked_serves pool wanted most words serves).0;
  at_most = subst (λ (one : Chunk). one.level ≤ most) (sym its.is) (picked_serves pool wanted most words serves).1;
  after = ap (λ (front : ℕ). with_chunk account (record { start = chunk.start; level = chunk.level; front = front }))
      (ap (λ (one : Chunk). one.front) its.is
      ∙ sym (ap (λ (one : Chunk). front_for old.limits.policy (size_of one.level) words) its.is));
}
  where
    pool : PoolState
    pool = state_in account.space old

    its : IsTaken pool wanted most words chunk
    its = taken_is pool wanted most words chunk is

-- All that a chunk taken leaves.
pub record TakenWell (old : Ledger) (account : AccountState) (wanted most words : ℕ) (chunk : Chunk) : Type 0 where
  pub sound : IsSoundLedger (with_lent old account.space account.owner chunk)
  pub served : Serves (with_lent old account.space account.owner chunk) (with_chunk account chunk)
  pub others : (other : AccountState) → other.owner ≢ account.owner → Serves old other
      → Serves (with_lent old account.space account.owner chunk) other
  pub chunks : AreChunks account.space (account.chunks ++ chunk ∷ [])
  pub adds : Adds old.limits.policy wanted most words account (span_of chunk) (with_chunk account chunk)

pub taken_well : (old : Ledger) (account : AccountState) (wanted most words : ℕ) (chunk : Chunk) → IsSoundLedger old
    → Serves old account
    → AreChunks account.space account.chunks → wanted ≤ most → most ≤ highest_level → 1 ≤ words → words ≤ size_of most
    → taken (state_in account.space old) wanted most words ≡ Ok chunk → TakenWell old account wanted most words chunk
taken_well old account wanted most words chunk sound served chunks serves real some fits is = record {
  sound = lent_is_sound old account chunk sound served lendable;
  served = lent_serves old account chunk served;
  others = λ other differs its. lent_serves_others old account.space account.owner chunk other differs its;
  chunks = lent_are_chunks old account chunk sound served chunks lendable;
  adds = taken_adds old account wanted most words chunk serves is;
}
  where
    lendable : IsLendable (state_in account.space old) chunk
    lendable =
        taken_is_lendable (state_in account.space old) wanted most words chunk (sound.spaces account.space) serves real
        some fits is
