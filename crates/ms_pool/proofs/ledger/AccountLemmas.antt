-- Accounts that a sound ledger serves: their chunks are some of those held in their space, so they
-- are few, and a chunk that meets none held can be added to them.
use Rattle.std.proofs.Common.{◌≡◌, ◌≤◌, ◌*◌, ℕ, Bool, true, false, cond, List, [], ◌∷◌, length, map, refl, sym, ◌∙◌}
use Rattle.std.proofs.Common.{arith}
use Rattle.std.specs.Prelude.{◌==◌}
use Rattle.std.specs.List.{AllByRecursion, filter, list_any}
use Rattle.std.proofs.lemmas.Bool.{or_parts, or_from}
use Rattle.std.proofs.lemmas.List.Elements.{All-weaker, recursion_from_All}
use Rattle.std.proofs.lemmas.List.Sorted.{All-permutation, IsPermutation-sym, length_permutation}
use Rattle.std.proofs.lemmas.List.Sorted.{list_any-IsPermutation}
use Rattle.std.proofs.lemmas.List.Sums.{sum_by-cons}
use Rattle.ms_base.specs.declared.kind.Space.{Space}
use Rattle.ms_base.specs.declared.kind.Space.TheVariants.{NonClass, Class}
use Rattle.ms_base.specs.declared.span.Chunk.{Chunk}
use Rattle.ms_base.specs.Interval.{meet}
use Rattle.ms_base.specs.Level.{size_of, highest_level}
use Rattle.ms_base.specs.Part.{IsPart, slot_of, node_words}
use Rattle.ms_base.specs.Spaces.{IsSlotOf, is_in}
use Rattle.ms_base.specs.Held.{meets_chunk}
use Rattle.ms_base.specs.PoolSteps.Causes.{node_limit}
use Rattle.ms_base.specs.Totals.{capacity_of}
use Rattle.ms_base.proofs.free.HalvesLemmas.{size_falls}
use Rattle.ms_base.proofs.machine.SumLemmas.{capacity_within}
use Rattle.ms_pool.specs.Account.{AccountState, AreChunks}
use Rattle.ms_pool.specs.Ledger.{Loan, Ledger, IsSoundLedger, Serves, is_owned_by, state_in}
use Rattle.ms_pool.proofs.ledger.LoanLemmas.{chunks_in, owned_by}
use Rattle.ms_pool.proofs.ledger.LedgerSlotLemmas.{starts_in}

abbrev pub LiesIn : Space → Chunk → Type 0
LiesIn space chunk = is_in space chunk.start ≡ true

-- The chunks of an account that is served lie in its space.
pub own_lie_in : (ledger : Ledger) (account : AccountState) → Serves ledger account
    → AreChunks account.space account.chunks
    → AllByRecursion (LiesIn account.space) (owned_by account.owner ledger.loans)
own_lie_in ledger account served chunks =
    recursion_from_All (LiesIn account.space) (owned_by account.owner ledger.loans)
    (All-permutation (LiesIn account.space) account.chunks (owned_by account.owner ledger.loans)
    (IsPermutation-sym (owned_by account.owner ledger.loans) account.chunks served.chunks)
    (All-weaker (λ (chunk : Chunk). IsSlotOf account.space (slot_of chunk.start)) (LiesIn account.space)
    (λ chunk slot. starts_in account.space chunk.start slot) account.chunks chunks.inside))

-- What no chunk of the space passes, none of the owner's passes; and the owner's are no more.
own_pass_none : (test : Chunk → Bool) (space : Space) (owner : ℕ) (loans : List Loan)
    → AllByRecursion (LiesIn space) (owned_by owner loans)
    → list_any test (chunks_in space loans) ≡ false → list_any test (owned_by owner loans) ≡ false
own_pass_none test space owner [] lie none = refl
own_pass_none test space owner (loan ∷ loans) lie none =
    go (loan.owner == owner) (is_in space loan.chunk.start) refl lie none (own_pass_none test space owner loans)
  where
    own : List Loan
    own = filter (is_owned_by owner) loans

    go : (b t : Bool) → is_in space loan.chunk.start ≡ t
        → AllByRecursion (LiesIn space) (map (λ (one : Loan). one.chunk) (cond b (loan ∷ own) own))
        → list_any test (cond t (loan.chunk ∷ chunks_in space loans) (chunks_in space loans)) ≡ false
        → (AllByRecursion (LiesIn space) (owned_by owner loans) → list_any test (chunks_in space loans) ≡ false
        → list_any test (owned_by owner loans) ≡ false)
        → list_any test (map (λ (one : Loan). one.chunk) (cond b (loan ∷ own) own)) ≡ false
    go true true e lie none rest = let both = or_parts (test loan.chunk) (list_any test (chunks_in space loans)) none in
        or_from (test loan.chunk) (list_any test (owned_by owner loans)) both.0 (rest lie.1 both.1)
    go true false e lie none rest = let here = lie.0 in absurd (cc)
    go false true e lie none rest = rest lie (or_parts (test loan.chunk) (list_any test (chunks_in space loans)) none).1
    go false false e lie none rest = rest lie none

own_are_fewer : (space : Space) (owner : ℕ) (loans : List Loan) → AllByRecursion (LiesIn space) (owned_by owner loans)
    → length (owned_by owner loans) ≤ length (chunks_in space loans)
own_are_fewer space owner [] lie = omega arith
own_are_fewer space owner (loan ∷ loans) lie =
    go (loan.owner == owner) (is_in space loan.chunk.start) refl lie (own_are_fewer space owner loans)
  where
    own : List Loan
    own = filter (is_owned_by owner) loans

    go : (b t : Bool) → is_in space loan.chunk.start ≡ t
        → AllByRecursion (LiesIn space) (map (λ (one : Loan). one.chunk) (cond b (loan ∷ own) own))
        → (AllByRecursion (LiesIn space) (owned_by owner loans)
        → length (owned_by owner loans) ≤ length (chunks_in space loans))
        → length (map (λ (one : Loan). one.chunk) (cond b (loan ∷ own) own))
        ≤ length (cond t (loan.chunk ∷ chunks_in space loans) (chunks_in space loans))
    go true true e lie rest = omega (arith, rest lie.1)
    go true false e lie rest = let here = lie.0 in absurd (cc)
    go false true e lie rest = omega (arith, rest lie)
    go false false e lie rest = rest lie

pub own_clear : (ledger : Ledger) (account : AccountState) (start level : ℕ) → Serves ledger account
    → AreChunks account.space account.chunks
    → meets_chunk (chunks_in account.space ledger.loans) start level ≡ false
    → meets_chunk account.chunks start level ≡ false
own_clear ledger account start level served chunks clear =
    let test : Chunk → Bool = λ chunk. meet chunk.start (size_of chunk.level) start (size_of level) in
    sym (list_any-IsPermutation test (owned_by account.owner ledger.loans) account.chunks served.chunks)
    ∙ own_pass_none test account.space account.owner ledger.loans (own_lie_in ledger account served chunks) clear

-- Each chunk has 128 words at least, so they are few.
pub sized : (held : List Chunk) → AllByRecursion (λ (chunk : Chunk). IsPart chunk.start chunk.level) held
    → length held * 128 ≤ capacity_of held
sized [] parts = omega arith
sized (c ∷ held) parts =
    omega (
      arith,
      sized held parts.1,
      sum_by-cons (λ (chunk : Chunk). size_of chunk.level) c held,
      size_falls c.level highest_level parts.0.0,
    )

held_are_few : (space : Space) (ledger : Ledger) → IsSoundLedger ledger → length (chunks_in space ledger.loans) ≤ 524288
held_are_few space ledger sound = go space (size_of_held space) (sound.spaces space).reserved
  where
    size_of_held : (space : Space)
        → length (chunks_in space ledger.loans) * 128 ≤ length (state_in space ledger).slots * node_words
    size_of_held space = omega (
      arith,
      sized (chunks_in space ledger.loans)
          (recursion_from_All (λ (chunk : Chunk). IsPart chunk.start chunk.level) (chunks_in space ledger.loans)
          (sound.spaces space).held.parts),
      capacity_within ledger.limits.policy (state_in space ledger).slots (chunks_in space ledger.loans)
          (sound.spaces space).held,
    )

    go : (space : Space)
        → length (chunks_in space ledger.loans) * 128 ≤ length (state_in space ledger).slots * node_words
        → length (state_in space ledger).slots ≤ node_limit (state_in space ledger)
        → length (chunks_in space ledger.loans) ≤ 524288
    go NonClass h k = omega (arith, h, k, sound.nodes.1)
    go Class h k = omega (arith, h, k, sound.class_nodes)

pub own_are_few : (ledger : Ledger) (account : AccountState) → IsSoundLedger ledger → Serves ledger account
    → AreChunks account.space account.chunks
    → length account.chunks ≤ 524288
own_are_few ledger account sound served chunks = omega (
  arith,
  length_permutation (owned_by account.owner ledger.loans) account.chunks served.chunks,
  own_are_fewer account.space account.owner ledger.loans (own_lie_in ledger account served chunks),
  held_are_few account.space ledger sound,
)
