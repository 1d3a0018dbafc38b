-- Some loans go: the others are held still, in order, and commit nothing more; and what an owner
-- has of the others.
use Rattle.std.proofs.Common.{◌≡◌, ◌≢◌, ◌≤◌, ℕ, Bool, true, false, cond, not, List, [], ◌∷◌, ◌++◌, length, map, refl}
use Rattle.std.proofs.Common.{sym, ap, ◌∙◌, subst, arith}
use Rattle.std.specs.Prelude.{◌==◌}
use Rattle.std.specs.List.{All, AllByRecursion, filter}
use Rattle.std.specs.List.Sorted.{IsPermutation, IsStrictlyIncreasing}
use Rattle.std.proofs.lemmas.Bool.{eqb-true}
use Rattle.std.proofs.lemmas.List.{append_assoc}
use Rattle.std.proofs.lemmas.List.Elements.{All-filter}
use Rattle.std.proofs.lemmas.List.Sorted.{IsPermutation-refl, IsPermutation-cons, IsPermutation-middle}
use Rattle.std.proofs.lemmas.List.Sorted.{IsPermutation-sym, IsPermutation-trans}
use Rattle.ms_base.specs.declared.kind.Space.{Space}
use Rattle.ms_base.specs.declared.span.Chunk.{Chunk}
use Rattle.ms_base.specs.Spaces.{is_in}
use Rattle.ms_base.specs.Committed.{committed_with}
use Rattle.ms_base.specs.Held.{AreHeld}
use Rattle.ms_base.proofs.granules.CommittedLemmas.{committed_rest}
use Rattle.ms_base.proofs.machine.HeldLemmas.{held_rest}
use Rattle.ms_pool.specs.Ledger.{Loan, Ledger, IsSoundLedger, committed_of, is_owned_by, others_than, state_in}
use Rattle.ms_pool.proofs.ledger.AccountLemmas.{LiesIn}
use Rattle.ms_pool.proofs.ledger.LoanLemmas.{chunks_in, owned_by}
use Rattle.ms_pool.proofs.ledger.LoanOrderLemmas.{order_filtered}

-- What chunks keep where one goes, they keep where some go.
kept_by_rest : (Q : List Chunk → Type 0)
    (step : (b : List Chunk) (chunk : Chunk) (a : List Chunk) → Q (b ++ chunk ∷ a) → Q (b ++ a))
    (space : Space) (p : Loan → Bool) (b : List Chunk) (loans : List Loan) → Q (b ++ chunks_in space loans)
    → Q (b ++ chunks_in space (filter p loans))
kept_by_rest Q step space p b [] holds = holds
kept_by_rest Q step space p b (loan ∷ loans) holds =
    go (p loan) (is_in space loan.chunk.start) refl holds (kept_by_rest Q step space p b loans)
    (kept_by_rest Q step space p (b ++ loan.chunk ∷ []) loans)
  where
    rest : List Chunk
    rest = chunks_in space loans

    go : (t here : Bool) → is_in space loan.chunk.start ≡ here → Q (b ++ cond here (loan.chunk ∷ rest) rest)
        → (Q (b ++ rest) → Q (b ++ chunks_in space (filter p loans)))
        → (Q ((b ++ loan.chunk ∷ []) ++ rest) → Q ((b ++ loan.chunk ∷ []) ++ chunks_in space (filter p loans)))
        → Q (b ++ chunks_in space (cond t (loan ∷ filter p loans) (filter p loans)))
    go true true e holds others more =
        subst (λ (h : Bool). Q
        (b ++ cond h (loan.chunk ∷ chunks_in space (filter p loans)) (chunks_in space (filter p loans)))) (sym e)
        (subst Q (append_assoc b (loan.chunk ∷ []) (chunks_in space (filter p loans)))
        (more (subst Q (sym (append_assoc b (loan.chunk ∷ []) rest)) holds)))
    go true false e holds others more =
        subst (λ (h : Bool). Q
        (b ++ cond h (loan.chunk ∷ chunks_in space (filter p loans)) (chunks_in space (filter p loans)))) (sym e)
        (others holds)
    go false true e holds others more = others (step b loan.chunk rest holds)
    go false false e holds others more = others holds

-- Loans that are some of a sound ledger's.
pub record AreFewer (old : Ledger) (loans : List Loan) : Type 0 where
  pub held : (space : Space) → AreHeld old.limits.policy (state_in space old).slots (chunks_in space loans)
  pub few : (space : Space)
      → length (committed_with old.limits.policy (committed_of space old) (chunks_in space loans)
      (state_in space old).slots) ≤ length (committed_of space old)
  pub order : IsStrictlyIncreasing (map (λ (loan : Loan). loan.chunk.start) loans)
  pub owners : All (λ (loan : Loan). (1 ≤ loan.owner) × (loan.owner ≤ old.given)) loans

pub all_are_fewer : (old : Ledger) → IsSoundLedger old → AreFewer old old.loans
all_are_fewer old sound = record {
  held = λ space. (sound.spaces space).held;
  few = λ space. omega (arith, ap length (sound.spaces space).committed);
  order = sound.order;
  owners = sound.owners;
}

pub filtered_are_fewer : (old : Ledger) (p : Loan → Bool) (loans : List Loan) → AreFewer old loans
    → AreFewer old (filter p loans)
filtered_are_fewer old p loans fewer = record {
  held = λ space. kept_by_rest (AreHeld old.limits.policy (state_in space old).slots)
      (λ b chunk a held. held_rest old.limits.policy (state_in space old).slots b (chunk ∷ []) a held)
      space p [] loans (fewer.held space);
  few = λ space. kept_by_rest (λ (chunks : List Chunk). length (now space chunks) ≤ length (committed_of space old))
      (λ b chunk a few. omega (
        arith,
        few,
        committed_rest old.limits.policy (committed_of space old) b (chunk ∷ []) a
            (state_in space old).slots,
      ))
      space p [] loans (fewer.few space);
  order = order_filtered p loans fewer.order;
  owners = All-filter p (λ (loan : Loan). (1 ≤ loan.owner) × (loan.owner ≤ old.given)) loans fewer.owners;
}
  where
    now : Space → List Chunk → List ℕ
    now space chunks = committed_with old.limits.policy (committed_of space old) chunks (state_in space old).slots

-- What is left of an owner's chunks once an owner's go.
pub none_left : (owner : ℕ) (loans : List Loan) → owned_by owner (others_than owner loans) ≡ []
none_left owner [] = refl
none_left owner (loan ∷ loans) = go (loan.owner == owner) refl (none_left owner loans)
  where
    others : List Loan
    others = others_than owner loans

    go : (b : Bool) → (loan.owner == owner) ≡ b → owned_by owner others ≡ []
        → owned_by owner (cond (not b) (loan ∷ others) others) ≡ []
    go true e rest = rest
    go false e rest =
        ap (λ (b : Bool). map (λ (one : Loan). one.chunk)
        (cond b (loan ∷ filter (is_owned_by owner) others) (filter (is_owned_by owner) others))) e ∙ rest

pub none_still : (owner : ℕ) (p : Loan → Bool) (loans : List Loan) → owned_by owner loans ≡ []
    → owned_by owner (filter p loans) ≡ []
none_still owner p [] none = refl
none_still owner p (loan ∷ loans) none = go (loan.owner == owner) (p loan) refl none (none_still owner p loans)
  where
    kept : List Loan
    kept = filter p loans

    go : (b t : Bool) → (loan.owner == owner) ≡ b
        → map (λ (one : Loan). one.chunk)
        (cond b (loan ∷ filter (is_owned_by owner) loans) (filter (is_owned_by owner) loans)) ≡ []
        → (owned_by owner loans ≡ [] → owned_by owner kept ≡ []) → owned_by owner (cond t (loan ∷ kept) kept) ≡ []
    go true t e none rest = absurd (cc)
    go false true e none rest =
        ap (λ (b : Bool). map (λ (one : Loan). one.chunk)
        (cond b (loan ∷ filter (is_owned_by owner) kept) (filter (is_owned_by owner) kept))) e ∙ rest none
    go false false e none rest = rest none

pub others_stay : (other owner : ℕ) (loans : List Loan) → other ≢ owner
    → owned_by other (others_than owner loans) ≡ owned_by other loans
others_stay other owner [] differs = refl
others_stay other owner (loan ∷ loans) differs =
    go (loan.owner == owner) (loan.owner == other) refl refl (others_stay other owner loans differs)
  where
    rest : List Loan
    rest = others_than owner loans

    own : List Loan → List Loan
    own some = filter (is_owned_by other) some

    go : (b t : Bool) → (loan.owner == owner) ≡ b → (loan.owner == other) ≡ t
        → owned_by other rest ≡ owned_by other loans
        → owned_by other (cond (not b) (loan ∷ rest) rest)
        ≡ map (λ (one : Loan). one.chunk) (cond t (loan ∷ own loans) (own loans))
    go true true e f same = absurd (differs (sym (eqb-true loan.owner other f) ∙ eqb-true loan.owner owner e))
    go true false e f same = same
    go false true e f same = ap (λ (t : Bool). map (λ (one : Loan). one.chunk) (cond t (loan ∷ own rest) (own rest))) f
        ∙ ap (λ (l : List Chunk). loan.chunk ∷ l) same
    go false false e f same = ap (λ (t : Bool). map (λ (one : Loan). one.chunk) (cond t (loan ∷ own rest) (own rest))) f
        ∙ same

-- The chunks of a space are those of an owner who has some there, and the others.
pub owned_and_others : (space : Space) (owner : ℕ) (loans : List Loan)
    → AllByRecursion (LiesIn space) (owned_by owner loans)
    → IsPermutation (chunks_in space loans) (owned_by owner loans ++ chunks_in space (others_than owner loans))
owned_and_others space owner [] lie = IsPermutation-refl []
owned_and_others space owner (loan ∷ loans) lie =
    go (loan.owner == owner) (is_in space loan.chunk.start) refl lie (owned_and_others space owner loans)
  where
    own : List Loan
    own = filter (is_owned_by owner) loans

    rest : List Chunk
    rest = chunks_in space loans

    others : List Chunk
    others = chunks_in space (others_than owner loans)

    chunk : Chunk
    chunk = loan.chunk

    go : (b here : Bool) → is_in space chunk.start ≡ here
        → AllByRecursion (LiesIn space) (map (λ (one : Loan). one.chunk) (cond b (loan ∷ own) own))
        → (AllByRecursion (LiesIn space) (owned_by owner loans) → IsPermutation rest (owned_by owner loans ++ others))
        → IsPermutation (cond here (chunk ∷ rest) rest)
        (map (λ (one : Loan). one.chunk) (cond b (loan ∷ own) own) ++ chunks_in space
        (cond (not b) (loan ∷ others_than owner loans) (others_than owner loans)))
    go true true e lie same = IsPermutation-cons chunk rest (owned_by owner loans ++ others) (same lie.1)
    go true false e lie same = let here = lie.0 in absurd (cc)
    go false true e lie same =
        subst (λ (t : Bool). IsPermutation (chunk ∷ rest) (owned_by owner loans ++ cond t (chunk ∷ others) others))
        (sym e)
        (IsPermutation-trans (chunk ∷ rest) (chunk ∷ (owned_by owner loans ++ others))
        (owned_by owner loans ++ chunk ∷ others)
        (IsPermutation-cons chunk rest (owned_by owner loans ++ others) (same lie))
        (IsPermutation-sym (owned_by owner loans ++ chunk ∷ others) (chunk ∷ (owned_by owner loans ++ others))
        (IsPermutation-middle (owned_by owner loans) chunk others)))
    go false false e lie same =
        subst (λ (t : Bool). IsPermutation rest (owned_by owner loans ++ cond t (chunk ∷ others) others)) (sym e)
        (same lie)
