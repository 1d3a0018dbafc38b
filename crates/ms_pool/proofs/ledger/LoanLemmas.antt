-- Lists of loans: the chunks of a space and of an owner where loans are joined, one is added, or
-- some go.
use Rattle.std.proofs.Common.{◌≡◌, ◌≢◌, ℕ, Bool, true, false, cond, List, [], ◌∷◌, ◌++◌, map, refl, sym, ap, ◌∙◌, subst}
use Rattle.std.specs.Prelude.{nat_lt}
use Rattle.std.specs.List.{filter}
use Rattle.std.specs.List.Sorted.{IsPermutation}
use Rattle.std.proofs.lemmas.Bool.{ne_eqb, eq-eqb}
use Rattle.std.proofs.lemmas.List.{map-append}
use Rattle.std.proofs.lemmas.List.Elements.{filter-append}
use Rattle.std.proofs.lemmas.List.Sorted.{IsPermutation-middle, IsPermutation-sym}
use Rattle.ms_base.specs.declared.kind.Space.{Space}
use Rattle.ms_base.specs.declared.span.Chunk.{Chunk}
use Rattle.ms_base.specs.Spaces.{is_in}
use Rattle.ms_pool.specs.Ledger.{Loan, with_loan, is_owned_by}

-- The chunks of loans, those that lie in a space, and those of one owner.
abbrev pub chunk_of : Loan → Chunk
chunk_of loan = loan.chunk

abbrev pub lies_there : Space → Chunk → Bool
lies_there space chunk = is_in space chunk.start

abbrev pub chunks_in : Space → List Loan → List Chunk
chunks_in space loans = filter (λ chunk. is_in space chunk.start) (map (λ (loan : Loan). loan.chunk) loans)

abbrev pub owned_by : ℕ → List Loan → List Chunk
owned_by owner loans = map (λ (loan : Loan). loan.chunk) (filter (is_owned_by owner) loans)

-- Where a loan comes among others.
pub record Comes (loan : Loan) (loans more : List Loan) : Type 0 where
  pub before : List Loan
  pub after : List Loan
  pub old : loans ≡ before ++ after
  pub new : more ≡ before ++ loan ∷ after

pub comes : (loan : Loan) (loans : List Loan) → Comes loan loans (with_loan loan loans)
comes loan [] = record { before = []; after = []; old = refl; new = refl }
comes loan (other ∷ loans) =
    let rest = comes loan loans in
    elim (nat_lt other.chunk.start loan.chunk.start) as (λ b. Comes loan (other ∷ loans)
    (cond b (other ∷ with_loan loan loans) (loan ∷ other ∷ loans))) [
      | true ↦ record {
        before = other ∷ rest.before;
        after = rest.after;
        old = ap (λ l. other ∷ l) rest.old;
        new = ap (λ l. other ∷ l) rest.new;
      }
      | false ↦ record { before = []; after = other ∷ loans; old = refl; new = refl }
    ]

-- Chunks of a space, in parts.
pub chunks_in-append : (space : Space) (b a : List Loan)
    → chunks_in space (b ++ a) ≡ chunks_in space b ++ chunks_in space a
chunks_in-append space b a = ap (filter (lies_there space)) (map-append chunk_of b a)
    ∙ filter-append (lies_there space) (map chunk_of b) (map chunk_of a)

pub chunks_in-here : (space : Space) (b : List Loan) (loan : Loan) (a : List Loan) → is_in space loan.chunk.start ≡ true
    → chunks_in space (b ++ loan ∷ a) ≡ chunks_in space b ++ loan.chunk ∷ chunks_in space a
chunks_in-here space b loan a here = chunks_in-append space b (loan ∷ a)
    ∙ ap (λ t. chunks_in space b ++ cond t (loan.chunk ∷ chunks_in space a) (chunks_in space a)) here

pub chunks_in-there : (space : Space) (b : List Loan) (loan : Loan) (a : List Loan)
    → is_in space loan.chunk.start ≡ false
    → chunks_in space (b ++ loan ∷ a) ≡ chunks_in space (b ++ a)
chunks_in-there space b loan a there = chunks_in-append space b (loan ∷ a)
    ∙ ap (λ t. chunks_in space b ++ cond t (loan.chunk ∷ chunks_in space a) (chunks_in space a)) there
    ∙ sym (chunks_in-append space b a)

-- Those of an owner.
pub owned_by-append : (owner : ℕ) (b a : List Loan) → owned_by owner (b ++ a) ≡ owned_by owner b ++ owned_by owner a
owned_by-append owner b a = ap (map chunk_of) (filter-append (is_owned_by owner) b a)
    ∙ map-append chunk_of (filter (is_owned_by owner) b) (filter (is_owned_by owner) a)

pub owned_by-own : (b : List Loan) (loan : Loan) (a : List Loan)
    → owned_by loan.owner (b ++ loan ∷ a) ≡ owned_by loan.owner b ++ loan.chunk ∷ owned_by loan.owner a
owned_by-own b loan a = owned_by-append loan.owner b (loan ∷ a)
    ∙ ap (λ t. owned_by loan.owner b ++ map chunk_of
    (cond t (loan ∷ filter (is_owned_by loan.owner) a) (filter (is_owned_by loan.owner) a)))
    (eq-eqb loan.owner loan.owner refl)

pub owned_by-other : (owner : ℕ) (b : List Loan) (loan : Loan) (a : List Loan) → loan.owner ≢ owner
    → owned_by owner (b ++ loan ∷ a) ≡ owned_by owner (b ++ a)
owned_by-other owner b loan a other = owned_by-append owner b (loan ∷ a)
    ∙ ap (λ t. owned_by owner b ++ map chunk_of
    (cond t (loan ∷ filter (is_owned_by owner) a) (filter (is_owned_by owner) a))) (ne_eqb loan.owner owner other)
    ∙ sym (owned_by-append owner b a)

-- A loan more: its chunk comes among those of its space and its owner, and no other's change.
pub chunks_in-with : (space : Space) (loan : Loan) (loans : List Loan) → is_in space loan.chunk.start ≡ true
    → IsPermutation (loan.chunk ∷ chunks_in space loans) (chunks_in space (with_loan loan loans))
chunks_in-with space loan loans here =
    let its = comes loan loans in
    subst (IsPermutation (loan.chunk ∷ chunks_in space loans))
    (sym (ap (chunks_in space) its.new ∙ chunks_in-here space its.before loan its.after here))
    (subst (λ l. IsPermutation (loan.chunk ∷ l) (chunks_in space its.before ++ loan.chunk ∷ chunks_in space its.after))
    (sym (ap (chunks_in space) its.old ∙ chunks_in-append space its.before its.after))
    (IsPermutation-sym (chunks_in space its.before ++ loan.chunk ∷ chunks_in space its.after)
    (loan.chunk ∷ (chunks_in space its.before ++ chunks_in space its.after))
    (IsPermutation-middle (chunks_in space its.before) loan.chunk (chunks_in space its.after))))

pub chunks_in-with_elsewhere : (space : Space) (loan : Loan) (loans : List Loan) → is_in space loan.chunk.start ≡ false
    → chunks_in space (with_loan loan loans) ≡ chunks_in space loans
chunks_in-with_elsewhere space loan loans there =
    let its = comes loan loans in
    ap (chunks_in space) its.new ∙ chunks_in-there space its.before loan its.after there
    ∙ sym (ap (chunks_in space) its.old)

pub owned_by-with : (loan : Loan) (loans : List Loan)
    → IsPermutation (loan.chunk ∷ owned_by loan.owner loans) (owned_by loan.owner (with_loan loan loans))
owned_by-with loan loans =
    let its = comes loan loans in
    let own = owned_by loan.owner in
    subst (IsPermutation (loan.chunk ∷ own loans)) (sym (ap own its.new ∙ owned_by-own its.before loan its.after))
    (subst (λ l. IsPermutation (loan.chunk ∷ l) (own its.before ++ loan.chunk ∷ own its.after))
    (sym (ap own its.old ∙ owned_by-append loan.owner its.before its.after))
    (IsPermutation-sym (own its.before ++ loan.chunk ∷ own its.after) (loan.chunk ∷ (own its.before ++ own its.after))
    (IsPermutation-middle (own its.before) loan.chunk (own its.after))))

pub owned_by-with_other : (owner : ℕ) (loan : Loan) (loans : List Loan) → loan.owner ≢ owner
    → owned_by owner (with_loan loan loans) ≡ owned_by owner loans
owned_by-with_other owner loan loans other =
    let its = comes loan loans in
    ap (owned_by owner) its.new ∙ owned_by-other owner its.before loan its.after other
    ∙ sym (ap (owned_by owner) its.old)
