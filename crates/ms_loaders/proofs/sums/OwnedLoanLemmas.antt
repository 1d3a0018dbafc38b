-- What is lent to an owner and what to others, and numbers that are distinct.
use Rattle.std.proofs.Common.{◌≡◌, ◌≢◌, ◌+◌, ℕ, Bool, true, false, cond, not, ◌||◌, List, [], ◌∷◌, map}
use Rattle.std.proofs.Common.{refl, sym, ap, ◌∙◌, arith}
use Rattle.std.specs.Prelude.{◌==◌}
use Rattle.std.specs.List.{filter, count_by}
use Rattle.std.proofs.lemmas.Bool.{eqb-true, eq-eqb, ne_eqb}
use Rattle.std.proofs.lemmas.List.Sums.{sum_by-cons}
use Rattle.ms_base.specs.declared.span.Chunk.{Chunk}
use Rattle.ms_base.specs.Committed.{is_among}
use Rattle.ms_pool.specs.Ledger.{Loan, is_owned_by}
use Rattle.ms_loaders.specs.System.{AreDistinct}

-- The chunks of loans, and those of one owner.
abbrev pub chunk_of : Loan → Chunk
chunk_of loan = loan.chunk

abbrev pub owned : ℕ → List Loan → List Chunk
owned owner loans = map chunk_of (filter (is_owned_by owner) loans)

abbrev pub others : ℕ → List Loan → List Loan
others owner loans = filter (λ loan. not (is_owned_by owner loan)) loans

-- What an owner holds is among the loans of others than another one.
pub owned_elsewhere : (owner other : ℕ) (loans : List Loan) → owner ≢ other
    → owned owner (others other loans) ≡ owned owner loans
owned_elsewhere owner other [] differ = refl
owned_elsewhere owner other (loan ∷ loans) differ =
    elim (loan.owner == other) as (λ b. (loan.owner == other) ≡ b
    → map chunk_of (filter (is_owned_by owner) (cond (not b) (loan ∷ others other loans) (others other loans)))
    ≡ map chunk_of
    (cond (loan.owner == owner) (loan ∷ filter (is_owned_by owner) loans) (filter (is_owned_by owner) loans))) [
      | true ↦ λ same. owned_elsewhere owner other loans differ
          ∙ ap (λ b. map chunk_of (cond b (loan ∷ filter (is_owned_by owner) loans) (filter (is_owned_by owner) loans)))
          (sym (ne_eqb loan.owner owner (λ e. differ (sym e ∙ eqb-true loan.owner other same))))
      | false ↦
          λ past. elim (loan.owner == owner) as (λ b. map chunk_of
          (cond b (loan ∷ filter (is_owned_by owner) (others other loans))
          (filter (is_owned_by owner) (others other loans)))
          ≡ map chunk_of (cond b (loan ∷ filter (is_owned_by owner) loans) (filter (is_owned_by owner) loans))) [
            | true ↦ ap (λ (l : List Chunk). loan.chunk ∷ l) (owned_elsewhere owner other loans differ)
            | false ↦ owned_elsewhere owner other loans differ
          ]
    ] refl

-- How often a number stands in a list that begins with it.
pub distinct_rest : (number : ℕ) (numbers : List ℕ) → AreDistinct (number ∷ numbers) → AreDistinct numbers
distinct_rest number numbers distinct other =
    omega (arith, distinct other, sum_by-cons (λ (n : ℕ). cond (n == other) 1 0) number numbers)

abbrev one_if : Bool → ℕ
one_if b = cond b 1 0

none_counted : (number : ℕ) (numbers : List ℕ) → count_by (λ other. other == number) numbers ≡ 0
    → is_among numbers number ≡ false
none_counted number [] none = refl
none_counted number (n ∷ numbers) none =
    elim (n == number) as (λ b. cond b 1 0 + count_by (λ other. other == number) numbers ≡ 0
    → (b || is_among numbers number) ≡ false) [
      | true ↦ λ e. absurd (omega (arith, e))
      | false ↦ λ e. none_counted number numbers (omega (arith, e))
    ] (sym (sum_by-cons (λ (k : ℕ). cond (k == number) 1 0) n numbers) ∙ none)

pub not_again : (number : ℕ) (numbers : List ℕ) → AreDistinct (number ∷ numbers) → is_among numbers number ≡ false
not_again number numbers distinct =
    none_counted number numbers
    (omega (
      arith,
      distinct number,
      sum_by-cons (λ (n : ℕ). cond (n == number) 1 0) number numbers,
      ap one_if (eq-eqb number number refl),
    ))
