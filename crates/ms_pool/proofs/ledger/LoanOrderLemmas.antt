-- Loans in order of address: where one comes whose chunk meets no other, and where some go.
use Rattle.std.proofs.Common.{◌≡◌, ◌≢◌, ◌≤◌, ◌<◌, ℕ, Bool, true, false, cond, List, [], ◌∷◌, map, refl, sym, ap, ◌∙◌}
use Rattle.std.proofs.Common.{subst, arith, inl, inr}
use Rattle.std.specs.Ordering.{nat_cmp}
use Rattle.std.specs.declared.cmp.Ordering.TheVariants.{Less}
use Rattle.std.specs.List.{All, AllByRecursion, filter}
use Rattle.std.specs.List.Sorted.{IsStrictlyIncreasing, IsStrictlySortedBy}
use Rattle.std.specs.BTreeSet.{insert_key}
use Rattle.std.proofs.lemmas.Bool.{or_parts, cases_order, both_ways, lt-ltb, le-ltb, ne_eqb}
use Rattle.std.proofs.lemmas.Bool.Decides.{nat_tests}
use Rattle.std.proofs.lemmas.Map.Keys.{sorted_from_strictly_increasing, IsStrictlyIncreasing-from_sorted}
use Rattle.ms_base.specs.declared.kind.Space.{Space}
use Rattle.ms_base.specs.Interval.{meet}
use Rattle.ms_base.specs.Level.{size_of}
use Rattle.ms_base.specs.Held.{meets_chunk}
use Rattle.ms_base.specs.Spaces.{is_in}
use Rattle.ms_base.proofs.free.HalvesLemmas.{size_some}
use Rattle.ms_base.proofs.machine.SlotLemmas.{slots_rise_with}
use Rattle.ms_base.proofs.runs.ApartLemmas.{All-with}
use Rattle.ms_pool.specs.Ledger.{Loan, with_loan}
use Rattle.ms_pool.proofs.ledger.LoanLemmas.{Comes, comes, chunks_in}

abbrev pub start_of : Loan → ℕ
start_of loan = loan.chunk.start

abbrev pub StartsElsewhere : ℕ → Loan → Type 0
StartsElsewhere start loan = loan.chunk.start ≢ start

-- Chunks that don't meet start at different words.
itself_meets : (a m n : ℕ) → 1 ≤ m → 1 ≤ n → meet a m a n ≡ false → ⊥
itself_meets a m n h k e = grind (arith, nat_tests, e)

pub starts_elsewhere : (space : Space) (start level : ℕ) (loans : List Loan) → is_in space start ≡ true
    → meets_chunk (chunks_in space loans) start level ≡ false → AllByRecursion (StartsElsewhere start) loans
starts_elsewhere space start level [] here clear = tt
starts_elsewhere space start level (loan ∷ loans) here clear =
    elim (is_in space loan.chunk.start) as (λ b. is_in space loan.chunk.start ≡ b
    → meets_chunk (cond b (loan.chunk ∷ chunks_in space loans) (chunks_in space loans)) start level ≡ false
    → AllByRecursion (StartsElsewhere start) (loan ∷ loans)) [
      | true ↦ λ e clear.
          let both =
          or_parts (meet loan.chunk.start (size_of loan.chunk.level) start (size_of level))
          (meets_chunk (chunks_in space loans) start level) clear in (
            λ same. itself_meets start (size_of loan.chunk.level) (size_of level) (size_some loan.chunk.level)
                (size_some level)
                (ap (λ (s : ℕ). meet s (size_of loan.chunk.level) start (size_of level)) (sym same) ∙ both.0),
            starts_elsewhere space start level loans here both.1,
          )
      | false ↦
          λ e clear. (
            λ same. both_ways (is_in space loan.chunk.start) e (ap (is_in space) same ∙ here),
            starts_elsewhere space start level loans here clear,
          )
    ] refl clear

-- Loans in order stay so with such a one.
inserted : (loan : Loan) (loans : List Loan) → AllByRecursion (StartsElsewhere loan.chunk.start) loans
    → map start_of (with_loan loan loans) ≡ insert_key nat_cmp (map start_of loans) loan.chunk.start
inserted loan [] others = refl
inserted loan (other ∷ loans) others = elim (cases_order loan.chunk.start other.chunk.start) [
  | inl same ↦ absurd (others.0 (sym same))
  | inr (inl less) ↦ first less
  | inr (inr more) ↦ later more (inserted loan loans others.1)
]
  where
    first : loan.chunk.start < other.chunk.start
        → map start_of (with_loan loan (other ∷ loans))
        ≡ insert_key nat_cmp (map start_of (other ∷ loans)) loan.chunk.start
    first less =
        rw (le-ltb other.chunk.start loan.chunk.start (omega arith), lt-ltb loan.chunk.start other.chunk.start less)
        refl

    later : other.chunk.start < loan.chunk.start
        → map start_of (with_loan loan loans) ≡ insert_key nat_cmp (map start_of loans) loan.chunk.start
        → map start_of (with_loan loan (other ∷ loans))
        ≡ insert_key nat_cmp (map start_of (other ∷ loans)) loan.chunk.start
    later more rest =
        rw (
          lt-ltb other.chunk.start loan.chunk.start more,
          le-ltb loan.chunk.start other.chunk.start (omega arith),
          ne_eqb loan.chunk.start other.chunk.start (λ same. others.0 (sym same)),
        )
        (ap (λ l. other.chunk.start ∷ l) rest)

pub order_with : (loan : Loan) (loans : List Loan) → AllByRecursion (StartsElsewhere loan.chunk.start) loans
    → IsStrictlyIncreasing (map start_of loans) → IsStrictlyIncreasing (map start_of (with_loan loan loans))
order_with loan loans others order =
    subst IsStrictlyIncreasing (sym (inserted loan loans others))
    (slots_rise_with (map start_of loans) loan.chunk.start order)

-- And where some go.
all_filtered : (P : ℕ → Type 0) (p : Loan → Bool) (loans : List Loan) → AllByRecursion P (map start_of loans)
    → AllByRecursion P (map start_of (filter p loans))
all_filtered P p [] all = tt
all_filtered P p (loan ∷ loans) all =
    elim (p loan) as (λ b. AllByRecursion P (map start_of (cond b (loan ∷ filter p loans) (filter p loans)))) [
      | true ↦ (all.0, all_filtered P p loans all.1)
      | false ↦ all_filtered P p loans all.1
    ]

sorted_filtered : (p : Loan → Bool) (loans : List Loan) → IsStrictlySortedBy nat_cmp (map start_of loans)
    → IsStrictlySortedBy nat_cmp (map start_of (filter p loans))
unfolding IsStrictlySortedBy
sorted_filtered p [] sorted = sorted
sorted_filtered p (loan ∷ loans) sorted =
    elim (p loan) as (λ b. IsStrictlySortedBy nat_cmp
    (map start_of (cond b (loan ∷ filter p loans) (filter p loans)))) [
      | true ↦ (
        all_filtered (λ (y : ℕ). nat_cmp loan.chunk.start y ≡ Less) p loans sorted.0,
        sorted_filtered p loans sorted.1,
      )
      | false ↦ sorted_filtered p loans sorted.1
    ]

pub order_filtered : (p : Loan → Bool) (loans : List Loan) → IsStrictlyIncreasing (map start_of loans)
    → IsStrictlyIncreasing (map start_of (filter p loans))
order_filtered p loans order =
    IsStrictlyIncreasing-from_sorted (map start_of (filter p loans))
    (sorted_filtered p loans (sorted_from_strictly_increasing (map start_of loans) order))

-- What holds of all loans holds with another of which it holds.
pub all_with : (P : Loan → Type 0) (loan : Loan) (loans : List Loan) → P loan → All P loans
    → All P (with_loan loan loans)
all_with P loan loans holds all = let its : Comes loan loans (with_loan loan loans) = comes loan loans in
    subst (All P) (sym its.new) (All-with P its.before loan its.after holds (subst (All P) its.old all))
