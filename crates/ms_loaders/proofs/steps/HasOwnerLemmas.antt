-- The loans of a ledger are of owners that are there still once a chunk is lent or grown.
use Rattle.std.proofs.Common.{◌≡◌, ℕ, true, false, cond, Result, Ok}
use Rattle.std.proofs.Common.{Err, List, [], ◌∷◌, map, sym, ap, subst, inl, inr}
use Rattle.std.specs.Prelude.{◌==◌, nat_lt}
use Rattle.std.specs.List.{AllByRecursion}
use Rattle.ms_base.specs.declared.span.Chunk.{Chunk}
use Rattle.ms_base.specs.declared.span.Block.{Block}
use Rattle.ms_base.specs.declared.refusal.Refusal.{Refusal}
use Rattle.ms_base.specs.Committed.{is_among}
use Rattle.ms_pool.specs.Ledger.{Loan, Ledger, with_loan}
use Rattle.ms_arena.specs.Arena.{ArenaView}
use Rattle.ms_loaders.proofs.steps.OutcomeLemmas.{Outcome}
use Rattle.ms_loaders.proofs.sums.FitLemmas.{HasOwner}

-- No other owner is lent a chunk.
grown_have : (owners : List ℕ) (loans : List Loan) (chunk : Chunk) → AllByRecursion (HasOwner owners) loans
    → AllByRecursion (HasOwner owners)
    (map (λ (loan : Loan). cond (loan.chunk.start == chunk.start) (record loan { chunk = chunk }) loan) loans)
grown_have owners [] chunk all = tt
grown_have owners (loan ∷ loans) chunk all = (
  elim (loan.chunk.start == chunk.start) as (λ b. HasOwner owners
      (cond b (record loan { chunk = chunk }) loan)) [ true ↦ all.0 | false ↦ all.0 ],
  grown_have owners loans chunk all.1,
)

lent_have : (owners : List ℕ) (loans : List Loan) (added : Loan) → HasOwner owners added
    → AllByRecursion (HasOwner owners) loans → AllByRecursion (HasOwner owners) (with_loan added loans)
lent_have owners [] added own all = (own, tt)
lent_have owners (loan ∷ loans) added own all =
    elim (nat_lt loan.chunk.start added.chunk.start) as (λ b. AllByRecursion (HasOwner owners)
    (cond b (loan ∷ with_loan added loans) (added ∷ loan ∷ loans))) [
      | true ↦ (all.0, lent_have owners loans added own all.1)
      | false ↦ (own, all)
    ]

pub outcome_has : (owners : List ℕ) (was is : ArenaView) (words : ℕ) (old new : Ledger) (answer : Result Block Refusal)
    → Outcome was words old answer is new → is_among owners was.owner ≡ true
    → AllByRecursion (HasOwner owners) old.loans → AllByRecursion (HasOwner owners) new.loans
outcome_has owners was is words old new (Ok block) its own all = elim its.how [
  | inl stays ↦ subst (λ (l : List Loan). AllByRecursion (HasOwner owners) l)
      (ap (λ (l : Ledger). l.loans) (sym stays.1)) all
  | inr other ↦ elim other [
    | inl grown ↦ subst (λ (l : List Loan). AllByRecursion (HasOwner owners) l)
        (ap (λ (l : Ledger). l.loans) (sym grown.ledger)) (grown_have owners old.loans grown.greater all)
    | inr lent ↦ subst (λ (l : List Loan). AllByRecursion (HasOwner owners) l)
        (ap (λ (l : Ledger). l.loans) (sym lent.ledger)) (lent_have owners old.loans _ own all)
  ]
]
outcome_has owners was is words old new (Err refusal) its own all =
    subst (λ (l : List Loan). AllByRecursion (HasOwner owners) l) (ap (λ (l : Ledger). l.loans) (sym its.ledger.is)) all
