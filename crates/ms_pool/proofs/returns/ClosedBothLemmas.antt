-- Both accounts of a loader closed, one after the other. The proof of `close_both` uses them.
use Rattle.std.proofs.Common.{◌≡◌, ◌-◌, ℕ, not, List, [], ◌∷◌, refl, sym, ap, subst, ◌∙◌, inl, inr}
use Rattle.std.specs.List.{AllByRecursion}
use Rattle.std.specs.List.Sorted.{IsPermutation}
use Rattle.std.proofs.lemmas.Bool.{both_ways, cases_eq}
use Rattle.ms_base.specs.declared.kind.Space.{Space}
use Rattle.ms_base.specs.declared.kind.Space.TheVariants.{NonClass, Class}
use Rattle.ms_base.specs.declared.span.Chunk.{Chunk}
use Rattle.ms_base.specs.Spaces.{is_in}
use Rattle.ms_base.proofs.arena.BlockLemmas.{not_in_other}
use Rattle.ms_pool.specs.Account.{AccountState, AreChunks}
use Rattle.ms_pool.specs.Ledger.{Loan, Ledger, IsSoundLedger, Serves, is_owned_by, others_than, recommitted}
use Rattle.ms_pool.specs.Ledger.{with_less_open}
use Rattle.ms_pool.specs.Calls.{Closed, ClosedBoth}
use Rattle.ms_pool.proofs.ledger.AccountLemmas.{LiesIn, own_lie_in}
use Rattle.ms_pool.proofs.ledger.FewerLemmas.{none_left, others_stay}
use Rattle.ms_pool.proofs.ledger.LoanLemmas.{owned_by}
use Rattle.ms_pool.proofs.returns.PoolSettleLemmas.{settles_once}

-- Chunks that lie in both spaces are none.
none_in_both : (chunks : List Chunk) → AllByRecursion (LiesIn NonClass) chunks → AllByRecursion (LiesIn Class) chunks
    → chunks ≡ []
none_in_both [] lie too = refl
none_in_both (c ∷ chunks) lie too = absurd (both_ways (is_in Class c.start) (not_in_other NonClass c.start lie.0) too.0)

-- The second account is served still.
pub served_still : (old mid : Ledger) (account class_account : AccountState) → account.space ≡ NonClass
    → class_account.space ≡ Class
    → Serves old account → Serves old class_account → AreChunks account.space account.chunks
    → AreChunks class_account.space class_account.chunks
    → Closed old account mid → Serves mid class_account
served_still old mid account class_account is_other is_class served too chunks class_chunks closed =
    subst (λ (l : Ledger). Serves l class_account) (sym closed) (record {
      some = too.some;
      given = too.given;
      chunks = subst (λ (l : List Chunk). IsPermutation l class_account.chunks) (sym stays) too.chunks;
    })
  where
    own : List Chunk
    own = owned_by class_account.owner old.loans

    class_own : AllByRecursion (LiesIn Class) own
    class_own =
        subst (λ (s : Space). AllByRecursion (LiesIn s) own) is_class (own_lie_in old class_account too class_chunks)

    other_own : AllByRecursion (LiesIn NonClass) (owned_by account.owner old.loans)
    other_own =
        subst (λ (s : Space). AllByRecursion (LiesIn s) (owned_by account.owner old.loans)) is_other
        (own_lie_in old account served chunks)

    stays : owned_by class_account.owner (others_than account.owner old.loans) ≡ own
    stays = elim (cases_eq class_account.owner account.owner) [
      | inl same ↦ ap (λ (n : ℕ). owned_by n (others_than account.owner old.loans)) same
          ∙ none_left account.owner old.loans
          ∙ sym (none_in_both own
          (subst (λ (n : ℕ). AllByRecursion (LiesIn NonClass) (owned_by n old.loans)) (sym same) other_own) class_own)
      | inr differs ↦ others_stay class_account.owner account.owner old.loans differs
    ]

-- Two accounts are closed.
closed_in : (old new : Ledger) (account : AccountState) (space : Space) → account.space ≡ space → Closed old account new
    → new ≡ recommitted (with_less_open space (record old { loans = others_than account.owner old.loans }))
closed_in old new account space same closed =
    closed ∙ ap
    (λ (s : Space). recommitted (with_less_open s (record old { loans = others_than account.owner old.loans })))
    same

pub both_closed : (old mid new : Ledger) (account class_account : AccountState) → IsSoundLedger old
    → account.space ≡ NonClass → class_account.space ≡ Class
    → Closed old account mid → Closed mid class_account new → ClosedBoth old account class_account new
both_closed old mid new account class_account sound is_other is_class closed then_closed =
    closed_in mid new class_account Class is_class then_closed
    ∙ ap (λ (l : Ledger). recommitted
    (with_less_open Class (record l { loans = others_than class_account.owner l.loans })))
    (closed_in old mid account NonClass is_other closed)
    ∙ settles_once old (λ (loan : Loan). not (is_owned_by account.owner loan))
    (others_than class_account.owner (others_than account.owner old.loans))
    (old.opened - 1) old.class_opened (old.opened - 1) (old.class_opened - 1) sound

-- The class space's count is as it was.
pub counted_still : (old mid : Ledger) (account : AccountState) → account.space ≡ NonClass → Closed old account mid
    → mid.class_opened ≡ old.class_opened
counted_still old mid account same closed =
    ap (λ (l : Ledger). l.class_opened) (closed_in old mid account NonClass same closed)
