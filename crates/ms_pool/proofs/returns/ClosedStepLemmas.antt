-- An account's chunks are taken back one after the other: before, at each and after all. The proof
-- of `close` uses them.
use Rattle.std.proofs.Common.{◌≡◌, ◌≤◌, ℕ, ◌+◌, not, List, [], length, take, sym, ap, ◌∙◌, Some}
use Rattle.std.specs.List.{slice_get}
use Rattle.std.proofs.lemmas.List.{take_all}
use Rattle.ms_base.specs.declared.kind.Space.{Space}
use Rattle.ms_base.specs.declared.span.Chunk.{Chunk}
use Rattle.ms_pool.specs.Account.{AccountState}
use Rattle.ms_pool.specs.Ledger.{Loan, Ledger, IsSoundLedger, Serves, others_than, recommitted, with_closed}
use Rattle.ms_pool.specs.Ledger.{with_less_open}
use Rattle.ms_pool.specs.Releasing.{with_released, without_loan}
use Rattle.ms_pool.proofs.returns.ClosingLemmas.{all_gone, at_span, take_one_more, without_all, without_none, without_one_more}
use Rattle.ms_pool.proofs.returns.PoolSettleLemmas.{settled_already, settles_once}

-- The pool once the chunks of these spans are taken back.
abbrev pub without_chunks : List Chunk → Ledger → Ledger
without_chunks chunks old = recommitted (record old { loans = without_all chunks old.loans })

pub at_first : (old : Ledger) → IsSoundLedger old → old ≡ without_chunks [] old
at_first old sound =
    sym (ap (λ (l : List Loan). recommitted (record old { loans = l })) (without_none old.loans)
    ∙ settled_already old sound)

pub one_more : (old mid new : Ledger) (chunks : List Chunk) (index : ℕ) (chunk : Chunk) → IsSoundLedger old
    → mid ≡ without_chunks (take index chunks) old
    → slice_get chunks index ≡ Some chunk → new ≡ with_released mid chunk
    → new ≡ without_chunks (take (index + 1) chunks) old
one_more old mid new chunks index chunk sound before found released =
    released
    ∙ ap (λ (l : Ledger). with_released l chunk) before
    ∙ settles_once old (λ (loan : Loan). not (at_span (take index chunks) loan.chunk.start loan.chunk.level))
    (without_loan chunk (without_all (take index chunks) old.loans))
    old.opened old.class_opened old.opened old.class_opened sound
    ∙ ap (λ (l : List Loan). recommitted (record old { loans = l }))
    (without_one_more (take index chunks) chunk old.loans
    ∙ ap (λ (l : List Chunk). without_all l old.loans) (sym (take_one_more chunks index chunk found)))

pub at_last : (old mid : Ledger) (account : AccountState) (space : Space) (count : ℕ) → IsSoundLedger old
    → Serves old account → account.space ≡ space
    → length account.chunks ≤ count → mid ≡ without_chunks (take count account.chunks) old
    → with_less_open space mid ≡ with_closed old account
at_last old mid account space count sound served same all before =
    ap (λ (l : Ledger). with_less_open space l)
    (before ∙ ap (λ (l : List Chunk). without_chunks l old) (take_all count account.chunks all)
    ∙ ap (λ (l : List Loan). recommitted (record old { loans = l })) (all_gone old account sound served))
    ∙ ap (λ (s : Space). recommitted (with_less_open s (record old { loans = others_than account.owner old.loans })))
    (sym same)
