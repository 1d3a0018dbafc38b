use Rattle.std.proofs.Common.{◌≡◌, ◌<◌, ℕ, Bool, ap, sym, subst, ◌∙◌, Result, Ok, Err, IfOk, OnErr}
use Rattle.ms_base.specs.declared.kind.Space.{Space}
use Rattle.ms_base.specs.declared.policy.Policy.{Policy}
use Rattle.ms_base.specs.declared.refusal.Refusal.{Refusal}
use Rattle.ms_base.specs.declared.span.Span.{Span}
use Rattle.ms_pool.specs.Account.{AccountState}
use Rattle.ms_pool.specs.Lending.{Grows}
use Rattle.ms_shared.specs.SeatView.{SeatState, opened_by}
use Rattle.calls.proofs.shared.seats.grown.Goals as goal

-- An account that grows, or is refused, stays in its space.
space_stays : (policy : Policy) (start total : ℕ) (may_enlarge : Bool) (answer : Result Span Refusal)
    (old new : AccountState) → IfOk answer (λ span. Grows policy start total may_enlarge old span new)
    → OnErr answer (new ≡ old) → new.space ≡ old.space
space_stays policy start total may_enlarge (Ok span) old new grown same = ap (λ (a : AccountState). a.space) grown.after
space_stays policy start total may_enlarge (Err refusal) old new grown same = ap (λ (a : AccountState). a.space) same

-- as many accounts are open as before, and the account's space is the same
pub returns-clause-counted : goal.returns-clause-counted
returns-clause-counted g c =
    let count = λ (seat : SeatState). opened_by seat.knows in
    let counts : count c.into_seat.result ≡ count c.args.seat =
    ap count c.into_seat.ensures ∙ c.grow-answer.ensures.rest.counted ∙ ap count c.at-pool.ensures in
    let space = space_stays _ _ _ _ _ _ _ c.grow-answer.ensures.grown c.grow-answer.ensures.unchanged in
    subst (λ (n : ℕ). 0 < n)
    (sym (ap (λ (f : Space → ℕ). f c.grow-answer.new.account.space) counts ∙ ap (opened_by c.args.seat.knows) space))
    c.requires.counted
