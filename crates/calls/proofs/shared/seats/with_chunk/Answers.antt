use Rattle.std.proofs.Common.{◌≡◌, ◌<◌, ℕ, ap, sym, subst, ◌∙◌}
use Rattle.ms_base.specs.declared.kind.Space.{Space}
use Rattle.ms_pool.specs.Account.{AccountState}
use Rattle.ms_shared.specs.SeatView.{SeatState, opened_by}
use Rattle.calls.proofs.shared.seats.with_chunk.Goals as goal

-- as many accounts are open as before, and the account's space is the same
pub returns-in-Ok-clause-counted : goal.returns-in-Ok-clause-counted
returns-in-Ok-clause-counted g c =
    let count = λ (seat : SeatState). opened_by seat.knows in
    let counts : count c.into_seat.result ≡ count c.args.seat =
    ap count c.into_seat.ensures ∙ c.in-Ok.ensures.rest.counted ∙ ap count c.at-pool.ensures in
    let space = ap (λ (account : AccountState). account.space) c.in-Ok.ensures.added.after in
    subst (λ (n : ℕ). 0 < n)
    (sym (ap (λ (f : Space → ℕ). f c.take.new.account.space) counts ∙ ap (opened_by c.args.seat.knows) space))
    c.requires.counted
