use Rattle.std.proofs.Common.{sym, subst, ap, ◌∙◌}
use Rattle.ms_pool.specs.Account.{AccountState}
use Rattle.ms_arena.specs.Arena.{account_of}
use Rattle.ms_shared.specs.SeatView.{HeldState, ServesBy}
use Rattle.ms_member.specs.Hosted.{shown}
use Rattle.ms_member.proofs.member.hosted.close_hosted.Goals as goal

-- both accounts are the arenas'
pub close_both-requires-clause-both : goal.close_both-requires-clause-both
close_both-requires-clause-both c =
    let pool = c.resume-pool.result in let back = c.into_accounts-account.ensures in let its = c.requires.serves in
    let first =
    subst (λ (held : HeldState). ServesBy held.seat.knows (account_of (shown c.args.hosted).arena))
    (sym c.resume-pool.ensures) its.served
    in
    let second =
    subst (λ (held : HeldState). ServesBy held.seat.knows (account_of (shown c.args.hosted).class_arena))
    (sym c.resume-pool.ensures) its.class_served
    in record {
      served = subst (ServesBy pool.seat.knows) (sym back.account) first;
      class_served = subst (ServesBy pool.seat.knows) (sym back.class_account) second;
      space = ap (λ (a : AccountState). a.space) back.account ∙ its.space;
      class_space = ap (λ (a : AccountState). a.space) back.class_account ∙ its.class_space;
    }
