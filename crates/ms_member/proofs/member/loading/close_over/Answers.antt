use Rattle.std.proofs.Common.{sym, subst, ap}
use Rattle.ms_base.specs.declared.kind.Space.TheVariants.{NonClass, Class}
use Rattle.ms_pool.specs.Account.{AccountState}
use Rattle.ms_shared.specs.SeatView.{HeldState, ServesBy}
use Rattle.ms_loader.specs.Loader.{account_in}
use Rattle.ms_member.proofs.member.loading.close_over.Goals as goal

-- both accounts are the loader's
pub close_both-requires-clause-both : goal.close_both-requires-clause-both
close_both-requires-clause-both c =
    let pool = c.resume-pool.result in let back = c.into_accounts-account.ensures in
    let first =
    subst (λ (held : HeldState). ServesBy held.seat.knows (account_in NonClass c.args.loader)) (sym c.resume-pool.ensures)
    (c.requires.serves.served NonClass)
    in
    let second =
    subst (λ (held : HeldState). ServesBy held.seat.knows (account_in Class c.args.loader)) (sym c.resume-pool.ensures)
    (c.requires.serves.served Class)
    in record {
      served = subst (ServesBy pool.seat.knows) (sym back.account) first;
      class_served = subst (ServesBy pool.seat.knows) (sym back.class_account) second;
      space = ap (λ (a : AccountState). a.space) back.account;
      class_space = ap (λ (a : AccountState). a.space) back.class_account;
    }
