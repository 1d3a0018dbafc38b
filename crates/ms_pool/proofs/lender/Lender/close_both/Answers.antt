use Rattle.std.proofs.Common.{◌<◌, sym, subst, arith}
use Rattle.ms_base.specs.declared.kind.Space.{Space}
use Rattle.ms_pool.specs.Ledger.{opened_in}
use Rattle.ms_pool.specs.Keeping.{ledger_of}
use Rattle.ms_pool.proofs.returns.ClosedBothLemmas.{both_closed, counted_still, served_still}
use Rattle.ms_pool.proofs.lender.Lender.close_both.Goals as goal

pub close-requires-clause-opened : goal.close-requires-clause-opened
close-requires-clause-opened c =
    subst (λ (s : Space). 0 < opened_in (ledger_of c.args.self.now) s) (sym c.requires.both.space) c.requires.opened

pub close-requires-2-clause-served : goal.close-requires-2-clause-served
close-requires-2-clause-served c =
    served_still (ledger_of c.args.self.now) (ledger_of c.close.new.self) c.args.account.now c.args.class_account.now
    c.requires.both.space c.requires.both.class_space
    c.requires.both.served c.requires.both.class_served c.held.ensures.chunks c.held-2.ensures.chunks
    c.close.ensures.closed

pub close-requires-2-clause-opened : goal.close-requires-2-clause-opened
close-requires-2-clause-opened c =
    subst (λ (s : Space). 0 < opened_in (ledger_of c.close.new.self) s) (sym c.requires.both.class_space)
    (let same = counted_still (ledger_of c.args.self.now) (ledger_of c.close.new.self) c.args.account.now
    c.requires.both.space c.close.ensures.closed in
    omega (arith, c.requires.class_opened, same))

pub returns-clause-closed : goal.returns-clause-closed
returns-clause-closed c =
    both_closed (ledger_of c.args.self.now) (ledger_of c.close.new.self) (ledger_of c.close-2.new.self)
    c.args.account.now c.args.class_account.now
    c.requires.kept.sound c.requires.both.space c.requires.both.class_space c.close.ensures.closed
    c.close-2.ensures.closed
