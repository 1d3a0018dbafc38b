use Rattle.std.proofs.Common.{[], refl, sym, ap, subst, ◌∙◌, arith}
use Rattle.ms_base.specs.declared.kind.Space.TheVariants.{NonClass, Class}
use Rattle.ms_pool.specs.declared.lent.Lent.{Lent}
use Rattle.ms_pool.specs.Counting.{HaveLeast, MovesIn, counted_in}
use Rattle.ms_pool.specs.Ledger.{Ledger}
use Rattle.ms_pool.specs.Releasing.{is_lent_in}
use Rattle.ms_pool.specs.Keeping.{ledger_of}
use Rattle.ms_pool.proofs.returns.ClosingLemmas.{lent_still}
use Rattle.ms_pool.proofs.counts.CountedLemmas.{closed_is_counted, least_of_own}
use Rattle.ms_pool.proofs.returns.ClosedStepLemmas.{at_first, at_last, one_more}
use Rattle.ms_pool.proofs.lender.Lender.close.Goals as goal

pub loop-index-init : goal.loop-index-init
loop-index-init c =
    record { kept = c.requires.kept; lent = refl; closed = at_first (ledger_of c.args.self.now) c.requires.kept.sound }

pub release-requires-clause-lent : goal.release-requires-clause-lent
release-requires-clause-lent c =
    ap (λ (ledger : Ledger). is_lent_in ledger.loans c.chunk.result) c.loop-index.invariant.closed
    ∙ lent_still (ledger_of c.args.self.now) c.args.account.now c.loop-index.index c.chunk.result c.requires.served
    c.held-index-end.ensures.chunks c.chunk.ensures

pub loop-index-preserved : goal.loop-index-preserved
loop-index-preserved c = record {
  kept = c.release.ensures.kept;
  lent = c.release.ensures.lent ∙ c.loop-index.invariant.lent;
  closed = one_more (ledger_of c.args.self.now) (ledger_of c.loop-index.self) (ledger_of c.release.new.self)
      c.args.account.now.chunks c.loop-index.index c.chunk.result
      c.requires.kept.sound c.loop-index.invariant.closed c.chunk.ensures c.release.ensures.released;
}

pub returns-in-NonClass-clause-closed : goal.returns-in-NonClass-clause-closed
returns-in-NonClass-clause-closed c =
    at_last (ledger_of c.args.self.now) (ledger_of c.loop-index.self) c.args.account.now NonClass c.loop-index.index
    c.requires.kept.sound c.requires.served
    (sym c.space.ensures ∙ c.in-NonClass.is) (omega (arith, c.held-index-end.ensures.count, c.loop-index-test.false))
    c.loop-index.invariant.closed

pub returns-in-Class-clause-closed : goal.returns-in-Class-clause-closed
returns-in-Class-clause-closed c =
    at_last (ledger_of c.args.self.now) (ledger_of c.loop-index.self) c.args.account.now Class c.loop-index.index
    c.requires.kept.sound c.requires.served
    (sym c.space.ensures ∙ c.in-Class.is) (omega (arith, c.held-index-end.ensures.count, c.loop-index-test.false))
    c.loop-index.invariant.closed

pub take_out-requires : goal.take_out-requires
take_out-requires c =
    subst (λ (lent : Lent). HaveLeast (counted_in c.args.account.now.space lent) c.args.account.now.chunks)
    (sym c.loop-index.invariant.lent)
    (least_of_own c.args.account.now c.args.self.now.lent (ledger_of c.args.self.now) c.requires.counted
    c.requires.served c.held-index-end.ensures.chunks)

pub returns-in-NonClass-clause-counted : goal.returns-in-NonClass-clause-counted
returns-in-NonClass-clause-counted c =
    closed_is_counted c.args.account.now c.args.self.now.lent c.take_out.new.self (ledger_of c.args.self.now) _
    c.requires.counted
    (subst (λ (lent : Lent). MovesIn c.args.account.now.space lent c.args.account.now.chunks [] c.take_out.new.self)
    c.loop-index.invariant.lent c.take_out.ensures)
    (returns-in-NonClass-clause-closed c) c.requires.served c.held-index-end.ensures.chunks

pub returns-in-Class-clause-counted : goal.returns-in-Class-clause-counted
returns-in-Class-clause-counted c =
    closed_is_counted c.args.account.now c.args.self.now.lent c.take_out.new.self (ledger_of c.args.self.now) _
    c.requires.counted
    (subst (λ (lent : Lent). MovesIn c.args.account.now.space lent c.args.account.now.chunks [] c.take_out.new.self)
    c.loop-index.invariant.lent c.take_out.ensures)
    (returns-in-Class-clause-closed c) c.requires.served c.held-index-end.ensures.chunks
