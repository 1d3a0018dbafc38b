use Rattle.ms_pool.proofs.ledger.KeepsLemmas.{keeps_rest}
use Rattle.ms_pool.proofs.ledger.TookLemmas.{MayAsk, take_refusal, took_keeps, took_serves}
use Rattle.ms_pool.proofs.pool.PoolChunkSource.take.Goals as goal

pub returns-clause-served : goal.returns-clause-served
returns-clause-served c =
    let asks : MayAsk c.args.wanted c.args.most c.args.words = record {
      may = c.requires.asks;
      real = c.take.ensures.level;
    } in
    took_serves c.args.self.now c.args.account.now c.args.wanted c.args.most c.args.words c.take.result c.take.new.self
    c.take.new.account
    c.take.ensures.sound.before c.requires.served c.take.ensures.sound.held asks c.take.ensures.took c.take.ensures.added
    c.take.ensures.unchanged

pub returns-clause-rest : goal.returns-clause-rest
returns-clause-rest c =
    keeps_rest c.args.account.now.owner c.args.self.now c.take.new.self
    (took_keeps c.args.self.now c.args.account.now c.args.wanted c.args.most c.args.words c.take.result c.take.new.self
    c.take.ensures.took)

pub returns-clause-refused : goal.returns-clause-refused
returns-clause-refused c =
    take_refusal c.args.self.now c.args.account.now c.args.wanted c.args.most c.args.words c.take.result c.take.new.self
    c.take.ensures.took
