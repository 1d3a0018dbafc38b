use Rattle.ms_pool.proofs.ledger.GrewLemmas.{grew_keeps, grew_serves, grow_refusal}
use Rattle.ms_pool.proofs.ledger.KeepsLemmas.{keeps_rest}
use Rattle.ms_pool.proofs.pool.PoolChunkSource.grow.Goals as goal

pub returns-clause-served : goal.returns-clause-served
returns-clause-served c =
    grew_serves c.args.self.now c.args.account.now c.args.start c.args.total c.args.may_enlarge c.grow.result
    c.grow.new.self c.grow.new.account
    c.grow.ensures.sound.before c.requires.served c.grow.ensures.sound.held c.grow.ensures.grew c.grow.ensures.grown
    c.grow.ensures.unchanged

pub returns-clause-rest : goal.returns-clause-rest
returns-clause-rest c =
    keeps_rest c.args.account.now.owner c.args.self.now c.grow.new.self
    (grew_keeps c.args.self.now c.args.account.now c.args.start c.args.total c.args.may_enlarge c.grow.result
    c.grow.new.self
    c.grow.ensures.sound.before c.requires.served c.grow.ensures.sound.held c.grow.ensures.grew)

pub returns-clause-refused : goal.returns-clause-refused
returns-clause-refused c =
    grow_refusal c.args.self.now c.args.account.now c.args.start c.args.total c.args.may_enlarge c.grow.result
    c.grow.new.self c.grow.ensures.grew
