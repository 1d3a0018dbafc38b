use Rattle.ms_run.specs.Seeing.{sight_of}
use Rattle.ms_session.proofs.ChartLemmas.{charts_more, moment_is}
use Rattle.ms_session.proofs.charting.ChartObserver.see.Goals as goal

pub returns : goal.returns
returns c = λ first before so_far.
    charts_more first.columns c.args.self.now.columns c.push.new.self before
    (sight_of c.args.line.now c.args.reply.now c.args._system.now) c.moment_after.result
    (moment_is c.args.line.now c.args.reply.now c.args._system.now _ _ c.moment_after.ensures c.requires.standing)
    c.push.ensures.shown c.push.ensures.lines so_far
