use Rattle.std.proofs.Common.{◌≡◌}
use Rattle.ms_loader.specs.Amounts.{amounts_of}
use Rattle.ms_run.proofs.SeenLemmas.{line_watched}
use Rattle.ms_run.proofs.metered.AmountLemmas.{line_moved}
use Rattle.ms_run.proofs.observing.watch_line.Goals as goal
use Rattle.ms_run.proofs.observing.watch_line.Goals.{After-moved-now}
use Rattle.ms_run.proofs.observing.watch_line.Given.{Over}

now_are : (g : Over) (c : After-moved-now g) → c.moved-now.result ≡ amounts_of c.answer_line.new.run.system
now_are g c =
    line_moved g.S.AnswerSink.took c.args.run.now c.answer_line.new.run c.args.line.now _ c.args.sink.now _ _ _ _ _ _
    c.in_ok-reply.ensures.answered c.requires.taken c.requires.counted.good c.in_ok-reply.ensures.counted.good
    c.name_in-name.ensures c.requires.amounts c.amounts_at-before.ensures c.amounts_at-after.ensures
    c.moved-now.ensures.used c.moved-now.ensures.live c.moved-now.ensures.class_used c.moved-now.ensures.class_live

pub standing-stands-requires-clause-amounts : goal.standing-stands-requires-clause-amounts
standing-stands-requires-clause-amounts g c = now_are g (goal.at.standing-stands-requires-clause-amounts g c).After-moved-now

pub returns-clause-watched : goal.returns-clause-watched
returns-clause-watched g c =
    line_watched g.S.AnswerSink.took g.O.Observer.saw c.args.run.now c.answer_line.new.run c.args.line.now _
    c.args.sink.now _ c.args.observer.now _ c.in_ok-reply.ensures.answered c.in_ok-see.ensures

pub returns-clause-amounts : goal.returns-clause-amounts
returns-clause-amounts g c = now_are g (goal.at.returns-clause-amounts g c).After-moved-now
