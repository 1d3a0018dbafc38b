use Rattle.std.proofs.Common.{◌∙◌, ap, ap₂, length}
use Rattle.ms_course.specs.Gathering.{schedule_of}
use Rattle.ms_session.specs.Watching.{first_unload}
use Rattle.ms_session.specs.contracts.watching.UnkeptAnswerSink.TheImpl.{ghosts as unkept}
use Rattle.ms_session.proofs.WatchLemmas.{watched_is}
use Rattle.ms_session.proofs.watching.watched.Goals as goal

pub returns-clause-watched : goal.returns-clause-watched
returns-clause-watched c =
    let count = ap length c.as_slice-lines.ensures in
    let turns =
    c.in_ok-course.ensures.schedule ∙ c.new-schedule.ensures
    ∙ ap₂ schedule_of count (c.first_unload.ensures ∙ ap first_unload c.as_slice-lines.ensures) in
    watched_is unkept.took c.args.settings c.args.trace.now _ _ _ _ c.in_ok-end.end c.in_ok-course.ensures.none c.in_ok-course.ensures.halfway
    turns
    c.in_ok-end.ensures.observed
