use Rattle.std.proofs.Common.{◌≡◌, false, true, [], ◌∷◌, ◌++◌, inl, inr, refl, subst, sym}
use Rattle.ms_course.specs.Gathering.{CourseView}
use Rattle.ms_run.specs.Seeing.{sight_of}
use Rattle.ms_session.specs.Watching.{Watches}
use Rattle.ms_session.proofs.ChartLemmas.{moment_is}
use Rattle.ms_session.proofs.WatchLemmas.{watches_more}
use Rattle.ms_session.proofs.watching.WatchObserver.see.Goals as goal

pub returns-in_ok-loaders : goal.returns-in_ok-loaders
returns-in_ok-loaders c = λ first before so_far.
    let sight = sight_of c.args.line.now c.args.reply.now c.args.system.now in
    subst (λ (course : CourseView). Watches first.course course (before ++ sight ∷ [])) (sym c.keep_halfway.ensures)
    (watches_more first.course c.args.self.now.course c.push.new.self before sight c.moment_after.result
    c.in_ok-loaders.loaders.items
    (moment_is c.args.line.now c.args.reply.now c.args.system.now _ _ c.moment_after.ensures c.requires.standing)
    c.in_ok-push.ensures.gathered c.push.ensures.schedule c.push.ensures.halfway
    (inl (c.if-is_halfway.ensures.0 refl, c.in_ok-loaders.ensures)) so_far)

pub returns-else-is_halfway : goal.returns-else-is_halfway
returns-else-is_halfway c = λ first before so_far.
    watches_more first.course c.args.self.now.course c.push.new.self before
    (sight_of c.args.line.now c.args.reply.now c.args.system.now) c.moment_after.result c.push.new.self.halfway
    (moment_is c.args.line.now c.args.reply.now c.args.system.now _ _ c.moment_after.ensures c.requires.standing)
    c.in_ok-push.ensures.gathered c.push.ensures.schedule c.push.ensures.halfway
    (inr (λ now. (let both : false ≡ true = c.if-is_halfway.ensures.1 now in absurd (cc)), refl)) so_far
