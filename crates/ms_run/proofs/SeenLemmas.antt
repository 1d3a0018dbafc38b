-- Lines that are answered and seen, one after the other. For `observing` and `laws`.
use Rattle.std.proofs.Common.{◌≡◌, ◌<◌, ◌+◌, ◌∙◌, ℕ, List, [], ◌∷◌, ◌++◌, length, take, get_or, subst, refl, sym, ap, ap₂}
use Rattle.std.proofs.Common.{append_assoc, append-nil, suc}
use Rattle.std.specs.Prelude.{IfSome}
use Rattle.std.proofs.lemmas.List.{take_more}
use Rattle.std.proofs.lemmas.List.Elements.{All-append, All-from_recursion, All-nil}
use Rattle.ms_base.specs.State.{Limits, Machine, empty_machine, limits_of}
use Rattle.ms_base.specs.declared.settings.Settings.{Settings}
use Rattle.ms_base.specs.declared.step.Reply.{Reply}
use Rattle.ms_trace.specs.declared.trace.Line.{Line}
use Rattle.ms_answers.specs.declared.verbosity.Verbosity.TheVariants.{Full}
use Rattle.ms_answers.specs.declared.replies.Answer.{Answer}
use Rattle.ms_answers.specs.declared.totals.Totals.{Totals}
use Rattle.ms_run.specs.Counting.{HasTaken}
use Rattle.ms_run.specs.Course.{Course, begun}
use Rattle.ms_run.specs.Observing.{AreSeen, IsObserved, LastSightIsTheMachine, PutsAndSees, WatchesLines, last_sight}
use Rattle.ms_run.specs.Replay.{Answers, AreOf, HasVerbosity, IsDetailed}
use Rattle.ms_run.specs.Seeing.{Sight, SeesAll, sight_of}
use Rattle.ms_run.specs.Sink.{AreToTrace, IsOfLine, Puts, PutsAll}
use Rattle.ms_run.specs.declared.alone.Metered.{Metered}
use Rattle.ms_run.proofs.AloneLemmas.{answers_append, puts_more, puts_none}
use Rattle.ms_run.proofs.replays.ReplayLemmas.{alone_replays}

-- Some lines are answered and seen, and then others.
seen_append : (old mid new : Course) (lines more : List Line) (answers added : List Answer) (sights others : List Sight)
    → AreSeen old lines answers sights mid → AreSeen mid more added others new
    → AreSeen old (lines ++ more) (answers ++ added) (sights ++ others) new
seen_append old mid new [] more answers added sights others first second =
    subst (λ (course : Course). AreSeen course more (answers ++ added) (sights ++ others) new) first.2
    (rw (first.0, first.1) second)
seen_append old mid new (line ∷ lines) more [] added sights others first second = absurd first
seen_append old mid new (line ∷ lines) more (answer ∷ answers) added [] others first second = absurd first
seen_append old mid new (line ∷ lines) more (answer ∷ answers) added (sight ∷ sights) others first second = (
  first.0,
  first.1,
  first.2,
  seen_append first.0 mid new lines more answers added sights others first.3 second,
)

-- No line is seen, and then more.
sees_none : {O : Type 0} (saw : O → O → List Sight → Type 0) (watch : O) → SeesAll saw [] watch watch
sees_none saw watch = λ first before seen. subst (saw first watch) (sym (append-nil before)) seen

sees_more : {O : Type 0} (saw : O → O → List Sight → Type 0) (done more : List Sight) (before so_far after : O)
    → SeesAll saw done before so_far → SeesAll saw more so_far after → SeesAll saw (done ++ more) before after
sees_more saw done more before so_far after first_sees then_sees = λ first sights seen.
    subst (saw first after) (append_assoc sights done more) (then_sees first (sights ++ done) (first_sees first sights seen))

pub none_watched : {S O : Type 0} (took : S → S → List Answer → Type 0) (saw : O → O → List Sight → Type 0) (run : Metered)
    (sink : S) (watch : O) → PutsAndSees took saw (WatchesLines run [] run) sink sink watch watch
none_watched took saw run sink watch = (
  [],
  [],
  puts_none took sink,
  sees_none saw watch,
  (All-nil (IsDetailed Full), λ course taken. (course, (refl, refl, refl), taken)),
)

-- A line is answered, and the observer sees it.
pub line_watched : {S O : Type 0} (took : S → S → List Answer → Type 0) (saw : O → O → List Sight → Type 0)
    (old new : Metered) (line : Line) (reply : Reply) (sink sunk : S) (watch watched : O)
    → Puts took (IsOfLine Full old line reply new) sink sunk
    → SeesAll saw (sight_of line reply new.system ∷ []) watch watched
    → PutsAndSees took saw (WatchesLines old (line ∷ []) new) sink sunk watch watched
line_watched took saw old new line reply sink sunk watch watched told sees = (
  told.2.0 ∷ [],
  sight_of line reply new.system ∷ [],
  subst (λ (l : List Answer). PutsAll took l sink sunk) told.2.1 told.1,
  sees,
  (
    All-from_recursion (IsDetailed Full) (told.2.0 ∷ []) (told.2.2, tt),
    λ course taken.
        let its = told.2.3 course taken in (
          its.1,
          (
            its.1,
            its.2,
            ap₂ (λ (r : Reply) (m : Machine). sight_of line r m) (sym its.0) its.3.state,
            (refl, refl, refl),
          ),
          its.3,
        ),
  ),
)

pub one_more_watched : {S O : Type 0} (took : S → S → List Answer → Type 0) (saw : O → O → List Sight → Type 0)
    (old mid new : Metered) (lines : List Line) (at : ℕ) (line : Line) (before so_far whole : S) (first then last : O)
    → PutsAndSees took saw (WatchesLines old (take at lines) mid) before so_far first then → at < length lines
    → PutsAndSees took saw (WatchesLines mid (get_or lines at line ∷ []) new) so_far whole then last
    → PutsAndSees took saw (WatchesLines old (take (at + 1) lines) new) before whole first last
one_more_watched took saw old mid new lines at line before so_far whole first then last told more next = (
  told.0 ++ next.0,
  told.1 ++ next.1,
  puts_more took told.0 next.0 before so_far whole told.2 next.2,
  sees_more saw told.1 next.1 first then last told.3 next.3,
  (
    All-append (IsDetailed Full) told.0 next.0 told.4.0 next.4.0,
    λ course taken.
        let one = told.4.1 course taken in
        let other = next.4.1 one.0 one.2 in (
          other.0,
          rw (take_more lines at line more)
              (seen_append course one.0 other.0 (take at lines) (get_or lines at line ∷ []) told.0 next.0 told.1 next.1
              one.1 other.1),
          other.2,
        ),
  ),
)

-- What is seen is answered.
pub seen_answered : (old new : Course) (lines : List Line) (answers : List Answer) (sights : List Sight)
    → AreSeen old lines answers sights new → Answers old lines answers new
seen_answered old new [] answers sights seen = (seen.0, seen.2)
seen_answered old new (line ∷ lines) [] sights seen = absurd seen
seen_answered old new (line ∷ lines) (answer ∷ answers) [] seen = absurd seen
seen_answered old new (line ∷ lines) (answer ∷ answers) (sight ∷ sights) seen =
    answers_append old seen.0 new (line ∷ []) lines (answer ∷ []) answers seen.1
    (seen_answered seen.0 new lines answers sights seen.3)

-- All lines are seen from the machine on that has nothing, up to the totals of the last.
pub all_observed : {S O : Type 0} (took : S → S → List Answer → Type 0) (saw : O → O → List Sight → Type 0)
    (limits : Limits) (lines lent : List Line) (old new : Metered) (totals : Totals) (sink sunk : S) (watch watched : O)
    → lent ≡ lines → HasTaken (begun (empty_machine limits)) old
    → PutsAndSees took saw (WatchesLines old lent new) sink sunk watch watched
    → ((course : Course) → HasTaken course new → AreOf course totals) → HasVerbosity Full totals
    → PutsAndSees took saw (λ answers sights. IsObserved limits lines answers sights totals) sink sunk watch watched
all_observed took saw limits lines lent old new totals sink sunk watch watched same taken told are full =
    let ran = told.4.1 (begun (empty_machine limits)) taken in (
      told.0,
      told.1,
      told.2,
      told.3,
      record {
        last = ran.0;
        seen =
            subst (λ (l : List Line). AreSeen (begun (empty_machine limits)) l told.0 told.1 ran.0) same ran.1;
        detailed = told.4.0;
        totals_are = are ran.0 ran.2;
        full = full;
      },
    )

-- So they are answered to a trace as by one worker.
pub to_trace : {S O : Type 0} (took : S → S → List Answer → Type 0) (saw : O → O → List Sight → Type 0)
    (settings : Settings) (lines : List Line) (totals : Totals) (sink sunk : S) (watch watched : O)
    → settings.workers ≡ 1
    → PutsAndSees took saw (λ answers sights. IsObserved (limits_of settings) lines answers sights totals) sink sunk watch
    watched
    → Puts took (AreToTrace settings Full lines) sink sunk
to_trace took saw settings lines totals sink sunk watch watched one told = (
  told.0,
  told.2,
  record {
    own = alone_replays settings lines lines told.0 one refl (told.4.last, ran);
    run = λ alone. (told.4.last, ran);
    detailed = told.4.detailed;
  },
)
  where
    first : Course
    first = begun (empty_machine (limits_of settings))

    ran : Answers first lines told.0 told.4.last
    ran = seen_answered first told.4.last lines told.0 told.1 told.4.seen

-- The last sight is that of the last machine.
last_is : (first last : Course) (lines : List Line) (answers : List Answer) (sight : Sight) (sights : List Sight)
    → sight.state ≡ first.state → AreSeen first lines answers sights last
    → IfSome (last_sight (sight ∷ sights)) (λ one. one.state ≡ last.state)
last_is first last [] answers sight sights is seen =
    rw (seen.1) (is ∙ ap (λ (course : Course). course.state) (sym seen.2))
last_is first last (line ∷ lines) [] sight sights is seen = absurd seen
last_is first last (line ∷ lines) (answer ∷ answers) sight [] is seen = absurd seen
last_is first last (line ∷ lines) (answer ∷ answers) sight (next ∷ sights) is seen =
    last_is seen.0 last lines answers next sights (ap (λ (one : Sight). one.state) seen.2) seen.3

each_once : (first last : Course) (lines : List Line) (answers : List Answer) (sights : List Sight)
    → AreSeen first lines answers sights last → length sights ≡ length lines
each_once first last [] answers sights seen = ap length seen.1
each_once first last (line ∷ lines) [] sights seen = absurd seen
each_once first last (line ∷ lines) (answer ∷ answers) [] seen = absurd seen
each_once first last (line ∷ lines) (answer ∷ answers) (sight ∷ sights) seen =
    ap suc (each_once seen.0 last lines answers sights seen.3)

pub last_sight_is : LastSightIsTheMachine
last_sight_is first last [] answers sights seen = (ap length seen.1, rw (seen.1) tt)
last_sight_is first last (line ∷ lines) [] sights seen = absurd seen
last_sight_is first last (line ∷ lines) (answer ∷ answers) [] seen = absurd seen
last_sight_is first last (line ∷ lines) (answer ∷ answers) (sight ∷ sights) seen = (
  each_once first last (line ∷ lines) (answer ∷ answers) (sight ∷ sights) seen,
  last_is seen.0 last lines answers sight sights (ap (λ (one : Sight). one.state) seen.2) seen.3,
)
