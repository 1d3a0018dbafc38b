-- Answers put together, line by line, over the course that a run takes; for `alone`.
use Rattle.std.proofs.Common.{◌≡◌, ◌<◌, ◌+◌, ◌∙◌, ℕ, List, [], ◌∷◌, ◌++◌, None, length, take, get_or, subst, refl, ap}
use Rattle.std.proofs.Common.{append_assoc, append-nil, sym, Bool, true, false, IsTrue}
use Rattle.std.specs.Prelude.{◌||◌}
use Rattle.std.proofs.lemmas.List.{take_more}
use Rattle.std.proofs.lemmas.List.Elements.{All-append, All-from_recursion, All-nil}
use Rattle.ms_base.specs.State.{Limits, Machine, empty_machine}
use Rattle.ms_base.specs.declared.step.Reply.{Reply}
use Rattle.ms_base.specs.declared.step.Reply.TheVariants.{Ok as Done}
use Rattle.ms_base.specs.declared.step.Step.{Step}
use Rattle.ms_base.specs.Transition.{Transition}
use Rattle.ms_trace.specs.declared.trace.Command.TheVariants.{Step as Asks}
use Rattle.ms_trace.specs.declared.trace.Line.{Line}
use Rattle.ms_trace.specs.Steps.{step_of}
use Rattle.ms_answers.specs.declared.replies.Answer.{Answer}
use Rattle.ms_answers.specs.declared.verbosity.Verbosity.{Verbosity}
use Rattle.ms_run.specs.Counting.{HasTaken}
use Rattle.ms_run.specs.Course.{Course, begun, on_to, passed}
use Rattle.ms_run.specs.Peaks.{ArePeaksIfKept}
use Rattle.ms_run.specs.Replay.{Answers, IsDetailed}
use Rattle.ms_run.specs.Sink.{AreOfLines, AreOfRun, IsOfEnd, IsOfLine, Puts, PutsAll}
use Rattle.ms_run.specs.declared.alone.Metered.{Metered}
use Rattle.ms_run.proofs.DetailLemmas.{plain}

-- The answers to some lines, and then to others.
pub answers_append : (old mid new : Course) (lines more : List Line) (answers added : List Answer)
    → Answers old lines answers mid → Answers mid more added new → Answers old (lines ++ more) (answers ++ added) new
answers_append old mid new [] more answers added first second =
    subst (λ (course : Course). Answers course more (answers ++ added) new) first.1 (rw first.0 second)
answers_append old mid new (line ∷ lines) more [] added first second = absurd first
answers_append old mid new (line ∷ lines) more (answer ∷ answers) added first second = (
  first.0,
  first.1,
  first.2,
  first.3,
  answers_append first.0 mid new lines more answers added first.4 second,
)

-- No answer is put, and then more.
pub puts_none : {S : Type 0} (took : S → S → List Answer → Type 0) (sink : S) → PutsAll took [] sink sink
puts_none took sink = λ first said put. subst (took first sink) (sym (append-nil said)) put

pub puts_more : {S : Type 0} (took : S → S → List Answer → Type 0) (done more : List Answer) (before so_far after : S)
    → PutsAll took done before so_far → PutsAll took more so_far after → PutsAll took (done ++ more) before after
puts_more took done more before so_far after first_puts then_puts = λ first said put.
    subst (took first after) (append_assoc said done more) (then_puts first (said ++ done) (first_puts first said put))

-- No line is answered, and then one more.
pub none_answered : {S : Type 0} (took : S → S → List Answer → Type 0) (verbosity : Verbosity) (run : Metered) (sink : S)
    → Puts took (AreOfLines verbosity run [] run) sink sink
none_answered took verbosity run sink = (
  [],
  puts_none took sink,
  (All-nil (IsDetailed verbosity), λ course taken. (course, (refl, refl), taken)),
)

pub one_more_answered : {S : Type 0} (took : S → S → List Answer → Type 0) (verbosity : Verbosity) (old mid new : Metered)
    (lines : List Line) (at : ℕ) (line : Line) (before so_far whole : S)
    → Puts took (AreOfLines verbosity old (take at lines) mid) before so_far → at < length lines
    → Puts took (AreOfLines verbosity mid (get_or lines at line ∷ []) new) so_far whole
    → Puts took (AreOfLines verbosity old (take (at + 1) lines) new) before whole
one_more_answered took verbosity old mid new lines at line before so_far whole told more then = (
  told.0 ++ then.0,
  puts_more took told.0 then.0 before so_far whole told.1 then.1,
  (
    All-append (IsDetailed verbosity) told.0 then.0 told.2.0 then.2.0,
    λ course taken.
        let one = told.2.1 course taken in
        let other = then.2.1 one.0 one.2 in (
          other.0,
          rw (take_more lines at line more)
              (answers_append course one.0 other.0 (take at lines) (get_or lines at line ∷ []) told.0 then.0 one.1
              other.1),
          other.2,
        ),
  ),
)

-- A line that asks a step is answered: the course goes on to the state after it.
pub step_answered : {S : Type 0} (took : S → S → List Answer → Type 0) (verbosity : Verbosity) (old new : Metered) (line : Line)
    (step : Step) (answer : Answer) (sink whole : S)
    → line.command ≡ Asks step → PutsAll took (answer ∷ []) sink whole → answer.line ≡ line.number
    → answer.report ≡ None → Transition old.system step answer.reply new.system
    → ((states : List Machine) → ArePeaksIfKept states old.peaks → ArePeaksIfKept (new.system ∷ states) new.peaks)
    → Puts took (IsOfLine verbosity old line answer.reply new) sink whole
step_answered took verbosity old new line step answer sink whole asks puts number none told raised = (
  answer ∷ [],
  puts,
  (
    answer,
    refl,
    plain verbosity answer none,
    λ course taken. (
      refl,
      on_to new.system course,
      (
        on_to new.system course,
        number,
        rw asks (subst (λ (m : Machine). Transition m step answer.reply new.system) taken.state told, refl),
        rw asks none,
        (refl, refl),
      ),
      record {
        state = refl;
        peaks = raised (passed course) taken.peaks;
      },
    ),
  ),
)

-- A line that asks none is answered, and the course stays.
pub end_answered : {S : Type 0} (took : S → S → List Answer → Type 0) (verbosity : Verbosity) (run : Metered) (line : Line)
    (sink whole : S) → step_of line.command ≡ None → Puts took (IsOfEnd verbosity run line) sink whole
    → Puts took (IsOfLine verbosity run line Done run) sink whole
end_answered took verbosity run line sink whole asks told = (
  told.0,
  told.1,
  (
    told.2.0,
    told.2.1,
    told.2.2,
    λ course taken.
        let its = told.2.3 course taken in
        (its.done, course, (course, its.number, rw asks (its.done, refl), its.report, (refl, refl)), taken),
  ),
)

-- The one answer to a line is the list of its answers.
pub line_answered : {S : Type 0} (took : S → S → List Answer → Type 0) (verbosity : Verbosity) (old new : Metered) (line : Line)
    (reply : Reply) (sink whole : S) → Puts took (IsOfLine verbosity old line reply new) sink whole
    → Puts took (AreOfLines verbosity old (line ∷ []) new) sink whole
line_answered took verbosity old new line reply sink whole told = (
  told.2.0 ∷ [],
  subst (λ (l : List Answer). PutsAll took l sink whole) told.2.1 told.1,
  (
    All-from_recursion (IsDetailed verbosity) (told.2.0 ∷ []) (told.2.2, tt),
    λ course taken. let its = told.2.3 course taken in (its.1, its.2, its.3),
  ),
)

-- A run that begins has taken the course that begins there.
pub begins : (run : Metered) (first : Machine) → run.system ≡ first → ArePeaksIfKept (run.system ∷ []) run.peaks
    → HasTaken (begun first) run
begins run first is peaks = record {
  state = is;
  peaks = subst (λ (m : Machine). ArePeaksIfKept (m ∷ []) run.peaks) is peaks;
}

-- What is kept for full reports is counted, whether a gate looks or not.
pub counted_if_kept : (looks kept : Bool) → kept ≡ true → IsTrue (looks || kept)
counted_if_kept true kept is = refl
counted_if_kept false kept is = is

-- All lines are answered from the machine on that has nothing.
pub all_answered : {S : Type 0} (took : S → S → List Answer → Type 0) (limits : Limits) (verbosity : Verbosity)
    (lines : List Line) (old new : Metered) (sink whole : S) → HasTaken (begun (empty_machine limits)) old
    → Puts took (AreOfLines verbosity old lines new) sink whole → Puts took (AreOfRun limits verbosity lines) sink whole
all_answered took limits verbosity lines old new sink whole taken told =
    let ran = told.2.1 (begun (empty_machine limits)) taken in
    (told.0, told.1, (ran.0, ran.1, told.2.0))

-- Where there were no answers, all are those that came.
pub none_before : (before added whole : List Answer) → before ≡ [] → whole ≡ before ++ added → added ≡ whole
none_before before added whole none is = sym (is ∙ ap (λ (l : List Answer). l ++ added) none)
