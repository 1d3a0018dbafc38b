-- The text that the answers of a run make. Used by `answer_to` of `session`.
use Rattle.std.proofs.Common.{◌≡◌, ℕ, List, [], ◌∷◌, ◌++◌, Option, Some, None, true, refl, ap, ◌∙◌}
use Rattle.std.proofs.Common.{Box, Global}
use Rattle.std.specs.Prelude.{IfSome}
use Rattle.std.specs.List.{All, AllByRecursion}
use Rattle.std.specs.Option.{is_some, option_map}
use Rattle.std.proofs.lemmas.List.Elements.{recursion_from_All}
use Rattle.ms_base.specs.State.{Machine}
use Rattle.ms_base.specs.Totals.{Sums, sums_of}
use Rattle.ms_base.specs.declared.step.Reply.{Reply}
use Rattle.ms_trace.specs.declared.trace.Command.{Command}
use Rattle.ms_trace.specs.declared.trace.Command.TheVariants.{Step as Asks, Sync, Report}
use Rattle.ms_trace.specs.declared.trace.Line.{Line}
use Rattle.ms_answers.specs.Details.{DetailSums, details_in, details_of, told_in}
use Rattle.ms_answers.specs.Sums.{sums_in}
use Rattle.ms_answers.specs.declared.verbosity.Verbosity.{Verbosity}
use Rattle.ms_answers.specs.declared.verbosity.Verbosity.TheVariants.{Basic, Full}
use Rattle.ms_answers.specs.declared.details.Details.{Details}
use Rattle.ms_answers.specs.declared.peaks.Peaks.{Peaks}
use Rattle.ms_answers.specs.declared.totals.Totals.{Totals}
use Rattle.ms_answers.specs.declared.replies.Answer.{Answer}
use Rattle.ms_report.specs.Detailed.{detailed_text}
use Rattle.ms_report.specs.Refused.{refusals_of}
use Rattle.ms_report.specs.declared.refused.Refusals.{Refusals}
use Rattle.ms_report.specs.ReplyLines.{report_after, later_text, answers_text}
use Rattle.ms_run.specs.Course.{Course, passed}
use Rattle.ms_run.specs.Peaks.{ArePeaks, ArePeaksIfKept}
use Rattle.ms_run.specs.Replay.{Answers, AreOf, HasVerbosity, IsDetailed, Reports}
use Rattle.ms_run.proofs.PeakLemmas.{any_peaks}
use Rattle.ms_session.specs.declared.asked.Options.{Options}
use Rattle.ms_session.specs.Session.{Follows, Outputs}

-- Details that are told, and right, are those of the machine.
told_right : (m : Machine) (details : Option Details) → IfSome details (λ its. details_in its ≡ details_of m)
    → is_some details ≡ true → option_map details_in details ≡ Some (details_of m)
told_right m None right some = absurd (cc)
told_right m (Some details) right some = ap (λ (its : DetailSums). Some its) right

-- So are peaks that are told.
peaks_told : (states : List Machine) (peaks : Option Peaks) → ArePeaksIfKept states peaks → is_some peaks ≡ true
    → (its : Peaks) × ArePeaks states its × (peaks ≡ Some its)
peaks_told states None right some = absurd (cc)
peaks_told states (Some peaks) right some = (peaks, right, refl)

-- The text of a report, with its details and peaks where it shall be full.
abbrev ReportText : Options → Verbosity → Refusals → Course → List ℕ → Type 0
ReportText options verbosity refusals course text =
    (peaks : Peaks) × ArePeaks (passed course) peaks
    × (text ≡ detailed_text verbosity options.settings refusals (sums_of course.state) (Some (details_of course.state))
    (Some peaks))

report_text_is : (options : Options) (refusals : Refusals) (course : Course) (totals : Totals) → AreOf course totals
    → (verbosity : Verbosity) → HasVerbosity verbosity totals
    → ReportText options verbosity refusals course
    (detailed_text verbosity options.settings refusals (sums_in totals) (told_in totals) totals.peaks)
report_text_is options refusals course totals its Basic has =
    let peaks = any_peaks course.state course.before in (
      peaks.0,
      peaks.1,
      ap (λ (sums : Sums). detailed_text Basic options.settings refusals sums (told_in totals) totals.peaks) its.sums,
    )
report_text_is options refusals course totals its Full has =
    let told = peaks_told (passed course) totals.peaks its.peaks has.peaks in (
      told.0,
      told.1,
      ap (λ (sums : Sums). detailed_text Full options.settings refusals sums (told_in totals) totals.peaks) its.sums
          ∙ ap (λ (details : Option DetailSums).
          detailed_text Full options.settings refusals (sums_of course.state) details totals.peaks)
          (told_right course.state totals.details its.details has.details)
          ∙ ap (detailed_text Full options.settings refusals (sums_of course.state) (Some (details_of course.state)))
          told.2,
    )

-- The text after an answer is what follows the reply to the command.
after_answer : (options : Options) (before : List Reply) (command : Command) (course : Course)
    (report : Option (Box Totals Global))
    → Reports command course report → IfSome report (λ totals. HasVerbosity options.verbosity totals.value)
    → Follows options before command course (report_after options.verbosity options.settings (refusals_of before) report)
after_answer options before (Asks step) course report none has =
    ap (report_after options.verbosity options.settings (refusals_of before)) none
after_answer options before Sync course report none has =
    ap (report_after options.verbosity options.settings (refusals_of before)) none
after_answer options before Report course None told has = absurd told
after_answer options before Report course (Some totals) told has =
    report_text_is options (refusals_of before) course totals.value told options.verbosity has

-- The lines of answers that come after replies are the output.
abbrev pub later_of : Options → List Reply → List Answer → List ℕ
later_of options before answers = later_text options.addresses options.verbosity options.settings before answers

outputs_later : (options : Options) (before : List Reply) (old new : Course) (lines : List Line)
    (answers : List Answer) → AllByRecursion (IsDetailed options.verbosity) answers
    → Answers old lines answers new → Outputs options before old lines (later_of options before answers) new
outputs_later options before old new [] answers has told = (ap (later_of options before) told.0, told.1)
outputs_later options before old new (line ∷ lines) [] has told = absurd told
outputs_later options before old new (line ∷ lines) (answer ∷ answers) has told = (
  answer.reply,
  report_after options.verbosity options.settings (refusals_of before) answer.report,
  later_of options (before ++ answer.reply ∷ []) answers,
  told.0,
  told.2,
  after_answer options before line.command told.0 answer.report told.3 has.0,
  rw told.1 refl,
  outputs_later options (before ++ answer.reply ∷ []) told.0 new lines answers has.1 told.4,
)

-- So are those of all.
abbrev pub output_of : Options → List Answer → List ℕ
output_of options answers = answers_text options.addresses options.verbosity options.settings answers

-- With one worker they are the output of a run.
pub run_outputs : (one : Type 0) (options : Options) (first : Course) (lines : List Line) (answers : List Answer)
    (output : List ℕ)
    → output ≡ output_of options answers → All (IsDetailed options.verbosity) answers
    → (one → (last : Course) × Answers first lines answers last)
    → one → (last : Course) × Outputs options [] first lines output last
run_outputs one options first lines answers output is detailed run alone =
    let ran = run alone in (
      ran.0,
      rw is (outputs_later options [] first ran.0 lines answers
          (recursion_from_All (IsDetailed options.verbosity) answers detailed) ran.1),
    )
