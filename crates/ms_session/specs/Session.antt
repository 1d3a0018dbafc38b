-- What a session writes for a trace (this project's choice).
use Rattle.std.specs.Prelude.{⊤, ◌≡◌, ◌≢◌, ◌⊎◌, ℕ, List, [], ◌∷◌, ◌++◌, Option, None, Some, IfSome, codes, length, map, take}
use Rattle.std.specs.Io.KnownBytes.{Appends, IsAtEnd, Keeps}
use Rattle.std.specs.List.{All}
use Rattle.ms_base.specs.declared.step.Reply.{Reply}
use Rattle.ms_base.specs.State.{empty_machine, limits_of}
use Rattle.ms_base.specs.ReplyText.{reply_line}
use Rattle.ms_base.specs.Totals.{sums_of}
use Rattle.ms_trace.specs.declared.trace.Command.{Command}
use Rattle.ms_trace.specs.declared.trace.Command.TheVariants.{Report}
use Rattle.ms_trace.specs.declared.trace.Line.{Line}
use Rattle.ms_trace.specs.declared.trace.Trace.{Trace}
use Rattle.ms_trace.specs.Spelling.{ReadsAs}
use Rattle.ms_trace.specs.Steps.{step_of}
use Rattle.ms_answers.specs.Details.{details_of}
use Rattle.ms_answers.specs.declared.peaks.Peaks.{Peaks}
use Rattle.ms_answers.specs.declared.replies.Answer.{Answer}
use Rattle.ms_report.specs.Detailed.{detailed_text}
use Rattle.ms_report.specs.Refused.{refusals_of}
use Rattle.ms_report.specs.ReplyLines.{answers_text}
use Rattle.ms_answers.specs.declared.totals.Totals.{Totals}
use Rattle.serde_json.specs.Written.{compact_text}
use Rattle.ms_course.specs.Course.{ColumnsView, Shows}
use Rattle.ms_json.specs.Document.{document}
use Rattle.ms_json.specs.declared.naming.Named.{Named}
use Rattle.ms_run.specs.Course.{Course, begun, passed}
use Rattle.ms_run.specs.Peaks.{ArePeaks}
use Rattle.ms_run.specs.Observing.{IsObserved}
use Rattle.ms_run.specs.Replay.{Advances, IsDetailed, IsReplay}
use Rattle.ms_run.specs.Seeing.{Sight}
use Rattle.ms_session.specs.Charting.{moments_of}
use Rattle.ms_session.specs.Naming.{line_of, made_in}
use Rattle.ms_session.specs.declared.asked.Form.{Form}
use Rattle.ms_session.specs.declared.asked.Form.TheVariants.{Text, Html, Json}
use Rattle.ms_session.specs.declared.asked.Options.{Options}

-- What follows the reply to a command, before which these replies were given: where a report is
-- asked for that of the machine, of the verbosity that the options say, and with the peaks of all
-- states passed.
abbrev pub Follows : Options → List Reply → Command → Course → List ℕ → Type 0
Follows options before Report course text =
    (peaks : Peaks) × ArePeaks (passed course) peaks
    × (text ≡ detailed_text options.verbosity options.settings (refusals_of before) (sums_of course.state)
    (Some (details_of course.state)) (Some peaks))
Follows options before _ course text = text ≡ []

-- The output for the lines of a trace that come after those replies: the machine runs from old to
-- new, and each command has its reply's line, a report after it.
abbrev pub Outputs : Options → List Reply → Course → List Line → List ℕ → Course → Type 0
Outputs options before old [] output new = (output ≡ []) × (new ≡ old)
Outputs options before old (line ∷ lines) output new =
    (reply : Reply) × (report rest : List ℕ) × (mid : Course)
    × Advances (step_of line.command) old reply mid
    × Follows options before line.command mid report
    × (output ≡ reply_line options.addresses line.number reply ++ report ++ rest)
    × Outputs options (before ++ reply ∷ []) mid lines rest new

-- The output is the text of the answers to a trace, and a part of names after it where a file of names is
-- asked for. The trace is answered phase by phase, the lines of each
-- in some order one run of the machine, each line by the worker whose turn it is, and a report by the
-- totals of the state reached, with details where the options ask for them; with one worker the
-- machine runs through all commands in their order from the empty state.
pub record IsText (options : Options) (trace : Trace) (output : List ℕ) : Type 0 where
  pub answers : List Answer
  pub own : IsReplay (limits_of options.settings) options.settings.workers trace.lines answers
  pub detailed : All (IsDetailed options.verbosity) answers
  pub text : List ℕ
  pub text_is : text ≡ answers_text options.addresses options.verbosity options.settings answers
  pub names : List ℕ
  pub unnamed : options.names ≡ None → names ≡ []
  pub output_is : output ≡ text ++ names
  pub run : options.settings.workers ≡ 1
      → (last : Course) × Outputs options [] (begun (empty_machine (limits_of options.settings))) trace.lines text last

-- The output is one document and a newline: that of the answers of one worker, who runs through all
-- commands in their order from the empty state with full reports; of columns that show each state
-- that is reached so; of the totals of the last; and of a name for each `new` line, where a file of names
-- is asked for.
pub record IsDocument (options : Options) (trace : Trace) (output : List ℕ) : Type 0 where
  pub answers : List Answer
  pub sights : List Sight
  pub columns : ColumnsView
  pub last : Totals
  pub observed : IsObserved (limits_of options.settings) trace.lines answers sights last
  pub shown : Shows columns (moments_of sights)
  pub lines : columns.lines ≡ length trace.lines
  pub names : List Named
  pub unnamed : options.names ≡ None → names ≡ []
  pub named : options.names ≢ None → map line_of names ≡ made_in trace.lines
  pub output_is : output
      ≡ compact_text (document options.addresses options.settings (length trace.lines) answers columns.columns last names)
      ++ codes "\n"

-- What a trace gives in a form. No clause speaks of a page's text: `watched` says of which run its course and
-- totals are, and `ms_page` which values it shows of them.
abbrev pub IsIn : Form → Options → Trace → List ℕ → Type 0
IsIn Text options trace output = IsText options trace output
IsIn Html options trace output = ⊤
IsIn Json options trace output = IsDocument options trace output

-- The output is what a session with these options writes for the text: the text reads as a trace of no
-- more lines than the options allow, and the output is what that gives in the form that is asked for.
pub record IsOutput (options : Options) (text output : List ℕ) : Type 0 where
  pub trace : Trace
  pub reads : ReadsAs options.max_lines text trace
  pub output_is : IsIn options.form options trace output

-- The text is all that a reader had to give, where it tells its bytes, and then nothing is left to
-- read.
pub record IsWhole (input left : Option (List ℕ)) (text : List ℕ) : Type 0 where
  pub all : IfSome input (λ bytes. bytes ≡ text)
  pub ended : IsAtEnd left

-- There is a text, all of the input, and the output has grown by what a session writes for it.
pub record IsAnswered (options : Options) (input left old new : Option (List ℕ)) : Type 0 where
  pub text : List ℕ
  pub written : List ℕ
  pub whole : IsWhole input left text
  pub output : IsOutput options text written
  pub out : Appends old new written

-- There is a text, all of the input, and the output has grown by the beginning of what a session
-- writes for it.
pub record IsCutShort (options : Options) (input left old new : Option (List ℕ)) : Type 0 where
  pub text : List ℕ
  pub written : List ℕ
  pub count : ℕ
  pub whole : IsWhole input left text
  pub output : IsOutput options text written
  pub out : Appends old new (take count written)

-- What a session leaves on an output where a device fails: the output as it was, which it is unless
-- all of the input was read, or with the beginning of what it writes for that.
abbrev pub IsBrokenOff : Options → Option (List ℕ) → Option (List ℕ) → Option (List ℕ) → Option (List ℕ) → Type 0
IsBrokenOff options input left old new = Keeps old new ⊎ IsCutShort options input left old new
