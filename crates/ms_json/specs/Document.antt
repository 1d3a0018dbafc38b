-- The document of a run (this project's choice).
use Rattle.std.specs.Prelude.{◌≡◌, ℕ, ◌+◌, ◌==◌, Bool, true, false, not, List, [], ◌∷◌, ◌++◌, Option, Some, None, Box, codes}
use Rattle.std.specs.Prelude.{if◌then◌else◌, map}
use Rattle.std.specs.declared.alloc.Global.{Global}
use Rattle.serde_json.specs.Data.{Data, null, string}
use Rattle.serde_json.specs.View.{items_of}
use Rattle.serde_json.specs.Written.{items_text}
use Rattle.ms_base.specs.ReplyText.{reply_text}
use Rattle.ms_base.specs.Totals.{Sums}
use Rattle.ms_base.specs.declared.settings.Settings.{Settings}
use Rattle.ms_base.specs.declared.step.Reply.{Reply}
use Rattle.ms_base.specs.declared.step.Reply.TheVariants.{Ok as Done, At, Value, Refused}
use Rattle.ms_course.specs.declared.column.Column.{Column}
use Rattle.ms_answers.specs.Details.{DetailSums, told_in}
use Rattle.ms_answers.specs.Sums.{sums_in}
use Rattle.ms_answers.specs.declared.peaks.Peaks.{Peaks}
use Rattle.ms_answers.specs.declared.replies.Answer.{Answer}
use Rattle.ms_answers.specs.declared.totals.Totals.{Totals}
use Rattle.ms_report.specs.Refused.{refusals_of}
use Rattle.ms_report.specs.ReplyLines.{replies_in}
use Rattle.ms_report.specs.declared.refused.Refusals.{Refusals}
use Rattle.ms_json.specs.Names.{name_rows}
use Rattle.ms_json.specs.Rows.{Row, list_of, natural, object_of}
use Rattle.ms_json.specs.Series.{course_data}
use Rattle.ms_json.specs.Sums.{kinds_data, loader_data, peaks_data, refused_data, root_data, settings_data, spaces_data}
use Rattle.ms_json.specs.declared.naming.Named.{Named}
use Rattle.ms_json.specs.declared.run.Run.{Run}

-- A reply is told as `ok`.
abbrev pub is_done : Bool → Reply → Bool
is_done addresses Done = true
is_done addresses (At start) = not addresses
is_done addresses (Value value) = false
is_done addresses (Refused refusal) = false

-- An element of `answers`: the first and the last of some lines in a row, and the reply to each.
abbrev pub answer_data : ℕ → ℕ → List ℕ → Data
answer_data first last reply = list_of (natural first ∷ natural last ∷ string reply ∷ [])

abbrev pub run_data : Run → Data
run_data run = answer_data run.first run.last (codes "ok")

-- The run of lines that are told as `ok` which is still pending, if any, as an element.
abbrev pub closed : Option Run → List Data
closed None = []
closed (Some run) = run_data run ∷ []

-- A line that is told as `ok` lengthens the pending run if it comes next after it; else the run is
-- closed, and one of that line alone is pending.
abbrev pub with_line : Option Run → ℕ → List Data × Option Run
with_line None line = ([], Some (record { first = line; last = line }))
with_line (Some run) line =
    if run.last + 1 == line then ([], Some (record { first = run.first; last = line }))
    else (run_data run ∷ [], Some (record { first = line; last = line }))

-- The elements that are complete with an answer, and the run that is pending then: any other line
-- stands by itself.
abbrev pub told_by : Bool → Option Run → Answer → List Data × Option Run
told_by addresses pending answer =
    if is_done addresses answer.reply then with_line pending answer.line
    else (closed pending ++ answer_data answer.line answer.line (reply_text addresses answer.reply) ∷ [], None)

-- The elements of answers, of which a run may be pending before.
abbrev pub elements_after : Bool → Option Run → List Answer → List Data
elements_after addresses pending [] = closed pending
elements_after addresses pending (answer ∷ answers) =
    (told_by addresses pending answer).0 ++ elements_after addresses (told_by addresses pending answer).1 answers

-- What loaders hold and where it lies, where that is told.
abbrev pub loaders_data : Option DetailSums → Data
loaders_data None = null
loaders_data (Some details) = list_of (map loader_data details.loaders)

abbrev pub kinds_if : Option DetailSums → Data
kinds_if None = null
kinds_if (Some details) = kinds_data details.loaders

abbrev pub map_data : Option DetailSums → Data
map_data None = null
map_data (Some details) = list_of (map root_data details.roots)

abbrev pub peaks_told : Option Peaks → Data
peaks_told None = null
peaks_told (Some peaks) = peaks_data peaks

-- The number of the line that asked for a report; none asked for the state at the end.
abbrev pub line_data : Option ℕ → Data
line_data None = null
line_data (Some line) = natural line

-- The state of a machine, as a full report tells it.
abbrev pub state_data : Option ℕ → Refusals → Sums → Option DetailSums → Option Peaks → Data
state_data line refusals sums details peaks = object_of (
    (codes "kinds", kinds_if details)
    ∷ (codes "line", line_data line)
    ∷ (codes "loaders", loaders_data details)
    ∷ (codes "map", map_data details)
    ∷ (codes "peaks", peaks_told peaks)
    ∷ (codes "refused", refused_data refusals)
    ∷ (codes "spaces", spaces_data sums)
    ∷ [])

-- Totals as a state.
abbrev pub totals_data : Option ℕ → Refusals → Totals → Data
totals_data line refusals totals = state_data line refusals (sums_in totals) (told_in totals) totals.peaks

-- The states of answers that come after replies: one for each report.
abbrev pub reported : Refusals → ℕ → Option (Box Totals Global) → List Data
reported refusals line None = []
reported refusals line (Some totals) = totals_data (Some line) refusals totals.value ∷ []

abbrev pub states_after : List Reply → List Answer → List Data
states_after before [] = []
states_after before (answer ∷ answers) =
    reported (refusals_of before) answer.line answer.report ++ states_after (before ++ answer.reply ∷ []) answers

-- The members between `answers` and `reports`: the last are names, where a file says them.
abbrev pub middle_rows : ℕ → List Column → Refusals → Totals → List Named → List Row
middle_rows lines columns refusals end names =
    (codes "command lines", natural lines)
    ∷ (codes "course", course_data columns)
    ∷ (codes "end", totals_data None refusals end)
    ∷ (codes "form", string (codes "metarun 1"))
    ∷ name_rows names

-- Those after `reports`.
abbrev pub last_rows : Settings → List Row
last_rows settings = (codes "settings", settings_data settings) ∷ (codes "word bytes", natural 8) ∷ []

-- The document.
abbrev pub document : Bool → Settings → ℕ → List Answer → List Column → Totals → List Named → Data
document addresses settings lines answers columns end names = object_of (
    (codes "answers", list_of (elements_after addresses None answers))
    ∷ middle_rows lines columns (refusals_of (replies_in answers)) end names
    ++ (codes "reports", list_of (states_after [] answers))
    ∷ last_rows settings)

-- What there is of a document while answers come: the text of `answers` and of `reports` so far,
-- whether they have an element, the run that is pending, and the refusals so far.
pub record DocumentView : Type 0 where
  pub text : List ℕ
  pub later : Bool
  pub pending : Option Run
  pub reports : List ℕ
  pub more : Bool
  pub refusals : Refusals
  pub addresses : Bool

-- It tells these answers: whatever answers come after them, the text of all is what is there, and
-- then that of the elements that are still to come.
pub record Tells (first now : DocumentView) (answers : List Answer) : Type 0 where
  pub text : (after : List Answer)
      → first.text ++ items_text first.later (items_of (elements_after first.addresses first.pending (answers ++ after)))
      ≡ now.text ++ items_text now.later (items_of (elements_after now.addresses now.pending after))
  pub reports : (after : List Answer)
      → first.reports ++ items_text first.more (items_of (states_after [] (answers ++ after)))
      ≡ now.reports ++ items_text now.more (items_of (states_after (replies_in answers) after))
  pub refusals : now.refusals ≡ refusals_of (replies_in answers)
  pub addresses : now.addresses ≡ first.addresses

-- A document of no answer.
abbrev pub no_answer : Bool → DocumentView
no_answer addresses = record {
  text = codes "{\"answers\":[";
  later = false;
  pending = None;
  reports = [];
  more = false;
  refusals = refusals_of [];
  addresses = addresses;
}
