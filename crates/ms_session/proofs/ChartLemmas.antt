-- Columns that show what was seen of a run, and its document. Used by `charting` and `session`.
use Rattle.std.proofs.Common.{◌≡◌, ◌≢◌, ◌∙◌, ℕ, Bool, List, [], ◌∷◌, ◌++◌, None, ap, codes, length, map, refl, subst, sym}
use Rattle.std.proofs.lemmas.List.{map-append}
use Rattle.serde_json.specs.Written.{compact_text}
use Rattle.ms_base.specs.State.{Machine, limits_of}
use Rattle.ms_base.specs.declared.step.Reply.{Reply}
use Rattle.ms_course.specs.Course.{ColumnsView, Shows}
use Rattle.ms_course.specs.Standing.{standing_of}
use Rattle.ms_course.specs.declared.column.Column.{Column}
use Rattle.ms_course.specs.declared.moment.Moment.{Moment}
use Rattle.ms_course.specs.declared.standing.Standing.{Standing}
use Rattle.ms_json.specs.Document.{DocumentView, Tells, document, no_answer}
use Rattle.ms_json.proofs.DocumentLemmas.{tells_none}
use Rattle.ms_answers.specs.declared.replies.Answer.{Answer}
use Rattle.ms_answers.specs.declared.totals.Totals.{Totals}
use Rattle.ms_run.specs.Observing.{IsObserved, PutsAndSees}
use Rattle.ms_run.specs.Seeing.{Sight, sight_of}
use Rattle.ms_trace.specs.declared.trace.Line.{Line}
use Rattle.ms_trace.specs.declared.trace.Trace.{Trace}
use Rattle.ms_json.specs.declared.naming.Named.{Named}
use Rattle.ms_session.specs.Charting.{Charts, moment_by, moment_of, moments_of}
use Rattle.ms_session.specs.Naming.{line_of, made_in}
use Rattle.ms_session.specs.Session.{IsDocument}
use Rattle.ms_session.specs.declared.asked.Options.{Options}
use Rattle.ms_session.specs.declared.charting.Chart.{Chart}

-- The moment after a line that was seen, where it is the line's and the metaspace stood so.
pub moment_is : (line : Line) (reply : Reply) (state : Machine) (moment : Moment) (standing : Standing)
    → moment ≡ moment_by line reply standing → standing ≡ standing_of state
    → moment_of (sight_of line reply state) ≡ moment
moment_is line reply state moment standing same stands = sym (same ∙ ap (moment_by line reply) stands)

-- One line more is seen.
pub charts_more : (first old new : ColumnsView) (before : List Sight) (sight : Sight) (moment : Moment)
    → moment_of sight ≡ moment
    → ((moments : List Moment) → Shows old moments → Shows new (moments ++ moment ∷ []))
    → new.lines ≡ old.lines → Charts first old before → Charts first new (before ++ sight ∷ [])
charts_more first old new before sight moment same shows lines so_far = record {
  lines = lines ∙ so_far.lines;
  shown = λ none.
      subst (λ (moments : List Moment). Shows new moments)
      (ap (λ (m : Moment). moments_of before ++ m ∷ []) (sym same) ∙ sym (map-append moment_of before (sight ∷ [])))
      (shows (moments_of before) (so_far.shown none));
}

-- What columns show is told by a record of them alone.
abbrev pub charts : Chart → Chart → List Sight → Type 0
charts first now sights = Charts first.columns now.columns sights

-- The document of a run whose answers a document took and whose lines a chart saw.
pub document_is : (options : Options) (trace : Trace) (empty full : DocumentView) (none all : Chart) (last : Totals)
    (count : ℕ) (columns : List Column) (names : List Named) (output : List ℕ)
    → empty ≡ no_answer options.addresses → Shows none.columns [] → none.columns.lines ≡ length trace.lines
    → PutsAndSees Tells charts
    (λ answers sights. IsObserved (limits_of options.settings) trace.lines answers sights last) empty full none all
    → count ≡ length trace.lines → columns ≡ all.columns.columns
    → (options.names ≡ None → names ≡ []) → (options.names ≢ None → map line_of names ≡ made_in trace.lines)
    → ((answers : List Answer) → Tells (no_answer full.addresses) full answers
    → output ≡ compact_text (document full.addresses options.settings count answers columns last names) ++ codes "\n")
    → IsDocument options trace output
document_is options trace empty full none all last count columns names output begins shows lines ran counts are unnamed named finished = record {
  answers = ran.0;
  sights = ran.1;
  columns = all.columns;
  last = last;
  observed = ran.4;
  shown = seen.shown shows;
  lines = seen.lines ∙ lines;
  names = names;
  unnamed = unnamed;
  named = named;
  output_is =
      subst (λ (b : Bool). output ≡ text_of b count columns) told.addresses
      (finished ran.0 (subst (λ (b : Bool). Tells (no_answer b) full ran.0) (sym told.addresses) told))
      ∙ ap (λ (n : ℕ). text_of options.addresses n columns) counts
      ∙ ap (λ (list : List Column). text_of options.addresses (length trace.lines) list) are;
}
  where
    text_of : Bool → ℕ → List Column → List ℕ
    text_of addresses number list =
        compact_text (document addresses options.settings number ran.0 list last names) ++ codes "\n"

    told : Tells (no_answer options.addresses) full ran.0
    told = ran.2 (no_answer options.addresses) []
        (subst (λ (d : DocumentView). Tells (no_answer options.addresses) d []) (sym begins) (tells_none options.addresses))

    seen : charts none all ran.1
    seen = ran.3 none [] (record { lines = refl; shown = λ nothing. nothing })
