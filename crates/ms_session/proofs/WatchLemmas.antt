-- A course that was gathered of a run. Used by `watching`.
use Rattle.std.proofs.Common.{◌≡◌, ◌∙◌, ◌≤◌, ◌<◌, ◌+◌, ◌⊎◌, ℕ, List, [], ◌∷◌, ◌++◌, Result, Ok, Err, Vec, Global}
use Rattle.std.proofs.Common.{ap, arith, inl, inr, length, length-append, map, refl, subst, suc, sym, zero}
use Rattle.std.specs.Prelude.{◌≢◌, IfOk, Some, slice_get}
use Rattle.std.proofs.lemmas.List.{length-map, map-append}
use Rattle.ms_base.specs.declared.settings.Settings.{Settings}
use Rattle.ms_base.specs.State.{Machine, limits_of, empty_machine}
use Rattle.ms_base.specs.Totals.{Sums, sums_of}
use Rattle.ms_course.specs.Gathering.{CourseView, Gathers, schedule_of}
use Rattle.ms_course.specs.declared.course.LoaderThen.{LoaderThen}
use Rattle.ms_course.specs.declared.moment.Moment.{Moment}
use Rattle.ms_course.specs.declared.schedule.Schedule.{Schedule}
use Rattle.ms_answers.specs.Sums.{row_in, sums_in}
use Rattle.ms_answers.specs.declared.replies.Answer.{Answer}
use Rattle.ms_answers.specs.declared.totals.LoaderRow.{LoaderRow}
use Rattle.ms_answers.specs.declared.totals.Totals.{Totals}
use Rattle.ms_run.specs.Course.{Course, begun}
use Rattle.ms_run.specs.Observing.{AreSeen, IsObserved, PutsAndSees}
use Rattle.ms_run.specs.Seeing.{Sight}
use Rattle.ms_trace.specs.declared.trace.Line.{Line}
use Rattle.ms_trace.specs.declared.trace.Trace.{Trace}
use Rattle.ms_session.specs.Charting.{moment_of, moments_of}
use Rattle.ms_session.specs.Watching.{IsWatched, Watches, first_unload, loader_then, loaders_after, loaders_if, loaders_then}
use Rattle.ms_session.specs.Watching.{then_in}
use Rattle.ms_session.specs.declared.watching.Watch.{Watch}

map_twice : {X Y Z : Type 0} (f : Y → Z) (g : X → Y) (xs : List X) → map f (map g xs) ≡ map (λ x. f (g x)) xs
map_twice f g [] = refl
map_twice {Z = Z} f g (x ∷ xs) = ap (λ (zs : List Z). f (g x) ∷ zs) (map_twice f g xs)

-- The loaders of the rows of totals are those of the metaspace.
pub loaders_listed : {A : Type 0} (totals : Totals) (rows : List LoaderRow) (state : Machine)
    (listed : Result (Vec LoaderThen Global) A) → rows ≡ totals.rows.items → sums_in totals ≡ sums_of state
    → IfOk listed (λ loaders. loaders.items ≡ map then_in rows)
    → IfOk listed (λ loaders. loaders.items ≡ loaders_then state)
loaders_listed totals rows state (Err why) same sums are = tt
loaders_listed totals rows state (Ok loaders) same sums are =
    are ∙ ap (map then_in) same ∙ sym (map_twice loader_then row_in totals.rows.items)
    ∙ ap (λ (all : Sums). map loader_then all.rows) sums

-- The loaders after so many lines, with one line more.
get_last : {X : Type 0} (xs : List X) (x : X) (i : ℕ) → i ≡ length xs → slice_get (xs ++ x ∷ []) i ≡ Some x
get_last [] x zero same = refl
get_last [] x (suc i) same = absurd (omega (arith, same))
get_last (y ∷ xs) x zero same = absurd (omega (arith, same))
get_last (y ∷ xs) x (suc i) same = get_last xs x i (omega (arith, same))

get_other : {X : Type 0} (xs : List X) (x : X) (i : ℕ) → i ≢ length xs → slice_get (xs ++ x ∷ []) i ≡ slice_get xs i
get_other [] x zero differs = absurd (differs refl)
get_other [] x (suc i) differs = refl
get_other (y ∷ xs) x zero differs = refl
get_other (y ∷ xs) x (suc i) differs = get_other xs x i (λ same. differs (ap suc same))

kept_now : (half : ℕ) (sights : List Sight) (sight : Sight) → length sights + 1 ≡ half
    → loaders_after half (sights ++ sight ∷ []) ≡ loaders_then sight.state
kept_now zero sights sight now = absurd (omega (arith, now))
kept_now (suc before) sights sight now = ap loaders_if (get_last sights sight before (omega (arith, now)))

kept_so : (half : ℕ) (sights : List Sight) (sight : Sight) → length sights + 1 ≢ half
    → loaders_after half (sights ++ sight ∷ []) ≡ loaders_after half sights
kept_so zero sights sight differs = refl
kept_so (suc before) sights sight differs =
    ap loaders_if (get_other sights sight before (λ same. differs (omega (arith, same))))

-- A course with other loaders half-way has gathered the same.
gathers_still : (course : CourseView) (kept : List LoaderThen) (moments : List Moment) → Gathers course moments
    → Gathers (record course { halfway = kept }) moments
gathers_still course kept moments gathers = record {
  lines = gathers.lines;
  columns = gathers.columns;
  refusals = gathers.refusals;
  before = gathers.before;
  after = gathers.after;
  births = gathers.births;
}

-- The loaders are kept where the line before was half-way, and else they stay.
abbrev pub KeepsHalf : CourseView → Sight → List LoaderThen → Type 0
KeepsHalf course sight kept =
    ((course.columns.answered ≡ course.schedule.half) × (kept ≡ loaders_then sight.state))
    ⊎ ((course.columns.answered ≢ course.schedule.half) × (kept ≡ course.halfway))

kept_after : (course : CourseView) (half : ℕ) (before : List Sight) (sight : Sight) (kept : List LoaderThen)
    → course.columns.answered ≡ length before + 1 → half ≡ course.schedule.half
    → course.halfway ≡ loaders_after half before → KeepsHalf course sight kept
    → kept ≡ loaders_after half (before ++ sight ∷ [])
kept_after course half before sight kept answered same so_far (inl now) =
    now.1 ∙ sym (kept_now half before sight (sym answered ∙ now.0 ∙ sym same))
kept_after course half before sight kept answered same so_far (inr other) =
    other.1 ∙ so_far ∙ sym (kept_so half before sight (λ now. other.0 (answered ∙ now ∙ same)))

-- One line more is seen.
pub watches_more : (first old pushed : CourseView) (before : List Sight) (sight : Sight) (moment : Moment)
    (kept : List LoaderThen) → moment_of sight ≡ moment
    → ((moments : List Moment) → length moments < old.schedule.lines → Gathers old moments
    → Gathers pushed (moments ++ moment ∷ []))
    → pushed.schedule ≡ old.schedule → pushed.halfway ≡ old.halfway
    → KeepsHalf pushed sight kept → Watches first old before
    → Watches first (record pushed { halfway = kept }) (before ++ sight ∷ [])
watches_more first old pushed before sight moment kept same gathers turns stays keeps so_far = record {
  schedule = turns ∙ so_far.schedule;
  gathered = λ none few. gathers_still pushed kept (moments_of (before ++ sight ∷ [])) (now none few);
  halfway = λ none few empty.
      kept_after pushed first.schedule.half before sight kept (answered none few)
      (sym (ap (λ (schedule : Schedule). schedule.half) (turns ∙ so_far.schedule)))
      (stays ∙ so_far.halfway none (earlier few) empty) keeps;
}
  where
    one_more : length (before ++ sight ∷ []) ≡ length before + 1
    one_more = length-append before (sight ∷ [])

    earlier : length (before ++ sight ∷ []) ≤ first.schedule.lines → length before ≤ first.schedule.lines
    earlier few = omega (arith, few, one_more)

    now : Gathers first [] → length (before ++ sight ∷ []) ≤ first.schedule.lines
        → Gathers pushed (moments_of (before ++ sight ∷ []))
    now none few =
        subst (λ (moments : List Moment). Gathers pushed moments)
        (ap (λ (m : Moment). moments_of before ++ m ∷ []) (sym same) ∙ sym (map-append moment_of before (sight ∷ [])))
        (gathers (moments_of before)
        (omega (
          arith,
          few,
          one_more,
          length-map before moment_of,
          ap (λ (schedule : Schedule). schedule.lines) so_far.schedule,
        ))
        (so_far.gathered none (earlier few)))

    answered : Gathers first [] → length (before ++ sight ∷ []) ≤ first.schedule.lines
        → pushed.columns.answered ≡ length before + 1
    answered none few =
        omega (
          arith,
          (now none few).columns.answered,
          (now none few).lines,
          length-map (before ++ sight ∷ []) moment_of,
          one_more,
          few,
          ap (λ (schedule : Schedule). schedule.lines) (turns ∙ so_far.schedule),
        )

kept_none : (half : ℕ) → loaders_after half [] ≡ []
kept_none zero = refl
kept_none (suc before) = refl

-- Each line is seen once.
each_once : (first last : Course) (lines : List Line) (answers : List Answer) (sights : List Sight)
    → AreSeen first lines answers sights last → length sights ≡ length lines
each_once first last [] answers sights seen = ap length seen.1
each_once first last (line ∷ lines) [] sights seen = absurd seen
each_once first last (line ∷ lines) (answer ∷ answers) [] seen = absurd seen
each_once first last (line ∷ lines) (answer ∷ answers) (sight ∷ sights) seen =
    ap suc (each_once seen.0 last lines answers sights seen.3)

-- What is seen is gathered in the course alone.
abbrev pub watches : Watch → Watch → List Sight → Type 0
watches first now sights = Watches first.course now.course sights

pub watched_is : {S : Type 0} (took : S → S → List Answer → Type 0) (settings : Settings) (trace : Trace) (none all : Watch)
    (sink sunk : S) (last : Totals) → Gathers none.course [] → none.course.halfway ≡ []
    → none.course.schedule ≡ schedule_of (length trace.lines) (first_unload trace.lines)
    → PutsAndSees took watches (λ answers sights. IsObserved (limits_of settings) trace.lines answers sights last) sink sunk none all
    → IsWatched settings trace all.course last
watched_is took settings trace none all sink sunk last empty keeps turns ran = record {
  answers = ran.0;
  sights = ran.1;
  observed = ran.4;
  gathered = seen.gathered empty few;
  schedule = seen.schedule ∙ turns;
  halfway = seen.halfway empty few keeps ∙ ap (λ (schedule : Schedule). loaders_after schedule.half ran.1) (sym seen.schedule);
}
  where
    seen : watches none all ran.1
    seen = ran.3 none [] (record { schedule = refl; gathered = λ nothing _. nothing; halfway = λ _ _ none. none ∙ sym (kept_none _) })

    each : length ran.1 ≡ length trace.lines
    each = each_once (begun (empty_machine (limits_of settings))) ran.4.last trace.lines ran.0 ran.1 ran.4.seen

    few : length ran.1 ≤ none.course.schedule.lines
    few = omega (arith, each, ap (λ (schedule : Schedule). schedule.lines) turns)
