-- Answers whose reports have details as they are asked for. Those of steps have no report. `alone`,
-- `between`, `phase` and `replaying` use these.
use Rattle.std.proofs.Common.{◌≡◌, List, [], ◌∷◌, ◌++◌, Option, None, Box, Global, sym, subst}
use Rattle.std.specs.Prelude.{IfSome}
use Rattle.std.specs.List.{All, AllByRecursion}
use Rattle.std.proofs.lemmas.List.Elements.{All-append, All-from_recursion}
use Rattle.ms_trace.specs.declared.trace.Line.{Line}
use Rattle.ms_answers.specs.declared.verbosity.Verbosity.{Verbosity}
use Rattle.ms_answers.specs.declared.totals.Totals.{Totals}
use Rattle.ms_answers.specs.declared.replies.Answer.{Answer}
use Rattle.ms_base.specs.Run.Own.{Said}
use Rattle.ms_run.specs.Replay.{AreSaid, HasVerbosity, IsDetailed}

-- An answer without a report, and one more of them.
pub plain : (verbosity : Verbosity) (answer : Answer) → answer.report ≡ None → IsDetailed verbosity answer
plain verbosity answer none =
    subst (λ (report : Option (Box Totals Global)). IfSome report (λ totals. HasVerbosity verbosity totals.value)) (sym none)
    tt

pub one_detailed : (verbosity : Verbosity) (answers : List Answer) (answer : Answer) → IsDetailed verbosity answer
    → All (IsDetailed verbosity) answers → All (IsDetailed verbosity) (answers ++ answer ∷ [])
one_detailed verbosity answers answer its so_far =
    All-append (IsDetailed verbosity) answers (answer ∷ []) so_far
    (All-from_recursion (IsDetailed verbosity) (answer ∷ []) (its, tt))

-- Those of lines that ask steps.
plain_by : (verbosity : Verbosity) (lines : List Line) (answers : List Answer) (said : List Said)
    → AreSaid lines answers said → AllByRecursion (IsDetailed verbosity) answers
plain_by verbosity [] [] [] told = tt
plain_by verbosity [] [] (s ∷ said) told = absurd told
plain_by verbosity [] (answer ∷ answers) [] told = absurd told
plain_by verbosity [] (answer ∷ answers) (s ∷ said) told = absurd told
plain_by verbosity (line ∷ lines) [] said told = tt
plain_by verbosity (line ∷ lines) (answer ∷ answers) [] told = absurd told
plain_by verbosity (line ∷ lines) (answer ∷ answers) (s ∷ said) told =
    (plain verbosity answer told.3, plain_by verbosity lines answers said told.4)

pub said_detailed : (verbosity : Verbosity) (lines : List Line) (added : List Answer) (said : List Said)
    → AreSaid lines added said → All (IsDetailed verbosity) added
said_detailed verbosity lines added said told =
    All-from_recursion (IsDetailed verbosity) added (plain_by verbosity lines added said told)
