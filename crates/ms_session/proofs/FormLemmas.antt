-- What is written in a form, and how a run of one fails. Used by `answer_to` and what it calls.
use Rattle.std.proofs.Common.{◌≡◌, ◌≤◌, ◌<◌, ◌+◌, ℕ, List, [], ◌∷◌, Option, Some, None, Result, Ok, Err, arith, length, sym}
use Rattle.std.proofs.Common.{◌&&◌, true, subst, ltb, leb}
use Rattle.std.specs.Prelude.{IfErr, IfOk, IfSome}
use Rattle.std.proofs.lemmas.Bool.{and_parts, ltb-true, leb-true}
use Rattle.ms_run.specs.Replay.{IsWanting}
use Rattle.ms_run.specs.declared.fault.RunFault.{RunFault}
use Rattle.ms_run.specs.declared.fault.RunFault.TheVariants as run
use Rattle.ms_trace.specs.Spelling.{ReadsAs, rises_above}
use Rattle.ms_trace.specs.declared.trace.Line.{Line}
use Rattle.ms_trace.specs.declared.trace.Trace.{Trace}
use Rattle.ms_session.specs.Failure.{Blames, IsPageless, IsSettled, IsWant, failure_of_running}
use Rattle.ms_session.specs.Session.{IsIn, IsOutput, IsWhole}
use Rattle.ms_session.specs.declared.asked.Form.{Form}
use Rattle.ms_session.specs.declared.asked.Form.TheVariants as form
use Rattle.ms_session.specs.declared.asked.Options.{Options}
use Rattle.ms_session.specs.declared.failure.Failure.{Failure}
use Rattle.ms_session.specs.declared.failure.Failure.TheVariants as failure

-- What a trace gives in the form that is asked for answers the whole input.
pub answers_whole : {S : Type 0} (bytes_of : S → List ℕ) (options : Options) (form : Form) (old left : Option (List ℕ))
    (text : List ℕ) (trace : Trace) (given : Result S Failure)
    → options.form ≡ form → IsWhole old left text → ReadsAs options.max_lines text trace
    → IfOk given (λ written. IsIn form options trace (bytes_of written))
    → IfOk given (λ written. (bytes : List ℕ) × IsWhole old left bytes × IsOutput options bytes (bytes_of written))
answers_whole bytes_of options form old left text trace (Ok written) same whole reads is = (
  text,
  whole,
  record {
    trace = trace;
    reads = reads;
    output_is = subst (λ (f : Form). IsIn f options trace (bytes_of written)) (sym same) is;
  },
)
answers_whole bytes_of options form old left text trace (Err why) same whole reads is = tt

-- A page is one whatever its text is.
pub any_page : {S : Type 0} (bytes_of : S → List ℕ) (options : Options) (trace : Trace) (given : Result S Failure)
    → IfOk given (λ written. IsIn form.Html options trace (bytes_of written))
any_page bytes_of options trace (Ok written) = tt
any_page bytes_of options trace (Err why) = tt

-- Want is no fault of the trace, nor is a file of names, and it leaves no account open.
pub pageless_blames : {S : Type 0} (limit : ℕ) (old : Option (List ℕ)) (given : Result S Failure)
    → IfErr given IsPageless → IfErr given (λ why. IfSome old (λ bytes. Blames limit bytes why))
pageless_blames limit old (Ok written) pageless = tt
pageless_blames limit None (Err why) pageless = tt
pageless_blames limit (Some bytes) (Err failure.OutOfMemory) pageless = tt
pageless_blames limit (Some bytes) (Err failure.NoThread) pageless = tt
pageless_blames limit (Some bytes) (Err (failure.Fault fault)) pageless = absurd pageless
pageless_blames limit (Some bytes) (Err (failure.Unsettled opened gathered)) pageless = absurd pageless
pageless_blames limit (Some bytes) (Err failure.Input) pageless = absurd pageless
pageless_blames limit (Some bytes) (Err failure.NamesFile) pageless = tt
pageless_blames limit (Some bytes) (Err (failure.Misnamed line)) pageless = tt
pageless_blames limit (Some bytes) (Err failure.Output) pageless = absurd pageless

pub pageless_settles : {S : Type 0} (given : Result S Failure) → IfErr given IsPageless → IfErr given IsSettled
pageless_settles (Ok written) pageless = tt
pageless_settles (Err failure.OutOfMemory) pageless = tt
pageless_settles (Err failure.NoThread) pageless = tt
pageless_settles (Err (failure.Fault fault)) pageless = absurd pageless
pageless_settles (Err (failure.Unsettled opened gathered)) pageless = absurd pageless
pageless_settles (Err failure.Input) pageless = absurd pageless
pageless_settles (Err failure.NamesFile) pageless = tt
pageless_settles (Err (failure.Misnamed line)) pageless = tt
pageless_settles (Err failure.Output) pageless = absurd pageless

-- A replay that fails is in want.
pub run_wants : (fault : RunFault) → IsWanting fault → IsWant (failure_of_running fault)
run_wants run.OutOfMemory want = tt
run_wants run.NoThread want = tt
run_wants (run.Unsettled opened gathered) want = absurd want

-- Lines whose numbers rise up to a limit are no more than that.
few_rise : (most number : ℕ) (lines : List Line) → number ≤ most → rises_above most number lines ≡ true
    → length lines + number ≤ most
few_rise most number [] within rises = omega (arith, within)
few_rise most number (line ∷ lines) within rises =
    let parts : ((ltb number line.number && leb line.number most) ≡ true) × (rises_above most line.number lines ≡ true) =
    and_parts _ _ rises in
    let bounds : (ltb number line.number ≡ true) × (leb line.number most ≡ true) = and_parts _ _ parts.0 in
    let low : number < line.number = ltb-true _ _ bounds.0 in
    let high : line.number ≤ most = leb-true _ _ bounds.1 in
    let later : length lines + line.number ≤ most = few_rise most line.number lines high parts.1 in
    omega (arith, low, later)

pub few_lines : (most : ℕ) (lines : List Line) → rises_above most 0 lines ≡ true → length lines ≤ most
few_lines most lines rises =
    let few : length lines + 0 ≤ most = few_rise most 0 lines (omega arith) rises in omega (arith, few)
