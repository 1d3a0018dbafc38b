-- A log that is heard to its end is of no other release, and takes a conversion to its end. Used by `convert`.
use Rattle.std.proofs.Common.{◌≡◌, ℕ, ◌+◌, ◌++◌, List, [], ◌∷◌, Option, Some, None, Result, Ok, Err, ◌∙◌}
use Rattle.std.specs.List.{AllByRecursion}
use Rattle.std.specs.Prelude.{IfSome, OnOk}
use Rattle.std.proofs.Common.{subst, sym}
use Rattle.std.proofs.lemmas.List.Elements.{All-from_recursion}
use Rattle.jvm_log.specs.declared.event.Said.{Said}
use Rattle.jvm_log.specs.Following.{one_said, said_by}
use Rattle.jvm_log.specs.Hearing.{AreLines, HearsLine, HearsLines, HearsLog, trimmed}
use Rattle.jvm_log.specs.Reading.{said_in}
use Rattle.log_session.specs.declared.conversion.Conversion.{Conversion}
use Rattle.log_session.specs.declared.options.Options.{Options}
use Rattle.log_session.specs.Trace.{Converts, WritesTrace}
use Rattle.log_session.specs.UnderWay.{Begins, GoesOnHearing, Hears, IsUnderWay}
use Rattle.log_session.specs.Release.{IsNoOther, LineIsOfJdk17, LogIsOfJdk17}
use Rattle.log_session.proofs.UnderWayLemmas.{goes_nowhere, goes_on}

-- What each line of a log says shows no other release, and takes a conversion further.
abbrev heard : {E : Type 0} → Conversion E × Option (List ℕ) → ℕ → List ℕ → Said → Conversion E × Option (List ℕ) → Type 0
heard old number line said new = Hears old said new

stays_there : {E : Type 0} (old new : Conversion E × Option (List ℕ)) → new ≡ old → GoesOnHearing [] old new
stays_there old new same = subst (GoesOnHearing [] old) (sym same) (λ awaits. (awaits, goes_nowhere old))

hears_both : {E : Type 0} (first second : List Said) (old mid new : Conversion E × Option (List ℕ)) → GoesOnHearing first old mid
    → GoesOnHearing second mid new → GoesOnHearing (first ++ second) old new
hears_both first second old mid new hears then = λ awaits.
    let (mid_awaits, first_goes) = hears awaits in
    let (new_awaits, second_goes) = then mid_awaits in
    (new_awaits, goes_on first second old mid new first_goes second_goes)

line_is : {E : Type 0} (old new : Conversion E × Option (List ℕ)) (number : ℕ) (line : List ℕ) (said : Option Said)
    → HearsLine heard old number line said new → IsNoOther said × GoesOnHearing (one_said said) old new
line_is old new number line None same = (tt, stays_there old new same)
line_is old new number line (Some said) hears = hears

lines_are : {E : Type 0} (old new : Conversion E × Option (List ℕ)) (number : ℕ) (lines : List (List ℕ))
    → HearsLines heard old number lines new → AllByRecursion LineIsOfJdk17 lines × GoesOnHearing (said_by lines) old new
lines_are old new number [] same = (tt, stays_there old new same)
lines_are old new number (line ∷ lines) (mid, first, rest) =
    let here = line_is old mid number (trimmed line) (said_in (trimmed line)) first in
    let then = lines_are mid new (number + 1) lines rest in
    ((here.0, then.0), hears_both (one_said (said_in (trimmed line))) (said_by lines) old mid new here.1 then.1)

known_is : (text : Option (List ℕ)) (lines : List (List ℕ)) → IfSome text (λ bytes. AreLines bytes lines)
    → AllByRecursion LineIsOfJdk17 lines → IfSome text LogIsOfJdk17
known_is None lines are all = tt
known_is (Some text) lines are all = (lines, are, All-from_recursion LineIsOfJdk17 lines all)

pub log_is : {E : Type 0} (old new : Conversion E × Option (List ℕ)) (text : Option (List ℕ)) → HearsLog heard old text new
    → IfSome text LogIsOfJdk17
log_is old new text (lines, are, hears) = known_is text lines are (lines_are old new 1 lines hears).0

-- From the first line to the last.
pub converts : {E : Type 0} (options : Options) (old new : Conversion E) (log start bytes after : Option (List ℕ)) → Begins options old
    → HearsLog heard (old, start) log (new, bytes)
    → ((start : Option (List ℕ)) (said : List Said) → IsUnderWay start said (new, bytes) → WritesTrace new.options said start after)
    → Converts options log start after
converts options old new log start bytes after begins (lines, are, hears) writes =
    let goes = ((lines_are (old, start) (new, bytes) 1 lines hears).1 begins.awaits).1 in (
      lines,
      are,
      subst (λ (its : Options). WritesTrace its (said_by lines) start after) (goes.options ∙ begins.options_are)
          (writes start (said_by lines) (goes.comes start [] (begins.comes start))),
    )

-- What holds at all holds where a call succeeds.
pub on_success : {T E : Type 0} (result : Result T E) (P : Type 0) → P → OnOk result P
on_success (Ok value) P holds = holds
on_success (Err error) P holds = tt
