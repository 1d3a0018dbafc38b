-- What a newline that is stripped leaves.
use Rattle.std.proofs.Common.{◌≡◌, [], ◌∷◌, rules}
use Rattle.jvm_log.proofs.HearingLemmas.{trimmed_none, trimmed_some}
use Rattle.jvm_log.proofs.lines.trimmed.Goals as goal

pub returns-in-Some : goal.returns-in-Some
returns-in-Some c =
    let newline : c.as_slice.result.now ≡ 10 ∷ [] = search rules in
    trimmed_some c.args.line.now c.as_slice.result.now c.in-Some.front.now newline c.in-Some.ensures.cases.0
    c.in-Some.ensures.cases.1

pub returns-in-None : goal.returns-in-None
returns-in-None c =
    let newline : c.as_slice.result.now ≡ 10 ∷ [] = search rules in
    trimmed_none c.args.line.now c.as_slice.result.now newline c.in-None.ensures.cases
