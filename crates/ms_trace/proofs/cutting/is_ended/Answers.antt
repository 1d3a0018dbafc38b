use Rattle.std.proofs.Common.{sym, arith, length, ◌<◌}
use Rattle.std.proofs.lemmas.Bool.Decides.{nat_tests}
use Rattle.ms_trace.proofs.EndLemmas.{is_ended-last}
use Rattle.ms_trace.proofs.cutting.is_ended.Goals as goal

pub returns-then-not-is_empty : goal.returns-then-not-is_empty
returns-then-not-is_empty c =
    let some : 0 < length c.args.text.now = grind (arith, nat_tests, c.is_empty.ensures, c.if-not-is_empty.true) in
    sym (is_ended-last c.args.text.now some)
