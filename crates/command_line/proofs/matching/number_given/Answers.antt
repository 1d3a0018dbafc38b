use Rattle.std.proofs.Common.{◌∙◌}
use Rattle.std.specs.Str.Parse.{ParsesUnsigned, ExplainsUnsignedError, HasUnsignedDigitsIfOk}
use Rattle.clap.specs.Words.{found_of}
use Rattle.clap.proofs.WalkLemmas.{one_text-rows}
use Rattle.command_line.proofs.NumeralLemmas.{numeral_is_read}
use Rattle.command_line.proofs.matching.number_given.Goals as goal

pub returns-clause-absent : goal.returns-clause-absent
returns-clause-absent c = λ none.
    c.get_one.ensures.none (one_text-rows (found_of c.args.matches.now) c.args.id.now ∙ none)

pub returns-clause-given : goal.returns-clause-given
returns-clause-given c = λ text found digits small.
    numeral_is_read _ (λ bs r. ParsesUnsigned 64 10 bs r × ExplainsUnsignedError 10 bs r × HasUnsignedDigitsIfOk bs r)
    text
    c.get_one.result digits small (λ parsed gives. gives.0) (c.get_one.ensures.value text
    (one_text-rows (found_of c.args.matches.now) c.args.id.now ∙ found))
