use Rattle.std.proofs.Common.{◌∙◌}
use Rattle.clap.specs.Words.{found_of}
use Rattle.clap.proofs.WalkLemmas.{one_text-rows}
use Rattle.ms_session.proofs.options.flag_in.Goals as goal

pub returns : goal.returns
returns c =
    let found = found_of c.args.matches.now in
    let id = c.args.id.now in
    record {
      absent = λ text. c.get_flag.ensures.none (one_text-rows found id ∙ text);
      unused = λ text. c.get_flag.ensures.other (one_text-rows found id ∙ text);
      used = λ text. c.get_flag.ensures.value (one_text-rows found id ∙ text);
    }
