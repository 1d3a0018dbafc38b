-- What a stripped prefix leaves.
use Rattle.jvm_log.proofs.PartLemmas.{after_of}
use Rattle.jvm_log.proofs.parts.after.Goals as goal

pub returns : goal.returns
returns c = after_of c.args.word.now c.args.text.now c.strip_prefix.result c.strip_prefix.ensures.cases
