-- A text that begins with a word is the word and what stands after it.
use Rattle.std.proofs.lemmas.Bool.Decides.{Decides-eqb}
use Rattle.std.proofs.lemmas.Slice.Eq.{starts_is}
use Rattle.ms_trace.proofs.spellings.begins_with.Goals as goal

pub returns-clause-cut : goal.returns-clause-cut
returns-clause-cut c = (starts_is Decides-eqb c.args.text.now c.args.word.now _ c.starts_with.ensures.value).0
