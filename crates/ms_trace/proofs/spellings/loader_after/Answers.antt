-- The number is read where the word ends, before the text does.
use Rattle.ms_trace.proofs.EndLemmas.{word_inside}
use Rattle.ms_trace.proofs.spellings.loader_after.Goals as goal

pub number_at-requires-clause-inside : goal.number_at-requires-clause-inside
number_at-requires-clause-inside c =
    word_inside c.args.text.now c.args.word.now _ (c.begins_with.ensures.cut c.if-not-begins_with.false)
    c.requires.unended c.requires.ended
