use Rattle.ms_arena.proofs.BookLemmas.{tops_set}
use Rattle.ms_arena.proofs.books.raise.Goals as goal

pub returns-clause-tops : goal.returns-clause-tops
returns-clause-tops c = tops_set c.args.tops.now.items c.args.index c.args.top c.requires.within
