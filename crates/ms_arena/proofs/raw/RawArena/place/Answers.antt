use Rattle.std.proofs.Common.{ap}
use Rattle.ms_arena.specs.Books.{BooksView}
use Rattle.ms_arena.proofs.RawLemmas.{gained}
use Rattle.ms_arena.proofs.raw.RawArena.place.Goals as goal

pub entered-block-requires-clause-ends : goal.entered-block-requires-clause-ends
entered-block-requires-clause-ends c = c.in-Some.ensures.awaits.ends

pub returns-in-Some-clause-gains : goal.returns-in-Some-clause-gains
returns-in-Some-clause-gains c = rw (← c.self.view_is)
    (gained c.self.inside.books c.made_room.new.books c.place.new.self c.self.inside.kind c.self.inside.count
    c.self.inside.total c.entered-block.new.count c.entered-block.new.total c.self.inside.words c.made_room.new.words
    c.entered-block.new.words c.entered-block.result c.in-Some.start c.in_ok-n.n
    c.in_ok-n.ensures.asked.some c.in_ok-n.ensures.books c.in_ok-n.ensures.words c.in-Some.ensures.awaits
    c.in-Some.ensures.chunks c.entered-block.ensures.opens
    c.entered-block.ensures.count c.entered-block.ensures.total c.entered-block.ensures.block
    (ap (λ (books : BooksView). books.owner) c.in-Some.ensures.others)
    (ap (λ (books : BooksView). books.space) c.in-Some.ensures.others))
