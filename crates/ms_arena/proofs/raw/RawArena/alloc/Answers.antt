use Rattle.ms_arena.proofs.RawLemmas.{gained}
use Rattle.ms_arena.proofs.raw.RawArena.alloc.Goals as goal

pub entered-block-requires-clause-ends : goal.entered-block-requires-clause-ends
entered-block-requires-clause-ends g c = c.in_ok-start.ensures.looked.leaves.awaits.ends

pub returns-clause-gains : goal.returns-clause-gains
returns-clause-gains g c = rw (← c.self.view_is)
    (gained c.self.inside.books c.made_room.new.books c.start_of.new.books c.self.inside.kind c.self.inside.count
    c.self.inside.total c.entered-block.new.count c.entered-block.new.total c.self.inside.words c.made_room.new.words
    c.entered-block.new.words c.entered-block.result c.in_ok-start.start c.in_ok-n.n
    c.in_ok-n.ensures.asked.some c.in_ok-n.ensures.books c.in_ok-n.ensures.words
    c.in_ok-start.ensures.looked.leaves.awaits c.in_ok-start.ensures.looked.leaves.chunks
    c.entered-block.ensures.opens
    c.entered-block.ensures.count c.entered-block.ensures.total c.entered-block.ensures.block
    c.in_ok-start.ensures.looked.leaves.owner c.in_ok-start.ensures.looked.leaves.space)
