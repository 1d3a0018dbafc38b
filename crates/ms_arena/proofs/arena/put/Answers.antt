use Rattle.ms_base.proofs.entries.HashedLemmas.{new_by_name}
use Rattle.ms_arena.proofs.arena.put.Goals as goal

pub returns : goal.returns
returns c =
    new_by_name c.args.live.now.entries c.insert.new.self.entries c.args.start c.args.words
    c.in-Ok.ensures.updates.0
