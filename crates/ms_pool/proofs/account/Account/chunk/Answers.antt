use Rattle.std.proofs.Common.{◌<◌, length}
use Rattle.ms_pool.proofs.growths.GrowingLemmas.{found_at}
use Rattle.ms_pool.proofs.account.Account.chunk.Goals as goal

pub returns : goal.returns
returns c =
    let within : c.args.index < length c.self.inside.chunks.items = rw (← c.self.view_is) at c.requires in
    rw (← c.self.view_is) (found_at c.self.inside.chunks.items c.args.index _ within c.index.ensures)
