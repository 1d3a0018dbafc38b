use Rattle.std.proofs.Common.{rules}
use Rattle.ms_base.proofs.entries.HashedLemmas.{named_by_name}
use Rattle.ms_arena.proofs.arena.is_live.Goals as goal

pub returns-in-Some : goal.returns-in-Some
returns-in-Some c =
    let named = named_by_name c.args.live.now.entries c.args.block.start in
    search rules

pub returns-in-None : goal.returns-in-None
returns-in-None c =
    let named = named_by_name c.args.live.now.entries c.args.block.start in
    search rules
