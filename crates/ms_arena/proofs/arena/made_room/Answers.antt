use Rattle.std.proofs.Common.{◌∙◌, sym}
use Rattle.ms_base.specs.Hashed.{by_name}
use Rattle.ms_base.proofs.entries.HashedLemmas.{by_name_is, named_by_name, rises_by_name}
use Rattle.ms_arena.proofs.arena.made_room.Goals as goal

pub returns-in-Ok-clause-same : goal.returns-in-Ok-clause-same
returns-in-Ok-clause-same c =
    by_name_is c.reserve.new.self.entries (by_name c.args.live.now.entries) (rises_by_name c.args.live.now.entries)
    (λ name. c.reserve.ensures.entries.2 name ∙ sym (named_by_name c.args.live.now.entries name))
