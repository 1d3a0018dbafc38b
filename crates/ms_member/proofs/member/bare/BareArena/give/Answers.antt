use Rattle.ms_member.proofs.BareLemmas.{may_free, frees_live}
use Rattle.ms_member.proofs.member.bare.BareArena.give.Goals as goal

-- the block may be live, so it may be freed
pub free-requires : goal.free-requires
free-requires c =
    let may = may_free c.self.inside.raw c.args.block (rw c.self.view_is c.requires) in
    record { some = may.some; awaits = may.awaits }

pub returns : goal.returns
returns c = rw (← c.self.view_is) (frees_live c.self.inside.raw c.free.new.self c.args.block c.free.ensures)
