use Rattle.std.specs.Arc.{arc_value}
use Rattle.ms_member.proofs.SeatedLemmas.{seated_still, serves_after_free}
use Rattle.ms_member.proofs.HostedLemmas.{hosts_freed}
use Rattle.ms_member.proofs.member.Member.free.Goals as goal

-- the seat serves the loader still
pub invariant_of-self : goal.invariant_of-self
invariant_of-self c = (
  seated_still (arc_value c.self.inside.shared) c.self.inside.seat c.self.inside.held c.self.inside.loader
      c.free_in.new.loader
      (serves_after_free c.args.block c.self.inside.loader c.free_in.new.loader c.free_in.result c.free_in.ensures)
      c.self.invariant.0,
  hosts_freed c.args.block c.self.inside.arenas c.self.inside.seat c.self.inside.held c.self.inside.loader
      c.free_in.new.loader c.free_in.result c.free_in.ensures c.self.invariant.1,
  c.self.invariant.2,
)
