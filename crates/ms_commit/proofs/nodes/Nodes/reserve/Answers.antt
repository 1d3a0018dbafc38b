use Rattle.std.proofs.Common.{arith}
use Rattle.ms_commit.specs.Keeping.{state_of}
use Rattle.ms_commit.proofs.NodesLemmas.{sound_reserve}
use Rattle.ms_commit.proofs.nodes.Nodes.reserve.Goals as goal

pub invariant_of-self : goal.invariant_of-self
invariant_of-self c = record {
  sound = sound_reserve (state_of c.self.inside) c.insert.new.self c.in-Some.slot c.self.invariant.sound
      c.insert.ensures.added c.insert.ensures.set
      (omega (arith, c.insert.ensures.counted c.in-Some.ensures.missing, c.self.invariant.reserved, c.if-self.true));
  reserved = omega (arith, c.insert.ensures.counted c.in-Some.ensures.missing, c.self.invariant.reserved);
  committed = c.self.invariant.committed;
  nodes = c.self.invariant.nodes;
  slot_is = c.self.invariant.slot_is;
  slot_some = c.self.invariant.slot_some;
  slot_few = c.self.invariant.slot_few;
}

pub returns-in-Some-clause-sound : goal.returns-in-Some-clause-sound
returns-in-Some-clause-sound c = (invariant_of-self c).sound
