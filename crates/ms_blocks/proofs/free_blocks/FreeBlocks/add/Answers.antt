use Rattle.std.proofs.Common.{◌≡◌, ◌+◌, ◌-◌, ◌≤◌, false, ap, subst, sym, arith}
use Rattle.ms_base.specs.declared.span.Block.{Block}
use Rattle.ms_base.specs.Interval.{meets_any}
use Rattle.ms_blocks.specs.FreeBlocks.{KeptBlocks, MayBeKept, run_of, by_start}
use Rattle.ms_blocks.specs.Store.{HasRoom, blocks_in}
use Rattle.ms_blocks.specs.Tended.{kept_blocks}
use Rattle.ms_blocks.specs.declared.free_blocks.FreeBlocks.TheInside.{Inside}
use Rattle.ms_blocks.proofs.TendedLemmas.{Adds, adds}
use Rattle.ms_blocks.proofs.free_blocks.FreeBlocks.add.Given.{Over}
use Rattle.ms_blocks.proofs.free_blocks.FreeBlocks.add.Goals as goal
use Rattle.ms_blocks.proofs.free_blocks.FreeBlocks.add.Goals.{After-insert}

-- What is asked of the block, said of the fields.
may : {A : Type 0} (f : Inside A) (now : KeptBlocks) (block : Block) → kept_blocks f ≡ now → 2 ≤ block.words
    → meets_any (run_of block) now.kept ≡ false
    → MayBeKept (by_start (blocks_in f.store)) (run_of block)
may f now block seen some apart = record {
  some = some;
  apart = subst (λ (blocks : KeptBlocks). meets_any (run_of block) blocks.kept ≡ false) (sym seen) apart;
}

-- What the addition makes of the fields.
added : (g : Over) (c : After-insert g) → Adds c.self.inside c.args.block (blocks_in c.insert.new.store)
added g c =
    let asked = may c.self.inside c.args.self.now c.args.block c.self.view_is
    c.requires.words c.requires.apart in
    adds c.self.inside c.args.block (blocks_in c.insert.new.store) c.self.invariant.blocks asked c.insert.ensures.blocks

pub invariant_of-self : goal.invariant_of-self
invariant_of-self g c =
    let f = c.self.inside in
    let room : f.room ≡ f.room - 1 + 1 =
    omega (arith, c.requires.room, ap (λ (kept : KeptBlocks). kept.room) c.self.view_is) in
    record {
      blocks = rw c.max-self-inside.ensures (added g (goal.at.invariant_of-self g c).After-insert).tended;
      store = c.insert.ensures.store;
      room = c.insert.ensures.room (f.room - 1) (subst (HasRoom f.store) room c.self.invariant.room);
      fits = omega (arith, c.self.invariant.fits, room);
    }

pub returns-clause-kept : goal.returns-clause-kept
returns-clause-kept g c = rw (← c.self.view_is) (added g (goal.at.returns-clause-kept g c).After-insert).runs
