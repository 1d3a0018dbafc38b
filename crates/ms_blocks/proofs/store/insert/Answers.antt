use Rattle.std.proofs.Common.{ap, arith, length}
use Rattle.ms_blocks.specs.Classes.{all_of}
use Rattle.ms_blocks.proofs.ClassChangeLemmas.{lent_back}
use Rattle.ms_blocks.proofs.RankLemmas.{length_with}
use Rattle.ms_blocks.proofs.store.insert.Goals as goal

pub returns-in-Some-clause-store : goal.returns-in-Some-clause-store
returns-in-Some-clause-store g c =
    let was = rw c.in-Many.is at c.requires.store in
    rw (lent_back _ _ c.in-Many.trees.len _ c.insert_in.new.trees was.0 c.insert_in.ensures.trees c.in-Many.trees.ok.0) (
      c.insert_in.ensures.trees,
      omega (
        arith,
        was.1,
        c.pop.ensures.capacity,
        c.in-Some.ensures.cases,
        ap length (rw c.as_mut_slice.ensures.value at c.insert_in.ensures.blocks),
        length_with (all_of c.in-Many.trees.items) c.args.block,
      ),
    )
