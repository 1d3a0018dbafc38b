use Rattle.std.proofs.Common.{ap, arith, length, ◌∙◌}
use Rattle.ms_blocks.specs.Classes.{all_of}
use Rattle.ms_blocks.proofs.ClassChangeLemmas.{lent_back}
use Rattle.ms_blocks.proofs.RankLemmas.{length_without, without_fit-none}
use Rattle.ms_blocks.proofs.store.take.Goals as goal

pub returns-in_err-fork-in-Many-clause-store : goal.returns-in_err-fork-in-Many-clause-store
returns-in_err-fork-in-Many-clause-store g c =
    let was = rw c.in-Many.is at c.requires.store in
    let none = rw c.as_mut_slice.ensures.value at c.in_err-fork-in-Many.ensures.found in
    rw (lent_back _ _ c.in-Many.trees.len _ c.take_in.new.trees was.0 c.take_in.ensures.trees c.in-Many.trees.ok.0) (
      c.take_in.ensures.trees,
      omega (
        arith,
        was.1,
        ap length (rw c.as_mut_slice.ensures.value at c.take_in.ensures.left
            ∙ without_fit-none (all_of c.in-Many.trees.items) c.args.words none),
      ),
    )

pub returns-in-Ok-clause-store : goal.returns-in-Ok-clause-store
returns-in-Ok-clause-store g c =
    let was = rw c.in-Many.is at c.requires.store in
    let found = rw c.as_mut_slice.ensures.value at c.in_ok-fork-in-Many.ensures.found in
    rw (lent_back _ _ c.in-Many.trees.len _ c.take_in.new.trees was.0 c.take_in.ensures.trees c.in-Many.trees.ok.0) (
      c.take_in.ensures.trees,
      omega (
        arith,
        was.1,
        c.in-Ok.ensures.len,
        c.in-Ok.ensures.capacity,
        ap length (rw c.as_mut_slice.ensures.value at c.take_in.ensures.left),
        length_without (all_of c.in-Many.trees.items) c.args.words c.in_ok-fork-in-Many.fork.value.block found,
      ),
    )
