use Rattle.std.proofs.Common.{◌≡◌, ◌^◌, ◌%◌, arith, subst}
use Rattle.ms_blocks.specs.FreeBlocks.{KeptBlocks, AreKept, LieFrom, by_start, words_in}
use Rattle.ms_blocks.specs.Store.{blocks_in}
use Rattle.ms_blocks.proofs.free_blocks.FreeBlocks.total.Goals as goal
use Rattle.ms_blocks.proofs.LaidLemmas.{laid_are_kept, words_fit}

pub returns-clause-apart : goal.returns-clause-apart
returns-clause-apart g c = subst (λ (blocks : KeptBlocks). AreKept blocks.kept) c.self.view_is
    (laid_are_kept 0 (by_start (blocks_in c.self.inside.store)) c.self.invariant.blocks.laid)

pub returns-clause-exact : goal.returns-clause-exact
returns-clause-exact g c ends =
    let f = c.self.inside in
    let laid = subst (λ (blocks : KeptBlocks). LieFrom 0 blocks.kept) c.self.view_is c.self.invariant.blocks.laid in
    let summed = subst (λ (blocks : KeptBlocks). f.total ≡ words_in blocks.kept % 2 ^ 64) c.self.view_is
    c.self.invariant.blocks.summed in
    omega (arith, summed, words_fit 0 c.args.self.now.kept (omega arith) laid ends)
