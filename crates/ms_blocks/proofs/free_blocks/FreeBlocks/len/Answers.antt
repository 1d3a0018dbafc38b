use Rattle.ms_blocks.specs.FreeBlocks.{KeptBlocks, AreKept, by_start}
use Rattle.ms_blocks.specs.Store.{blocks_in}
use Rattle.std.proofs.Common.{ap, length, subst, sym, ◌∙◌}
use Rattle.ms_blocks.proofs.free_blocks.FreeBlocks.len.Goals as goal
use Rattle.ms_blocks.proofs.LaidLemmas.{laid_are_kept}
use Rattle.ms_blocks.proofs.StartLemmas.{length-by_start}

pub returns-clause-apart : goal.returns-clause-apart
returns-clause-apart g c = subst (λ (blocks : KeptBlocks). AreKept blocks.kept) c.self.view_is
    (laid_are_kept 0 (by_start (blocks_in c.self.inside.store)) c.self.invariant.blocks.laid)

pub returns-clause-count : goal.returns-clause-count
returns-clause-count g c =
    let f = c.self.inside in
    c.self.invariant.blocks.counted ∙ sym (length-by_start (blocks_in f.store) c.self.invariant.blocks.differ)
    ∙ ap (λ (blocks : KeptBlocks). length blocks.kept) c.self.view_is
