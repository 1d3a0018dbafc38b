use Rattle.std.proofs.Common.{ap, arith}
use Rattle.ms_blocks.specs.FreeBlocks.{words_in}
use Rattle.ms_arena.specs.Kept.{KeptView}
use Rattle.ms_arena.proofs.KeptLemmas.{words_in-with_all}
use Rattle.ms_arena.proofs.kept.Kept.total.Goals as goal

pub returns : goal.returns
returns c = omega (
  arith,
  words_in-with_all c.self.inside.ordered.kept c.self.inside.came.items c.total.ensures.apart.sizes c.self.invariant.may,
  ap (λ (kept : KeptView). words_in kept.kept) c.self.view_is,
  c.total.ensures.sum,
  c.self.invariant.summed,
  c.requires,
)
