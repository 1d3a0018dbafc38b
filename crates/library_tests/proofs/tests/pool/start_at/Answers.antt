use Rattle.std.proofs.Common.{arith}
use Rattle.std.specs.Prelude.{◌==◌}
use Rattle.std.proofs.lemmas.Bool.Decides.{nat_tests}
use Rattle.std.proofs.lemmas.List.Folds.{list_any-from_Any}
use Rattle.std.proofs.lemmas.Option.{get_or_from_slice_get}
use Rattle.ms_base.specs.declared.span.Chunk.{Chunk}
use Rattle.library_tests.proofs.tests.pool.start_at.Goals as goal

pub returns : goal.returns
returns c =
    let chunks = c.args.account.now.chunks in
    let it = c.chunk-chunk.result in
    list_any-from_Any (λ (chunk : Chunk). chunk.start == it.start) chunks (
      c.args.index,
      it,
      c.requires,
      get_or_from_slice_get chunks c.args.index it it c.chunk-chunk.ensures,
      grind (arith, nat_tests),
    )
