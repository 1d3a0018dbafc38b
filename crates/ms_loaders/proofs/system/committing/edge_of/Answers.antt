use Rattle.ms_loaders.proofs.EdgeLemmas.{chunk_small}
use Rattle.ms_loaders.proofs.system.committing.edge_of.Goals as goal

pub returns-clause-small : goal.returns-clause-small
returns-clause-small c =
    chunk_small c.args.account.now.space c.args.account.now.chunks _ c.chunk-chunk.result c.held-held.ensures.chunks
    c.chunk-chunk.ensures
