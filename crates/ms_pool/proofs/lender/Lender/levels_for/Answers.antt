-- A level whose bit is clear has no free part, or none that is committed enough.
use Rattle.std.proofs.Common.{sym, ◌∙◌}
use Rattle.ms_pool.specs.Searching.{first_at}
use Rattle.ms_pool.proofs.returns.PutBackLemmas.{leaves_where}
use Rattle.ms_pool.proofs.searches.LevelBitLemmas.{no_large_one}
use Rattle.ms_pool.proofs.searches.SkipLemmas.{none_of_space}
use Rattle.ms_pool.proofs.lender.Lender.levels_for.Goals as goal

pub returns-then-ne : goal.returns-then-ne
returns-then-ne c = λ level fits clear.
    rw c.if-wish.true
    (no_large_one c.args.wish.now.space c.args.self.now c.free_levels-levels.result c.small_levels.result
    c.args.wish.now.words level c.requires.kept c.args.wish.now.some fits c.free_levels-levels.ensures c.free_levels-levels.type_inv
    (leaves_where c.args.self.now.policy (sym c.ne.ensures ∙ c.if-ne.true)) c.small_levels.ensures clear)

pub returns : goal.returns
unfolding first_at
returns c = λ level fits clear.
    none_of_space c.args.wish.now.space c.args.self.now c.free_levels-levels.result c.args.wish.now.words
    c.args.wish.now.committed level c.requires.kept c.args.wish.now.some fits c.free_levels-levels.ensures clear
