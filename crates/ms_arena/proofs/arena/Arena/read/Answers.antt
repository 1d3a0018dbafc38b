use Rattle.std.proofs.Common.{arith}
use Rattle.ms_base.specs.Hashed.{by_name}
use Rattle.ms_arena.specs.Raw.{contents_at}
use Rattle.ms_arena.specs.Words.{value_at}
use Rattle.ms_arena.proofs.ArenaLemmas.{is_live, refused_so, word_is_there}
use Rattle.ms_arena.proofs.ContentsLemmas.{word_in_contents}
use Rattle.ms_arena.proofs.arena.Arena.read.Goals as goal

pub returns-in_err-check_word-clause-refused : goal.returns-in_err-check_word-clause-refused
returns-in_err-check_word-clause-refused c =
    refused_so c.self.inside.raw (by_name c.self.inside.live.entries) c.args.block c.args.index _ _
    c.from_residual.result c.self.view_is c.from_residual.ensures.1 c.in_err-check_word.ensures.refused

pub overflow_add-block : goal.overflow_add-block
overflow_add-block c =
    omega (
      arith,
      (word_is_there c.self.inside.raw c.args.block c.args.index (by_name c.self.inside.live.entries) c.self.invariant
          c.in_ok-check_word.ensures.live c.in_ok-check_word.ensures.within).fits,
    )

pub returns-clause-value : goal.returns-clause-value
returns-clause-value c =
    rw (← c.self.view_is, c.read.ensures) (record {
      contents = contents_at c.self.inside.raw.words (c.args.block.start, c.args.block.words);
      live = is_live c.self.inside.raw (by_name c.self.inside.live.entries) c.args.block
          c.in_ok-check_word.ensures.live;
      word = word_in_contents (value_at c.self.inside.raw.words) (c.args.block.start, c.args.block.words) c.args.index
          c.in_ok-check_word.ensures.within;
    })
