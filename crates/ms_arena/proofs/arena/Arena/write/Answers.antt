use Rattle.std.proofs.Common.{◌+◌, arith}
use Rattle.ms_base.specs.Hashed.{by_name}
use Rattle.ms_base.proofs.entries.HashedLemmas.{rises_by_name}
use Rattle.ms_arena.proofs.ArenaLemmas.{WordIsThere, refused_so, word_is_there, writes}
use Rattle.ms_arena.proofs.arena.Arena.write.Goals as goal
use Rattle.ms_arena.proofs.arena.Arena.write.Goals.{In_ok-check_word}

pub returns-in_err-check_word-clause-refused : goal.returns-in_err-check_word-clause-refused
returns-in_err-check_word-clause-refused c =
    refused_so c.self.inside.raw (by_name c.self.inside.live.entries) c.args.block c.args.index _ _
    c.from_residual.result c.self.view_is c.from_residual.ensures.1 c.in_err-check_word.ensures.refused

word : (c : In_ok-check_word) → WordIsThere c.self.inside.raw.words (c.args.block.start + c.args.index)
word c =
    word_is_there c.self.inside.raw c.args.block c.args.index (by_name c.self.inside.live.entries) c.self.invariant
    c.in_ok-check_word.ensures.live c.in_ok-check_word.ensures.within

pub overflow_add-block : goal.overflow_add-block
overflow_add-block c = omega (arith, (word (goal.at.overflow_add-block c).In_ok-check_word).fits)

pub write-requires : goal.write-requires
write-requires c = (word (goal.at.write-requires c).In_ok-check_word).there

pub returns-clause-written : goal.returns-clause-written
returns-clause-written c =
    rw (← c.self.view_is)
    (writes c.self.inside.raw c.write.new.self c.args.block c.args.index c.args.value
    (by_name c.self.inside.live.entries) c.self.invariant (rises_by_name c.self.inside.live.entries)
    c.in_ok-check_word.ensures.live c.in_ok-check_word.ensures.within c.write.ensures.words c.write.ensures.others)
