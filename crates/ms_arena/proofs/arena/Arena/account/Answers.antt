use Rattle.std.proofs.Common.{subst, sym}
use Rattle.ms_base.specs.Good.{IsSound}
use Rattle.ms_base.specs.Hashed.{by_name}
use Rattle.ms_base.proofs.entries.HashedLemmas.{rises_by_name}
use Rattle.ms_arena.proofs.ArenaLemmas.{rises_live, runs_live}
use Rattle.ms_arena.proofs.arena.Arena.account.Goals as goal

pub returns-clause-sound : goal.returns-clause-sound
returns-clause-sound c = rw (← c.self.view_is) (record {
  chunks = c.self.invariant.chunks;
  books = subst (IsSound c.self.inside.raw.books)
      (sym (runs_live c.self.inside.raw.words (by_name c.self.inside.live.entries))) c.self.invariant.sound;
  names = rises_live c.self.inside.raw.words (by_name c.self.inside.live.entries)
      (rises_by_name c.self.inside.live.entries);
})
