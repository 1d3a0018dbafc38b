-- A named block lies in a chunk of one of the arenas.
use Rattle.ms_loader.proofs.calls.EmptyLemmas.{no_name}
use Rattle.ms_loader.proofs.loader.Loader.renew.Goals as goal

pub forget-requires : goal.forget-requires
forget-requires c = record { none = no_name _ _ _ c.self.invariant.arena.holds c.self.invariant.class_arena.holds }
