-- The root is still to be visited, and each free leaf starts at its first word or past it.
use Rattle.ms_buddy.specs.Leaves.{free_of}
use Rattle.ms_buddy.proofs.searches.FromLemmas.{from_start}
use Rattle.ms_buddy.proofs.part_walk.PartWalk.new.Goals as goal

pub returns : goal.returns
returns g c = from_start (free_of c.args.table.now)
