-- A multiple of a level's words is one.
use Rattle.std.proofs.Common.{◌/◌}
use Rattle.std.proofs.Math.Nat.{mul-mod_left}
use Rattle.ms_base.specs.Level.{size_of}
use Rattle.library_tests.proofs.tests.trees.aligned.Goals as goal

pub returns-clause-aligned : goal.returns-clause-aligned
returns-clause-aligned c = rw c.words-words.ensures.size (mul-mod_left (c.args.offset / size_of c.args.level) (size_of c.args.level))
