use Rattle.std.proofs.Common.{◌≡◌, take}
use Rattle.ms_page.specs.Kinds.{live_of}
use Rattle.ms_page.proofs.kinds.live_of.Given as goal

-- the live words of the first loaders
abbrev pub invariant-loop-loader : goal.invariant-loop-loader
invariant-loop-loader l = l.live ≡ live_of l.kind (take l.loader-index l.halfway)
