use Rattle.std.proofs.Common.{◌≡◌, ◌+◌}
use Rattle.std.specs.List.{sum_by}
use Rattle.ms_base.specs.declared.kind.Space.TheVariants.{NonClass, Class}
use Rattle.ms_base.specs.Totals.{used_words}
use Rattle.ms_loaders.proofs.sums.UsedLemmas.{used_in_both}
use Rattle.ms_loaders.proofs.system.System.used.Given as goal

-- The words so far and those of the loaders that are left are all.
abbrev pub invariant-loop-loader : goal.invariant-loop-loader
invariant-loop-loader l =
    l.words + sum_by used_in_both l.loader-iterator ≡ used_words NonClass l.self + used_words Class l.self
