use Rattle.std.proofs.Common.{◌≡◌}
use Rattle.ms_report.specs.Kinds.{IsBelow, sums_over}
use Rattle.ms_report.proofs.KindLemmas.{kind_first}
use Rattle.ms_report.proofs.kinds.sum_one.Given as goal

-- the sums over the loaders of the kind among the first ones
abbrev pub invariant-loop-loader : goal.invariant-loop-loader
invariant-loop-loader l = record {
  sums : l.totals ≡ sums_over (kind_first l.kind l.loader-index l.loaders);
  below : IsBelow l.loader-index l.totals;
}
