use Rattle.std.proofs.Common.{subst}
use Rattle.ms_run.specs.Peaks.{ArePeaksIfKept}
use Rattle.ms_run.proofs.PeakLemmas.{raised_peaks}
use Rattle.ms_run.proofs.peaks.raise.Goals as goal

pub returns-in-Some-clause-peaks : goal.returns-in-Some-clause-peaks
returns-in-Some-clause-peaks c = λ states its.
    raised_peaks states c.args.system.now c.in-Some.most c.usage.result c.greater.result
    (subst (ArePeaksIfKept states) c.in-Some.is its) c.usage.ensures c.greater.ensures.granules c.greater.ensures.nodes
    c.greater.ensures.used c.greater.ensures.loaders
