use Rattle.std.proofs.Common.{[], ◌∷◌, subst, sym}
use Rattle.ms_run.specs.Peaks.{ArePeaks}
use Rattle.ms_run.proofs.PeakLemmas.{peaks_of_one}
use Rattle.ms_run.proofs.peaks.begin.Goals as goal

pub returns-in-Full-clause-peaks : goal.returns-in-Full-clause-peaks
returns-in-Full-clause-peaks c =
    subst (ArePeaks (c.args.system.now ∷ [])) (sym c.usage.ensures) (peaks_of_one c.args.system.now)
