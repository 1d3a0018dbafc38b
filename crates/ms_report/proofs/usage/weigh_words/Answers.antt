use Rattle.std.proofs.Common.{refl}
use Rattle.ms_report.proofs.usage.weigh_words.Goals as goal

pub returns : goal.returns
returns c = rw (c.compare.ensures, c.compare-2.ensures, c.compare-3.ensures, c.compare-4.ensures, c.compare-5.ensures) refl
