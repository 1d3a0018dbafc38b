use Rattle.ms_page.proofs.ScaleLemmas.{more_is_no_shorter}
use Rattle.ms_page.proofs.laws.more_is_no_shorter.Goals as goal

pub returns : goal.returns
returns c = more_is_no_shorter
