use Rattle.ms_page.proofs.RankLemmas.{is_ranking}
use Rattle.ms_page.proofs.laws.largest_come_first.Goals as goal

pub returns : goal.returns
returns c = is_ranking
