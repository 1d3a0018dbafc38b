use Rattle.std.proofs.Common.{◌∙◌}
use Rattle.ms_commit.proofs.MemberLemmas.{range_counted}
use Rattle.ms_commit.proofs.mask.Mask.count.Goals as goal

pub returns : goal.returns
returns g c = c.count_bits.ensures ∙ range_counted c.self.inside.words _ c.args.first c.args.count c.self.view_is
