use Rattle.ms_member.proofs.BareLemmas.{new_shows}
use Rattle.ms_member.proofs.member.bare.BareArena.new.Goals as goal

-- the raw arena has nothing yet
pub returns : goal.returns
returns c = new_shows c.args.account c.args.kind c.new.result c.requires c.new.ensures
