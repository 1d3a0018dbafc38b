use Rattle.ms_loader.proofs.TableLemmas.{no_entries}
use Rattle.ms_loader.proofs.naming.Names.clear.Goals as goal

pub returns : goal.returns
returns c = record { empty = no_entries c.clear.new.self c.clear.ensures }
