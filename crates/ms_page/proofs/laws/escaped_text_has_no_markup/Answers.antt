use Rattle.ms_page.proofs.EscapeLemmas.{escaped_is}
use Rattle.ms_page.proofs.laws.escaped_text_has_no_markup.Goals as goal

pub returns : goal.returns
returns c = escaped_is
