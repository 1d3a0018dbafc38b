use Rattle.std.proofs.Common.{map}
use Rattle.std.specs.Prelude.{string_bytes}
use Rattle.ms_answers.specs.Details.{loader_in}
use Rattle.ms_report.specs.Holdings.{holdings_part}
use Rattle.ms_report.specs.Kinds.{kinds_part}
use Rattle.ms_report.proofs.TextLemmas.{adds_then}
use Rattle.ms_report.proofs.detailed.push_tables.Goals as goal

pub returns : goal.returns
returns c =
    let loaders = map loader_in c.args.details.now.loaders.items in
    adds_then c.push_holdings.result (string_bytes c.args.text.now) _ _ (kinds_part loaders) (holdings_part loaders)
    (rw c.as_slice.ensures.value at c.in_ok-push_kinds.ensures)
    (rw c.as_slice-2.ensures.value at c.push_holdings.ensures)
