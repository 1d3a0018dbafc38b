use Rattle.std.proofs.Common.{codes}
use Rattle.std.specs.Prelude.{string_bytes}
use Rattle.ms_answers.specs.Sums.{sums_in}
use Rattle.ms_report.specs.Detailed.{class_usage, titled_usage}
use Rattle.ms_report.specs.Usage.{usages_of}
use Rattle.ms_report.proofs.TextLemmas.{adds_then}
use Rattle.ms_report.proofs.detailed.push_usages.Goals as goal

pub returns : goal.returns
returns c =
    let usages = usages_of c.args.settings.now (sums_in c.args.totals.now) in
    adds_then c.push_class_usage.result (string_bytes c.args.text.now) _ _ (titled_usage (codes "Usage\n") usages.space)
    (class_usage c.args.totals.now.class_space.nodes usages)
    (rw c.weigh-usages.ensures at c.in_ok-push_usage.ensures)
    (rw c.weigh-usages.ensures at c.push_class_usage.ensures)
