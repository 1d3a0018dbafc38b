use Rattle.std.proofs.Common.{codes}
use Rattle.std.specs.Prelude.{string_bytes}
use Rattle.ms_report.specs.Detailed.{titled_usage}
use Rattle.ms_report.proofs.TextLemmas.{adds_then}
use Rattle.ms_report.proofs.detailed.push_class_usages.Goals as goal

pub returns : goal.returns
returns c =
    let usages = c.args.usages.now in
    adds_then c.push_usage-2.result (string_bytes c.args.text.now) _ _ (titled_usage (codes "Class usage\n") usages.class_space)
    (titled_usage (codes "Usage of both\n") usages.both) c.in_ok-push_usage.ensures c.push_usage-2.ensures
