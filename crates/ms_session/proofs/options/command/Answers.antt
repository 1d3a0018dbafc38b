use Rattle.std.proofs.Common.{◌∙◌, ap, ap₂, codes}
use Rattle.std.proofs.lemmas.Result.{IfOk-weaker}
use Rattle.clap.specs.Words.{App, rule_of, with_rule}
use Rattle.command_line.specs.Rules.{named}
use Rattle.ms_session.proofs.options.command.Goals as goal

pub returns : goal.returns
returns c =
    let with_workers = c.with-command.ensures _ c.program-command.ensures c.workers.ensures.own in
    let with_granules = c.with-command-2.ensures _ with_workers c.granules.ensures.own in
    let with_nodes = c.with-command-3.ensures _ with_granules c.nodes.ensures.own in
    let with_addresses = c.with-command-4.ensures _ with_nodes c.addresses.ensures.own in
    let with_policy = c.with-command-5.ensures _ with_addresses c.policy.ensures.own in
    let with_class_nodes = c.with-command-6.ensures _ with_policy c.class_nodes.ensures.own in
    let with_report = c.with-command-7.ensures _ with_class_nodes c.report.ensures.own in
    let with_max_lines = c.with-command-8.ensures _ with_report c.max_lines.ensures.own in
    let with_format = c.with-command-9.ensures _ with_max_lines c.format.ensures.own in
    IfOk-weaker c.with.result _ _ (λ command is. record {
      policy = rule_of c.policy.result;
      policy_is = c.policy.ensures.rule;
      report = rule_of c.report.result;
      report_is = c.report.ensures.rule;
      format = rule_of c.format.result;
      format_is = c.format.ensures.rule;
      is = is ∙ ap₂ with_rule (ap (λ (app : App). with_rule app (rule_of c.format.result)) (ap₂ with_rule (ap (λ (app : App). with_rule app (rule_of c.report.result)) (ap₂ with_rule
          (ap (λ (app : App). with_rule app (rule_of c.policy.result)) (ap₂ with_rule (ap₂ with_rule (ap₂ with_rule
          (ap (with_rule (named (codes "metarun"))) c.workers.ensures.rule) c.granules.ensures.rule) c.nodes.ensures.rule)
          c.addresses.ensures.rule)) c.class_nodes.ensures.rule)) c.max_lines.ensures.rule)) c.names.ensures.rule;
    }) (c.with.ensures _ with_format c.names.ensures.own)
