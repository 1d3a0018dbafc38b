use Rattle.std.proofs.Common.{◌∙◌, ap, ap₂, codes}
use Rattle.std.proofs.lemmas.Result.{IfOk-weaker}
use Rattle.clap.specs.Words.{rule_of, with_rule}
use Rattle.command_line.specs.Rules.{named}
use Rattle.log_session.proofs.options.command.Goals as goal

pub returns : goal.returns
returns c =
    let with_reports = c.with-command.ensures _ c.program-command.ensures c.report_option.ensures.own in
    let with_merge = c.with-command-2.ensures _ with_reports c.merge_option.ensures.own in
    IfOk-weaker c.with.result _ _ (λ command is. record {
      reports = rule_of c.report_option.result;
      reports_are = c.report_option.ensures.rule;
      is = is ∙ ap₂ with_rule (ap (with_rule (with_rule (named (codes "metalog")) (rule_of c.report_option.result)))
          c.merge_option.ensures.rule) c.name_option.ensures.rule;
    }) (c.with.ensures _ with_merge c.name_option.ensures.own)
