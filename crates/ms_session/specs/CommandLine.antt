-- The command line of `metarun`, as `clap` reads it (this project's choice).
use Rattle.std.specs.Prelude.{◌≡◌, [], ◌∷◌, Some, codes}
use Rattle.clap.specs.Words.{App, Rule, new_rule, with_rule}
use Rattle.clap.specs.declared.builder.action.ArgAction.TheVariants.{SetTrue}
use Rattle.command_line.specs.Rules.{IsChoiceRule, file_rule, named, number_rule}

-- `--addresses`.
abbrev pub addresses_rule : Rule
addresses_rule = record (new_rule (codes "addresses")) {
  long = Some (codes "addresses");
  action = Some SetTrue;
}

-- `--policy P`, the words of the three policies, `--report R`, those of the two reports, and
-- `--format F`, those of the three forms.
abbrev pub IsPolicyRule : Rule → Type 0
IsPolicyRule = IsChoiceRule (codes "policy") (codes "balanced" ∷ codes "aggressive" ∷ codes "none" ∷ [])

abbrev pub IsReportRule : Rule → Type 0
IsReportRule = IsChoiceRule (codes "report") (codes "basic" ∷ codes "full" ∷ [])

abbrev pub IsFormatRule : Rule → Type 0
IsFormatRule = IsChoiceRule (codes "format") (codes "text" ∷ codes "html" ∷ codes "json" ∷ [])

-- The command line with its ten options.
abbrev pub line_with : Rule → Rule → Rule → App
line_with policy report format =
    with_rule (with_rule (with_rule (with_rule (with_rule (with_rule (with_rule (with_rule (with_rule (with_rule
    (named (codes "metarun"))
    (number_rule (codes "workers") 1 8))
    (number_rule (codes "max-granules") 1 40960))
    (number_rule (codes "nodes") 1 64))
    addresses_rule)
    policy)
    (number_rule (codes "class-nodes") 0 16))
    report)
    (number_rule (codes "max-lines") 1 10000000))
    format)
    (file_rule (codes "names"))

pub record IsCommandLine (app : App) : Type 0 where
  pub policy : Rule
  pub policy_is : IsPolicyRule policy
  pub report : Rule
  pub report_is : IsReportRule report
  pub format : Rule
  pub format_is : IsFormatRule format
  pub is : app ≡ line_with policy report format
