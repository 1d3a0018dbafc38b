-- The command line of `metalog`, as `clap` reads it (this project's choice).
use Rattle.std.specs.Prelude.{◌≡◌, [], ◌∷◌, Some, codes}
use Rattle.clap.specs.Words.{App, Rule, new_rule, with_rule}
use Rattle.clap.specs.declared.builder.range.ValueRange.{ValueRange}
use Rattle.clap.specs.declared.builder.value_parser.ValueParser.TheVariants.{Unsigned}
use Rattle.command_line.specs.Rules.{IsChoiceRule, file_rule, named}

-- `--reports R`, one of three words.
abbrev pub IsReportRule : Rule → Type 0
IsReportRule = IsChoiceRule (codes "reports") (codes "end" ∷ codes "gc" ∷ codes "none" ∷ [])

-- One value or none.
abbrev pub one_at_most : ValueRange
one_at_most = record { start_inclusive = 0; end_inclusive = 1 }

-- `--merge N`, a number from 2 to 1048576, and `--merge`, which is `--merge 128`.
abbrev pub merge_rule : Rule
merge_rule = record (new_rule (codes "merge")) {
  long = Some (codes "merge");
  range = Some one_at_most;
  value_names = 1;
  missing = codes "128" ∷ [];
  parser = Some (Unsigned 2 1048576);
}

-- The command line with its three options.
abbrev pub line_with : Rule → App
line_with reports = with_rule (with_rule (with_rule (named (codes "metalog")) reports) merge_rule) (file_rule (codes "names"))

pub record IsCommandLine (app : App) : Type 0 where
  pub reports : Rule
  pub reports_are : IsReportRule reports
  pub is : app ≡ line_with reports
