-- What a command line may ask for (this project's choice).
use Rattle.std.specs.Prelude.{◌≡◌, ℕ, List, Option, Some, None, codes, option_map}
use Rattle.clap.specs.Words.{App, IsUnsignedIn, Row, Text, first_of, matches_of, one_of}
use Rattle.command_line.specs.Given.{number_of}
use Rattle.log_session.specs.CommandLine.{IsCommandLine}
use Rattle.log_session.specs.declared.options.Options.{Options}
use Rattle.log_session.specs.declared.options.Reports.{Reports}
use Rattle.log_session.specs.declared.options.Reports.TheVariants as reports

-- Nothing was asked for: a report at the end, no joined blocks, no file of names.
pub record IsDefault (options : Options) : Type 0 where
  pub reports : options.reports ≡ reports.End
  pub merge : options.merge ≡ None
  pub names : options.names ≡ None

-- Reports stand where the given word says, at the end where none was given.
pub record ReadsReports (rows : List Row) (chosen : Reports) : Type 0 where
  pub absent : first_of (codes "reports") rows ≡ None → chosen ≡ reports.End
  pub at_end : first_of (codes "reports") rows ≡ Some (codes "end") → chosen ≡ reports.End
  pub gc : first_of (codes "reports") rows ≡ Some (codes "gc") → chosen ≡ reports.Gc
  pub none : first_of (codes "reports") rows ≡ Some (codes "none") → chosen ≡ reports.None

-- Blocks are joined up to the number that is written in the option's value, which `clap` accepts in its
-- range, and not at all where none was given.
pub record ReadsMerge (rows : List Row) (most : Option ℕ) : Type 0 where
  pub absent : one_of (codes "merge") rows ≡ None → most ≡ None
  pub given : (text : Text) → one_of (codes "merge") rows ≡ Some text → IsUnsignedIn 2 1048576 text → most ≡ Some (number_of text)

-- The options are those that the rows give, in which `clap` has what it found for each option.
pub record AreRead (rows : List Row) (options : Options) : Type 0 where
  pub reports : ReadsReports rows options.reports
  pub merge : ReadsMerge rows options.merge
  pub names : option_map (λ path. path.now) options.names ≡ first_of (codes "names") rows

-- The options are those that the words of a command line ask for.
pub record AreAsked (words : List Text) (options : Options) : Type 0 where
  pub app : App
  pub line : IsCommandLine app
  pub read : AreRead (matches_of app words) options
