-- What a command line may ask for (this project's choice).
use Rattle.std.specs.Prelude.{◌≡◌, ◌≢◌, ◌≤◌, ◌⊎◌, ℕ, Bool, List, true, false, Some, None, codes, ⊤}
use Rattle.std.specs.Prelude.{option_map, string_bytes}
use Rattle.clap.specs.Words.{App, IsUnsignedIn, Row, Text, first_of, matches_of, one_of}
use Rattle.ms_base.specs.declared.policy.Policy.{Policy}
use Rattle.ms_base.specs.declared.policy.Policy.TheVariants as policy
use Rattle.ms_answers.specs.declared.verbosity.Verbosity.{Verbosity}
use Rattle.ms_answers.specs.declared.verbosity.Verbosity.TheVariants.{Basic, Full}
use Rattle.command_line.specs.Given.{number_of}
use Rattle.command_line.specs.declared.matching.Refused.{Refused}
use Rattle.command_line.specs.declared.matching.Refused.TheVariants.{Told, OutOfMemory, Usage}
use Rattle.ms_session.specs.CommandLine.{IsCommandLine}
use Rattle.ms_session.specs.declared.asked.Form.{Form}
use Rattle.ms_session.specs.declared.asked.Form.TheVariants as form
use Rattle.ms_session.specs.declared.asked.Options.{Options}

-- Names are shown on a page, in a document, and after a text with full reports.
abbrev pub ShowsNames : Form → Verbosity → Type 0
ShowsNames its verbosity = (its ≢ form.Text) ⊎ (verbosity ≡ Full)

-- The numbers lie in their ranges, only one worker tells addresses, a form other than text has one
-- worker, and names are shown.
pub record IsAllowed (options : Options) : Type 0 where
  pub workers_some : 1 ≤ options.settings.workers
  pub workers_few : options.settings.workers ≤ 8
  pub addresses_alone : options.addresses ≡ true → options.settings.workers ≡ 1
  pub form_alone : options.form ≢ form.Text → options.settings.workers ≡ 1
  pub nodes_some : 1 ≤ options.settings.nodes
  pub nodes_few : options.settings.nodes ≤ 64
  pub granules_some : 1 ≤ options.settings.max_granules
  pub granules_few : options.settings.max_granules ≤ 40960
  pub class_few : options.settings.class_nodes ≤ 16
  pub names_shown : options.names ≢ None → ShowsNames options.form options.verbosity
  pub lines_some : 1 ≤ options.max_lines
  pub lines_few : options.max_lines ≤ 10000000

-- Nothing was asked for: one worker, 64 nodes, 8192 granules, policy balanced, no class space, no
-- addresses, basic reports, text, 100000 lines, no names.
pub record IsDefault (options : Options) : Type 0 where
  pub workers : options.settings.workers ≡ 1
  pub nodes : options.settings.nodes ≡ 64
  pub max_granules : options.settings.max_granules ≡ 8192
  pub policy : options.settings.policy ≡ policy.Balanced
  pub class_nodes : options.settings.class_nodes ≡ 0
  pub addresses : options.addresses ≡ false
  pub verbosity : options.verbosity ≡ Basic
  pub text : options.form ≡ form.Text
  pub max_lines : options.max_lines ≡ 100000
  pub names : options.names ≡ None

-- A number is the one that is written in an option's value, which `clap` accepts where it lies in
-- the range, and the default where none was given.
pub record ReadsNumber (rows : List Row) (id : Text) (least most default number : ℕ) : Type 0 where
  pub absent : one_of id rows ≡ None → number ≡ default
  pub given : (text : Text) → one_of id rows ≡ Some text → IsUnsignedIn least most text → number ≡ number_of text

-- A flag is on where it was given, and off where it was not.
pub record ReadsFlag (rows : List Row) (id : Text) (on : Bool) : Type 0 where
  pub absent : one_of id rows ≡ None → on ≡ false
  pub unused : one_of id rows ≡ Some (codes "false") → on ≡ false
  pub used : one_of id rows ≡ Some (codes "true") → on ≡ true

-- A policy is the one whose word was given, balanced where none was.
pub record ReadsPolicy (rows : List Row) (chosen : Policy) : Type 0 where
  pub absent : first_of (codes "policy") rows ≡ None → chosen ≡ policy.Balanced
  pub balanced : first_of (codes "policy") rows ≡ Some (codes "balanced") → chosen ≡ policy.Balanced
  pub aggressive : first_of (codes "policy") rows ≡ Some (codes "aggressive") → chosen ≡ policy.Aggressive
  pub none : first_of (codes "policy") rows ≡ Some (codes "none") → chosen ≡ policy.None

-- A report's verbosity is the one whose word was given, basic where none was.
pub record ReadsVerbosity (rows : List Row) (chosen : Verbosity) : Type 0 where
  pub absent : first_of (codes "report") rows ≡ None → chosen ≡ Basic
  pub basic : first_of (codes "report") rows ≡ Some (codes "basic") → chosen ≡ Basic
  pub full : first_of (codes "report") rows ≡ Some (codes "full") → chosen ≡ Full

-- A form is the one whose word was given, text where none was.
pub record ReadsForm (rows : List Row) (chosen : Form) : Type 0 where
  pub absent : first_of (codes "format") rows ≡ None → chosen ≡ form.Text
  pub text : first_of (codes "format") rows ≡ Some (codes "text") → chosen ≡ form.Text
  pub html : first_of (codes "format") rows ≡ Some (codes "html") → chosen ≡ form.Html
  pub json : first_of (codes "format") rows ≡ Some (codes "json") → chosen ≡ form.Json

-- The options are those that the rows give, in which `clap` has what it found for each option.
pub record AreRead (rows : List Row) (options : Options) : Type 0 where
  pub workers : ReadsNumber rows (codes "workers") 1 8 1 options.settings.workers
  pub nodes : ReadsNumber rows (codes "nodes") 1 64 64 options.settings.nodes
  pub max_granules : ReadsNumber rows (codes "max-granules") 1 40960 8192 options.settings.max_granules
  pub class_nodes : ReadsNumber rows (codes "class-nodes") 0 16 0 options.settings.class_nodes
  pub policy : ReadsPolicy rows options.settings.policy
  pub addresses : ReadsFlag rows (codes "addresses") options.addresses
  pub verbosity : ReadsVerbosity rows options.verbosity
  pub written : ReadsForm rows options.form
  pub max_lines : ReadsNumber rows (codes "max-lines") 1 10000000 100000 options.max_lines
  pub names : option_map (λ path. path.now) options.names ≡ first_of (codes "names") rows

-- The options are allowed, and are those that the words of a command line ask for.
pub record AreAsked (words : List Text) (options : Options) : Type 0 where
  pub app : App
  pub line : IsCommandLine app
  pub read : AreRead (matches_of app words) options
  pub allowed : IsAllowed options

-- The rows have addresses or a form, which only one worker may be asked for, or names, which basic
-- reports don't show.
abbrev pub AskMore : List Row → Type 0
AskMore rows =
    (one_of (codes "addresses") rows ≢ None)
    ⊎ ((first_of (codes "format") rows ≢ None) ⊎ (first_of (codes "names") rows ≢ None))

-- So the words of a command line do, which it takes.
pub record AskTooMuch (words : List Text) : Type 0 where
  pub app : App
  pub line : IsCommandLine app
  pub more : AskMore (matches_of app words)

-- It has this line for standard error, memory aside.
abbrev pub Says : List ℕ → Refused → Type 0
Says line (Told text) = ⊥
Says line (Usage text) = string_bytes text ≡ line
Says line OutOfMemory = ⊤

-- The line where several workers are asked for addresses, or for a form other than text, and where
-- names are asked for that nothing shows.
abbrev pub SaysWhy : Refused → Type 0
SaysWhy refused =
    Says (codes "metarun: --addresses needs --workers 1\n") refused
    ⊎ (Says (codes "metarun: --format html or json needs --workers 1\n") refused
    ⊎ Says (codes "metarun: --names needs --format html or json, or --report full\n") refused)
