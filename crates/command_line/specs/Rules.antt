-- What a program accepts, as `clap` reads it (this project's choice).
use Rattle.std.specs.Prelude.{◌≡◌, ℕ, List, [], Some, true, map}
use Rattle.std.specs.Borrow.{Bor}
use Rattle.clap.specs.Words.{App, Rule, Text, new_app, new_rule}
use Rattle.clap.specs.declared.builder.value_parser.ValueParser.TheVariants.{Names, Unsigned}

-- A program with a name and a version, which is told at `--version`; help is told at `--help`.
abbrev pub named : Text → App
named name = record { top = record (new_app name).top { has_version = true }; subs = [] }

-- `--name N`, a number from the least to the most.
abbrev pub number_rule : Text → ℕ → ℕ → Rule
number_rule name least most = record (new_rule name) {
  long = Some name;
  value_names = 1;
  parser = Some (Unsigned least most);
}

-- `--name FILE`.
abbrev pub file_rule : Text → Rule
file_rule name = record (new_rule name) { long = Some name; value_names = 1 }

-- `--name WORD`, one of some words, wherever they are kept.
abbrev pub Choices : Type 0
Choices = Bor (List (Bor (List ℕ)))

abbrev pub choice_rule : Text → Choices → Rule
choice_rule name choices = record (new_rule name) {
  long = Some name;
  value_names = 1;
  parser = Some (Names choices);
}

pub record IsChoiceRule (name : Text) (words : List Text) (rule : Rule) : Type 0 where
  pub choices : Choices
  pub told : map (λ choice. choice.now) choices.now ≡ words
  pub is : rule ≡ choice_rule name choices
