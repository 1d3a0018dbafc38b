-- The command line is one of which `clap` says what it finds and what it refuses; and what it finds where
-- there is no option. Used by `options_of`.
use Rattle.std.proofs.Common.{◌≡◌, ◌≤◌, List, [], ◌∷◌, None, true, refl, sym, ap, ◌∙◌, arith}
use Rattle.std.proofs.Common.{codes, length, subst}
use Rattle.std.specs.Prelude.{map, option_map}
use Rattle.std.specs.Borrow.{Bor}
use Rattle.std.proofs.lemmas.Option.{none-some}
use Rattle.clap.specs.Words.{App, Row, Text, first_of, is_simple, is_simple_and_free, matches_of}
use Rattle.clap.specs.Words.{one_of}
use Rattle.log_session.proofs.OptionLemmas.{reports_unasked}
use Rattle.clap.proofs.OnLiterals.{clap_on_literals}
use Rattle.log_session.specs.declared.options.Options.{Options}
use Rattle.log_session.specs.Asked.{AreAsked, AreRead, IsDefault}
use Rattle.command_line.specs.Rules.{Choices, choice_rule}
use Rattle.log_session.specs.CommandLine.{IsCommandLine, line_with}

-- The command line with the words of its choices.
abbrev line_of : Choices → App
line_of reports = line_with (choice_rule (codes "reports") reports)

line_is_simple : (reports : Choices) → is_simple (line_of reports) ≡ true
unfolding clap_on_literals
line_is_simple reports = refl

line_is_free : (reports : Choices) → is_simple_and_free (line_of reports) ≡ true
unfolding clap_on_literals
line_is_free reports = refl

is_line : (app : App) (line : IsCommandLine app) → app ≡ line_of line.reports_are.choices
is_line app line = line.is ∙ ap line_with line.reports_are.is

-- Its matches are known, and so are its faults.
pub is_matched : (app : App) → IsCommandLine app → is_simple app ≡ true
is_matched app line = ap is_simple (is_line app line) ∙ line_is_simple line.reports_are.choices

pub is_judged : (app : App) → IsCommandLine app → is_simple_and_free app ≡ true
is_judged app line = ap is_simple_and_free (is_line app line) ∙ line_is_free line.reports_are.choices

-- What is found without an option: nothing.
found_nowhere : {X : Type 0} (reports : Choices) (text : X → Text) (words : List X) → length words ≤ 1
    → (first_of (codes "reports") (matches_of (line_of reports) (map text words)) ≡ None)
    × (one_of (codes "merge") (matches_of (line_of reports) (map text words)) ≡ None)
    × (first_of (codes "names") (matches_of (line_of reports) (map text words)) ≡ None)
unfolding clap_on_literals
found_nowhere reports text [] few = (refl, refl, refl)
found_nowhere reports text (name ∷ []) few = (refl, refl, refl)
found_nowhere reports text (name ∷ word ∷ words) few = absurd (omega (arith, few))

-- A value that is kept somewhere.
abbrev somewhere : {X : Type 0} → X → Bor X
somewhere value = record { ref_ptr = (0, 0); now = value }

-- So the default options are those that no option asks for.
pub default_is_asked : {X : Type 0} (text : X → Text) (words : List X) (options : Options) → length words ≤ 1
    → IsDefault options → AreAsked (map text words) options
default_is_asked text words options few default =
    let reports = somewhere (map somewhere (codes "end" ∷ codes "gc" ∷ codes "none" ∷ [])) in
    let rows = matches_of (line_of reports) (map text words) in
    let found = found_nowhere reports text words few in
    record {
      app = line_of reports;
      line = record {
        reports = choice_rule (codes "reports") reports;
        reports_are = record { choices = reports; told = refl; is = refl };
        is = refl;
      };
      read = record {
        reports = reports_unasked rows _ found.0 default.reports;
        merge = record {
          absent = λ _. default.merge;
          given = λ text is accepted. absurd (none-some text (sym found.1 ∙ is));
        };
        names = ap (option_map (λ path. path.now)) default.names ∙ sym found.2;
      };
    }

-- What was chosen from the matches is what the words ask for.
pub chosen_is_asked : (app : App) (words : List Text) (rows : List Row) (options : Options) → IsCommandLine app
    → rows ≡ matches_of app words → AreRead rows options → AreAsked words options
chosen_is_asked app words rows options line same read = record {
  app = app;
  line = line;
  read = subst (λ (found : List Row). AreRead found options) same read;
}
