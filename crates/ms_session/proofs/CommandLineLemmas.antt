-- The command line is one of which `clap` says what it finds and what it refuses; and what it finds
-- where there is no option. Used by `options_of`.
use Rattle.std.proofs.Common.{◌≡◌, ◌≤◌, ◌⊎◌, ℕ, List, [], ◌∷◌, Some, None, true, refl, sym, ap, ap₂, ◌∙◌, arith, inl, inr}
use Rattle.std.proofs.Common.{codes, length, subst, Result, Ok, Err}
use Rattle.std.specs.Prelude.{IfErr, IfOk, map, option_map}
use Rattle.std.specs.Borrow.{Bor}
use Rattle.clap.specs.Words.{App, Row, Rule, Text, first_of, is_simple, is_simple_and_free, matches_of}
use Rattle.clap.specs.Words.{one_of}
use Rattle.ms_session.proofs.OptionLemmas.{verbosity_unasked, form_unasked, number_unasked, policy_unasked}
use Rattle.clap.proofs.OnLiterals.{clap_on_literals}
use Rattle.ms_session.specs.declared.asked.Options.{Options}
use Rattle.command_line.specs.Rules.{Choices, choice_rule}
use Rattle.command_line.specs.Told.{AreNotTaken, AskToBeTold, IsTold, IsUsage}
use Rattle.command_line.specs.declared.matching.Refused.{Refused}
use Rattle.command_line.specs.declared.matching.Refused.TheVariants as refused
use Rattle.ms_session.specs.Asked.{AreAsked, AreRead, AskMore, AskTooMuch, IsAllowed, IsDefault, Says, SaysWhy}
use Rattle.ms_session.specs.CommandLine.{IsCommandLine, line_with}

-- The command line with the words of its choices.
abbrev line_of : Choices → Choices → Choices → App
line_of policies reports forms =
    line_with (choice_rule (codes "policy") policies) (choice_rule (codes "report") reports)
    (choice_rule (codes "format") forms)

line_is_simple : (policies reports forms : Choices) → is_simple (line_of policies reports forms) ≡ true
unfolding clap_on_literals
line_is_simple policies reports forms = refl

line_is_free : (policies reports forms : Choices) → is_simple_and_free (line_of policies reports forms) ≡ true
unfolding clap_on_literals
line_is_free policies reports forms = refl

is_line : (app : App) (line : IsCommandLine app)
    → app ≡ line_of line.policy_is.choices line.report_is.choices line.format_is.choices
is_line app line =
    line.is ∙ ap₂ (λ (policy report : Rule). line_with policy report line.format) line.policy_is.is line.report_is.is
    ∙ ap (line_with (choice_rule (codes "policy") line.policy_is.choices)
    (choice_rule (codes "report") line.report_is.choices)) line.format_is.is

-- Its matches are known, and so are its faults.
pub is_matched : (app : App) → IsCommandLine app → is_simple app ≡ true
is_matched app line =
    ap is_simple (is_line app line)
    ∙ line_is_simple line.policy_is.choices line.report_is.choices line.format_is.choices

pub is_judged : (app : App) → IsCommandLine app → is_simple_and_free app ≡ true
is_judged app line =
    ap is_simple_and_free (is_line app line)
    ∙ line_is_free line.policy_is.choices line.report_is.choices line.format_is.choices

-- What is found without an option: that addresses are not asked for.
found_nowhere : {X : Type 0} (policies reports forms : Choices) (text : X → Text) (words : List X) → length words ≤ 1
    → (one_of (codes "workers") (matches_of (line_of policies reports forms) (map text words)) ≡ None)
    × (one_of (codes "nodes") (matches_of (line_of policies reports forms) (map text words)) ≡ None)
    × (one_of (codes "max-granules") (matches_of (line_of policies reports forms) (map text words)) ≡ None)
    × (one_of (codes "class-nodes") (matches_of (line_of policies reports forms) (map text words)) ≡ None)
    × (first_of (codes "policy") (matches_of (line_of policies reports forms) (map text words)) ≡ None)
    × (first_of (codes "report") (matches_of (line_of policies reports forms) (map text words)) ≡ None)
    × (one_of (codes "addresses") (matches_of (line_of policies reports forms) (map text words)) ≡ Some (codes "false"))
    × (one_of (codes "max-lines") (matches_of (line_of policies reports forms) (map text words)) ≡ None)
    × (first_of (codes "format") (matches_of (line_of policies reports forms) (map text words)) ≡ None)
    × (first_of (codes "names") (matches_of (line_of policies reports forms) (map text words)) ≡ None)
unfolding clap_on_literals
found_nowhere policies reports forms text [] few = (refl, refl, refl, refl, refl, refl, refl, refl, refl, refl)
found_nowhere policies reports forms text (name ∷ []) few = (refl, refl, refl, refl, refl, refl, refl, refl, refl, refl)
found_nowhere policies reports forms text (name ∷ word ∷ words) few = absurd (omega (arith, few))

-- A value that is kept somewhere.
abbrev somewhere : {X : Type 0} → X → Bor X
somewhere value = record { ref_ptr = (0, 0); now = value }

-- So the default options are those that no option asks for.
pub default_is_asked : {X : Type 0} (text : X → Text) (words : List X) (options : Options) → length words ≤ 1
    → IsDefault options → IsAllowed options → AreAsked (map text words) options
default_is_asked text words options few default allowed =
    let policies = somewhere (map somewhere (codes "balanced" ∷ codes "aggressive" ∷ codes "none" ∷ [])) in
    let reports = somewhere (map somewhere (codes "basic" ∷ codes "full" ∷ [])) in
    let forms = somewhere (map somewhere (codes "text" ∷ codes "html" ∷ codes "json" ∷ [])) in
    let rows = matches_of (line_of policies reports forms) (map text words) in
    let found = found_nowhere policies reports forms text words few in
    record {
      app = line_of policies reports forms;
      line = record {
        policy = choice_rule (codes "policy") policies;
        policy_is = record { choices = policies; told = refl; is = refl };
        report = choice_rule (codes "report") reports;
        report_is = record { choices = reports; told = refl; is = refl };
        format = choice_rule (codes "format") forms;
        format_is = record { choices = forms; told = refl; is = refl };
        is = refl;
      };
      allowed = allowed;
      read = record {
        workers = number_unasked rows (codes "workers") 1 8 1 _ found.0 default.workers;
        nodes = number_unasked rows (codes "nodes") 1 64 64 _ found.1 default.nodes;
        max_granules = number_unasked rows (codes "max-granules") 1 40960 8192 _ found.2 default.max_granules;
        class_nodes = number_unasked rows (codes "class-nodes") 0 16 0 _ found.3 default.class_nodes;
        policy = policy_unasked rows _ found.4 default.policy;
        addresses = record {
          absent = λ _. default.addresses;
          unused = λ _. default.addresses;
          used = λ used. let both : Some (codes "false") ≡ Some (codes "true") = sym found.6 ∙ used in absurd (cc);
        };
        verbosity = verbosity_unasked rows _ found.5 default.verbosity;
        written = form_unasked rows _ found.8 default.text;
        max_lines = number_unasked rows (codes "max-lines") 1 10000000 100000 _ found.7 default.max_lines;
        names = ap (option_map (λ path. path.now)) default.names ∙ sym found.9;
      };
    }

-- Where a line for standard error is told, no help is.
says_no_help : (words : List Text) (line : List ℕ) (refused : Refused) → Says line refused → IsTold refused
    → AskToBeTold IsCommandLine words
says_no_help words line (refused.Told text) says told = absurd says
says_no_help words line (refused.Usage text) says told = absurd told
says_no_help words line refused.OutOfMemory says told = absurd told

-- So where several workers are asked for what one alone tells, or names that nothing shows.
pub alone_is_no_help : (words : List Text) (chosen : Result Options Refused) → IfErr chosen SaysWhy
    → IfErr chosen (λ refused. IsTold refused → AskToBeTold IsCommandLine words)
alone_is_no_help words (Ok options) says = tt
alone_is_no_help words (Err refused) (inl says) =
    says_no_help words (codes "metarun: --addresses needs --workers 1\n") refused says
alone_is_no_help words (Err refused) (inr (inl says)) =
    says_no_help words (codes "metarun: --format html or json needs --workers 1\n") refused says
alone_is_no_help words (Err refused) (inr (inr says)) =
    says_no_help words (codes "metarun: --names needs --format html or json, or --report full\n") refused says

-- What was chosen from the matches is what the words ask for.
pub chosen_is_asked : (app : App) (words : List Text) (rows : List Row) (chosen : Result Options Refused)
    → IsCommandLine app → rows ≡ matches_of app words → IfOk chosen IsAllowed → IfOk chosen (AreRead rows)
    → IfOk chosen (AreAsked words)
chosen_is_asked app words rows (Ok options) line same allowed read = record {
  app = app;
  line = line;
  read = subst (λ (found : List Row). AreRead found options) same read;
  allowed = allowed;
}
chosen_is_asked app words rows (Err refused) line same allowed read = tt

-- What is refused of the matches asks more than one worker, or basic reports, can show.
pub chosen_asks_too_much : (app : App) (words : List Text) (rows : List Row) (chosen : Result Options Refused)
    → IsCommandLine app → rows ≡ matches_of app words → IfErr chosen (λ refused. AskMore rows)
    → IfErr chosen (λ refused. IsUsage refused → AreNotTaken IsCommandLine words ⊎ AskTooMuch words)
chosen_asks_too_much app words rows (Ok options) line same more = tt
chosen_asks_too_much app words rows (Err refused) line same more =
    λ usage. inr (record { app = app; line = line; more = subst AskMore same more })
