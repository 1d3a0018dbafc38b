-- What an option is where it was not given, and what a policy, a verbosity and a form are by their
-- words. Used by `policy_in`, `verbosity_in`, `form_in` and `options_of` of `options`.
use Rattle.std.proofs.Common.{◌≡◌, ℕ, List, Some, None, sym, ◌∙◌}
use Rattle.std.specs.Prelude.{codes}
use Rattle.std.proofs.lemmas.Option.{none-some, same_Some}
use Rattle.clap.specs.Words.{Row, Text, first_of, one_of}
use Rattle.ms_base.specs.declared.policy.Policy.{Policy}
use Rattle.ms_base.specs.declared.policy.Policy.TheVariants.{Balanced, Aggressive, None as NonePolicy}
use Rattle.ms_answers.specs.declared.verbosity.Verbosity.{Verbosity}
use Rattle.ms_answers.specs.declared.verbosity.Verbosity.TheVariants.{Basic, Full}
use Rattle.ms_session.specs.declared.asked.Form.{Form}
use Rattle.ms_session.specs.declared.asked.Form.TheVariants.{Text as TextForm, Html, Json}
use Rattle.ms_session.specs.Asked.{ReadsVerbosity, ReadsForm, ReadsNumber, ReadsPolicy}

-- A number and a policy that were not given.
pub number_unasked : (rows : List Row) (id : Text) (least most default number : ℕ) → one_of id rows ≡ None
    → number ≡ default → ReadsNumber rows id least most default number
number_unasked rows id least most default number none is = record {
  absent = λ _. is;
  given = λ text found accepted. absurd (none-some text (sym none ∙ found));
}

pub policy_unasked : (rows : List Row) (chosen : Policy) → first_of (codes "policy") rows ≡ None
    → chosen ≡ Balanced → ReadsPolicy rows chosen
policy_unasked rows chosen none is = record {
  absent = λ _. is;
  balanced = λ _. is;
  aggressive = λ text. absurd (none-some (codes "aggressive") (sym none ∙ text));
  none = λ text. absurd (none-some (codes "none") (sym none ∙ text));
}

-- A policy that was given by its word.
pub policy_given : (rows : List Row) (word : List ℕ) (chosen : Policy) → first_of (codes "policy") rows ≡ Some word
    → (word ≡ codes "balanced" → chosen ≡ Balanced) → (word ≡ codes "aggressive" → chosen ≡ Aggressive)
    → (word ≡ codes "none" → chosen ≡ NonePolicy) → ReadsPolicy rows chosen
policy_given rows word chosen found balanced aggressive none = record {
  absent = λ empty. absurd (none-some word (sym empty ∙ found));
  balanced = λ text. balanced (same_Some word (codes "balanced") (sym found ∙ text));
  aggressive = λ text. aggressive (same_Some word (codes "aggressive") (sym found ∙ text));
  none = λ text. none (same_Some word (codes "none") (sym found ∙ text));
}

-- The same of a report's verbosity.
pub verbosity_unasked : (rows : List Row) (chosen : Verbosity) → first_of (codes "report") rows ≡ None
    → chosen ≡ Basic → ReadsVerbosity rows chosen
verbosity_unasked rows chosen none is = record {
  absent = λ _. is;
  basic = λ _. is;
  full = λ text. absurd (none-some (codes "full") (sym none ∙ text));
}

pub verbosity_given : (rows : List Row) (word : List ℕ) (chosen : Verbosity) → first_of (codes "report") rows ≡ Some word
    → (word ≡ codes "basic" → chosen ≡ Basic) → (word ≡ codes "full" → chosen ≡ Full) → ReadsVerbosity rows chosen
verbosity_given rows word chosen found basic full = record {
  absent = λ empty. absurd (none-some word (sym empty ∙ found));
  basic = λ text. basic (same_Some word (codes "basic") (sym found ∙ text));
  full = λ text. full (same_Some word (codes "full") (sym found ∙ text));
}

-- The same of a form.
pub form_unasked : (rows : List Row) (chosen : Form) → first_of (codes "format") rows ≡ None
    → chosen ≡ TextForm → ReadsForm rows chosen
form_unasked rows chosen none is = record {
  absent = λ _. is;
  text = λ _. is;
  html = λ word. absurd (none-some (codes "html") (sym none ∙ word));
  json = λ word. absurd (none-some (codes "json") (sym none ∙ word));
}

pub form_given : (rows : List Row) (word : List ℕ) (chosen : Form) → first_of (codes "format") rows ≡ Some word
    → (word ≡ codes "text" → chosen ≡ TextForm) → (word ≡ codes "html" → chosen ≡ Html) → (word ≡ codes "json" → chosen ≡ Json)
    → ReadsForm rows chosen
form_given rows word chosen found text html json = record {
  absent = λ empty. absurd (none-some word (sym empty ∙ found));
  text = λ same. text (same_Some word (codes "text") (sym found ∙ same));
  html = λ same. html (same_Some word (codes "html") (sym found ∙ same));
  json = λ same. json (same_Some word (codes "json") (sym found ∙ same));
}
