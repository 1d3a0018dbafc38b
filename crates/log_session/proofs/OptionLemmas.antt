-- Where reports stand by their word. Used by `reports_in` of `options`.
use Rattle.std.proofs.Common.{◌≡◌, ℕ, List, Some, None, sym, ◌∙◌}
use Rattle.std.specs.Prelude.{codes}
use Rattle.std.proofs.lemmas.Option.{none-some, same_Some}
use Rattle.clap.specs.Words.{Row, first_of}
use Rattle.log_session.specs.declared.options.Reports.{Reports}
use Rattle.log_session.specs.declared.options.Reports.TheVariants as reports
use Rattle.log_session.specs.Asked.{ReadsReports}

-- Where no reports are asked for, one stands at the end.
pub reports_unasked : (rows : List Row) (chosen : Reports) → first_of (codes "reports") rows ≡ None
    → chosen ≡ reports.End → ReadsReports rows chosen
reports_unasked rows chosen none is = record {
  absent = λ _. is;
  at_end = λ _. is;
  gc = λ text. absurd (none-some (codes "gc") (sym none ∙ text));
  none = λ text. absurd (none-some (codes "none") (sym none ∙ text));
}

-- Reports that are asked for by their word.
pub reports_given : (rows : List Row) (word : List ℕ) (chosen : Reports) → first_of (codes "reports") rows ≡ Some word
    → (word ≡ codes "end" → chosen ≡ reports.End) → (word ≡ codes "gc" → chosen ≡ reports.Gc)
    → (word ≡ codes "none" → chosen ≡ reports.None) → ReadsReports rows chosen
reports_given rows word chosen found at_end gc none = record {
  absent = λ empty. absurd (none-some word (sym empty ∙ found));
  at_end = λ text. at_end (same_Some word (codes "end") (sym found ∙ text));
  gc = λ text. gc (same_Some word (codes "gc") (sym found ∙ text));
  none = λ text. none (same_Some word (codes "none") (sym found ∙ text));
}
