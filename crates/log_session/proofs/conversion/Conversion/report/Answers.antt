-- A report is asked for at the end, unless none is wanted.
use Rattle.std.proofs.Common.{◌≡◌, [], ◌∷◌, rules}
use Rattle.ms_trace.specs.declared.trace.Command.TheVariants.{Report}
use Rattle.log_session.specs.Trace.{last_report}
use Rattle.log_session.proofs.TraceLemmas.{ok_map}
use Rattle.log_session.proofs.EndedLemmas.{ends_reported, ends_unreported}
use Rattle.log_session.proofs.conversion.Conversion.report.Goals as goal

pub returns-then-not-are_at_end : goal.returns-then-not-are_at_end
returns-then-not-are_at_end g c =
    let none : last_report c.args.self.now.options.reports ≡ [] = search rules in λ start said ended.
    ends_unreported c.args.self.now.options said start (g.W.Write.contents c.args.output.now) c.args.self.now.text.text.items none ended

pub returns : goal.returns
returns g c =
    let one : last_report c.args.self.now.options.reports ≡ Report ∷ [] = search rules in
    ok_map c.add.result _ _
    (λ writes start said ended.
    ends_reported c.args.self.now.options said start (g.W.Write.contents c.args.output.now) (g.W.Write.contents c.add.new.output)
    c.args.self.now.text.text.items c.add.new.self.text.items one writes ended)
    c.add.ensures.lines
