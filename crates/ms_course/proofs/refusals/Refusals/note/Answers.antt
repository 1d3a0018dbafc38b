use Rattle.std.proofs.Common.{List, sym, subst, ap, ◌∙◌}
use Rattle.ms_course.specs.declared.refusals.Refused.{Refused}
use Rattle.ms_course.specs.Gathering.{Counts, refused_with}
use Rattle.ms_course.proofs.RefusedLemmas.{counts_next}
use Rattle.ms_course.proofs.refusals.Refusals.note.Goals as goal

pub returns-clause-counts : goal.returns-clause-counts
returns-clause-counts c = λ moments its.
    counts_next c.self.inside.by_number.items c.number.result c.add.new.refused c.index_mut.result.now c.in-Some.reason
    moments c.args.moment.now (sym c.in-Some.ensures) c.number.ensures.number c.number.ensures.within
    (c.add.ensures ∙ ap (λ (old : Refused). refused_with old c.args.moment.now.line) c.index_mut.ensures.value)
    (subst (λ (refusals : List Refused). Counts refusals moments) (sym c.self.view_is) its)
