use Rattle.std.proofs.Common.{◌∙◌, ◌++◌, [], ◌∷◌, sym, subst, arith, ap}
use Rattle.ms_course.specs.declared.column.Column.{Column}
use Rattle.ms_course.specs.Course.{ColumnsView, Shows, with_moment}
use Rattle.ms_course.specs.Fewness.{AreFew}
use Rattle.ms_course.proofs.ShowsLemmas.{filled, shows_next, shows_past}
use Rattle.ms_course.proofs.columns.Columns.push.Goals as goal

pub returns-then-self-clause-shown : goal.returns-then-self-clause-shown
returns-then-self-clause-shown c = λ moments its.
    let was = c.self.inside in
    subst (λ (view : ColumnsView). Shows view (moments ++ c.args.moment.now ∷ [])) c.self.view_is
    (shows_past was.lines was.answered was.columns.items moments c.args.moment.now
    (subst (λ (view : ColumnsView). Shows view moments) (sym c.self.view_is) its) c.if-self.true)

pub returns-clause-shown : goal.returns-clause-shown
returns-clause-shown c = λ moments its.
    let was = c.self.inside in
    shows_next was.lines was.answered c.column_for-index.result was.columns.items c.add.new.column
    c.index_mut.result.now moments c.args.moment.now (subst (λ (view : ColumnsView). Shows view moments) (sym c.self.view_is) its)
    (omega (arith, c.self.invariant.within, c.if-self.false)) c.column_for-index.ensures.column
    c.column_for-index.ensures.within
    (c.add.ensures.shown ∙ ap (λ (old : Column). with_moment old c.args.moment.now) c.index_mut.ensures.value)

pub invariant_of-self : goal.invariant_of-self
invariant_of-self c =
    let was = c.self.inside in
    filled was.lines was.answered c.column_for-index.result was.columns.items c.add.new.column c.self.invariant
    (omega (arith, c.self.invariant.within, c.if-self.false))
    (c.add.ensures.few was.answered
    (subst (λ (old : Column). AreFew was.answered old) (sym c.index_mut.ensures.value)
    (c.self.invariant.few c.column_for-index.result c.index_mut.result.now
    (omega (arith, c.column_for-index.ensures.within, c.self.invariant.count)))))
