use Rattle.std.proofs.Common.{◌∙◌, ◌≡◌, ◌+◌, ℕ, Bool, sym, subst, arith, ap, length}
use Rattle.std.specs.Prelude.{Option}
use Rattle.ms_course.specs.declared.births.Birth.{Birth}
use Rattle.ms_course.specs.declared.stretch.Stretch.{Stretch}
use Rattle.ms_course.specs.Gathering.{CourseView, Gathers, IsCounted, birth_of, birth_with, lies, stretch_next}
use Rattle.ms_course.proofs.GatheringLemmas.{between_push, birth_push}
use Rattle.ms_course.proofs.course.Course.push.Goals as goal

pub invariant_of-self-2 : goal.invariant_of-self-2
invariant_of-self-2 c =
    let was = c.self.inside in
    let one_more : was.columns.answered + 1 ≡ c.push.new.self.answered = omega (
      arith,
      c.push.ensures.answered,
      c.if-position-self.false,
      c.answered-position.ensures.answered,
      c.answered-position.ensures.within,
      c.self.invariant.lines,
    ) in
    record {
      lines = c.push.ensures.lines ∙ c.self.invariant.lines;
      within = omega (arith, c.push.ensures.answered, c.push.ensures.lines);
      few =
          subst (λ (most : ℕ). IsCounted most c.note-2.new.self) one_more
          (c.note-2.ensures.few was.columns.answered c.self.invariant.few);
    }

pub returns-clause-gathered : goal.returns-clause-gathered
returns-clause-gathered c = λ moments more its.
    let was = c.self.inside in
    let moment = c.args.moment.now in
    let here = subst (λ (view : CourseView). Gathers view moments) (sym c.self.view_is) its in
    let at : c.answered-position.result ≡ length moments = omega (
      arith,
      more,
      ap (λ (view : CourseView). view.schedule.lines) c.self.view_is,
      c.self.invariant.lines,
      c.answered-position.ensures.answered,
      here.columns.answered,
    ) in
    record {
      lines = c.push.ensures.lines ∙ c.self.invariant.lines;
      columns = c.push.ensures.shown moments here.columns;
      refusals = c.note-2.ensures.counts moments here.refusals;
      before =
          c.go_on.ensures
          ∙ ap (λ (b : Bool). stretch_next b was.before moment)
          (c.lies_between-is_before.ensures ∙ ap (lies was.schedule.turn was.schedule.half) at)
          ∙ ap (λ (stretch : Stretch).
          stretch_next (lies was.schedule.turn was.schedule.half (length moments)) stretch moment) here.before
          ∙ sym (between_push was.schedule.turn was.schedule.half moments moment);
      after =
          c.go_on-2.ensures
          ∙ ap (λ (b : Bool). stretch_next b was.after moment)
          (c.lies_between-is_after.ensures ∙ ap (lies was.schedule.half was.schedule.lines) at)
          ∙ ap (λ (stretch : Stretch).
          stretch_next (lies was.schedule.half was.schedule.lines (length moments)) stretch moment) here.after
          ∙ sym (between_push was.schedule.half was.schedule.lines moments moment);
      births = λ name.
          c.in_ok-note.ensures.noted name
          ∙ ap (λ (birth : Option Birth). birth_with name c.answered-position.result moment birth) (here.births name)
          ∙ ap (λ (p : ℕ). birth_with name p moment (birth_of name moments)) at
          ∙ sym (birth_push name moments moment);
    }
