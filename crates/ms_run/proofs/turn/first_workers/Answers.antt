use Rattle.std.proofs.Common.{◌∙◌, ◌++◌, ◌∷◌, [], ℕ, List, length, sym, ap, subst, take, arith}
use Rattle.ms_trace.specs.declared.trace.Line.{Line}
use Rattle.ms_run.specs.Turn.{IsNumbered}
use Rattle.ms_run.proofs.TurnLemmas.{none_numbered, numbered_more, all_numbered, written_back, all_unnamed}
use Rattle.ms_run.proofs.turn.first_workers.Goals as goal

pub loop-line-init : goal.loop-line-init
loop-line-init c = record {
  below = omega (arith, c.requires.some);
  names = sym c.in_ok-first.first.ok.0 ∙ c.in_ok-first.ensures.len;
  numbered = none_numbered c.args.workers c.in_ok-first.first.items c.requires.some
      (all_unnamed 65536 c.in_ok-first.first.items
      (c.in_ok-first.ensures.items_if_clones_equal (λ y same. same)));
}

pub loop-line-preserved : goal.loop-line-preserved
loop-line-preserved c =
    let same = c.as_mut_slice.ensures.value in
    let names = c.number-next.ensures.names ∙ ap length same in
    rw (written_back c.loop-line.first.len c.number-next.new.first c.loop-line.first.items names c.loop-line.first.ok.0)
    (record {
      below = c.number-next.ensures.below;
      names = names ∙ c.loop-line.invariant.names;
      numbered = numbered_more c.args.lines.now c.loop-line.line-index _ c.args.workers c.number-next.new.first
          c.number-next.result c.loop-line-test.true
          (subst (λ (line : Line). IsNumbered (take c.loop-line.line-index c.args.lines.now ++ line ∷ []) c.args.workers
          c.number-next.new.first c.number-next.result) c.line-item.is
          (c.number-next.ensures.numbered (take c.loop-line.line-index c.args.lines.now)
          (subst (λ (l : List ℕ). IsNumbered (take c.loop-line.line-index c.args.lines.now) c.args.workers l
          c.loop-line.next) (sym same) c.loop-line.invariant.numbered)));
    })

pub returns : goal.returns
returns c = record {
  first = all_numbered c.args.lines.now c.loop-line.line-index c.args.workers c.loop-line.first.items c.loop-line.next
      (let end = c.loop-line.auto.line-index-end in omega (arith, c.loop-line-test.false, end))
      c.loop-line.invariant.numbered;
}
