-- An entry that gives nothing is passed, and the first that gives a line is the last that goes.
use Rattle.std.proofs.Common.{◌∙◌, ap, arith, length, sym}
use Rattle.jvm_log.proofs.FollowingLemmas.{passes_line, passes_none}
use Rattle.jvm_log.proofs.held.Held.next.Goals as goal

pub returns-then-is_some-clause-first : goal.returns-then-is_some-clause-first
returns-then-is_some-clause-first c =
    passes_line c.known-line.result c.in_ok-pass.field-0 c.args.self.now c.loop-passed.self c.pass.new.self c.loop-passed.invariant.passed
    c.in_ok-pass.ensures.goes c.known-line.ensures.some

pub loop-passed-preserved : goal.loop-passed-preserved
loop-passed-preserved c = record {
  passed =
      passes_none c.known-line.result c.in_ok-pass.field-0 c.args.self.now c.loop-passed.self c.pass.new.self c.loop-passed.invariant.passed
      c.in_ok-pass.ensures.goes (sym c.is_some.ensures ∙ c.if-is_some.false) c.known-line.ensures.none;
  count = omega (arith, ap length c.in_ok-pass.ensures.goes.lines, c.loop-passed.invariant.count);
}
