use Rattle.std.proofs.Common.{inl, inr, suc, refl, arith}
use Rattle.std.proofs.Math.Nat.{pow-suc}
use Rattle.ms_page.proofs.axis.word_step.Goals as goal

pub loop-step-init : goal.loop-step-init
loop-step-init c = record { power = (0, refl); least = inl refl; some = omega arith; small = omega arith }

pub loop-step-preserved : goal.loop-step-preserved
loop-step-preserved c =
    let its = c.loop-step.invariant in
    record {
      power = (suc its.power.0, omega (arith, its.power.1, pow-suc 2 its.power.0));
      least = inr (omega (arith, c.loop-step-test.true));
      some = omega (arith, its.some);
      small = omega (arith, c.loop-step-test.true);
    }

pub returns : goal.returns
returns c =
    let its = c.loop-step.invariant in
    record { power = its.power; reaches = omega (arith, c.loop-step-test.false); least = its.least }
