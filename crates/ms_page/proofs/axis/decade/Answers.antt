use Rattle.std.proofs.Common.{inl, inr, suc, refl, arith}
use Rattle.std.proofs.Math.Nat.{pow-suc}
use Rattle.ms_page.proofs.axis.decade.Goals as goal

pub loop-decade-init : goal.loop-decade-init
loop-decade-init c = record { power = (0, refl); least = inl refl; some = omega arith; small = omega arith }

pub loop-decade-preserved : goal.loop-decade-preserved
loop-decade-preserved c =
    let its = c.loop-decade.invariant in
    record {
      power = (suc its.power.0, omega (arith, its.power.1, pow-suc 10 its.power.0));
      least = inr (omega (arith, c.loop-decade-test.true));
      some = omega (arith, its.some);
      small = omega (arith, c.loop-decade-test.true);
    }

pub returns-clause-decade : goal.returns-clause-decade
returns-clause-decade c =
    let its = c.loop-decade.invariant in
    record { power = its.power; reaches = omega (arith, c.loop-decade-test.false); least = its.least }
