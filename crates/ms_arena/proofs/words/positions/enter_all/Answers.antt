-- One stretch more has its position.
use Rattle.std.proofs.Common.{◌+◌, ◌-◌, ◌∙◌, ℕ, ap, arith, cond, nat_eq}
use Rattle.ms_arena.specs.Positions.{position_in}
use Rattle.ms_arena.proofs.PositionLemmas.{given_none, given_more}
use Rattle.ms_arena.proofs.words.positions.enter_all.Goals as goal

pub loop-stretch-init : goal.loop-stretch-init
loop-stretch-init c = record {
  put = λ other. given_none c.args.first c.args.position other (position_in c.args.newest.now c.args.others.now other);
  room = omega (arith, c.requires.order);
}

pub loop-stretch-preserved : goal.loop-stretch-preserved
loop-stretch-preserved c =
    let stretch = c.loop-stretch.stretch in
    let position : ℕ = c.args.position + (stretch - c.args.first) in
    record {
      put = λ other. c.enter.ensures.put other
          ∙ ap (cond (nat_eq stretch other) position) (c.loop-stretch.invariant.put other)
          ∙ given_more c.args.first stretch c.args.position other (position_in c.args.newest.now c.args.others.now other)
          (omega (arith, c.loop-stretch.auto.stretch));
      room = omega (arith, c.loop-stretch.invariant.room, c.enter.ensures.room, c.loop-stretch.auto.stretch);
    }
