use Rattle.std.proofs.Common.{◌≡◌, arith, subst, sym}
use Rattle.ms_base.specs.Request.{loader_of}
use Rattle.ms_loader_map.specs.Used.{used_in}
use Rattle.ms_run.specs.Moved.{IsMoved}
use Rattle.ms_run.proofs.metered.MeterMoveLemmas.{moved_none, moved_up}
use Rattle.ms_run.proofs.metered.UseLemmas.{used_moved}
use Rattle.ms_run.proofs.metering.answer_rise.Goals as goal

pub returns-then-rise-ne0-clause-moved : goal.returns-then-rise-ne0-clause-moved
returns-then-rise-ne0-clause-moved g c =
    let sum =
    used_moved c.args.loaders.now c.answer-reply.new.loaders (loader_of c.args.step) c.args.name c.requires.names
    c.requires.manned.names c.answer-reply.ensures.answered.manned.names c.answer-reply.ensures.answered.others in
    moved_up c.args.seat.now c.add.new.seat (used_in c.args.loaders.now) (used_in c.answer-reply.new.loaders)
    c.used_by-before.result c.used_by.result
    c.used_by-before.type_inv (omega (arith, sum, c.used_by-before.ensures, c.used_by.ensures)) c.add.ensures

pub returns-else-rise-ne0-clause-moved : goal.returns-else-rise-ne0-clause-moved
returns-else-rise-ne0-clause-moved g c =
    let sum =
    used_moved c.args.loaders.now c.answer-reply.new.loaders (loader_of c.args.step) c.args.name c.requires.names
    c.requires.manned.names c.answer-reply.ensures.answered.manned.names c.answer-reply.ensures.answered.others in
    let same : used_in c.answer-reply.new.loaders ≡ used_in c.args.loaders.now = omega (
      arith,
      sum,
      c.used_by-before.ensures,
      c.used_by.ensures,
      c.used_by-before.type_inv,
      c.used_by.type_inv,
      c.if-rise-ne0.false,
    ) in
    subst (λ used. IsMoved c.args.seat.now (used_in c.args.loaders.now) c.args.seat.now used) (sym same)
    (moved_none c.args.seat.now (used_in c.args.loaders.now))
