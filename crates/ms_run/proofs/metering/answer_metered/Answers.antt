use Rattle.std.proofs.Common.{ℕ, ◌≡◌, ◌+◌, refl, rules, subst, sym}
use Rattle.ms_base.specs.Request.{loader_of}
use Rattle.ms_loader_map.specs.Used.{used_in}
use Rattle.ms_run.specs.Moved.{IsMoved}
use Rattle.ms_run.proofs.metered.MeterMoveLemmas.{moved_down, moved_none}
use Rattle.ms_run.proofs.metered.UseLemmas.{used_gone, used_stays}
use Rattle.ms_run.proofs.metering.answer_metered.Goals as goal

pub returns-in-Unload-clause-moved : goal.returns-in-Unload-clause-moved
returns-in-Unload-clause-moved g c =
    moved_down c.args.seat.now c.sub.new.seat (used_in c.args.loaders.now) (used_in c.answer.new.loaders)
    c.used_by.result c.used_by.type_inv
    (subst (λ (gone : ℕ). used_in c.answer.new.loaders + gone ≡ used_in c.args.loaders.now)
    (sym c.used_by.ensures)
    (used_gone c.args.loaders.now c.answer.new.loaders c.in-Unload.loader c.answer.result c.requires.manned.names
    c.answer.ensures.answered.manned.names c.answer.ensures.answered.others
    (c.answer.ensures.answered.own c.in-Unload.loader refl)))
    c.sub.ensures

pub returns-in_default-clause-moved : goal.returns-in_default-clause-moved
returns-in_default-clause-moved g c =
    subst (λ used. IsMoved c.args.seat.now (used_in c.args.loaders.now) c.args.seat.now used)
    (sym (used_stays c.args.loaders.now c.answer-in_default.new.loaders (loader_of c.args.step) c.requires.manned.names
    c.answer-in_default.ensures.answered.manned.names
    c.answer-in_default.ensures.answered.others (c.answer-in_default.ensures.used (search rules))))
    (moved_none c.args.seat.now (used_in c.args.loaders.now))
