use Rattle.std.proofs.Common.{sym, subst, arith}
use Rattle.ms_base.specs.State.{empty_machine, limits_of}
use Rattle.ms_base.specs.Good.{IsGood}
use Rattle.ms_run.proofs.AloneLemmas.{begins}
use Rattle.ms_run.proofs.replays.EmptyMachineLemmas.{good_when_empty}
use Rattle.ms_run.proofs.replays.ReplayLemmas.{used_none}
use Rattle.ms_run.proofs.alone.begin_run.Goals as goal

pub begin-peaks-requires : goal.begin-peaks-requires
begin-peaks-requires c = sym (used_none c.in_ok-system.system c.args.settings c.in_ok-system.ensures)

pub returns-clause-taken : goal.returns-clause-taken
returns-clause-taken c =
    begins _ (empty_machine (limits_of c.args.settings)) c.in_ok-system.ensures c.begin-peaks.ensures.peaks

pub returns-clause-good : goal.returns-clause-good
returns-clause-good c =
    subst IsGood (sym c.in_ok-system.ensures)
    (good_when_empty (limits_of c.args.settings) (omega (arith, c.args.settings.class_nodes_few)))

pub returns-clause-used : goal.returns-clause-used
returns-clause-used c = used_none c.in_ok-system.system c.args.settings c.in_ok-system.ensures
