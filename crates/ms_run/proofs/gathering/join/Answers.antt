use Rattle.std.proofs.Common.{Result, Ok, Err, IfOk}
use Rattle.ms_run.specs.declared.fault.RunFault.{RunFault}
use Rattle.ms_run.specs.Joined.{IsJoined}
use Rattle.ms_run.proofs.sharing.GatherLemmas.{Loaders, joined_swapped, other_names}
use Rattle.ms_run.proofs.gathering.join.Goals as goal

swapped : (whole part : Loaders) (result : Result Loaders RunFault) → IfOk result (IsJoined part whole)
    → IfOk result (IsJoined whole part)
swapped whole part (Ok new) joined = joined_swapped whole part new joined
swapped whole part (Err fault) joined = tt

pub returns-then-len-clause-joined : goal.returns-then-len-clause-joined
returns-then-len-clause-joined c = swapped c.args.whole c.args.part c.insert_all.result c.insert_all.ensures.joined

pub insert_all-requires-clause-others : goal.insert_all-requires-clause-others
insert_all-requires-clause-others c = other_names c.args.whole c.args.part c.requires.others
