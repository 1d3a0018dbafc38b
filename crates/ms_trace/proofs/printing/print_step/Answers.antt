use Rattle.std.proofs.Common.{arith}
use Rattle.std.proofs.lemmas.Grind.{common_steps}
use Rattle.ms_trace.proofs.printing.print_step.Goals as goal

pub returns-in-New-clause-printed : goal.returns-in-New-clause-printed
returns-in-New-clause-printed g c = grind (arith, common_steps)

pub returns-in-Alloc-clause-printed : goal.returns-in-Alloc-clause-printed
returns-in-Alloc-clause-printed g c = grind (arith, common_steps)

pub returns-in-Calloc-clause-printed : goal.returns-in-Calloc-clause-printed
returns-in-Calloc-clause-printed g c = grind (arith, common_steps)

pub returns-in-Write-clause-printed : goal.returns-in-Write-clause-printed
returns-in-Write-clause-printed g c = grind (arith, common_steps)

pub returns-in-Read-clause-printed : goal.returns-in-Read-clause-printed
returns-in-Read-clause-printed g c = grind (arith, common_steps)

pub returns-in-Free-clause-printed : goal.returns-in-Free-clause-printed
returns-in-Free-clause-printed g c = grind (arith, common_steps)

pub returns-in-Unload-clause-printed : goal.returns-in-Unload-clause-printed
returns-in-Unload-clause-printed g c = grind (arith, common_steps)
