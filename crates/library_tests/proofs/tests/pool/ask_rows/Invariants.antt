use Rattle.ms_pool.specs.Ledger.{Serves}
use Rattle.library_tests.proofs.tests.pool.ask_rows.Given as goal

abbrev pub invariant-rows : goal.invariant-rows
invariant-rows g l = Serves l.pool l.account
