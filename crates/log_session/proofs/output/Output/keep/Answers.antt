use Rattle.log_session.proofs.OutputLemmas.{reads_back}
use Rattle.log_session.proofs.output.Output.keep.Goals as goal

pub returns-in_err-print_command-clause-reads : goal.returns-in_err-print_command-clause-reads
returns-in_err-print_command-clause-reads c = reads_back c.args.command c.print_command.ensures.valid

pub returns-clause-reads : goal.returns-clause-reads
returns-clause-reads c = reads_back c.args.command c.print_command.ensures.valid
