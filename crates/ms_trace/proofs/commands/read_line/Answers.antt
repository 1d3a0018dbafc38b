-- A command with the line's fields is spelled as the line.
use Rattle.std.proofs.Common.{◌∙◌, sym, ap}
use Rattle.std.proofs.lemmas.List.Splits.{join_with_byte-slice_split}
use Rattle.std.specs.List.{join_with_byte}
use Rattle.ms_trace.proofs.commands.read_line.Goals as goal

pub returns-clause-spelled : goal.returns-clause-spelled
returns-clause-spelled c = sym (join_with_byte-slice_split 32 c.args.line.now)
    ∙ ap (join_with_byte 32) (sym c.in_ok-read_command.ensures.spelled)
