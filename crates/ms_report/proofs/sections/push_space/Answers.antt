use Rattle.ms_report.proofs.sections.push_space.Goals as goal

pub returns : goal.returns
returns c = rw (c.from.ensures, c.from-2.ensures) at c.push_number_lines.ensures
