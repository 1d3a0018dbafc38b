use Rattle.ms_report.proofs.setup.push_setting_rows.Goals as goal

pub returns : goal.returns
returns c =
    rw (c.granule.ensures, c.from.ensures, c.from-2.ensures, c.from-3.ensures) at c.push_number_lines.ensures
