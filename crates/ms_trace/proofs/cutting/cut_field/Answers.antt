use Rattle.ms_trace.proofs.cutting.cut_field.Goals as goal

pub returns : goal.returns
returns c = record { parts = c.cut_at.ensures.parts }
