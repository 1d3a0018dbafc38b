use Rattle.ms_trace.proofs.trace.Lines.into_vec.Goals as goal

pub returns : goal.returns
returns c = c.self.view_is
