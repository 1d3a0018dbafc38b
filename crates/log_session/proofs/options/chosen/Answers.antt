use Rattle.log_session.proofs.options.chosen.Goals as goal

pub returns : goal.returns
returns c = record {
  reports = c.reports_in.ensures;
  merge = c.merge_in.ensures;
  names = c.word_given.ensures;
}
