use Rattle.log_session.proofs.options.merge_in.Goals as goal

pub returns : goal.returns
returns c = record {
  absent = c.number_given.ensures.absent;
  given = λ text is accepted. c.number_given.ensures.given text is accepted.0 accepted.1;
}
