use Rattle.std.proofs.Common.{inr}
use Rattle.std.proofs.lemmas.Option.{IfSome_then}
use Rattle.ms_session.proofs.starting.start.Goals as goal

pub returns-in-Ok-clause-answered : goal.returns-in-Ok-clause-answered
returns-in-Ok-clause-answered g c = λ zero few.
    (c.in-Ok.options, c.in-Ok.ensures.default few, c.session.ensures.answered zero)

pub returns-in-Ok-clause-obeyed : goal.returns-in-Ok-clause-obeyed
returns-in-Ok-clause-obeyed g c = λ zero.
    inr (record { options = c.in-Ok.options; asked = c.in-Ok.ensures.asked; answered = c.session.ensures.answered zero })

pub returns-in-Ok-clause-failed : goal.returns-in-Ok-clause-failed
returns-in-Ok-clause-failed g c = λ five.
    inr (record { options = c.in-Ok.options; asked = c.in-Ok.ensures.asked; broken_off = c.session.ensures.failed five })

pub returns-in-Ok-clause-faulty : goal.returns-in-Ok-clause-faulty
returns-in-Ok-clause-faulty g c = λ one.
    IfSome_then (g.R.Read.remaining c.args.input.now) (c.session.ensures.faulty one)
    (λ bytes fault. record {
      options = c.in-Ok.options;
      asked = c.in-Ok.ensures.asked;
      line = fault.0;
      kind = fault.1;
      fault = fault.2;
    })
