use Rattle.std.proofs.Common.{inl, inr}
use Rattle.std.proofs.KnownBytes.{Keeps-refl}
use Rattle.std.specs.Prelude.{string_bytes}
use Rattle.ms_session.proofs.answering.session.Goals as goal

pub returns-in-Ok-write_text-clause-answered : goal.returns-in-Ok-write_text-clause-answered
returns-in-Ok-write_text-clause-answered g c = λ zero.
    let told = c.in-Ok.ensures.ok in
    record {
      text = told.0;
      written = string_bytes c.in-Ok.text;
      whole = told.1;
      output = told.2;
      out = rw (← c.as_bytes.ensures.value) c.in-Ok-write_text.ensures.ok;
    }

pub returns-in-Ok-clause-failed : goal.returns-in-Ok-clause-failed
returns-in-Ok-clause-failed g c = λ five.
    let told = c.in-Ok.ensures.ok in
    let part = c.in-Err-write_text.ensures.err in
    inr (record {
      text = told.0;
      written = string_bytes c.in-Ok.text;
      count = part.0;
      whole = told.1;
      output = told.2;
      out = rw (← c.as_bytes.ensures.value) part.1;
    })

pub returns-clause-untouched : goal.returns-clause-untouched
returns-clause-untouched g c = λ refused. Keeps-refl (g.W.Write.contents c.args.output.now)

pub returns-clause-failed : goal.returns-clause-failed
returns-clause-failed g c = λ five. inl (Keeps-refl (g.W.Write.contents c.args.output.now))
