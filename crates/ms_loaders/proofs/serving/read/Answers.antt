use Rattle.std.proofs.Common.{inl, inr, refl, sym}
use Rattle.ms_loaders.proofs.serving.read.Goals as goal

pub returns-in-None : goal.returns-in-None
returns-in-None c = inl (record { refusal_is = refl; none = sym c.in-None.ensures; same = refl })

pub returns-in-Ok : goal.returns-in-Ok
returns-in-Ok c = record {
  loader = c.in-Some.loader.now;
  found = sym c.in-Some.ensures;
  so = c.in-Ok.ensures.value;
  same = refl;
}

pub returns-in-Err : goal.returns-in-Err
returns-in-Err c = inr (record {
  loader = c.in-Some.loader.now;
  found = sym c.in-Some.ensures;
  so = c.in-Err.ensures.refused;
  same = refl;
})
