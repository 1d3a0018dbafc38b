use Rattle.std.proofs.Common.{inl, inr, refl, sym}
use Rattle.ms_loaders.proofs.steps.CallLemmas.{same_loaders}
use Rattle.ms_loaders.proofs.serving.write.Goals as goal

pub returns-in-None : goal.returns-in-None
returns-in-None c =
    inl (record { refusal_is = refl; none = sym c.in-None.ensures.found; same = refl })

pub returns-in-Ok : goal.returns-in-Ok
returns-in-Ok c = record {
  was = c.in-Some.loader.now;
  is = c.write.new.self;
  found = sym c.in-Some.ensures.found;
  owners = c.write.ensures.owners;
  sound = c.write.ensures.sound;
  so = c.in-Ok.ensures.written;
  changed = refl;
}

pub returns-in-Err : goal.returns-in-Err
returns-in-Err c = inr (record {
  loader = c.in-Some.loader.now;
  found = sym c.in-Some.ensures.found;
  so = c.in-Err.ensures.refused;
  same = same_loaders c.args.loaders.now c.args.name c.in-Some.loader.now c.write.new.self
      (sym c.in-Some.ensures.found) c.in-Err.ensures.unchanged;
})
