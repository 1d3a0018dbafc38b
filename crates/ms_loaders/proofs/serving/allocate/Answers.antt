use Rattle.std.proofs.Common.{inl, inr, refl, sym}
use Rattle.ms_loaders.proofs.serving.allocate.Goals as goal

pub returns-in_default-clause-refused : goal.returns-in_default-clause-refused
returns-in_default-clause-refused g c =
    inl (record { refusal_is = refl; none = sym c.in_default.ensures.found; same = refl }, refl)

pub allocate-requires : goal.allocate-requires
allocate-requires g c =
    c.requires.served c.args.name c.in-Some.loader.now (sym c.in-Some.ensures.found) c.args.space

pub returns-in-Ok-clause-served : goal.returns-in-Ok-clause-served
returns-in-Ok-clause-served g c = (
  c.in-Ok.made,
  refl,
  rw (← c.in-Ok.is) (record {
    was = c.in-Some.loader.now;
    is = c.allocate.new.self;
    found = sym c.in-Some.ensures.found;
    allocates = c.allocate.ensures.allocates;
    served = c.allocate.ensures.served;
    rest = c.allocate.ensures.rest;
    sound = c.allocate.ensures.sound;
    changed = refl;
    unchanged = c.allocate.ensures.unchanged;
  }),
)

pub returns-in-Err-clause-refused : goal.returns-in-Err-clause-refused
returns-in-Err-clause-refused g c = inr (rw (← c.in-Err.is) (record {
  was = c.in-Some.loader.now;
  is = c.allocate.new.self;
  found = sym c.in-Some.ensures.found;
  allocates = c.allocate.ensures.allocates;
  served = c.allocate.ensures.served;
  rest = c.allocate.ensures.rest;
  sound = c.allocate.ensures.sound;
  changed = refl;
  unchanged = c.allocate.ensures.unchanged;
}))
