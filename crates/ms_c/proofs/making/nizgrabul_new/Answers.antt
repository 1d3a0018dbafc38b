use Rattle.std.proofs.Common.{ap, ◌∙◌, Some, refl, sym}
use Rattle.ms_c.proofs.making.nizgrabul_new.Goals as goal

-- the box holds the new machine
pub returns-in-Ok-new-clause-made : goal.returns-in-Ok-new-clause-made
returns-in-Ok-new-clause-made c = λ _. record {
  settings = c.in-Some-settings_of.settings;
  named = c.in-Some-settings_of.ensures.some;
  none = c.in_default.ensures.none refl;
  made = c.put-in-Ok-new.ensures ∙ ap (λ m. Some m) (c.in-Ok-new.ensures.ok ∙ c.in-Ok.ensures);
}

-- a handle that is used has its system still
pub returns-in-Some-clause-refused : goal.returns-in-Some-clause-refused
returns-in-Some-clause-refused c = λ _. c.put.ensures ∙ sym c.in-Some.ensures.some
