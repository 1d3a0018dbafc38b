use Rattle.std.proofs.Common.{ap, ◌∙◌, Some, refl}
use Rattle.ms_c.proofs.sharing.nizgrabul_share.Goals as goal

-- the box has the new pool's first seat
pub returns-in-Ok-clause-made : goal.returns-in-Ok-clause-made
returns-in-Ok-clause-made c = λ _. record {
  settings = c.in-Some-settings_of.settings;
  named = c.in-Some-settings_of.ensures.some;
  none = c.in_default.ensures.none refl;
  now = c.in-Some-share.member;
  after_is = c.put-in-Ok.ensures ∙ ap (λ m. Some m) c.in-Ok.ensures.ok;
  first = c.in-Some-share.ensures;
}
