-- Whether a name is among loaders, by the answer to that question.
use Rattle.std.proofs.Common.{◌≡◌, ℕ, Bool, true, false, Option, is_some, Some, None, List, refl, sym, ◌∙◌}
use Rattle.ms_base.specs.Names.{named}
use Rattle.ms_loader.specs.Loader.{LoaderView}

pub found : {X : Type 0} (o : Option X) → is_some o ≡ true → (x : X) × (o ≡ Some x)
found None e = absurd (cc)
found (Some x) e = (x, refl)

pub missing : {X : Type 0} (o : Option X) → is_some o ≡ false → o ≡ None
missing None e = refl
missing (Some x) e = absurd (cc)

-- A name that is told to be free is free.
pub unused_name : (loaders : List (ℕ × LoaderView)) (name : ℕ) (told : Bool) → told ≡ is_some (named loaders name)
    → told ≡ false → named loaders name ≡ None
unused_name loaders name told is free = missing (named loaders name) (sym is ∙ free)
