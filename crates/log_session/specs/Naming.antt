-- The text of the file of names.
use Rattle.std.specs.Prelude.{◌+◌, ℕ, List, [], ◌∷◌, ◌++◌, codes, nat_eq, option_map, unwrap_or, Vec}
use Rattle.std.specs.Fmt.{decimal}
use Rattle.std.specs.Map.{lookup}

-- What is told of the loader before which so many came, and `?` where nothing is.
abbrev pub told_of : {A : Type 0} → List (ℕ × Vec ℕ A) → ℕ → List ℕ
told_of texts birth = unwrap_or (option_map (λ text. text.items) (lookup (nat_eq birth) texts)) (codes "?")

-- A line: the loader's number, a space, and what is told of it.
abbrev pub name_line : ℕ → List ℕ → List ℕ
name_line number told = decimal number ++ 32 ∷ told ++ 10 ∷ []

-- The lines of loaders in their order, before which so many came.
abbrev pub names_text : {A : Type 0} → List (ℕ × Vec ℕ A) → ℕ → List ℕ → List ℕ
names_text texts birth [] = []
names_text texts birth (number ∷ numbers) = name_line number (told_of texts birth) ++ names_text texts (birth + 1) numbers
