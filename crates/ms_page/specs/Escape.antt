-- Texts of the input between tags.
use Rattle.std.specs.Prelude.{ℕ, ◌==◌, List, [], ◌∷◌, codes, if◌then◌else◌}
use Rattle.std.specs.List.{flat_map}

-- What stands for a byte: `&lt;`, `&gt;`, `&amp;` and `&quot;` for those that begin or end
-- something, and for any other itself.
abbrev pub entity : ℕ → List ℕ
entity byte =
    if byte == 60 then codes "&lt;"
    else (if byte == 62 then codes "&gt;"
    else (if byte == 38 then codes "&amp;" else (if byte == 34 then codes "&quot;" else byte ∷ [])))

abbrev pub escaped : List ℕ → List ℕ
escaped text = flat_map entity text
