-- What a file says of the loaders of a trace, as a member of the document (this project's choice).
use Rattle.std.specs.Prelude.{List, [], ◌∷◌, codes, map, string_bytes}
use Rattle.serde_json.specs.Data.{Data, string}
use Rattle.ms_json.specs.Rows.{Row, list_of, natural}
use Rattle.ms_json.specs.declared.naming.Named.{Named}

-- The line that makes a loader, the loader's name in the trace, and what is said of it.
abbrev pub name_data : Named → Data
name_data named = list_of (natural named.line ∷ natural named.loader ∷ string (string_bytes named.text) ∷ [])

-- There is no member where nothing is said.
abbrev pub name_rows : List Named → List Row
name_rows [] = []
name_rows (named ∷ more) = (codes "names", list_of (map name_data (named ∷ more))) ∷ []
