-- Objects as lists of labels with what they hold, and their text (this project's choice).
use Rattle.std.specs.Prelude.{ℕ, List, [], ◌∷◌, ◌++◌, Bool, true, not, ◌&&◌, map, nat_lt}
use denote.Ref.{Bor}
use Rattle.json.specs.Print.{escape_letter, quoted}
use Rattle.serde_json.specs.Data.{Data, Members, array, member, no_members, number, object, unsigned}
use Rattle.serde_json.specs.View.{items_of}
use Rattle.serde_json.specs.Written.{comma_if, compact_text}

-- A natural number, an array, and an object with these members in their order.
abbrev pub natural : ℕ → Data
natural n = number (unsigned n)

abbrev pub list_of : List Data → Data
list_of ds = array (items_of ds)

abbrev pub Row : Type 0
Row = List ℕ × Data

abbrev pub labelled : List Row → Members
labelled [] = no_members
labelled (row ∷ rows) = member row.0 row.1 (labelled rows)

abbrev pub object_of : List Row → Data
object_of rows = object (labelled rows)

-- A text stands between quotes as it is: it has no quote, no backslash and no control character.
abbrev pub is_plain_byte : ℕ → Bool
is_plain_byte byte = not (nat_lt 0 (escape_letter byte)) && not (nat_lt byte 32)

abbrev pub is_plain : List ℕ → Bool
is_plain [] = true
is_plain (byte ∷ bytes) = is_plain_byte byte && is_plain bytes

-- A member's text, after a comma where something stands before, and those of some members.
abbrev pub member_text : Bool → Row → List ℕ
member_text later row = comma_if later ++ (quoted row.0 ++ 58 ∷ compact_text row.1)

abbrev pub members_run : Bool → List Row → List ℕ
members_run later [] = []
members_run later (row ∷ rows) = member_text later row ++ members_run true rows

-- The members that come after others, and then an end.
abbrev pub rows_then : List Row → List ℕ → List ℕ
rows_then [] end = end
rows_then (row ∷ rows) end = 44 ∷ (quoted row.0 ++ 58 ∷ (compact_text row.1 ++ rows_then rows end))

-- Elements of an array, the first after a comma where something stands before.
abbrev pub elements_run : Bool → List Data → List ℕ
elements_run later [] = []
elements_run later (d ∷ ds) = (comma_if later ++ compact_text d) ++ elements_run true ds

-- Numbers under labels as code keeps them: the rows that they stand for, and that each label is
-- plain.
abbrev pub number_row : Bor (List ℕ) × ℕ → Row
number_row row = (row.0.now, natural row.1)

abbrev pub number_rows : List (Bor (List ℕ) × ℕ) → List Row
number_rows rows = map number_row rows

abbrev pub are_plain : List (Bor (List ℕ) × ℕ) → Bool
are_plain [] = true
are_plain (row ∷ rows) = is_plain row.0.now && are_plain rows

-- Whether something stands before what comes after some elements.
abbrev pub is_later : Bool → List Data → Bool
is_later later [] = later
is_later later (d ∷ ds) = true
