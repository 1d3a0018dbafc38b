-- What a device holds after one write more, where it tells its bytes. Used by `write_text`.
use Rattle.std.proofs.Common.{◌+◌, ◌-◌, ◌≤◌, ℕ, List, length, take, drop, Option, arith}
use Rattle.std.proofs.KnownBytes.{Appends-trans}
use Rattle.std.proofs.Math.Seq.{take-add}
use Rattle.std.proofs.lemmas.List.{take_rest, length-drop}
use Rattle.std.specs.Io.KnownBytes.{Appends}

-- The first bytes of a text are out, and some of the rest.
pub appends_more : (old mid new : Option (List ℕ)) (text : List ℕ) (out count : ℕ) → Appends old mid (take out text)
    → Appends mid new (take count (take (length text - out) (drop out text)))
    → Appends old new (take (out + count) text)
appends_more old mid new text out count a b =
    rw (take-add out count text)
    (Appends-trans old mid new (take out text) (take count (drop out text)) a (rw (take_rest text out) at b))

-- What was taken of the rest of a text lies within the text.
pub taken_within : (text : List ℕ) (out count : ℕ) → out ≤ length text
    → count ≤ length (take (length text - out) (drop out text)) → out + count ≤ length text
taken_within text out count within b = omega (arith, rw (take_rest text out, length-drop out text) at b, within)
