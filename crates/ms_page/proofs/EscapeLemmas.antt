-- Escaped texts have no markup. `laws` uses this.
use Rattle.std.proofs.Common.{◌≡◌, ◌≢◌, ◌==◌, ℕ, Bool, true, false, List, [], ◌∷◌, refl, ap, codes}
use Rattle.std.specs.Prelude.{if◌then◌else◌}
use Rattle.std.specs.List.{All}
use Rattle.std.proofs.lemmas.Bool.{eqb-false}
use Rattle.std.proofs.lemmas.List.Elements.{All-append, All-cons, All-nil}
use Rattle.ms_page.specs.Escape.{entity, escaped}
use Rattle.ms_page.specs.Laws.{IsNoMarkup}

-- A test for it.
abbrev is_plain : ℕ → Bool
is_plain byte = if byte == 60 then false else (if byte == 62 then false else (if byte == 34 then false else true))

plain_is : (byte : ℕ) → is_plain byte ≡ true → IsNoMarkup byte
plain_is byte plain = record {
  opens = λ e. let no : is_plain byte ≡ false = ap is_plain e in absurd (cc (plain, no));
  closes = λ e. let no : is_plain byte ≡ false = ap is_plain e in absurd (cc (plain, no));
  quotes = λ e. let no : is_plain byte ≡ false = ap is_plain e in absurd (cc (plain, no));
}

abbrev are_plain : List ℕ → Bool
are_plain [] = true
are_plain (byte ∷ bytes) = if is_plain byte then are_plain bytes else false

both_plain : (first : ℕ) (bytes : List ℕ) (b : Bool) → is_plain first ≡ b → (if b then are_plain bytes else false) ≡ true
    → (are_plain bytes ≡ true → All IsNoMarkup bytes) → All IsNoMarkup (first ∷ bytes)
both_plain first bytes true its others later = All-cons IsNoMarkup first bytes (plain_is first its) (later others)
both_plain first bytes false its others later = absurd (cc others)

plain_are : (bytes : List ℕ) → are_plain bytes ≡ true → All IsNoMarkup bytes
plain_are [] plain = All-nil IsNoMarkup
plain_are (byte ∷ bytes) plain = both_plain byte bytes (is_plain byte) refl plain (plain_are bytes)

-- Whatever stands for a byte has none.
entity_by : (byte : ℕ) (less more and quote : Bool) → (less ≡ false → byte ≢ 60) → (more ≡ false → byte ≢ 62)
    → (quote ≡ false → byte ≢ 34)
    → All IsNoMarkup
    (if less then codes "&lt;"
    else (if more then codes "&gt;"
    else (if and then codes "&amp;" else (if quote then codes "&quot;" else byte ∷ []))))
entity_by byte true more and quote l m q = plain_are (codes "&lt;") refl
entity_by byte false true and quote l m q = plain_are (codes "&gt;") refl
entity_by byte false false true quote l m q = plain_are (codes "&amp;") refl
entity_by byte false false false true l m q = plain_are (codes "&quot;") refl
entity_by byte false false false false l m q =
    All-cons IsNoMarkup byte [] (record { opens = l refl; closes = m refl; quotes = q refl }) (All-nil IsNoMarkup)

entity_is : (byte : ℕ) → All IsNoMarkup (entity byte)
entity_is byte =
    entity_by byte (byte == 60) (byte == 62) (byte == 38) (byte == 34) (eqb-false byte 60) (eqb-false byte 62)
    (eqb-false byte 34)

pub escaped_is : (text : List ℕ) → All IsNoMarkup (escaped text)
escaped_is [] = All-nil IsNoMarkup
escaped_is (byte ∷ text) = All-append IsNoMarkup (entity byte) (escaped text) (entity_is byte) (escaped_is text)
