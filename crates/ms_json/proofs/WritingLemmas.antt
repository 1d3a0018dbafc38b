-- Texts of objects and arrays, part by part. Used by `writing`, `series`, `state`, `run` and
-- `document`.
use Rattle.std.proofs.Common.{◌≡◌, ◌<◌, ◌+◌, ◌%◌, ◌^◌, ℕ, Bool, true, false, not, ◌&&◌, cond, List, [], ◌∷◌, ◌++◌, refl, sym, ap, ap₂, ◌∙◌, append_assoc}
use Rattle.std.proofs.Common.{Result, Ok, Err, OnOk, is_ok, if◌then◌else◌, arith, codes, suc, zero}
use Rattle.std.specs.Fmt.{decimal}
use Rattle.std.proofs.lemmas.Fmt.{decimal_by_steps}
use Rattle.std.specs.Prelude.{nat_lt}
use Rattle.json.specs.Print.{escape, escape_byte, escape_letter, quoted}
use Rattle.serde_json.specs.Data.{Data}
use Rattle.serde_json.specs.View.{items_of}
use Rattle.serde_json.specs.Written.{comma_if, compact_text, items_text, members_text}
use Rattle.ms_pool.specs.declared.mapping.Cell.{Cell}
use Rattle.ms_pool.specs.declared.mapping.Cell.TheVariants.{Free, FreeCommitted, LentUncommitted, LentPartly, LentWholly}
use Rattle.ms_report.specs.Map.{letter, letters}
use Rattle.ms_report.proofs.TextLemmas.{adds_two, adds_text}
use Rattle.ms_json.specs.Rows.{Row, elements_run, is_later, is_plain, is_plain_byte, labelled, list_of, members_run, object_of}

regroup_member : (c q t r e : List ℕ)
    → c ++ (q ++ 58 ∷ (t ++ (r ++ e))) ≡ ((c ++ (q ++ 58 ∷ t)) ++ r) ++ e
regroup_member c q t r e =
    ap (λ (x : List ℕ). c ++ x) (sym (append_assoc q (58 ∷ t) (r ++ e)))
    ∙ sym (append_assoc c (q ++ 58 ∷ t) (r ++ e))
    ∙ sym (append_assoc (c ++ (q ++ 58 ∷ t)) r e)

-- The members of an object, one after the other, then its closing bracket.
members_are : (later : Bool) (rows : List Row)
    → members_text later (labelled rows) ≡ members_run later rows ++ 125 ∷ []
members_are later [] = refl
members_are later (row ∷ rows) =
    ap (λ (x : List ℕ). comma_if later ++ (quoted row.0 ++ 58 ∷ (compact_text row.1 ++ x))) (members_are true rows)
    ∙ regroup_member (comma_if later) (quoted row.0) (compact_text row.1) (members_run true rows) (125 ∷ [])

pub object_text : (rows : List Row) → compact_text (object_of rows) ≡ 123 ∷ (members_run false rows ++ 125 ∷ [])
object_text rows = ap (λ (x : List ℕ). 123 ∷ x) (members_are false rows)

-- Elements of an array, and the ones that come after them.
later_still : (ds : List Data) → is_later true ds ≡ true
later_still [] = refl
later_still (d ∷ ds) = refl

regroup_element : (c t r e : List ℕ) → c ++ (t ++ (r ++ e)) ≡ ((c ++ t) ++ r) ++ e
regroup_element c t r e = sym (append_assoc c t (r ++ e)) ∙ sym (append_assoc (c ++ t) r e)

pub items_after : (later : Bool) (ds es : List Data)
    → items_text later (items_of (ds ++ es)) ≡ elements_run later ds ++ items_text (is_later later ds) (items_of es)
items_after later [] es = refl
items_after later (d ∷ ds) es =
    ap (λ (x : List ℕ). comma_if later ++ (compact_text d ++ x)) (items_after true ds es
    ∙ ap (λ (l : Bool). elements_run true ds ++ items_text l (items_of es)) (later_still ds))
    ∙ regroup_element (comma_if later) (compact_text d) (elements_run true ds) (items_text true (items_of es))

pub items_are : (later : Bool) (ds : List Data) → items_text later (items_of ds) ≡ elements_run later ds ++ 93 ∷ []
items_are later [] = refl
items_are later (d ∷ ds) =
    ap (λ (x : List ℕ). comma_if later ++ (compact_text d ++ x)) (items_are true ds)
    ∙ regroup_element (comma_if later) (compact_text d) (elements_run true ds) (93 ∷ [])

pub array_text : (ds : List Data) → compact_text (list_of ds) ≡ 91 ∷ (elements_run false ds ++ 93 ∷ [])
array_text ds = ap (λ (x : List ℕ). 91 ∷ x) (items_are false ds)

-- A plain text stands between quotes as it is.
by_tests : (a b : Bool) (u v w : List ℕ) → not a && not b ≡ true → cond a u (cond b v w) ≡ w
by_tests false false u v w plain = refl
by_tests false true u v w plain = absurd (cc)
by_tests true b u v w plain = absurd (cc)

plain_byte : (byte : ℕ) → is_plain_byte byte ≡ true → escape_byte byte ≡ byte ∷ []
unfolding escape_byte
plain_byte byte plain = by_tests (nat_lt 0 (escape_letter byte)) (nat_lt byte 32) _ _ (byte ∷ []) plain

both_first : (a b : Bool) → a && b ≡ true → a ≡ true
both_first true b both = refl
both_first false b both = both

both_second : (a b : Bool) → a && b ≡ true → b ≡ true
both_second true b both = both
both_second false b both = absurd (cc)

pub escape_plain : (text : List ℕ) → is_plain text ≡ true → escape text ≡ text
escape_plain [] plain = refl
escape_plain (byte ∷ bytes) plain = ap₂ (λ (a b : List ℕ). a ++ b)
    (plain_byte byte (both_first (is_plain_byte byte) (is_plain bytes) plain))
    (escape_plain bytes (both_second (is_plain_byte byte) (is_plain bytes) plain))

pub quoted_plain : (text : List ℕ) → is_plain text ≡ true → quoted text ≡ 34 ∷ (text ++ 34 ∷ [])
quoted_plain text plain = ap (λ (x : List ℕ). 34 ∷ (x ++ 34 ∷ [])) (escape_plain text plain)

-- So do digits, and letters.
plain_digit : (digit : ℕ) → digit < 10 → is_plain_byte (48 + digit) ≡ true
plain_digit zero few = refl
plain_digit (suc zero) few = refl
plain_digit (suc (suc zero)) few = refl
plain_digit (suc (suc (suc zero))) few = refl
plain_digit (suc (suc (suc (suc zero)))) few = refl
plain_digit (suc (suc (suc (suc (suc zero))))) few = refl
plain_digit (suc (suc (suc (suc (suc (suc zero)))))) few = refl
plain_digit (suc (suc (suc (suc (suc (suc (suc zero))))))) few = refl
plain_digit (suc (suc (suc (suc (suc (suc (suc (suc zero)))))))) few = refl
plain_digit (suc (suc (suc (suc (suc (suc (suc (suc (suc zero))))))))) few = refl
plain_digit (suc (suc (suc (suc (suc (suc (suc (suc (suc (suc more)))))))))) few = absurd (omega (arith, few))

pub plain_both : (a b : List ℕ) → is_plain a ≡ true → is_plain b ≡ true → is_plain (a ++ b) ≡ true
plain_both [] b first second = second
plain_both (byte ∷ a) b first second = ap₂ (λ (x y : Bool). x && y)
    (both_first (is_plain_byte byte) (is_plain a) first)
    (plain_both a b (both_second (is_plain_byte byte) (is_plain a) first) second)

plain_one : (byte : ℕ) → is_plain_byte byte ≡ true → is_plain (byte ∷ []) ≡ true
plain_one byte plain = ap (λ (x : Bool). x && true) plain

pub plain_decimal : (n : ℕ) → n < 2 ^ 64 → is_plain (decimal n) ≡ true
plain_decimal n small = decimal_by_steps (λ number text. is_plain text ≡ true)
    (λ digit few. plain_one (48 + digit) (plain_digit digit few))
    (λ number text many plain. plain_both text ((48 + number % 10) ∷ []) plain
    (plain_one (48 + number % 10) (plain_digit (number % 10) (omega (arith, many)))))
    n small

letter_plain : (cell : Cell) → is_plain (letter cell) ≡ true
letter_plain Free = refl
letter_plain FreeCommitted = refl
letter_plain LentUncommitted = refl
letter_plain LentPartly = refl
letter_plain LentWholly = refl

pub letters_plain : (cells : List Cell) → is_plain (letters cells) ≡ true
letters_plain [] = refl
letters_plain (cell ∷ cells) = plain_both (letter cell) (letters cells) (letter_plain cell) (letters_plain cells)

-- What a call added is the same as another text.
pub adds_as : {X E : Type 0} (result : Result X E) (old new a b : List ℕ) → a ≡ b → OnOk result (new ≡ old ++ a)
    → OnOk result (new ≡ old ++ b)
adds_as (Ok done) old new a b same adds = adds ∙ ap (λ (text : List ℕ). old ++ text) same
adds_as (Err error) old new a b same adds = tt

-- Three pieces, the last of them in a call that may fail.
pub adds_around : {X E : Type 0} (result : Result X E) (old t1 t2 new a b c d : List ℕ) → (a ++ b) ++ c ≡ d
    → t1 ≡ old ++ a → t2 ≡ t1 ++ b → new ≡ (if is_ok result then t2 ++ c else t2) → OnOk result (new ≡ old ++ d)
adds_around result old t1 t2 new a b c d same first second third =
    adds_as result old new ((a ++ b) ++ c) d same
    (adds_text result old t2 new (a ++ b) c (adds_two old t1 t2 a b first second) third)

-- A plain text between quotes, elements between brackets, and members between braces.
pub in_quotes : {X E : Type 0} (result : Result X E) (old t1 t2 new word : List ℕ) → is_plain word ≡ true
    → t1 ≡ old ++ codes "\"" → t2 ≡ t1 ++ word → new ≡ (if is_ok result then t2 ++ codes "\"" else t2)
    → OnOk result (new ≡ old ++ quoted word)
in_quotes result old t1 t2 new word plain first second third =
    adds_around result old t1 t2 new (codes "\"") word (codes "\"") (quoted word) (sym (quoted_plain word plain)) first second third

pub in_brackets : {X E : Type 0} (result : Result X E) (old t1 t2 new : List ℕ) (ds : List Data)
    → t1 ≡ old ++ codes "[" → t2 ≡ t1 ++ elements_run false ds → new ≡ (if is_ok result then t2 ++ codes "]" else t2)
    → OnOk result (new ≡ old ++ compact_text (list_of ds))
in_brackets result old t1 t2 new ds first second third =
    adds_around result old t1 t2 new (codes "[") (elements_run false ds) (codes "]") (compact_text (list_of ds))
    (sym (array_text ds)) first second third

pub in_braces : {X E : Type 0} (result : Result X E) (old t1 t2 new : List ℕ) (rows : List Row)
    → t1 ≡ old ++ codes "{" → t2 ≡ t1 ++ members_run false rows → new ≡ (if is_ok result then t2 ++ codes "}" else t2)
    → OnOk result (new ≡ old ++ compact_text (object_of rows))
in_braces result old t1 t2 new rows first second third =
    adds_around result old t1 t2 new (codes "{") (members_run false rows) (codes "}") (compact_text (object_of rows))
    (sym (object_text rows)) first second third

-- A label with its colon.
pub label_text : {X E : Type 0} (result : Result X E) (old t1 t2 new c q : List ℕ)
    → t1 ≡ old ++ c → t2 ≡ t1 ++ q → new ≡ (if is_ok result then t2 ++ codes ":" else t2)
    → OnOk result (new ≡ old ++ (c ++ (q ++ 58 ∷ [])))
label_text result old t1 t2 new c q first second third =
    adds_around result old t1 t2 new c q (codes ":") (c ++ (q ++ 58 ∷ [])) (append_assoc c q (58 ∷ [])) first second third
