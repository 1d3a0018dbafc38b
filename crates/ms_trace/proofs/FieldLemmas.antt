-- Fields without a fault: each is the text of a number or a kind, and there are as many as the word
-- has.
use Rattle.std.proofs.Common.{◌≡◌, ℕ, ◌⊎◌, get_or, suc, ◌^◌, ◌<◌, ◌≤◌, Bool, true, false, cond, not, ◌||◌, eqb, ltb}
use Rattle.std.proofs.Common.{List, [], ◌∷◌, length, refl, sym, ap, arith, Option, Some, None}
use Rattle.std.proofs.lemmas.Bool.{both_ways, lt-ltb}
use Rattle.std.proofs.lemmas.Bool.Decides.{nat_tests}
use Rattle.std.proofs.lemmas.Slice.Eq.{bytes_eq-Decides}
use Rattle.std.specs.Fmt.{decimal}
use Rattle.std.specs.Char.{is_ascii_digit}
use Rattle.std.specs.List.{list_all}
use Rattle.std.specs.Str.{all_ascii_digits}
use Rattle.std.specs.Str.Parse.{digits_value}
use Rattle.ms_base.specs.declared.kind.Kind.{Kind}
use Rattle.ms_base.specs.declared.kind.Kind.TheVariants.{Standard, Boot, Reflection, Hidden}
use Rattle.ms_trace.specs.declared.fault.FaultKind.{FaultKind}
use Rattle.ms_trace.specs.declared.fault.FaultKind.TheVariants.{FieldCount, BadKind, BadNumber, NumberTooLarge}
use Rattle.ms_trace.specs.Grammar.{Field, kind_field, number_field, kind_word}
use Rattle.ms_trace.specs.Faults.{is_number, field_fault, first_of_two, fields_fault, after_word_fault}
use Rattle.ms_trace.proofs.DigitLemmas.{is_number-decimal, value-decimal, decimal-value, is_number_from_digits}
use Rattle.ms_trace.proofs.DigitLemmas.{plain_from_is_number, list_all-digits}

-- The text has no fault at this field.
pub record Passes (field : Field) (bytes : List ℕ) : Type 0 where
  pub without_fault : field_fault field bytes ≡ None

-- A number up to the greatest has no fault.
pub number_passes : (greatest n : ℕ) → n ≤ greatest → n < 2 ^ 64 → Passes (number_field greatest) (decimal n)
number_passes greatest n low small =
    record { without_fault = grind (arith, nat_tests, is_number-decimal n small, value-decimal n small) }

-- A field for a number is what `decimal` writes of a number up to the greatest.
pub record IsNumeral (greatest : ℕ) (bytes : List ℕ) : Type 0 where
  pub value : ℕ
  pub low : value ≤ greatest
  pub written : decimal value ≡ bytes

number_form : (good large : Bool) → cond (not good) (Some BadNumber) (cond large (Some NumberTooLarge) None) ≡ None
    → (good ≡ true) × (large ≡ false)
number_form true true e = cc
number_form true false e = (refl, refl)
number_form false large e = cc

pub number_read : {greatest : ℕ} {bytes : List ℕ} → greatest < 2 ^ 64 → Passes (number_field greatest) bytes
    → IsNumeral greatest bytes
number_read {greatest} {bytes} small passes =
    let parts : (is_number bytes ≡ true) × (ltb greatest (digits_value 10 bytes) ≡ false) =
    number_form _ _ passes.without_fault in
    let low : digits_value 10 bytes ≤ greatest = grind (arith, nat_tests, parts.1) in
    record { value = digits_value 10 bytes; low = low; written = decimal-value bytes parts.0 (omega arith) }

-- A number of more than 64 bits is too large for each field, and what isn't all digits is no
-- number.
long_form : (digits : Bool) (greatest : ℕ) (bytes : List ℕ) → digits ≡ all_ascii_digits bytes
    → (all_ascii_digits bytes ≡ true → is_number bytes ≡ true)
    → (is_number bytes ≡ true → all_ascii_digits bytes ≡ true) →
    ltb greatest (digits_value 10 bytes) ≡ true
    → Some (cond digits NumberTooLarge BadNumber) ≡ field_fault (number_field greatest) bytes
long_form true greatest bytes e from to large = rw (from (sym e)) (rw large refl)
long_form false greatest bytes e from to large =
    let no : is_number bytes ≡ false = elim (is_number bytes) as (λ b. is_number bytes ≡ b → b ≡ false)
    [ true ↦ λ f. absurd (both_ways _ (sym e) (to f)) | false ↦ λ f. refl ] refl in
    rw no refl

pub long_fault : (greatest : ℕ) (bytes : List ℕ) → greatest < 2 ^ 64 → 2 ^ 64 ≤ digits_value 10 bytes → 0 < length bytes
    → ((get_or bytes 0 0 ≡ 48) × (length bytes ≡ 1)) ⊎ (get_or bytes 0 0 ≡ 48 → ⊥) →
    Some (cond (list_all is_ascii_digit bytes) NumberTooLarge BadNumber) ≡ field_fault (number_field greatest) bytes
long_fault greatest bytes small long some either =
    long_form _ greatest bytes (list_all-digits bytes)
    (λ all. is_number_from_digits bytes all some either) (λ number. (plain_from_is_number bytes number).digits)
    (lt-ltb greatest (digits_value 10 bytes) (omega arith))

-- The word of a kind has no fault.
pub kind_passes : (kind : Kind) → Passes kind_field (kind_word kind)
kind_passes Standard = record { without_fault = refl }
kind_passes Boot = record { without_fault = refl }
kind_passes Reflection = record { without_fault = refl }
kind_passes Hidden = record { without_fault = refl }

-- A field for a kind is the word of a kind.
pub record IsKindWord (bytes : List ℕ) : Type 0 where
  pub kind : Kind
  pub written : kind_word kind ≡ bytes

kind_form : (bytes : List ℕ) (a b c d : Bool) → (a ≡ true → kind_word Standard ≡ bytes)
    → (b ≡ true → kind_word Boot ≡ bytes) → (c ≡ true → kind_word Reflection ≡ bytes)
    → (d ≡ true → kind_word Hidden ≡ bytes) → cond (a || (b || (c || (d || false)))) None (Some BadKind) ≡ None
    → IsKindWord bytes
kind_form bytes true b c d of_a of_b of_c of_d e = record { kind = Standard; written = of_a refl }
kind_form bytes false true c d of_a of_b of_c of_d e = record { kind = Boot; written = of_b refl }
kind_form bytes false false true d of_a of_b of_c of_d e = record { kind = Reflection; written = of_c refl }
kind_form bytes false false false true of_a of_b of_c of_d e = record { kind = Hidden; written = of_d refl }
kind_form bytes false false false false of_a of_b of_c of_d e = cc

pub kind_read : {bytes : List ℕ} → Passes kind_field bytes → IsKindWord bytes
kind_read {bytes} passes =
    kind_form bytes _ _ _ _
    (λ h. sym ((bytes_eq-Decides bytes (kind_word Standard)).0 h))
    (λ h. sym ((bytes_eq-Decides bytes (kind_word Boot)).0 h))
    (λ h. sym ((bytes_eq-Decides bytes (kind_word Reflection)).0 h))
    (λ h. sym ((bytes_eq-Decides bytes (kind_word Hidden)).0 h))
    passes.without_fault

-- As many texts as fields, and none has a fault.
pub data Pass : List Field → List (List ℕ) → Type 0 where
  none : Pass [] []
  more : {field : Field} {bytes : List ℕ} {fields : List Field} {rest : List (List ℕ)} → Passes field bytes
      → Pass fields rest → Pass (field ∷ fields) (bytes ∷ rest)

-- Texts that pass are no fault of a known word.
counted : {fields : List Field} {rest : List (List ℕ)} → Pass fields rest → length rest ≡ length fields
counted none = refl
counted (more passes pass) = ap suc (counted pass)

faultless : {fields : List Field} {rest : List (List ℕ)} → Pass fields rest → fields_fault fields rest ≡ None
faultless none = refl
faultless (more passes pass) = rw passes.without_fault (faultless pass)

pub no_fault_from_pass : {fields : List Field} {rest : List (List ℕ)} → Pass fields rest
    → after_word_fault (Some fields) rest ≡ None
no_fault_from_pass pass = grind (arith, nat_tests, counted pass, faultless pass)

-- Without a fault the texts pass.
both_none : (one other : Option FaultKind) → first_of_two one other ≡ None → (one ≡ None) × (other ≡ None)
both_none None other e = (refl, e)
both_none (Some kind) other e = cc

pass_from_parts : (fields : List Field) (rest : List (List ℕ)) → length rest ≡ length fields
    → fields_fault fields rest ≡ None → Pass fields rest
pass_from_parts [] [] same e = none
pass_from_parts [] (bytes ∷ rest) same e = absurd (omega (arith, same))
pass_from_parts (field ∷ fields) [] same e = absurd (omega (arith, same))
pass_from_parts (field ∷ fields) (bytes ∷ rest) same e =
    let parts : (field_fault field bytes ≡ None) × (fields_fault fields rest ≡ None) =
    both_none (field_fault field bytes) (fields_fault fields rest) e in
    more (record { without_fault = parts.0 }) (pass_from_parts fields rest (omega (arith, same)) parts.1)

count_form : (same : Bool) (fault : Option FaultKind) → cond same fault (Some FieldCount) ≡ None
    → (same ≡ true) × (fault ≡ None)
count_form true fault e = (refl, e)
count_form false fault e = cc

pub pass_from_no_fault : (fields : List Field) (rest : List (List ℕ)) → after_word_fault (Some fields) rest ≡ None
    → Pass fields rest
pass_from_no_fault fields rest e =
    let parts : (eqb (length rest) (length fields) ≡ true) × (fields_fault fields rest ≡ None) = count_form _ _ e in
    pass_from_parts fields rest (grind (arith, nat_tests, parts.0)) parts.1
