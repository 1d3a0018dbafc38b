-- What a numeral is read as. Used by `number_given`.
use Rattle.std.proofs.Common.{◌≡◌, ◌<◌, ◌^◌, ℕ, List, Option, Some, None, Result, Ok, Err, ap}
use Rattle.std.specs.Str.Parse.{IsNumeral, ParsesUnsigned, without_leading_plus}
use Rattle.clap.specs.Matches.{ReadsOne}
use Rattle.command_line.specs.Given.{number_of}

-- A numeral, after a plus or without one, is read as the number that it writes.
pub numeral_is_read : (E : Type 0) (gives : List ℕ → Result ℕ E → Type 0) (text : List ℕ) (read : Option ℕ)
    → IsNumeral 10 (without_leading_plus text) → number_of text < 2 ^ 64
    → ((parsed : Result ℕ E) → gives text parsed → ParsesUnsigned 64 10 text parsed)
    → ReadsOne gives text read → read ≡ Some (number_of text)
numeral_is_read E gives text (Some value) digits small parses reads =
    ap (λ (n : ℕ). Some n) (parses (Ok value) reads).1
numeral_is_read E gives text None digits small parses reads =
    absurd (parses (Err reads.0) reads.1 (digits, small))
