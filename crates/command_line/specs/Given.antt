-- What an option's value says.
use Rattle.std.specs.Prelude.{ℕ}
use Rattle.std.specs.Str.Parse.{digits_value, without_leading_plus}
use Rattle.clap.specs.Words.{Text}

-- The number that a text writes in digits, after a plus or without one.
abbrev pub number_of : Text → ℕ
number_of text = digits_value 10 (without_leading_plus text)
