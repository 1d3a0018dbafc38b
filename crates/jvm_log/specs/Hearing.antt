-- How a log goes to a listener: line by line, what each says, in their order.
use Rattle.std.specs.Prelude.{◌≡◌, ◌≢◌, ℕ, ◌+◌, ◌-◌, List, [], ◌∷◌, length, take, drop, Option, Some, None, nat_eq, if◌then◌else◌, IfSome}
use Rattle.std.specs.Cmp.Lexicographic.{pointwise}
use Rattle.std.specs.Io.BufRead.{take_through, drop_through}
use Rattle.jvm_log.specs.declared.event.Said.{Said}
use Rattle.jvm_log.specs.Reading.{said_in}

-- A text is these lines, each with its newline, which only the last may lack.
abbrev pub AreLines : List ℕ → List (List ℕ) → Type 0
AreLines text [] = text ≡ []
AreLines text (line ∷ lines) = (text ≢ []) × (line ≡ take_through 10 text) × AreLines (drop_through 10 text) lines

-- A line without its newline.
abbrev pub trimmed : List ℕ → List ℕ
trimmed line = if pointwise nat_eq (drop (length line - 1) line) (10 ∷ []) then take (length line - 1) line else line

-- A listener hears the line of that number, where it says anything.
abbrev pub HearsLine : {S : Type 0} → (S → ℕ → List ℕ → Said → S → Type 0) → S → ℕ → List ℕ → Option Said → S → Type 0
HearsLine hears old number line None new = new ≡ old
HearsLine hears old number line (Some said) new = hears old number line said new

-- It hears lines one after the other, of which the first has that number.
abbrev pub HearsLines : {S : Type 0} → (S → ℕ → List ℕ → Said → S → Type 0) → S → ℕ → List (List ℕ) → S → Type 0
HearsLines hears old number [] new = new ≡ old
HearsLines {S} hears old number (line ∷ lines) new =
    (mid : S) × HearsLine hears old number (trimmed line) (said_in (trimmed line)) mid × HearsLines hears mid (number + 1) lines new

-- It hears all lines of a log, which are those of its text where that is known.
abbrev pub HearsLog : {S : Type 0} → (S → ℕ → List ℕ → Said → S → Type 0) → S → Option (List ℕ) → S → Type 0
HearsLog hears old text new =
    (lines : List (List ℕ)) × IfSome text (λ bytes. AreLines bytes lines) × HearsLines hears old 1 lines new
