-- A log is heard line by line: what is heard of the rest completes what is heard of all. Used by
-- `read_log`.
use Rattle.std.proofs.Common.{◌≡◌, ◌≢◌, ℕ, ◌+◌, List, [], ◌∷◌, Option, Some, None, refl, ◌∙◌, ap, subst, sym, ◌-◌, length, take, drop, nat_eq, true, false}
use Rattle.std.specs.Prelude.{IfSome}
use Rattle.std.specs.Cmp.Lexicographic.{pointwise}
use Rattle.std.specs.Io.BufRead.{take_through, drop_through}
use Rattle.std.specs.Io.KnownBytes.{IsAtEnd}
use Rattle.jvm_log.specs.declared.event.Said.{Said}
use Rattle.jvm_log.specs.Hearing.{AreLines, HearsLine, HearsLines, HearsLog, trimmed}
use Rattle.jvm_log.specs.Reading.{said_in}

-- What a listener hears of what is left, from the line of that number on, completes what it hears of a
-- log; and what is left of a known text is known.
pub record Completes {S : Type 0} (hears : S → ℕ → List ℕ → Said → S → Type 0) (known : Option (List ℕ)) (old : S)
    (left : Option (List ℕ)) (number : ℕ) (mid : S) : Type 0 where
  pub stays : IfSome known (λ text. (rest : List ℕ) × (left ≡ Some rest))
  pub on : (lines : List (List ℕ)) (last : S) → IfSome left (λ rest. AreLines rest lines) → HearsLines hears mid number lines last
      → HearsLog hears old known last

-- Before the first line all is left.
pub all_left : {S : Type 0} (hears : S → ℕ → List ℕ → Said → S → Type 0) (known : Option (List ℕ)) (old : S)
    → Completes hears known old known 1 old
all_left hears None old = record { stays = tt; on = λ lines last are heard. (lines, are, heard) }
all_left hears (Some text) old = record { stays = (text, refl); on = λ lines last are heard. (lines, are, heard) }

-- What is left after a line of a known text is known.
stays_known : (known left next : Option (List ℕ)) → IfSome known (λ text. (rest : List ℕ) × (left ≡ Some rest))
    → IfSome left (λ bytes. next ≡ Some (drop_through 10 bytes)) → IfSome known (λ text. (rest : List ℕ) × (next ≡ Some rest))
stays_known None left next stays gone = tt
stays_known (Some text) left next (rest, is) gone =
    let Q : Option (List ℕ) → Type 0 = λ bytes. IfSome bytes (λ bytes. next ≡ Some (drop_through 10 bytes)) in
    (drop_through 10 rest, subst Q is gone)

-- The lines of what is left are that line, and those of what is left then.
lines_on : (left next : Option (List ℕ)) (line : List ℕ) (lines : List (List ℕ)) → IfSome left (λ bytes. line ≡ take_through 10 bytes)
    → IfSome left (λ bytes. next ≡ Some (drop_through 10 bytes)) → line ≢ [] → IfSome next (λ rest. AreLines rest lines)
    → IfSome left (λ rest. AreLines rest (line ∷ lines))
lines_on None next line lines cut gone some are = tt
lines_on (Some text) next line lines cut gone some are =
    let P : Option (List ℕ) → Type 0 = λ bytes. IfSome bytes (λ rest. AreLines rest lines) in
    ((λ empty. some (cut ∙ ap (take_through 10) empty)), cut, subst P gone are)

-- A line more.
pub line_heard : {S : Type 0} (hears : S → ℕ → List ℕ → Said → S → Type 0) (known left next : Option (List ℕ)) (old mid new : S)
    (number : ℕ) (line : List ℕ) → Completes hears known old left number mid
    → IfSome left (λ bytes. line ≡ take_through 10 bytes) → IfSome left (λ bytes. next ≡ Some (drop_through 10 bytes))
    → line ≢ [] → HearsLine hears mid number (trimmed line) (said_in (trimmed line)) new
    → Completes hears known old next (number + 1) new
line_heard hears known left next old mid new number line so_far cut gone some heard = record {
  stays = stays_known known left next so_far.stays gone;
  on = λ lines last are hears_rest.
      so_far.on (line ∷ lines) last (lines_on left next line lines cut gone some are) (new, heard, hears_rest);
}

-- Where nothing is left, the whole log was heard.
no_line : (left : Option (List ℕ)) → IsAtEnd left → IfSome left (λ rest. AreLines rest [])
no_line None end = tt
no_line (Some rest) end = end

pub all_heard : {S : Type 0} (hears : S → ℕ → List ℕ → Said → S → Type 0) (known left : Option (List ℕ)) (old mid : S) (number : ℕ)
    → Completes hears known old left number mid → IsAtEnd left → HearsLog hears old known mid
all_heard hears known left old mid number so_far end = so_far.on [] mid (no_line left end) refl

-- What a newline that is stripped leaves is the line without it.
pub trimmed_some : (line word front : List ℕ) → word ≡ 10 ∷ []
    → pointwise nat_eq (drop (length line - length word) line) word ≡ true → front ≡ take (length line - length word) line
    → front ≡ trimmed line
trimmed_some line word front newline passes front_is =
    let P : List ℕ → Type 0 = λ w. pointwise nat_eq (drop (length line - length w) line) w ≡ true
    → front ≡ take (length line - length w) line → front ≡ trimmed line in
    subst P (sym newline) (λ p f. rw p f) passes front_is

pub trimmed_none : (line word : List ℕ) → word ≡ 10 ∷ []
    → pointwise nat_eq (drop (length line - length word) line) word ≡ false → line ≡ trimmed line
trimmed_none line word newline fails =
    let P : List ℕ → Type 0 = λ w. pointwise nat_eq (drop (length line - length w) line) w ≡ false → line ≡ trimmed line in
    subst P (sym newline) (λ p. rw p refl) fails
