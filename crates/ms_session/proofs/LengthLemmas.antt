-- A text that reads as a trace is short: it has at most so many lines as the limit says, of 80 bytes. Used
-- by `session`, which reads no more of its input than that and one byte.
use Rattle.std.proofs.Common.{◌≡◌, ◌≤◌, ℕ, ◌+◌, ◌-◌, ◌*◌, ◌==◌, Bool, true, false, cond, List, [], ◌∷◌, length, refl}
use Rattle.std.proofs.Common.{◌∙◌, arith}
use Rattle.std.specs.List.{slice_split, onto_first}
use Rattle.ms_trace.specs.declared.trace.Line.{Line}
use Rattle.ms_trace.specs.declared.trace.Trace.{Trace}
use Rattle.ms_trace.specs.Grammar.{lines_of, without_empty_end}
use Rattle.ms_trace.specs.Spelling.{ReadsFrom, ReadsAs}

-- The bytes of parts, and one for the end of each.
abbrev pub ended : List (List ℕ) → ℕ
ended [] = 0
ended (part ∷ parts) = length part + 1 + ended parts

ended_onto_first : (byte : ℕ) (parts : List (List ℕ)) → 1 ≤ ended parts
    → ended (onto_first byte parts) ≡ ended parts + 1
ended_onto_first byte [] some = absurd (omega (arith, some))
ended_onto_first byte (part ∷ parts) some = omega arith

-- A text is as long as its parts with their ends, but for the last end.
pub ended_parts : (p : ℕ → Bool) (text : List ℕ) → ended (slice_split p text) ≡ length text + 1
ended_parts p [] = refl
ended_parts p (byte ∷ text) =
    elim (p byte) as (λ ends. ended (cond ends ([] ∷ slice_split p text) (onto_first byte (slice_split p text)))
    ≡ length (byte ∷ text) + 1) [
      | true ↦ omega (arith, ended_parts p text)
      | false ↦ ended_onto_first byte (slice_split p text) (omega (arith, ended_parts p text))
          ∙ omega (arith, ended_parts p text)
    ]

-- Leaving out an empty last part takes one end off.
ended_without : (parts : List (List ℕ)) → ended parts ≤ ended (without_empty_end parts) + 1
ended_without [] = omega arith
ended_without ([] ∷ []) = omega arith
ended_without ((byte ∷ part) ∷ parts) = omega (arith, ended_without parts)
ended_without ([] ∷ part ∷ parts) = omega (arith, ended_without (part ∷ parts))

-- One line more takes its bytes and its end, of the 81 that there are for each line that is left.
line_more : (limit : ℕ) (number bytes rest : ℕ) → number ≤ limit → bytes ≤ 80 → rest ≤ 81 * (limit + 1 - (number + 1))
    → bytes + 1 + rest ≤ 81 * (limit + 1 - number)
line_more limit number bytes rest few short left = omega (arith, few, short, left)

one_more : (limit : ℕ) (number : ℕ) → number ≤ limit → number + 1 ≤ limit + 1
one_more limit number few = omega (arith, few)

-- Lines from a number on that read as a trace.
ended_lines : (limit : ℕ) (number : ℕ) (lines : List (List ℕ)) (trace : List Line) → number ≤ limit + 1 → ReadsFrom limit number lines trace
    → ended lines ≤ 81 * (limit + 1 - number)
ended_lines limit number [] trace few reads = omega arith
ended_lines limit number (line ∷ lines) trace few reads =
    line_more limit number (length line) (ended lines) reads.1 reads.2
    (ended_lines limit (number + 1) lines reads.0 (one_more limit number reads.1) reads.4)

-- All lines are at most as many as the limit, and the last end is not part of the text.
short_by : (limit : ℕ) (bytes all lines : ℕ) → all ≡ bytes + 1 → all ≤ lines + 1 → lines ≤ 81 * (limit + 1 - 1) → bytes ≤ 81 * limit
short_by limit bytes all lines parts without few = omega (arith, parts, without, few)

pub reads_short : (limit : ℕ) (text : List ℕ) (trace : Trace) → ReadsAs limit text trace → length text ≤ 81 * limit
reads_short limit text trace reads =
    short_by limit (length text) (ended (slice_split (λ byte. byte == 10) text)) (ended (lines_of text))
    (ended_parts (λ byte. byte == 10) text) (ended_without (slice_split (λ byte. byte == 10) text))
    (ended_lines limit 1 (lines_of text) trace.lines (omega arith) reads)
