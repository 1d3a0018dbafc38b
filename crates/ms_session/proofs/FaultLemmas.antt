-- A fault of the longest beginning that is read is the whole input's fault: lines that are complete
-- stay as they are when more is read, and a line that isn't is too long, or one too many. Used by
-- `answer_to`.
use Rattle.std.proofs.Common.{◌≡◌, ◌≤◌, ◌<◌, ◌⊎◌, ℕ, ◌+◌, ◌*◌, ◌==◌, Bool, true, false, cond, List, [], ◌∷◌, ◌++◌, Some}
use Rattle.std.proofs.Common.{None, length, refl, sym, ap, ◌∙◌, arith, inl, inr, append_assoc, length-append}
use Rattle.std.specs.List.{slice_split, onto_first}
use Rattle.std.proofs.lemmas.Bool.{cases_lt, lt-ltb, le-ltb}
use Rattle.std.proofs.lemmas.List.Splits.{length-slice_split}
use Rattle.std.proofs.lemmas.Option.{none-some}
use Rattle.ms_trace.specs.declared.fault.FaultKind.{FaultKind}
use Rattle.ms_trace.specs.declared.fault.FaultKind.TheVariants.{TooManyLines, LineTooLong}
use Rattle.ms_trace.specs.Grammar.{without_empty_end}
use Rattle.ms_trace.specs.Faults.{fault_of, AreFaultless, HasFault}
use Rattle.ms_session.proofs.LengthLemmas.{ended, ended_parts}

-- A text goes in front of the first part.
abbrev pub in_front : List ℕ → List (List ℕ) → List (List ℕ)
in_front first [] = first ∷ []
in_front first (part ∷ parts) = (first ++ part) ∷ parts

-- The parts of a text and those of what follows it: the last part and the first are one.
abbrev pub joined : List (List ℕ) → List (List ℕ) → List (List ℕ)
joined [] more = more
joined (part ∷ []) more = in_front part more
joined (part ∷ next ∷ parts) more = part ∷ joined (next ∷ parts) more

nothing_in_front : (p : ℕ → Bool) (text : List ℕ) → in_front [] (slice_split p text) ≡ slice_split p text
nothing_in_front p [] = refl
nothing_in_front p (byte ∷ text) =
    elim (p byte) as (λ ends. in_front [] (cond ends ([] ∷ slice_split p text) (onto_first byte (slice_split p text)))
    ≡ cond ends ([] ∷ slice_split p text) (onto_first byte (slice_split p text))) [
      | true ↦ refl
      | false ↦ onto (slice_split p text)
    ]
  where
    onto : (parts : List (List ℕ)) → in_front [] (onto_first byte parts) ≡ onto_first byte parts
    onto [] = refl
    onto (part ∷ parts) = refl

-- A byte in front of the first part, before or after joining.
onto_joined : (byte : ℕ) (parts more : List (List ℕ))
    → onto_first byte (joined parts more) ≡ joined (onto_first byte parts) more
onto_joined byte [] [] = refl
onto_joined byte [] (part ∷ more) = refl
onto_joined byte (part ∷ []) [] = refl
onto_joined byte (part ∷ []) (next ∷ more) = refl
onto_joined byte (part ∷ next ∷ parts) more = refl

-- An empty part before some parts, before or after joining.
cut_joined : (parts more : List (List ℕ)) → 1 ≤ length parts → [] ∷ joined parts more ≡ joined ([] ∷ parts) more
cut_joined [] more some = absurd (omega (arith, some))
cut_joined (part ∷ parts) more some = refl

has_a_part : (p : ℕ → Bool) (text : List ℕ) → 1 ≤ length (slice_split p text)
has_a_part p text = omega (arith, length-slice_split p text)

-- The parts of a longer text.
split_longer : (p : ℕ → Bool) (text more : List ℕ)
    → slice_split p (text ++ more) ≡ joined (slice_split p text) (slice_split p more)
split_longer p [] more = sym (nothing_in_front p more)
split_longer p (byte ∷ text) more =
    elim (p byte) as (λ ends. cond ends ([] ∷ slice_split p (text ++ more))
    (onto_first byte (slice_split p (text ++ more)))
    ≡ joined (cond ends ([] ∷ slice_split p text) (onto_first byte (slice_split p text))) (slice_split p more)) [
      | true ↦ ap (λ (parts : List (List ℕ)). [] ∷ parts) (split_longer p text more)
          ∙ cut_joined (slice_split p text) (slice_split p more) (has_a_part p text)
      | false ↦ ap (onto_first byte) (split_longer p text more)
          ∙ onto_joined byte (slice_split p text) (slice_split p more)
    ]

-- Parts that end before others stay.
joined_later : (before : List (List ℕ)) (line next : List ℕ) (parts more : List (List ℕ))
    → joined (before ++ line ∷ next ∷ parts) more ≡ before ++ line ∷ joined (next ∷ parts) more
joined_later [] line next parts more = refl
joined_later (part ∷ []) line next parts more = refl
joined_later (part ∷ other ∷ before) line next parts more =
    ap (λ (all : List (List ℕ)). part ∷ all) (joined_later (other ∷ before) line next parts more)

joined_last : (before : List (List ℕ)) (line : List ℕ) (more : List (List ℕ))
    → joined (before ++ line ∷ []) more ≡ before ++ in_front line more
joined_last [] line more = refl
joined_last (part ∷ []) line more = refl
joined_last (part ∷ other ∷ before) line more =
    ap (λ (all : List (List ℕ)). part ∷ all) (joined_last (other ∷ before) line more)

-- Lines are the parts, but for an empty last one.
lines_or_more : (parts : List (List ℕ))
    → (parts ≡ without_empty_end parts) ⊎ (parts ≡ without_empty_end parts ++ [] ∷ [])
lines_or_more [] = inl refl
lines_or_more ([] ∷ []) = inr refl
lines_or_more ((byte ∷ part) ∷ parts) = elim (lines_or_more parts) [
  | inl same ↦ inl (ap (λ (all : List (List ℕ)). (byte ∷ part) ∷ all) same)
  | inr same ↦ inr (ap (λ (all : List (List ℕ)). (byte ∷ part) ∷ all) same)
]
lines_or_more ([] ∷ part ∷ parts) = elim (lines_or_more (part ∷ parts)) [
  | inl same ↦ inl (ap (λ (all : List (List ℕ)). [] ∷ all) same)
  | inr same ↦ inr (ap (λ (all : List (List ℕ)). [] ∷ all) same)
]

-- The first parts are lines where one that isn't empty, or any other, comes after them.
abbrev KeepsLine : List (List ℕ) → List ℕ → List (List ℕ) → Type 0
KeepsLine before line rest = (after : List (List ℕ)) × (without_empty_end (before ++ line ∷ rest) ≡ before ++ line ∷ after)

keeps_lines : (before : List (List ℕ)) (line : List ℕ) (rest : List (List ℕ)) → 1 ≤ length line + length rest
    → KeepsLine before line rest
keeps_lines [] [] [] some = absurd (omega (arith, some))
keeps_lines [] [] (part ∷ rest) some = (without_empty_end (part ∷ rest), refl)
keeps_lines [] (byte ∷ line) rest some = (without_empty_end rest, refl)
keeps_lines ((byte ∷ part) ∷ before) line rest some = let kept = keeps_lines before line rest some in
    (kept.0, ap (λ (all : List (List ℕ)). (byte ∷ part) ∷ all) kept.1)
keeps_lines ([] ∷ []) line rest some = let kept = keeps_lines [] line rest some in
    (kept.0, ap (λ (all : List (List ℕ)). [] ∷ all) kept.1)
keeps_lines ([] ∷ part ∷ before) line rest some = let kept = keeps_lines (part ∷ before) line rest some in
    (kept.0, ap (λ (all : List (List ℕ)). [] ∷ all) kept.1)

-- The first two checks, whatever the line is else.
too_many : (limit : ℕ) (number : ℕ) (line : List ℕ) → limit < number → fault_of limit number line ≡ Some TooManyLines
too_many limit number line high = rw (lt-ltb limit number high) refl

too_long : (limit : ℕ) (number : ℕ) (line : List ℕ) → number ≤ limit → 80 < length line → fault_of limit number line ≡ Some LineTooLong
too_long limit number line low long = rw (le-ltb limit number low, lt-ltb 80 (length line) long) refl

-- A line without a fault is short and has a small number.
none_is_short : (limit : ℕ) (number : ℕ) (line : List ℕ) → fault_of limit number line ≡ None → (number ≤ limit) × (length line ≤ 80)
none_is_short limit number line none = elim (cases_lt limit number) [
  | inl high ↦ absurd (none-some TooManyLines (sym none ∙ too_many limit number line high))
  | inr low ↦ elim (cases_lt 80 (length line)) [
    | inl long ↦ absurd (none-some LineTooLong (sym none ∙ too_long limit number line low long))
    | inr short ↦ (low, short)
  ]
]

-- So many lines without a fault have few bytes.
few_bytes : (limit : ℕ) (number : ℕ) (lines : List (List ℕ)) → number ≤ limit + 1 → AreFaultless limit number lines
    → (ended lines ≤ 81 * length lines) × (number + length lines ≤ limit + 1)
few_bytes limit number [] low faultless = (omega arith, omega (arith, low))
few_bytes limit number (line ∷ lines) low faultless =
    let first = none_is_short limit number line faultless.0 in
    let rest = few_bytes limit (number + 1) lines (omega (arith, first.0)) faultless.1 in
    (omega (arith, first.1, rest.0), omega (arith, rest.1))

ended-append : (parts more : List (List ℕ)) → ended (parts ++ more) ≡ ended parts + ended more
ended-append [] more = omega arith
ended-append (part ∷ parts) more = omega (arith, ended-append parts more)

-- The newline.
abbrev ends_line : ℕ → Bool
ends_line byte = byte == 10

joined_some : (part : List ℕ) (parts more : List (List ℕ)) → 1 ≤ length (joined (part ∷ parts) more)
joined_some part [] [] = omega arith
joined_some part [] (next ∷ more) = omega arith
joined_some part (next ∷ parts) more = omega arith

-- A faulty line that is complete is the fault of a longer text too.
complete_stays : (limit : ℕ) (text more : List ℕ) (number : ℕ) (kind : FaultKind) (before : List (List ℕ)) (line next : List ℕ)
    (parts : List (List ℕ))
    → slice_split ends_line text ≡ before ++ line ∷ next ∷ parts → AreFaultless limit 1 before → number ≡ length before + 1
    → fault_of limit number line ≡ Some kind → HasFault limit (text ++ more) number kind
complete_stays limit text more number kind before line next parts cut faultless number_is kind_is =
    let rest : List (List ℕ) = joined (next ∷ parts) (slice_split ends_line more) in
    let kept = keeps_lines before line rest (omega (arith, joined_some next parts (slice_split ends_line more))) in
    record {
      before = before;
      line = line;
      after = kept.0;
      lines_are = ap without_empty_end (split_longer ends_line text more
          ∙ ap (λ (all : List (List ℕ)). joined all (slice_split ends_line more)) cut
          ∙ joined_later before line next parts (slice_split ends_line more)) ∙ kept.1;
      faultless = faultless;
      number_is = number_is;
      kind_is = kind_is;
    }

-- A line that has too many bytes, or is one too many, has this fault with more bytes too.
longer_fault : (limit : ℕ) (number : ℕ) (line more : List ℕ) (kind : FaultKind) → (limit < number) ⊎ (80 < length line)
    → fault_of limit number line ≡ Some kind → fault_of limit number (line ++ more) ≡ Some kind
longer_fault limit number line more kind why kind_is = elim (cases_lt limit number) [
  | inl high ↦ too_many limit number (line ++ more) high ∙ sym (too_many limit number line high) ∙ kind_is
  | inr low ↦ elim why [
    | inl high ↦ absurd (omega (arith, high, low))
    | inr long ↦ too_long limit number (line ++ more) low (omega (arith, length-append line more, long))
        ∙ sym (too_long limit number line low long) ∙ kind_is
  ]
]

-- A faulty line at the end of the longest beginning.
open_stays : (limit : ℕ) (text : List ℕ) (number : ℕ) (kind : FaultKind) (before : List (List ℕ)) (line : List ℕ) (whole : List ℕ)
    (more : List (List ℕ))
    → length text ≡ (81 * limit + 1) → slice_split ends_line text ≡ before ++ line ∷ []
    → slice_split ends_line whole ≡ before ++ in_front line more
    → AreFaultless limit 1 before → number ≡ length before + 1 → fault_of limit number line ≡ Some kind → HasFault limit whole number kind
open_stays limit text number kind before line whole more size cut longer faultless number_is kind_is =
    let few = few_bytes limit 1 before (omega arith) faultless in
    let all = ap ended cut ∙ ended-append before (line ∷ []) in
    let long : 1 ≤ length line = omega (arith, few, all, ended_parts ends_line text, size) in
    let why : (limit < number) ⊎ (80 < length line) = elim (cases_lt limit number) [
      | inl high ↦ inl high
      | inr low ↦ inr (omega (arith, few, all, ended_parts ends_line text, size, number_is, low))
    ] in
    at more longer long why
  where
    at : (more : List (List ℕ)) → slice_split ends_line whole ≡ before ++ in_front line more → 1 ≤ length line
        → (limit < number) ⊎ (80 < length line) → HasFault limit whole number kind
    at [] longer long why = let kept = keeps_lines before line [] (omega (arith, long)) in
        record {
          before = before;
          line = line;
          after = kept.0;
          lines_are = ap without_empty_end longer ∙ kept.1;
          faultless = faultless;
          number_is = number_is;
          kind_is = kind_is;
        }
    at (part ∷ more) longer long why = let kept =
        keeps_lines before (line ++ part) more (omega (arith, length-append line part, long)) in
        record {
          before = before;
          line = line ++ part;
          after = kept.0;
          lines_are = ap without_empty_end longer ∙ kept.1;
          faultless = faultless;
          number_is = number_is;
          kind_is = longer_fault limit number line part kind why kind_is;
        }

-- The fault of the longest beginning that is read is that of the whole input.
pub fault_stays : (limit : ℕ) (text more : List ℕ) (number : ℕ) (kind : FaultKind) → length text ≡ (81 * limit + 1)
    → HasFault limit text number kind
    → HasFault limit (text ++ more) number kind
fault_stays limit text more number kind size fault = elim (lines_or_more (slice_split ends_line text)) [
  | inl same ↦ whole fault.after (same ∙ fault.lines_are)
  | inr same ↦
      cut fault.after
      (same ∙ ap (λ (all : List (List ℕ)). all ++ [] ∷ []) fault.lines_are
      ∙ append_assoc fault.before (fault.line ∷ fault.after) ([] ∷ []))
]
  where
    whole : (after : List (List ℕ)) → slice_split ends_line text ≡ fault.before ++ fault.line ∷ after
        → HasFault limit (text ++ more) number kind
    whole [] is =
        open_stays limit text number kind fault.before fault.line (text ++ more) (slice_split ends_line more) size is
        (split_longer ends_line text more ∙ ap (λ (all : List (List ℕ)). joined all (slice_split ends_line more)) is
        ∙ joined_last fault.before fault.line (slice_split ends_line more))
        fault.faultless fault.number_is fault.kind_is
    whole (next ∷ after) is =
        complete_stays limit text more number kind fault.before fault.line next after is fault.faultless fault.number_is
        fault.kind_is

    cut : (after : List (List ℕ)) → slice_split ends_line text ≡ fault.before ++ fault.line ∷ (after ++ [] ∷ [])
        → HasFault limit (text ++ more) number kind
    cut [] is =
        complete_stays limit text more number kind fault.before fault.line [] [] is fault.faultless fault.number_is
        fault.kind_is
    cut (next ∷ after) is =
        complete_stays limit text more number kind fault.before fault.line next (after ++ [] ∷ []) is fault.faultless
        fault.number_is fault.kind_is
