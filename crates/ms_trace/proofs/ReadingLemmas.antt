-- The loop of reading: the lines cut off so far read as the lines kept so far.
use Rattle.std.proofs.Common.{◌≡◌, ℕ, inl, inr, suc, ◌+◌, ◌<◌, ◌≤◌, eqb, List, [], ◌∷◌, ◌++◌, length, refl, sym, ◌∙◌}
use Rattle.std.proofs.Common.{ap, arith, add-zero, append_assoc, length-append, append-nil, Option, Some, None}
use Rattle.std.proofs.Common.{drop, take}
use Rattle.std.proofs.lemmas.List.Splits.{length-slice_split, join_with_byte-slice_split}
use Rattle.std.specs.Borrow.{Bor}
use Rattle.std.specs.List.{join_with_byte, position, slice_split}
use Rattle.ms_trace.specs.declared.fault.FaultKind.{FaultKind}
use Rattle.ms_trace.specs.declared.fault.ParseFault.{ParseFault}
use Rattle.ms_trace.specs.declared.fault.ParseFault.TheVariants.{Trace, OutOfMemory}
use Rattle.ms_trace.specs.declared.trace.Line.{Line}
use Rattle.ms_trace.specs.Cutting.{parts_after, parts_of}
use Rattle.ms_trace.specs.Grammar.{lines_of, without_empty_end}
use Rattle.ms_trace.specs.Faults.{fault_of, HasFault, BlamesText}
use Rattle.ms_trace.specs.Keeping.{BlamesLine, Keeps}
use Rattle.ms_trace.specs.Spelling.{ReadsFrom}
use Rattle.ms_trace.proofs.CutLemmas.{cut_there}
use Rattle.ms_trace.proofs.SpellingLemmas.{IsAllowed, allowed_from_no_fault}
use Rattle.ms_trace.proofs.TraceLemmas.{Says, faultless_from_reads}

-- A part before others is a line.
pub line_first : (part : List ℕ) (parts : List (List ℕ)) → 0 < length parts
    → without_empty_end (part ∷ parts) ≡ part ∷ without_empty_end parts
line_first part [] some = absurd (omega arith)
line_first [] (next ∷ parts) some = refl
line_first (byte ∷ bytes) (next ∷ parts) some = refl

-- So is a last part with a byte.
pub last_line : (part : List ℕ) → 0 < length part → without_empty_end (part ∷ []) ≡ part ∷ []
last_line [] some = absurd (omega arith)
last_line (byte ∷ bytes) some = refl

-- What stands after a separator, if one came.
abbrev pub text_after : Option (Bor (List ℕ)) → List ℕ
text_after None = []
text_after (Some text) = text.now

-- What is cut off a text that isn't empty is its first line.
pub lines_of-cut : (rest line : List ℕ) (after : Option (Bor (List ℕ))) → 0 < length rest
    → parts_of 10 rest ≡ line ∷ parts_after 10 after → lines_of rest ≡ line ∷ lines_of (text_after after)
lines_of-cut rest line None some cut =
    let same : line ≡ rest = sym (ap (join_with_byte 10) cut) ∙ join_with_byte-slice_split 10 rest in
    ap without_empty_end cut ∙ last_line line (rw same some)
lines_of-cut rest line (Some text) some cut =
    ap without_empty_end cut
    ∙ line_first line (parts_of 10 text.now) (omega (arith, length-slice_split (λ byte. eqb byte 10) text.now))

-- What stands before the first newline is the first line.
pub first_line_of : (text : List ℕ) (at : ℕ) → Some at ≡ position (λ byte. eqb byte 10) text
    → lines_of text ≡ take at text ∷ lines_of (drop (at + 1) text)
first_line_of text at e =
    let rest : List ℕ = drop (at + 1) text in
    ap without_empty_end (cut_there (λ byte. eqb byte 10) text at e)
    ∙ line_first (take at text) (slice_split (λ byte. eqb byte 10) rest)
    (omega (arith, length-slice_split (λ byte. eqb byte 10) rest))

-- Lines read as a trace with one more line.
says_more : (number : ℕ) (line : List ℕ) (trace rest said : List Line) → Says number line trace rest
    → Says number line (trace ++ said) (rest ++ said)
says_more number line trace rest said (inl (silent, e)) = inl (silent, ap (λ lines. lines ++ said) e)
says_more number line trace rest said (inr gives) =
    inr (record {
      command = gives.command;
      valid = gives.valid;
      spelled = gives.spelled;
      trace_is = ap (λ lines. lines ++ said) gives.trace_is;
    })

reads_push : (most : ℕ) (number : ℕ) (before : List (List ℕ)) (line : List ℕ) (trace said : List Line)
    → ReadsFrom most number before trace → ReadsFrom most (number + length before) (line ∷ []) said
    → ReadsFrom most number (before ++ line ∷ []) (trace ++ said)
reads_push most number [] line trace said e last = rw e (rw add-zero at last)
reads_push most number (first ∷ before) line trace said (rest, few, short, says, more) last =
    let line_is : number + suc (length before) ≡ number + 1 + length before = omega arith in (
      rest ++ said,
      few,
      short,
      says_more number first trace rest said says,
      reads_push most (number + 1) before line rest said more (rw line_is at last),
    )

-- Which lines of a text are left after so many, which read as that trace.
pub record IsRead (most : ℕ) (text : List ℕ) (left : List (List ℕ)) (number : ℕ) (trace : List Line) : Type 0 where
  pub before : List (List ℕ)
  pub lines_are : lines_of text ≡ before ++ left
  pub number_is : number ≡ length before
  pub reads : ReadsFrom most 1 before trace

-- One line more.
pub line_more : (most : ℕ) (text line : List ℕ) (left later : List (List ℕ)) (number : ℕ) (trace new : List Line)
    → IsRead most text left number trace → left ≡ line ∷ later → Keeps most (number + 1) line trace new
    → IsRead most text later (number + 1) new
line_more most text line left later number trace new read cut keeps =
    let allowed : IsAllowed most (number + 1) line = allowed_from_no_fault most (number + 1) line keeps.faultless in
    let line_is : 1 + length read.before ≡ number + 1 = omega (arith, read.number_is) in
    let last : ReadsFrom most (number + 1) (line ∷ []) keeps.said = ([], allowed.few, allowed.short, keeps.says, refl) in
    record {
      before = read.before ++ line ∷ [];
      lines_are = read.lines_are ∙ ap (λ lines. read.before ++ lines) cut
          ∙ sym (append_assoc read.before (line ∷ []) later);
      number_is = simp length-append (omega (arith, read.number_is));
      reads = rw keeps.new_is (reads_push most 1 read.before line trace keeps.said read.reads (rw line_is last));
    }

-- A line that is kept is allowed, so its number is.
pub kept_number : (most : ℕ) (number : ℕ) (line : List ℕ) (trace new : List Line) → Keeps most number line trace new
    → number ≤ most
kept_number most number line trace new keeps = (allowed_from_no_fault most number line keeps.faultless).few

-- A line with a fault is the first one.
fault_here : (most : ℕ) (text line : List ℕ) (left after : List (List ℕ)) (number : ℕ) (trace : List Line) (kind : FaultKind)
    → IsRead most text left number trace → left ≡ line ∷ after →
    fault_of most (number + 1) line ≡ Some kind → HasFault most text (number + 1) kind
fault_here most text line left after number trace kind read cut e = record {
  before = read.before;
  line = line;
  after = after;
  lines_are = read.lines_are ∙ ap (λ lines. read.before ++ lines) cut;
  faultless = faultless_from_reads most 1 read.before trace read.reads;
  number_is = ap (λ n. n + 1) read.number_is;
  kind_is = e;
}

pub blames_text : (most : ℕ) (text line : List ℕ) (left after : List (List ℕ)) (number : ℕ) (trace : List Line)
    (fault : ParseFault) → IsRead most text left number trace → left ≡ line ∷ after → BlamesLine most (number + 1) line fault
    → BlamesText most text fault
blames_text most text line left after number trace (Trace fault) read cut blames =
    rw blames.0 (fault_here most text line left after number trace fault.kind read cut blames.1)
blames_text most text line left after number trace OutOfMemory read cut blames = tt

-- A text without bytes has no lines.
no_lines : (text : List ℕ) → length text ≡ 0 → lines_of text ≡ []
no_lines [] none = refl
no_lines (byte ∷ bytes) none = absurd (omega (arith, none))

-- Where only the last line is left, it may have a fault.
pub last_left : (rest last : List ℕ) → length rest ≡ 0 → lines_of last ≡ last ∷ []
    → lines_of rest ++ lines_of last ≡ last ∷ []
last_left rest last none alone = ap (λ lines. lines ++ lines_of last) (no_lines rest none) ∙ alone

-- Where none is left, the text was read.
all_read : (most : ℕ) (text : List ℕ) (left : List (List ℕ)) (number : ℕ) (trace : List Line) → IsRead most text left number trace
    → left ≡ [] → ReadsFrom most 1 (lines_of text) trace
all_read most text left number trace read none =
    let whole : lines_of text ≡ read.before =
    read.lines_are ∙ ap (λ lines. read.before ++ lines) none ∙ append-nil read.before in
    rw whole read.reads

pub read_whole : (most : ℕ) (text rest last : List ℕ) (number : ℕ) (trace : List Line)
    → IsRead most text (lines_of rest ++ lines_of last) number trace → length rest ≡ 0 → length last ≡ 0
    → ReadsFrom most 1 (lines_of text) trace
read_whole most text rest last number trace read none no_last =
    all_read most text _ number trace read
    (ap (λ lines. lines ++ lines_of last) (no_lines rest none) ∙ no_lines last no_last)

pub read_last : (most : ℕ) (text rest last : List ℕ) (number : ℕ) (trace new : List Line)
    → IsRead most text (lines_of rest ++ lines_of last) number trace → length rest ≡ 0 → lines_of last ≡ last ∷ []
    → Keeps most (number + 1) last trace new → ReadsFrom most 1 (lines_of text) new
read_last most text rest last number trace new read none alone keeps =
    all_read most text [] (number + 1) new
    (line_more most text last _ [] number trace new read (last_left rest last none alone) keeps) refl
