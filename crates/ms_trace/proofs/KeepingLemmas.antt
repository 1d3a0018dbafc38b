-- The first line of a text: where it spells a valid command, and where it was cut off.
use Rattle.std.proofs.Common.{◌≡◌, ℕ, zero, suc, ◌+◌, inl, inr, ◌<◌, ◌≤◌, List, [], ◌∷◌, ◌++◌, length, length-append, refl}
use Rattle.std.proofs.Common.{Option, Some, None, IfSome, IsTrue, unwrap_or, append-nil, drop, take, get_or, eqb, length-drop}
use Rattle.std.proofs.Common.{arith, sym}
use Rattle.std.proofs.lemmas.List.{length-take}
use Rattle.memchr.specs.Find.{IsFirstByte}
use Rattle.std.specs.Borrow.{Bor}
use Rattle.ms_trace.specs.declared.fault.ParseFault.{ParseFault}
use Rattle.ms_trace.specs.declared.fault.ParseFault.TheVariants.{OutOfMemory}
use Rattle.ms_trace.specs.declared.trace.Command.{Command}
use Rattle.ms_trace.specs.declared.trace.Line.{Line}
use Rattle.ms_trace.specs.Grammar.{is_silent, lines_of}
use Rattle.ms_trace.specs.Keeping.{AddsLine, BeginsSilently, BeginsWith, BlamesFirst, KeepsFirst}
use Rattle.ms_trace.specs.Spelling.{spelling_of}
use Rattle.ms_trace.proofs.CutLemmas.{first_in_front, position_from_first}
use Rattle.ms_trace.proofs.PrintingLemmas.{lines_of-line, spelling_is_clean}
use Rattle.ms_trace.proofs.ReadingLemmas.{first_line_of, text_after}
use Rattle.ms_trace.proofs.SpellingLemmas.{no_fault_from_allowed, spelling_is_short}

-- It is cut off at its newline.
spelled_cut : (text rest : List ℕ) (command : Command) → BeginsWith text command rest
    → lines_of text ≡ spelling_of command ∷ lines_of rest
spelled_cut text rest command begins =
    rw begins.spelled (lines_of-line (spelling_of command) rest (spelling_is_clean command begins.valid))

-- It is kept by adding that command under its number.
pub spelled_first : (most : ℕ) (number : ℕ) (text rest : List ℕ) (command : Command) (old new : List Line) → number ≤ most
    → BeginsWith text command rest → AddsLine number command old new → KeepsFirst most number text rest old new
spelled_first most number text rest command old new few begins added =
    let line : List ℕ = spelling_of command in
    let shorter : length rest < length (line ++ 10 ∷ rest) = simp length-append (omega arith) in
    record {
      line = line;
      cut = spelled_cut text rest command begins;
      keeps = record {
        said = record { number = number; command = command } ∷ [];
        faultless = no_fault_from_allowed most number line (record {
          few = few;
          short = spelling_is_short command begins.valid;
          says = inr (record { command = command; valid = begins.valid; spelled = refl });
        });
        says = inr (record { command = command; valid = begins.valid; spelled = refl; trace_is = refl });
        new_is = added;
      };
      shorter = rw begins.spelled shorter;
    }

-- Only want of memory can be blamed there.
pub spelled_blames : (most : ℕ) (number : ℕ) (text rest : List ℕ) (command : Command) (fault : ParseFault)
    → BeginsWith text command rest → fault ≡ OutOfMemory → BlamesFirst most number text fault
spelled_blames most number text rest command fault begins e =
    rw e (record {
      line = spelling_of command;
      after = lines_of rest;
      cut = spelled_cut text rest command begins;
      blames = tt;
    })

-- A silent line is kept by adding nothing.
pub silent_first : (most : ℕ) (number : ℕ) (text rest : List ℕ) (old : List Line) → number ≤ most → BeginsSilently text rest
    → KeepsFirst most number text rest old old
silent_first most number text rest old few begins = record {
  line = begins.line;
  cut = begins.cut;
  keeps = record {
    said = [];
    faultless = no_fault_from_allowed most number begins.line (record {
      few = few;
      short = begins.short;
      says = inl begins.silent;
    });
    says = inl (begins.silent, refl);
    new_is = sym (append-nil old);
  };
  shorter = begins.shorter;
}

-- A comment is silent, and ends at the first newline.
silent_front : (text : List ℕ) (at : ℕ) → 0 < length text → get_or text 0 0 ≡ 35 → IsTrue (is_silent (take at text))
silent_front [] at some mark = absurd (omega (arith, some))
silent_front (first ∷ rest) zero some mark = refl
silent_front (first ∷ rest) (suc at) some mark = rw mark refl

pub comment_first : (text : List ℕ) (n at : ℕ) → n ≤ 81 → get_or text 0 0 ≡ 35
    → IsFirstByte (λ byte. eqb byte 10) (take n text) (Some at) → BeginsSilently text (drop (at + 1) text)
comment_first text n at near mark found =
    let earlier : at < n = omega (arith, length-take n text, found.0.high) in
    let whole = first_in_front (λ byte. eqb byte 10) text n at found in
    let inside : at < length text = whole.0.high in
    record {
      line = take at text;
      cut = first_line_of text at (position_from_first (λ byte. eqb byte 10) text (Some at) whole);
      silent = silent_front text at (omega (arith, inside)) mark;
      short = omega (arith, length-take at text, earlier);
      shorter = omega (arith, length-drop (at + 1) text, inside);
    }

-- What stands after the first line that was cut off.
pub rest_is : (after : Option (Bor (List ℕ))) (empty : Bor (List ℕ)) → empty.now ≡ []
    → (unwrap_or after empty).now ≡ text_after after
rest_is None empty e = e
rest_is (Some rest) empty e = refl

-- It is shorter than the text.
pub shorter_after : (text : List ℕ) (after : Option (Bor (List ℕ))) → 0 < length text
    → IfSome after (λ rest. length rest.now < length text) → length (text_after after) < length text
shorter_after text None some shorter = some
shorter_after text (Some rest) some shorter = shorter
