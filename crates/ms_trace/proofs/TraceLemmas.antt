-- Lines that read as a trace against lines without a fault: the laws, and the steps of reading.
use Rattle.std.proofs.Common.{◌≡◌, ℕ, ◌⊎◌, inl, inr, ⊎_elim, IsTrue, suc, ◌+◌, ◌<◌, ◌≤◌, true, List, [], ◌∷◌, ◌++◌}
use Rattle.std.proofs.Common.{length, refl, sym, ◌∙◌, ap, arith, add-zero, Option, Some, None}
use Rattle.std.proofs.lemmas.Bool.{both_ways, and_from, lt-ltb, le-leb}
use Rattle.ms_trace.specs.declared.fault.FaultKind.{FaultKind}
use Rattle.ms_trace.specs.declared.trace.Command.{Command}
use Rattle.ms_trace.specs.declared.trace.Line.{Line}
use Rattle.ms_trace.specs.Grammar.{is_silent}
use Rattle.ms_trace.specs.Faults.{fault_of, AreFaultless}
use Rattle.ms_trace.specs.Spelling.{spelling_of, Gives, ReadsFrom, rises_above}
use Rattle.ms_trace.specs.Laws.{IsSameFault}
use Rattle.ms_trace.proofs.SpellingLemmas.{IsAllowed, allowed_from_no_fault, no_fault_from_allowed, one_command}
use Rattle.ms_trace.proofs.SpellingLemmas.{spelling_is_not_silent}

-- Lines that read as a trace have no fault.
pub faultless_from_reads : (most : ℕ) (number : ℕ) (lines : List (List ℕ)) (trace : List Line) → ReadsFrom most number lines trace
    → AreFaultless most number lines
faultless_from_reads most number [] trace reads = tt
faultless_from_reads most number (line ∷ lines) trace (rest, few, short, says, more) =
    let allowed : IsAllowed most number line = record {
      few = few;
      short = short;
      says = ⊎_elim (λ silent. inl silent.0)
          (λ gives. inr (record { command = gives.command; valid = gives.valid; spelled = gives.spelled })) says;
    } in
    (no_fault_from_allowed most number line allowed, faultless_from_reads most (number + 1) lines rest more)

-- Lines without a fault read as a trace.
pub record Reads (most : ℕ) (number : ℕ) (lines : List (List ℕ)) : Type 0 where
  pub trace : List Line
  pub reads : ReadsFrom most number lines trace

goes_on : (most : ℕ) (number : ℕ) (line : List ℕ) (lines : List (List ℕ)) → IsAllowed most number line → Reads most (number + 1) lines
    → Reads most number (line ∷ lines)
goes_on most number line lines allowed later =
    elim allowed.says [
      | inl silent ↦
          record {
            trace = later.trace;
            reads = (later.trace, allowed.few, allowed.short, inl (silent, refl), later.reads);
          }
      | inr spelled ↦ record {
        trace = record { number = number; command = spelled.command } ∷ later.trace;
        reads = (
          later.trace,
          allowed.few,
          allowed.short,
          inr (record { command = spelled.command; valid = spelled.valid; spelled = spelled.spelled; trace_is = refl }),
          later.reads,
        );
      }
    ]

pub reads_from_faultless : (most : ℕ) (number : ℕ) (lines : List (List ℕ)) → AreFaultless most number lines → Reads most number lines
reads_from_faultless most number [] faultless = record { trace = []; reads = refl }
reads_from_faultless most number (line ∷ lines) (here, later) =
    goes_on most number line lines (allowed_from_no_fault most number line here) (reads_from_faultless most (number + 1) lines later)

-- Lines have no fault, or a first one.
pub record HasFirst (most : ℕ) (number : ℕ) (lines : List (List ℕ)) : Type 0 where
  pub before : List (List ℕ)
  pub line : List ℕ
  pub after : List (List ℕ)
  pub kind : FaultKind
  pub lines_are : lines ≡ before ++ line ∷ after
  pub faultless : AreFaultless most number before
  pub kind_is : fault_of most (number + length before) line ≡ Some kind

cases_option : (fault : Option FaultKind) → (fault ≡ None) ⊎ ((kind : FaultKind) × (fault ≡ Some kind))
cases_option None = inl refl
cases_option (Some kind) = inr (kind, refl)

found_here : (most : ℕ) (number : ℕ) (line : List ℕ) (lines : List (List ℕ)) (kind : FaultKind) → fault_of most number line ≡ Some kind
    → HasFirst most number (line ∷ lines)
found_here most number line lines kind e =
    record {
      before = [];
      line = line;
      after = lines;
      kind = kind;
      lines_are = refl;
      faultless = tt;
      kind_is = rw add-zero e;
    }

found_later : (most : ℕ) (number : ℕ) (line : List ℕ) (lines : List (List ℕ)) → fault_of most number line ≡ None
    → HasFirst most (number + 1) lines → HasFirst most number (line ∷ lines)
found_later most number line lines none first =
    let line_is : number + suc (length first.before) ≡ number + 1 + length first.before = omega arith in
    record {
      before = line ∷ first.before;
      line = first.line;
      after = first.after;
      kind = first.kind;
      lines_are = ap (λ later. line ∷ later) first.lines_are;
      faultless = (none, first.faultless);
      kind_is = rw line_is first.kind_is;
    }

pub faultless_or_first : (most : ℕ) (number : ℕ) (lines : List (List ℕ)) → AreFaultless most number lines ⊎ HasFirst most number lines
faultless_or_first most number [] = inl tt
faultless_or_first most number (line ∷ lines) =
    ⊎_elim
    (λ none. ⊎_elim (λ later. inl (none, later)) (λ first. inr (found_later most number line lines none first))
    (faultless_or_first most (number + 1) lines))
    (λ (kind, e). inr (found_here most number line lines kind e))
    (cases_option (fault_of most number line))

-- A line with a fault is not among lines without one.
pub no_fault_among : (most : ℕ) (number : ℕ) (before : List (List ℕ)) (line : List ℕ) (after : List (List ℕ)) →
    AreFaultless most number (before ++ line ∷ after) → fault_of most (number + length before) line ≡ None
no_fault_among most number [] line after (here, later) = rw add-zero here
no_fault_among most number (first ∷ before) line after (here, later) =
    let line_is : number + suc (length before) ≡ number + 1 + length before = omega arith in
    rw line_is (no_fault_among most (number + 1) before line after later)

-- A silent line spells no command.
not_both : (line : List ℕ) (command : Command) → IsTrue (is_silent line) → line ≡ spelling_of command → ⊥
not_both line command silent spelled =
    both_ways (is_silent line) (ap is_silent spelled ∙ spelling_is_not_silent command) silent

-- Lines read as one trace only.
abbrev pub Says : ℕ → List ℕ → List Line → List Line → Type 0
Says number line trace rest = (IsTrue (is_silent line) × (trace ≡ rest)) ⊎ Gives number line trace rest

same_line : (number : ℕ) (line : List ℕ) (one other rest other_rest : List Line) → rest ≡ other_rest →
    Says number line one rest → Says number line other other_rest → one ≡ other
same_line number line one other rest other_rest same (inl (silent, e)) (inl (other_silent, f)) = e ∙ same ∙ sym f
same_line number line one other rest other_rest same (inl (silent, e)) (inr gives) =
    absurd (not_both line gives.command silent gives.spelled)
same_line number line one other rest other_rest same (inr gives) (inl (silent, f)) =
    absurd (not_both line gives.command silent gives.spelled)
same_line number line one other rest other_rest same (inr gives) (inr others) =
    let command : gives.command ≡ others.command =
    one_command _ _ gives.valid others.valid (sym gives.spelled ∙ others.spelled) in
    gives.trace_is
    ∙ ap (λ c. record { number = number; command = c } ∷ rest) command
    ∙ ap (λ lines. record { number = number; command = others.command } ∷ lines) same
    ∙ sym others.trace_is

pub one_trace : (most : ℕ) (number : ℕ) (lines : List (List ℕ)) (one other : List Line) → ReadsFrom most number lines one
    → ReadsFrom most number lines other → one ≡ other
one_trace most number [] one other e f = e ∙ sym f
one_trace most number (line ∷ lines) one other (rest, few, short, says, more)
    (other_rest, few2, short2, other_says, other_more) =
    same_line number line one other rest other_rest (one_trace most (number + 1) lines rest other_rest more other_more) says
    other_says

-- The numbers of a trace that was read rise.
rises_after : (most : ℕ) (below number : ℕ) (line : List ℕ) (trace rest : List Line) → below < number → number ≤ most →
    rises_above most below rest ≡ true → rises_above most number rest ≡ true → Says number line trace rest
    → rises_above most below trace ≡ true
rises_after most below number line trace rest under few silent_rises rises (inl (silent, e)) = rw e silent_rises
rises_after most below number line trace rest under few silent_rises rises (inr gives) =
    rw gives.trace_is (and_from _ _ (and_from _ _ (lt-ltb below number under) (le-leb number most few)) rises)

pub numbers_rise : (most : ℕ) (below number : ℕ) (lines : List (List ℕ)) (trace : List Line) → below < number
    → ReadsFrom most number lines trace → rises_above most below trace ≡ true
numbers_rise most below number [] trace under e = rw e refl
numbers_rise most below number (line ∷ lines) trace under (rest, few, short, says, more) =
    rises_after most below number line trace rest under few (numbers_rise most below (number + 1) lines rest (omega arith) more)
    (numbers_rise most number (number + 1) lines rest (omega arith) more) says

-- Lines have one first fault only.
pub clash : (fault : Option FaultKind) (kind : FaultKind) → fault ≡ None → fault ≡ Some kind → ⊥
clash fault kind none some = cc

same_kind : (fault : Option FaultKind) (kind other_kind : FaultKind) → fault ≡ Some kind → fault ≡ Some other_kind
    → kind ≡ other_kind
same_kind fault kind other_kind e f = cc

pub one_fault : (most : ℕ) (number at other_at : ℕ) (before other_before : List (List ℕ))
    (line other_line : List ℕ) (after other_after : List (List ℕ)) (kind other_kind : FaultKind) →
    before ++ line ∷ after ≡ other_before ++ other_line ∷ other_after → AreFaultless most number before
    → AreFaultless most number other_before →
    at ≡ number + length before → other_at ≡ number + length other_before →
    fault_of most at line ≡ Some kind → fault_of most other_at other_line ≡ Some other_kind
    → IsSameFault at other_at kind other_kind
one_fault most number at other_at [] [] line other_line after other_after kind other_kind e f g line_is other_is k l =
    let same_at : at ≡ other_at = omega arith in
    let same_line : line ≡ other_line = cc in
    record {
      number_is = same_at;
      kind_is = same_kind (fault_of most at line) kind other_kind k (rw same_at (rw same_line l));
    }
one_fault most number at other_at [] (first ∷ rest) line other_line after other_after kind other_kind e f g line_is other_is
    k l =
    let same_at : at ≡ number = omega arith in
    let same_line : line ≡ first = cc in
    absurd (clash (fault_of most at line) kind (rw same_at (rw same_line g.0)) k)
one_fault most number at other_at (first ∷ rest) [] line other_line after other_after kind other_kind e f g line_is other_is
    k l =
    let same_at : other_at ≡ number = omega arith in
    let same_line : other_line ≡ first = cc in
    absurd (clash (fault_of most other_at other_line) other_kind (rw same_at (rw same_line f.0)) l)
one_fault most number at other_at (first ∷ rest) (other_first ∷ other_rest) line other_line after other_after kind other_kind
    e f g line_is other_is k l =
    one_fault most (number + 1) at other_at rest other_rest line other_line after other_after kind other_kind (cc) f.1 g.1
    (omega arith) (omega arith) k l
