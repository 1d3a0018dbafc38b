-- The loop of printing, and that a printed trace reads as itself.
use Rattle.std.proofs.Common.{◌≡◌, ℕ, inl, inr, zero, suc, not, ◌&&◌, ◌+◌, ◌-◌, ◌^◌, ◌<◌, ◌≤◌, Bool, true, false, eqb}
use Rattle.std.proofs.Common.{ltb, leb, List, [], ◌∷◌, ◌++◌, length, get_or, drop, replicate, refl, ◌∙◌, ap, arith}
use Rattle.std.proofs.Common.{sym, subst, add-zero, add-one, append_assoc}
use Rattle.std.proofs.lemmas.Bool.{and_parts, and_from, not-true, ltb-true, le-leb, leb-true}
use Rattle.std.proofs.lemmas.Bool.Decides.{nat_tests}
use Rattle.std.proofs.lemmas.Fmt.{digits_decimal}
use Rattle.std.proofs.lemmas.List.Elements.{All-from_recursion}
use Rattle.std.proofs.lemmas.List.Folds.{list_all-append}
use Rattle.std.proofs.lemmas.List.Splits.{slice_split_at, length-slice_split}
use Rattle.std.proofs.Math.Seq.{drop-cons}
use Rattle.std.specs.Char.{is_ascii_digit}
use Rattle.std.specs.Fmt.{decimal}
use Rattle.std.specs.List.{AllByRecursion, list_all, slice_split}
use Rattle.std.specs.Str.{all_ascii_digits}
use Rattle.ms_base.specs.declared.kind.Kind.{Kind}
use Rattle.ms_base.specs.declared.kind.Kind.TheVariants.{Standard, Boot, Reflection, Hidden}
use Rattle.ms_base.specs.declared.step.Step.TheVariants.{New, Alloc, Calloc, Write, Read, Free, Unload, Purge}
use Rattle.ms_trace.specs.declared.trace.Command.{Command}
use Rattle.ms_trace.specs.declared.trace.Command.TheVariants.{Step as Asks, Sync, Report}
use Rattle.ms_trace.specs.declared.trace.Line.{Line}
use Rattle.ms_trace.specs.Grammar.{kind_word, lines_of, without_empty_end}
use Rattle.ms_trace.specs.Spelling.{spelling_of, IsValid, ReadsFrom, rises_above, text_from}
use Rattle.ms_trace.proofs.DigitLemmas.{own}
use Rattle.ms_trace.proofs.SpellingLemmas.{spelling_is_short}
use Rattle.ms_trace.proofs.ReadingLemmas.{line_first}

-- No byte is a newline.
abbrev is_clean : List ℕ → Bool
is_clean bytes = list_all (λ byte. not (eqb byte 10)) bytes

clean_parts : (bytes : List ℕ) → is_clean bytes ≡ true → AllByRecursion (λ byte. eqb byte 10 ≡ false) bytes
clean_parts [] e = tt
clean_parts (byte ∷ bytes) e =
    let parts : (not (eqb byte 10) ≡ true) × (is_clean bytes ≡ true) = and_parts _ _ e in
    (not-true _ parts.0, clean_parts bytes parts.1)

digits_are_clean : (bytes : List ℕ) → all_ascii_digits bytes ≡ true → is_clean bytes ≡ true
digits_are_clean [] e = refl
digits_are_clean (byte ∷ bytes) e =
    let parts : (is_ascii_digit byte ≡ true) × (all_ascii_digits bytes ≡ true) = and_parts _ _ e in
    and_from (not (eqb byte 10)) (is_clean bytes) (grind (arith, nat_tests, parts.0)) (digits_are_clean bytes parts.1)

number_is_clean : (n : ℕ) → n < 2 ^ 64 → is_clean (decimal n) ≡ true
number_is_clean n small = digits_are_clean (decimal n) (digits_decimal own n small)

loader_is_clean : (n : ℕ) → n < 2 ^ 16 → is_clean (decimal n) ≡ true
loader_is_clean n h = number_is_clean n (omega arith)

block_is_clean : (n : ℕ) → n < 2 ^ 32 → is_clean (decimal n) ≡ true
block_is_clean n h = number_is_clean n (omega arith)

kind_is_clean : (kind : Kind) → is_clean (kind_word kind) ≡ true
kind_is_clean Standard = refl
kind_is_clean Boot = refl
kind_is_clean Reflection = refl
kind_is_clean Hidden = refl

both_clean : (one other : List ℕ) → is_clean one ≡ true → is_clean other ≡ true → is_clean (one ++ other) ≡ true
both_clean one other e f = list_all-append _ one other ∙ and_from _ _ e f

pub spelling_is_clean : (command : Command) → IsValid command → is_clean (spelling_of command) ≡ true
spelling_is_clean (Asks (New loader kind)) h =
    both_clean (decimal loader) (32 ∷ kind_word kind) (loader_is_clean loader h) (kind_is_clean kind)
spelling_is_clean (Asks (Alloc loader block words)) (l, b, w) =
    both_clean (decimal loader) _ (loader_is_clean loader l)
    (both_clean (decimal block) (32 ∷ decimal words) (block_is_clean block b) (number_is_clean words w))
spelling_is_clean (Asks (Calloc loader block words)) (l, b, w) =
    both_clean (decimal loader) _ (loader_is_clean loader l)
    (both_clean (decimal block) (32 ∷ decimal words) (block_is_clean block b) (number_is_clean words w))
spelling_is_clean (Asks (Write loader block index value)) (l, b, i, v) =
    both_clean (decimal loader) _ (loader_is_clean loader l)
    (both_clean (decimal block) _ (block_is_clean block b)
    (both_clean (decimal index) (32 ∷ decimal value) (number_is_clean index i) (number_is_clean value v)))
spelling_is_clean (Asks (Read loader block index)) (l, b, i) =
    both_clean (decimal loader) _ (loader_is_clean loader l)
    (both_clean (decimal block) (32 ∷ decimal index) (block_is_clean block b) (number_is_clean index i))
spelling_is_clean (Asks (Free loader block)) (l, b) =
    both_clean (decimal loader) (32 ∷ decimal block) (loader_is_clean loader l) (block_is_clean block b)
spelling_is_clean (Asks (Unload loader)) h = loader_is_clean loader h
spelling_is_clean (Asks Purge) h = refl
spelling_is_clean Sync h = refl
spelling_is_clean Report h = refl

-- A text that goes on with a line and a newline has that line first.
some_part : (text : List ℕ) → 0 < length (slice_split (λ byte. eqb byte 10) text)
some_part text = omega (arith, length-slice_split (λ byte. eqb byte 10) text)

pub lines_of-line : (line text : List ℕ) → is_clean line ≡ true → lines_of (line ++ 10 ∷ text) ≡ line ∷ lines_of text
lines_of-line line text clean =
    ap without_empty_end (slice_split_at (λ byte. eqb byte 10) line 10 text
    (All-from_recursion (λ byte. eqb byte 10 ≡ false) line (clean_parts line clean)) refl)
    ∙ line_first line (slice_split (λ byte. eqb byte 10) text) (some_part text)

-- Empty lines before lines that read.
gap_reads : (most : ℕ) (gap number : ℕ) (text : List ℕ) (trace : List Line) → number + gap ≤ most
    → ReadsFrom most (number + gap) (lines_of text) trace → ReadsFrom most number (lines_of (replicate gap 10 ++ text)) trace
gap_reads most zero number text trace few reads = rw add-zero at reads
gap_reads most (suc gap) number text trace few reads =
    let line_is : number + suc gap ≡ number + 1 + gap = omega arith in
    let later : ReadsFrom most (number + 1) (lines_of (replicate gap 10 ++ text)) trace =
    gap_reads most gap (number + 1) text trace (omega arith) (rw line_is at reads) in
    rw (lines_of-line [] (replicate gap 10 ++ text) refl) (trace, omega arith, omega arith, inl (refl, refl), later)

-- A printed trace reads as itself.
pub printed_reads : (most : ℕ) (last : ℕ) (trace : List Line) → AllByRecursion (λ (line : Line). IsValid line.command) trace
    → rises_above most last trace ≡ true → ReadsFrom most (last + 1) (lines_of (text_from (last + 1) trace)) trace
printed_reads most last [] valid rises = refl
printed_reads most last (line ∷ trace) (valid, others) rises =
    let parts : ((ltb last line.number && leb line.number most) ≡ true) × (rises_above most line.number trace ≡ true) =
    and_parts _ _ rises in
    let bounds : (ltb last line.number ≡ true) × (leb line.number most ≡ true) = and_parts _ _ parts.0 in
    let low : last < line.number = ltb-true _ _ bounds.0 in
    let high : line.number ≤ most = leb-true _ _ bounds.1 in
    let line_is : last + 1 + (line.number - (last + 1)) ≡ line.number = omega arith in
    let later : ReadsFrom most (line.number + 1) (lines_of (text_from (line.number + 1) trace)) trace =
    printed_reads most line.number trace others parts.1 in
    let text : List ℕ = text_from (line.number + 1) trace in
    let here : ReadsFrom most line.number (lines_of (spelling_of line.command ++ 10 ∷ text)) (line ∷ trace) =
    rw (lines_of-line (spelling_of line.command) text (spelling_is_clean line.command valid)) (
      trace,
      high,
      spelling_is_short line.command valid,
      inr (record { command = line.command; valid = valid; spelled = refl; trace_is = refl }),
      later,
    ) in
    let gap : ℕ = line.number - (last + 1) in
    rw (append_assoc (replicate gap 10) (spelling_of line.command) (10 ∷ text))
    (gap_reads most gap (last + 1) (spelling_of line.command ++ 10 ∷ text) (line ∷ trace) (rw line_is high) (rw line_is here))

-- The lines left begin with the next one.
drop_here : (items : List Line) (i : ℕ) (d : Line) → i < length items
    → drop i items ≡ get_or items i d ∷ drop (i + 1) items
drop_here items i d inside = rw add-one (drop-cons items i d inside)

joined : (text gap spelled rest : List ℕ)
    → text ++ gap ++ spelled ++ 10 ∷ [] ++ rest ≡ text ++ (gap ++ spelled ++ 10 ∷ rest)
joined text gap spelled rest = simp append_assoc refl

-- What is printed of a line is the next part of the text.
pub line_printed : (items : List Line) (i last : ℕ) (d : Line) (text whole : List ℕ) → i < length items
    → text ++ text_from (last + 1) (drop i items) ≡ whole →
    text ++ replicate ((get_or items i d).number - last - 1) 10 ++ spelling_of (get_or items i d).command
    ++ 10 ∷ [] ++ text_from ((get_or items i d).number + 1) (drop (i + 1) items) ≡ whole
line_printed items i last d text whole inside e =
    let line : Line = get_or items i d in
    let gap : line.number - last - 1 ≡ line.number - (last + 1) = omega arith in
    rw gap (joined text _ (spelling_of line.command) _ ∙ rw (drop_here items i d inside) at e)

-- The lines left rise from that line's number on.
pub rises_on : (most : ℕ) (items : List Line) (i last : ℕ) (d : Line) → i < length items → rises_above most last (drop i items) ≡ true
    → rises_above most (get_or items i d).number (drop (i + 1) items) ≡ true
rises_on most items i last d inside rises =
    let front : rises_above most last (get_or items i d ∷ drop (i + 1) items) ≡ true =
    rw (drop_here items i d inside) at rises in
    (and_parts _ _ front).1

-- So that line's number is above the last one.
pub rises_at : (most : ℕ) (items : List Line) (i last : ℕ) (line : Line) → i < length items → line ≡ get_or items i line
    → rises_above most last (drop i items) ≡ true → last < line.number
rises_at most items i last line inside is rises =
    let front : rises_above most last (get_or items i line ∷ drop (i + 1) items) ≡ true =
    rw (drop_here items i line inside) at rises in
    subst (λ (line : Line). last < line.number) (sym is)
    (ltb-true last (get_or items i line).number (and_parts _ _ (and_parts _ _ front).0).0)

-- A line whose number is above the last one, and not too great, leaves the question to those after
-- it.
pub rises_past : (most : ℕ) (items : List Line) (i last : ℕ) (d : Line) → i < length items → last < (get_or items i d).number
    → (get_or items i d).number ≤ most
    → rises_above most last (drop i items) ≡ rises_above most (get_or items i d).number (drop (i + 1) items)
rises_past most items i last d inside low high =
    let above : ltb last (get_or items i d).number ≡ true = grind (arith, nat_tests) in
    let small : leb (get_or items i d).number most ≡ true = grind (arith, nat_tests) in
    rw (drop_here items i d inside, above, small) refl

-- Numbers that rise within a limit rise within each greater one.
pub rises_wider : (most wider last : ℕ) (items : List Line) → most ≤ wider → rises_above most last items ≡ true
    → rises_above wider last items ≡ true
rises_wider most wider last [] wide rises = refl
rises_wider most wider last (line ∷ lines) wide rises =
    let parts = and_parts _ _ rises in
    let front = and_parts _ _ parts.0 in
    and_from _ _ (and_from _ _ front.0 (le-leb line.number wider (omega (arith, leb-true line.number most front.1, wide))))
    (rises_wider most wider line.number lines wide parts.1)
