-- Texts that end with a newline, and a last line that has none: for `cut_last` and the one-pass
-- readers.
use Rattle.std.proofs.Common.{◌≡◌, ℕ, zero, suc, ◌+◌, ◌-◌, ◌<◌, ◌≤◌, Bool, true, false, cond, eqb, List, [], ◌∷◌}
use Rattle.std.proofs.Common.{◌++◌, length, length-append, length-drop, append-nil, add-one, get_or, take, drop, refl, sym}
use Rattle.std.proofs.Common.{◌∙◌, ap, arith, IsTrue}
use Rattle.std.proofs.lemmas.Bool.{both_ways}
use Rattle.std.proofs.lemmas.Grind.{get_or_default_zero}
use Rattle.std.proofs.lemmas.List.{drop_more, get_or-drop, take-append-drop, take_more}
use Rattle.std.proofs.lemmas.List.Splits.{length-slice_split, slice_split-cons_yes, slice_split_none}
use Rattle.std.specs.List.{onto_first, slice_split}
use Rattle.ms_trace.specs.Cutting.{parts_of}
use Rattle.ms_trace.specs.Grammar.{lines_of, without_empty_end}
use Rattle.ms_trace.specs.Keeping.{is_ended}
use Rattle.ms_trace.proofs.CutLemmas.{not_true}
use Rattle.ms_trace.proofs.ReadingLemmas.{line_first, last_line}

-- Where a separator stands, the parts before it and those after it are the parts of all.
both_step : {X : Type 0} (here : Bool) (x : X) (one other more : List (List X)) → 0 < length one → other ≡ one ++ more
    → cond here ([] ∷ other) (onto_first x other) ≡ cond here ([] ∷ one) (onto_first x one) ++ more
both_step true x one other more some e = ap (λ parts. [] ∷ parts) e
both_step false x [] other more some e = absurd (omega arith)
both_step false x (part ∷ one) other more some e = ap (onto_first x) e

slice_split_both : (p : ℕ → Bool) (front : List ℕ) (byte : ℕ) (back : List ℕ) → p byte ≡ true
    → slice_split p (front ++ byte ∷ back) ≡ slice_split p front ++ slice_split p back
slice_split_both p [] byte back e = slice_split-cons_yes p byte back e
slice_split_both p (first ∷ front) byte back e =
    both_step (p first) first (slice_split p front) (slice_split p (front ++ byte ∷ back)) (slice_split p back)
    (omega (arith, length-slice_split p front)) (slice_split_both p front byte back e)

-- The last part alone can be no line.
without_empty_end-append : (parts more : List (List ℕ)) → 0 < length more
    → without_empty_end (parts ++ more) ≡ parts ++ without_empty_end more
without_empty_end-append [] more some = refl
without_empty_end-append (part ∷ parts) more some =
    line_first part (parts ++ more) (simp length-append (omega (arith, some)))
    ∙ ap (λ lines. part ∷ lines) (without_empty_end-append parts more some)

-- So a text is cut into lines before and after a newline.
newline_parts : (front : List ℕ) (byte : ℕ) (back : List ℕ) → eqb byte 10 ≡ true
    → lines_of (front ++ byte ∷ back) ≡ parts_of 10 front ++ lines_of back
newline_parts front byte back e =
    ap without_empty_end (slice_split_both (λ byte. eqb byte 10) front byte back e)
    ∙ without_empty_end-append (parts_of 10 front) (parts_of 10 back)
    (omega (arith, length-slice_split (λ byte. eqb byte 10) back))

pub lines_of-cut_after : (text : List ℕ) (at : ℕ) → at < length text → eqb (get_or text at 0) 10 ≡ true
    → lines_of text ≡ lines_of (take (at + 1) text) ++ lines_of (drop (at + 1) text)
lines_of-cut_after text at inside e =
    let front : List ℕ = take at text in
    let back : List ℕ = drop (at + 1) text in
    let byte : ℕ = get_or text at 0 in
    let whole : text ≡ front ++ byte ∷ back =
    sym (take-append-drop at text) ∙ ap (λ rest. front ++ rest) (drop_more text at 0 inside) in
    let ended : lines_of (front ++ byte ∷ []) ≡ parts_of 10 front =
    newline_parts front byte [] e ∙ append-nil (parts_of 10 front) in
    ap lines_of whole ∙ newline_parts front byte back e
    ∙ ap (λ lines. lines ++ lines_of back) (sym ended ∙ ap lines_of (sym (take_more text at 0 inside)))

-- What has no newline is one line, if it has a byte.
pub lines_of-last : (text : List ℕ) (from : ℕ)
    → ((k : ℕ) → from ≤ k → k < length text → eqb (get_or text k 0) 10 ≡ true → ⊥) → 0 < length (drop from text)
    → lines_of (drop from text) ≡ drop from text ∷ []
lines_of-last text from none some =
    ap without_empty_end
    (slice_split_none (λ byte. eqb byte 10) (drop from text)
    (λ k d inside.
    let below : from + k < length text = omega (arith, inside, length-drop from text) in
    rw (get_or-drop from text k d, get_or_default_zero text (from + k) d below)
    (not_true _ (λ newline. none (from + k) (omega arith) below newline))))
    ∙ last_line (drop from text) some

-- A text that ends with a newline has a byte.
pub ended_some : (text : List ℕ) → IsTrue (is_ended text) → 0 < length text
ended_some [] ended = cc
ended_some (byte ∷ bytes) ended = omega arith

-- So does what stands after another byte.
pub ended_after : (byte : ℕ) (rest : List ℕ) → eqb byte 10 ≡ false → IsTrue (is_ended (byte ∷ rest))
    → IsTrue (is_ended rest)
ended_after byte [] other ended = absurd (both_ways _ other ended)
ended_after byte (next ∷ rest) other ended = ended

-- What stands after a word that doesn't end so has a byte.
pub word_inside : (text word rest : List ℕ) → text ≡ word ++ rest → is_ended word ≡ false → IsTrue (is_ended text)
    → length word < length text
word_inside text word [] e unended ended =
    absurd (both_ways _ (ap is_ended (e ∙ append-nil word) ∙ unended) ended)
word_inside text word (byte ∷ rest) e unended ended = rw e (simp length-append (omega arith))

drop_ended : (text : List ℕ) (at : ℕ) → at < length text → eqb (get_or text at 0) 10 ≡ false
    → IsTrue (is_ended text) → IsTrue (is_ended (drop (suc at) text))
drop_ended [] at inside other ended = absurd (omega (arith, inside))
drop_ended (byte ∷ bytes) zero inside other ended = ended_after byte bytes other ended
drop_ended (byte ∷ []) (suc at) inside other ended = absurd (omega (arith, inside))
drop_ended (byte ∷ next ∷ rest) (suc at) inside other ended =
    drop_ended (next ∷ rest) at (omega (arith, inside)) other ended

pub ended_drop : (text : List ℕ) (at : ℕ) → at < length text → eqb (get_or text at 0) 10 ≡ false
    → IsTrue (is_ended text) → IsTrue (is_ended (drop (at + 1) text))
ended_drop text at inside other ended = rw add-one (drop_ended text at inside other ended)

-- And another byte isn't its last.
pub not_last : (text : List ℕ) (at : ℕ) → at < length text → eqb (get_or text at 0) 10 ≡ false
    → IsTrue (is_ended text) → at + 1 < length text
not_last text at inside other ended =
    omega (arith, inside, length-drop (at + 1) text, ended_some (drop (at + 1) text) (ended_drop text at inside other ended))

pub is_ended-last : (text : List ℕ) → 0 < length text → is_ended text ≡ eqb (get_or text (length text - 1) 0) 10
is_ended-last [] some = absurd (omega arith)
is_ended-last (byte ∷ []) some = refl
is_ended-last (byte ∷ next ∷ rest) some =
    let last_is : length (byte ∷ next ∷ rest) - 1 ≡ suc (length (next ∷ rest) - 1) = omega arith in
    rw last_is (is_ended-last (next ∷ rest) (omega arith))
