-- Columns written from the right into blank bytes. Used by `columns`.
use Rattle.std.proofs.Common.{◌≡◌, ◌≤◌, ◌<◌, ◌^◌, ℕ, zero, suc, ◌-◌, List, ◌++◌, length, replicate, drop, take, sym, ◌∙◌, ap}
use Rattle.std.proofs.Common.{◌+◌, min, codes, arith, append_assoc, refl, [], ◌∷◌}
use Rattle.std.proofs.Common.{Result, Ok, Err, OnOk}
use Rattle.std.proofs.lemmas.Fmt.{IsAscii-decimal, length-decimal-le}
use Rattle.std.proofs.lemmas.List.{take-append-drop, take-replicate, drop-replicate, drop-append-le, take-append-le}
use Rattle.std.proofs.lemmas.List.{length-drop, length-replicate, length-take-le, drop-drop, drop_at}
use borrow.Rule.Slice.PartMut.{put_mid}
use Rattle.std.proofs.lemmas.Slice.{take-put_mid_below}
use Rattle.std.proofs.lemmas.Str.{IsAscii-append}
use Rattle.std.proofs.lemmas.Str.Ascii.{IsAscii-nil, IsAscii-cons}
use Rattle.std.specs.Fmt.{decimal}
use Rattle.std.specs.Str.{IsAscii}
use Rattle.ms_base.specs.Level.{size_of}
use Rattle.ms_report.specs.Cells.{IsLine, four_line}
use Rattle.ms_base.specs.Totals.{LoaderRow}
use Rattle.ms_report.specs.Layout.{Table, cells, level_table, level_texts, loader_table, loader_texts, right_in, table_line}

-- A number has twenty digits at most.
pub digits_fit : (n : ℕ) → n < 2 ^ 64 → length (decimal n) ≤ 20
digits_fit n small = length-decimal-le 20 n (omega arith) (omega (arith, small)) small

-- Bytes that are blank up to an index.
blank_front : (bytes : List ℕ) (end : ℕ) → take end bytes ≡ replicate end 32
    → bytes ≡ replicate end 32 ++ drop end bytes
blank_front bytes end blank =
    sym (take-append-drop end bytes) ∙ ap (λ (front : List ℕ). front ++ drop end bytes) blank

-- They are blank up to a lower one, and from there on there are spaces.
pub blank_below : (bytes : List ℕ) (from end : ℕ) → from ≤ end → take end bytes ≡ replicate end 32
    → take from bytes ≡ replicate from 32
blank_below bytes from end low blank =
    ap (take from) (blank_front bytes end blank)
    ∙ take-append-le from (replicate end 32) (drop end bytes) (omega (arith, length-replicate {A = ℕ} end 32, low))
    ∙ take-replicate from end 32 low

blank_from : (bytes : List ℕ) (from end : ℕ) → from ≤ end → take end bytes ≡ replicate end 32
    → drop from bytes ≡ replicate (end - from) 32 ++ drop end bytes
blank_from bytes from end low blank =
    ap (drop from) (blank_front bytes end blank)
    ∙ drop-append-le from (replicate end 32) (drop end bytes) (omega (arith, length-replicate {A = ℕ} end 32, low))
    ∙ ap (λ (front : List ℕ). front ++ drop end bytes) (drop-replicate from end 32)

-- So digits with blank bytes before them are right in their width.
pub digits_right : (new rest digits : List ℕ) (width from start : ℕ) → from ≤ start
    → start - from ≡ width - length digits → take start new ≡ replicate start 32
    → drop start new ≡ digits ++ rest → drop from new ≡ right_in width digits ++ rest
digits_right new rest digits width from start low count blank written =
    let spaces : List ℕ = replicate (width - length digits) 32 in
    blank_from new from start low blank
    ∙ ap (λ (many : ℕ). replicate many 32 ++ drop start new) count
    ∙ ap (λ (later : List ℕ). spaces ++ later) written
    ∙ sym (append_assoc spaces digits rest)

-- They are ASCII.
pub spaces_are_ascii : (n : ℕ) → IsAscii (replicate n 32)
spaces_are_ascii zero = IsAscii-nil
spaces_are_ascii (suc n) = IsAscii-cons 32 (replicate n 32) (omega arith) (spaces_are_ascii n)

pub right_is_ascii : (width n : ℕ) → n < 2 ^ 64 → IsAscii (right_in width (decimal n))
right_is_ascii width n small =
    IsAscii-append (replicate (width - length (decimal n)) 32) (decimal n)
    (spaces_are_ascii (width - length (decimal n))) (IsAscii-decimal n small)

-- A number of five digits at most in a width of five, with two spaces before them, stands in seven.
pub two_wider : (n : ℕ) → n < 2 ^ 16 → right_in 7 (decimal n) ≡ codes "  " ++ right_in 5 (decimal n)
two_wider n small =
    let few : length (decimal n) ≤ 5 =
    length-decimal-le 5 n (omega arith) (omega (arith, small)) (omega (arith, small)) in
    let more : 7 - length (decimal n) ≡ suc (suc (5 - length (decimal n))) = omega (arith, few) in
    ap (λ (many : ℕ). replicate many 32 ++ decimal n) more

-- Columns of a table, and what stands after them.
abbrev cells_on : Table → List (List ℕ) → List ℕ → List ℕ
cells_on columns [] end = end
cells_on [] (text ∷ texts) end = end
cells_on (column ∷ columns) (text ∷ texts) end = right_in column.1 text ++ cells_on columns texts end

cells_end : (columns : Table) (texts : List (List ℕ)) (end : List ℕ)
    → cells columns texts ++ end ≡ cells_on columns texts end
cells_end [] [] end = refl
cells_end (column ∷ columns) [] end = refl
cells_end [] (text ∷ texts) end = refl
cells_end (column ∷ columns) (text ∷ texts) end =
    append_assoc (right_in column.1 text) (cells columns texts) end
    ∙ ap (λ (later : List ℕ). right_in column.1 text ++ later) (cells_end columns texts end)

-- A number that is put before what is written of a line: what the line is then.
pub record IsPut (old new : List ℕ) (width number end from : ℕ) : Type 0 where
  pub is_line : IsLine from new
  pub written : drop from new ≡ right_in width (decimal number) ++ drop end old
  pub near : end ≤ from + 20

pub number_put : (old new : List ℕ) (width number end start from : ℕ) → IsLine end old → number < 2 ^ 64
    → width ≤ 20 → 20 ≤ end → start + length (decimal number) ≡ end → take start new ≡ take start old
    → drop start new ≡ decimal number ++ drop end old → from ≡ min start (end - width)
    → IsPut old new width number end from
number_put old new width number end start from line small few room ends before digits least =
    let blank : take start new ≡ replicate start 32 =
    before ∙ blank_below old start end (omega (arith, ends)) line.blank in
    let written : drop from new ≡ right_in width (decimal number) ++ drop end old =
    digits_right new (drop end old) (decimal number) width from start (omega (arith, least))
    (omega (arith, least, ends, few, room)) blank digits in
    record {
      is_line = record {
        within = omega (arith, least, ends, line.within);
        blank = blank_below new from start (omega (arith, least)) blank;
        ascii = rw written (IsAscii-append (right_in width (decimal number)) (drop end old)
            (right_is_ascii width number small) line.ascii);
      };
      written = written;
      near = omega (arith, least, ends, few, room, digits_fit number small);
    }

-- What is written of a line leaves so much room before it.
pub room_before : (line bytes : List ℕ) (from words : ℕ) → line ≡ drop from bytes → length bytes ≡ 192 → from ≤ 192
    → length line + words ≤ 192 → words ≤ from
room_before line bytes from words is long within room =
    omega (arith, ap length is, length-drop from bytes, long, within, room)

-- Bytes in which a word stands up to an index: what they are from the word on.
pub word_written : (old word piece : List ℕ) (end : ℕ) → end ≤ length old → length word ≤ end → piece ≡ word
    → drop (end - length word) (put_mid (end - length word) (end - (end - length word)) old piece)
    ≡ word ++ drop end old
word_written old word piece end long fits is =
    rw is (
    drop_at (take start old) (word ++ drop (end - start) (drop start old)) start (length-take-le start old low)
    ∙ ap (λ (later : List ℕ). word ++ later)
    (drop-drop (end - start) start old ∙ ap (λ (n : ℕ). drop n old) (omega (arith, fits)))
    )
  where
    start : ℕ
    start = end - length word

    low : start ≤ length old
    low = omega (arith, long)

-- The line of a level is four numbers, of which the first is two wider.
pub level_added : {X E : Type 0} (result : Result X E) (old new : List ℕ) (level held free : ℕ) → level < 2 ^ 16
    → OnOk result (new ≡ old ++ four_line (7, level) (8, size_of level) (8, held) (8, free))
    → OnOk result (new ≡ old ++ table_line level_table (level_texts level held free))
level_added (Err error) old new level held free small added = tt
level_added (Ok done) old new level held free small added =
    let later : List ℕ =
    right_in 8 (decimal (size_of level)) ++ (right_in 8 (decimal held) ++ (right_in 8 (decimal free) ++ codes "\n")) in
    added
    ∙ ap (λ (front : List ℕ). old ++ (front ++ later)) (two_wider level small)
    ∙ ap (λ (columns : List ℕ). old ++ (codes "  " ++ columns))
    (sym (cells_end level_table (level_texts level held free) (codes "\n")))

-- A word that is put before what is written.
pub word_put : (old word piece : List ℕ) (end : ℕ) → IsLine end old → length old ≡ 192 → length word ≤ end → IsAscii word
    → piece ≡ word → IsLine (end - length word)
    (put_mid (end - length word) (end - (end - length word)) old piece)
word_put old word piece end line long fits plain is =
    rw is (record {
      within = omega (arith, line.within);
      blank = take-put_mid_below start (end - start) old word start (omega arith) low
          ∙ blank_below old start end (omega arith) line.blank;
      ascii = rw written (IsAscii-append word (drop end old) plain line.ascii);
    })
  where
    start : ℕ
    start = end - length word

    low : start ≤ length old
    low = omega (arith, line.within, long)

    written : drop start (put_mid start (end - start) old word) ≡ word ++ drop end old
    written = word_written old word word end (omega (arith, line.within, long)) fits refl

-- The line of a loader is its columns, from the left.
pub row_added : {X E : Type 0} (result : Result X E) (old new line : List ℕ) (row : LoaderRow)
    → line ≡ codes "  " ++ cells_on loader_table (loader_texts row) (codes "\n") → OnOk result (new ≡ old ++ line)
    → OnOk result (new ≡ old ++ table_line loader_table (loader_texts row))
row_added (Err error) old new line row is added = tt
row_added (Ok done) old new line row is added =
    added
    ∙ ap (λ (text : List ℕ). old ++ text) is
    ∙ ap (λ (columns : List ℕ). old ++ (codes "  " ++ columns))
    (sym (cells_end loader_table (loader_texts row) (codes "\n")))
