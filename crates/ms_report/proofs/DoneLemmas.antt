-- The line that says that a command is done, as it is made anew and as it is counted on. Used by
-- `done_line`.
use Rattle.std.proofs.Common.{◌≡◌, ◌<◌, ◌≤◌, ◌+◌, ◌-◌, ◌^◌, ◌%◌, ◌/◌, ◌∙◌, ◌++◌, ◌∷◌, [], ℕ, List, Bool, true, false}
use Rattle.std.proofs.Common.{ap, arith, codes, decimal, drop, length, length-append, refl, replicate, sym, take}
use Rattle.std.specs.Prelude.{nat_lt, slice_index_or, slice_set}
use Rattle.std.specs.Str.{IsAscii}
use Rattle.std.proofs.lemmas.Bool.Decides.{nat_tests}
use Rattle.std.proofs.lemmas.Fmt.{IsAscii-decimal, decimal_digit, decimal_step, length-decimal-le}
use Rattle.std.proofs.lemmas.Str.{IsAscii-append}
use Rattle.std.proofs.lemmas.Str.Ascii.{IsAscii-cons}
use Rattle.std.proofs.lemmas.List.{take-append-le}
use Rattle.std.proofs.lemmas.List.{drop-drop, drop-set-lt, drop-set-add, drop_at, get_or-drop, length-drop, length-set}
use Rattle.std.proofs.Math.Seq.{take-append-add}
use Rattle.std.proofs.Math.ListN.{get_or, set}
use Rattle.ms_report.proofs.ColumnLemmas.{spaces_are_ascii}
use Rattle.ms_report.specs.DoneLine.{IsDoneLine}

-- What a number has before its ones, which the next one has too where they are below nine.
record IsCounted (number : ℕ) : Type 0 where
  front : List ℕ
  this : decimal number ≡ front ++ (48 + number % 10) ∷ []
  next : number % 10 < 9 → decimal (number + 1) ≡ front ++ (48 + number % 10 + 1) ∷ []

counted : (number : ℕ) → number + 1 < 2 ^ 64 → IsCounted number
counted number small = by (nat_lt number 10) refl
  where
    by : (few : Bool) → nat_lt number 10 ≡ few → IsCounted number
    by true few =
        let less : number < 10 = grind (arith, nat_tests, few) in
        record {
          front = [];
          this = decimal_digit number less ∙ ap (λ (n : ℕ). (48 + n) ∷ []) (omega (arith, less));
          next = λ ones. decimal_digit (number + 1) (omega (arith, less, ones))
              ∙ ap (λ (n : ℕ). n ∷ []) (omega (arith, less));
        }
    by false few =
        let more : 10 ≤ number = grind (arith, nat_tests, few) in
        record {
          front = decimal (number / 10);
          this = decimal_step number more (omega (arith, small));
          next = λ ones. decimal_step (number + 1) (omega (arith, more)) small
              ∙ ap (λ (n : ℕ). decimal n ++ (48 + (number + 1) % 10) ∷ []) (omega (arith, ones))
              ∙ ap (λ (n : ℕ). decimal (number / 10) ++ n ∷ []) (omega (arith, ones));
        }

-- The first line.
pub first_done : IsDoneLine 0 19 (codes "                   0 ok\n            ")
first_done = record {
  long = refl;
  low = omega arith;
  high = omega arith;
  digits = ap (λ (digits : List ℕ). digits ++ (codes " ok\n" ++ replicate 12 32)) (sym (decimal_digit 0 (omega arith)));
  word = refl;
}

-- The line that is made anew: what stands after the number stays.
pub made : (number from : ℕ) (old new : List ℕ) → number < 2 ^ 32 → length new ≡ 36
    → from + length (decimal number) ≡ 20 → drop from new ≡ decimal number ++ drop 20 old
    → drop 20 old ≡ codes " ok\n" ++ replicate 12 32 → IsDoneLine number from new
made number from old new small long ends written word = record {
  long = long;
  low = omega (arith, ends, length-decimal-le 10 number (omega arith) (omega (arith, small)) (omega (arith, small)));
  high = omega (arith, ends);
  digits = written ∙ ap (λ (rest : List ℕ). decimal number ++ rest) (sym stays);
  word = stays ∙ word;
}
  where
    stays : drop 20 new ≡ drop 20 old
    stays =
        sym (drop-drop (length (decimal number)) from new ∙ ap (λ (n : ℕ). drop n new) ends)
        ∙ ap (drop (length (decimal number))) written
        ∙ drop_at (decimal number) (drop 20 old) (length (decimal number)) refl

-- The ones of a number that stand before other bytes, and that number with others in their place.
ones_at : (front rest : List ℕ) (ones : ℕ) → get_or ((front ++ ones ∷ []) ++ rest) (length front) 0 ≡ ones
ones_at [] rest ones = refl
ones_at (digit ∷ front) rest ones = ones_at front rest ones

ones_set : (front rest : List ℕ) (ones other : ℕ)
    → set ((front ++ ones ∷ []) ++ rest) (length front) other ≡ (front ++ other ∷ []) ++ rest
ones_set [] rest ones other = refl
ones_set (digit ∷ front) rest ones other = ap (λ (l : List ℕ). digit ∷ l) (ones_set front rest ones other)

-- The line that is counted on: its ones alone change.
pub counted_on : (number last from : ℕ) (bytes : List ℕ) → IsDoneLine last from bytes → last < number
    → number - last ≡ 1 → number < 2 ^ 64 → slice_index_or bytes 19 0 < 57
    → IsDoneLine number from (slice_set bytes 19 (slice_index_or bytes 19 0 + 1))
counted_on number last from bytes line more one small below = record {
  long = length-set bytes 19 (get_or bytes 19 0 + 1) ∙ line.long;
  low = line.low;
  high = line.high;
  digits = is;
  word = stays ∙ line.word;
}
  where
    its : IsCounted last
    its = counted last (omega (arith, small, one, more))

    rest : List ℕ
    rest = drop 20 bytes

    front : ℕ
    front = length its.front

    split : drop from bytes ≡ (its.front ++ (48 + last % 10) ∷ []) ++ rest
    split = line.digits ∙ ap (λ (l : List ℕ). l ++ rest) its.this

    at : from + front ≡ 19
    at = omega (
      arith,
      ap length split,
      length-append (its.front ++ (48 + last % 10) ∷ []) rest,
      length-append its.front ((48 + last % 10) ∷ []),
      ap length line.word,
      length-drop from bytes,
      line.long,
      line.high,
    )

    ones : get_or bytes 19 0 ≡ 48 + last % 10
    ones =
        ap (λ (n : ℕ). get_or bytes n 0) (sym at)
        ∙ sym (get_or-drop from bytes front 0)
        ∙ ap (λ (l : List ℕ). get_or l front 0) split
        ∙ ones_at its.front rest (48 + last % 10)

    stays : drop 20 (set bytes 19 (get_or bytes 19 0 + 1)) ≡ rest
    stays = drop-set-lt 20 bytes 19 (get_or bytes 19 0 + 1) (omega arith)

    is : drop from (set bytes 19 (get_or bytes 19 0 + 1)) ≡ decimal number ++ drop 20 (set bytes 19 (get_or bytes 19 0 + 1))
    is =
        ap (λ (n : ℕ). drop from (set bytes n (get_or bytes 19 0 + 1))) (sym at)
        ∙ drop-set-add from bytes front (get_or bytes 19 0 + 1)
        ∙ ap (λ (l : List ℕ). set l front (get_or bytes 19 0 + 1)) split
        ∙ ones_set its.front rest (48 + last % 10) (get_or bytes 19 0 + 1)
        ∙ ap (λ (n : ℕ). (its.front ++ n ∷ []) ++ rest) (ap (λ (n : ℕ). n + 1) ones)
        ∙ ap (λ (l : List ℕ). l ++ rest) (sym (its.next (omega (arith, ones, below))))
        ∙ ap (λ (n : ℕ). decimal n ++ rest) (omega (arith, one, more))
        ∙ ap (λ (l : List ℕ). decimal number ++ l) (sym stays)

-- What is appended of the line is ASCII.
pub done_is_ascii : (number from : ℕ) (bytes : List ℕ) → IsDoneLine number from bytes → number < 2 ^ 64
    → IsAscii (drop from bytes)
done_is_ascii number from bytes line small =
    rw (line.digits, line.word)
    (IsAscii-append (decimal number) (codes " ok\n" ++ replicate 12 32) (IsAscii-decimal number small)
    (IsAscii-cons 32 (codes "ok\n" ++ replicate 12 32) (omega arith)
    (IsAscii-cons 111 (codes "k\n" ++ replicate 12 32) (omega arith)
    (IsAscii-cons 107 (codes "\n" ++ replicate 12 32) (omega arith)
    (IsAscii-cons 10 (replicate 12 32) (omega arith) (spaces_are_ascii 12))))))

-- What it is.
pub done_text : (number last from end : ℕ) (bytes : List ℕ) → IsDoneLine last from bytes → last ≡ number → 20 ≤ end
    → end ≤ 24 → take (end - from) (drop from bytes) ≡ decimal number ++ take (end - 20) (codes " ok\n")
done_text number last from end bytes line is past within =
    ap (take (end - from)) (line.digits ∙ ap (λ (rest : List ℕ). decimal last ++ rest) line.word)
    ∙ ap (λ (n : ℕ). take n (decimal last ++ (codes " ok\n" ++ replicate 12 32))) ends
    ∙ take-append-add (decimal last) (codes " ok\n" ++ replicate 12 32) (end - 20)
    ∙ ap (λ (word : List ℕ). decimal last ++ word)
    (take-append-le (end - 20) (codes " ok\n") (replicate 12 32) (omega (arith, within)))
    ∙ ap (λ (n : ℕ). decimal n ++ take (end - 20) (codes " ok\n")) is
  where
    ends : end - from ≡ length (decimal last) + (end - 20)
    ends = omega (
      arith,
      ap length line.digits,
      length-append (decimal last) (drop 20 bytes),
      ap length line.word,
      length-drop from bytes,
      line.long,
      line.high,
      past,
    )
