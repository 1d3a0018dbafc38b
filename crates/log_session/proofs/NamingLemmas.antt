-- One line more of the file of names. Used by `text`.
use Rattle.std.proofs.Common.{◌≡◌, ◌+◌, ◌<◌, ◌++◌, ℕ, zero, suc, List, [], ◌∷◌, take, length, get_or, sym, ap, ◌∙◌, append-nil, append_assoc, arith, Vec}
use Rattle.log_session.specs.Naming.{name_line, names_text, told_of}

names_more : {A : Type 0} (texts : List (ℕ × Vec ℕ A)) (birth : ℕ) (numbers : List ℕ) (at or : ℕ) → at < length numbers
    → names_text texts birth (take (suc at) numbers)
    ≡ names_text texts birth (take at numbers) ++ name_line (get_or numbers at or) (told_of texts (birth + at))
names_more texts birth [] at or less = absurd (omega (arith, less))
names_more texts birth (number ∷ numbers) zero or less =
    let here : birth ≡ birth + 0 = omega arith in
    append-nil (name_line number (told_of texts birth)) ∙ ap (λ n. name_line number (told_of texts n)) here
names_more texts birth (number ∷ numbers) (suc at) or less =
    let next_is : birth + 1 + at ≡ birth + suc at = omega arith in
    ap (λ rest. name_line number (told_of texts birth) ++ rest) (names_more texts (birth + 1) numbers at or (omega (arith, less)))
    ∙ sym (append_assoc (name_line number (told_of texts birth)) (names_text texts (birth + 1) (take at numbers)) _)
    ∙ ap (λ n. (name_line number (told_of texts birth) ++ names_text texts (birth + 1) (take at numbers))
    ++ name_line (get_or numbers at or) (told_of texts n)) next_is

pub names_next : {A : Type 0} (texts : List (ℕ × Vec ℕ A)) (numbers : List ℕ) (at or : ℕ) → at < length numbers
    → names_text texts 0 (take (at + 1) numbers)
    ≡ names_text texts 0 (take at numbers) ++ name_line (get_or numbers at or) (told_of texts at)
names_next texts numbers at or less =
    let next : at + 1 ≡ suc at = omega arith in
    let here : 0 + at ≡ at = omega arith in
    ap (λ n. names_text texts 0 (take n numbers)) next ∙ names_more texts 0 numbers at or less
    ∙ ap (λ n. names_text texts 0 (take at numbers) ++ name_line (get_or numbers at or) (told_of texts n)) here
