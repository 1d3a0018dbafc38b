-- Texts that grow by spaces, and by the lines of levels. The loops of `push_spaces` and
-- `push_levels` use these.
use Rattle.std.proofs.Common.{◌≡◌, ◌∙◌, ◌+◌, ◌-◌, ◌<◌, ◌≤◌, ℕ, List, ◌++◌, Result, OnOk, Ok, Err, refl, sym, ap, arith}
use Rattle.std.proofs.Common.{append_assoc, append-nil, drop, drop-cons, drop_of_length-le, get_or, length}
use Rattle.std.proofs.Common.{add-one, replicate, take}
use Rattle.std.specs.Prelude.{if◌then◌else◌, ⊤, slice_range}
use Rattle.std.specs.Result.{is_ok}
use Rattle.std.proofs.lemmas.List.{replicate-append-replicate, take-replicate}
use Rattle.ms_report.specs.Layout.{level_lines, level_table, level_texts, table_line}

-- A text with more after it, once the first of that is there.
pub longer : (old new piece more : List ℕ) → new ≡ old ++ piece → old ++ (piece ++ more) ≡ new ++ more
longer old new piece more is = sym (append_assoc old piece more) ∙ ap (λ (text : List ℕ). text ++ more) (sym is)

-- Twelve spaces of those that are left, and the last ones.
abbrev spaces : ℕ → List ℕ
spaces n = replicate n 32

pub twelve_fewer : (left : ℕ) → 12 < left → spaces left ≡ spaces 12 ++ spaces (left - 12)
twelve_fewer left many = ap spaces (omega (arith, many)) ∙ sym (replicate-append-replicate {A = ℕ} 12 (left - 12) 32)

pub few_left : (left : ℕ) → left ≤ 12 → slice_range (spaces 12) 0 left ≡ spaces left
few_left left few =
    ap (λ (n : ℕ). take n (spaces 12)) (omega arith) ∙ take-replicate {X = ℕ} left 12 32 few

-- The end of a text, where it was put.
pub put_last : {E : Type 0} (result : Result ⊤ E) (whole text new piece rest : List ℕ) → whole ≡ text ++ rest
    → piece ≡ rest → new ≡ (if is_ok result then text ++ piece else text) → OnOk result (new ≡ whole)
put_last (Ok x) whole text new piece rest so_far piece_is is =
    is ∙ ap (λ (last : List ℕ). text ++ last) piece_is ∙ sym so_far
put_last (Err e) whole text new piece rest so_far piece_is is = tt

-- The lines from a level on are its own and those of the later ones, and past the last there are
-- none.
pub level_more : (level : ℕ) (held free : List ℕ) → level < length held → level < length free
    → level_lines level (drop level held) (drop level free)
    ≡ table_line level_table (level_texts level (get_or held level 0) (get_or free level 0))
    ++ level_lines (level + 1) (drop (level + 1) held) (drop (level + 1) free)
level_more level held free has too = rw (drop-cons held level 0 has, drop-cons free level 0 too, add-one level) refl

pub no_levels : (old text heading lines : List ℕ) (level : ℕ) (held free : List ℕ) → length held ≤ level
    → old ++ heading ++ lines ≡ text ++ level_lines level (drop level held) (drop level free)
    → text ≡ old ++ (heading ++ lines)
no_levels old text heading lines level held free past so_far =
    sym (sym (append_assoc old heading lines) ∙ so_far
    ∙ ap (λ (helds : List ℕ). text ++ level_lines level helds (drop level free)) (drop_of_length-le held past)
    ∙ append-nil text)
