-- Texts that grow at their end: what some calls add, one after the other, is added together. Used
-- by the functions of `sections` and `reply_lines`.
use Rattle.std.proofs.Common.{◌≡◌, ℕ, List, ◌++◌, ap, ◌∙◌, append_assoc, Result, Ok, Err, OnOk, is_ok, if◌then◌else◌}

pub adds_two : (old mid new a b : List ℕ) → mid ≡ old ++ a → new ≡ mid ++ b → new ≡ old ++ (a ++ b)
adds_two old mid new a b first second = second ∙ ap (λ (text : List ℕ). text ++ b) first ∙ append_assoc old a b

pub adds_three : (old t1 t2 t3 a b c : List ℕ) → t1 ≡ old ++ a → t2 ≡ t1 ++ b → t3 ≡ t2 ++ c → t3 ≡ old ++ (a ++ b ++ c)
adds_three old t1 t2 t3 a b c first second third =
    adds_two old t2 t3 (a ++ b) c (adds_two old t1 t2 a b first second) third

pub adds_four : (old t1 t2 t3 t4 a b c d : List ℕ) → t1 ≡ old ++ a → t2 ≡ t1 ++ b → t3 ≡ t2 ++ c → t4 ≡ t3 ++ d
    → t4 ≡ old ++ (a ++ b ++ c ++ d)
adds_four old t1 t2 t3 t4 a b c d first second third fourth =
    adds_two old t3 t4 (a ++ b ++ c) d (adds_three old t1 t2 t3 a b c first second third) fourth

pub adds_five : (old t1 t2 t3 t4 t5 a b c d e : List ℕ) → t1 ≡ old ++ a → t2 ≡ t1 ++ b → t3 ≡ t2 ++ c
    → t4 ≡ t3 ++ d → t5 ≡ t4 ++ e → t5 ≡ old ++ (a ++ b ++ c ++ d ++ e)
adds_five old t1 t2 t3 t4 t5 a b c d e first second third fourth fifth =
    adds_two old t4 t5 (a ++ b ++ c ++ d) e (adds_four old t1 t2 t3 t4 a b c d first second third fourth) fifth

pub adds_six : (old t1 t2 t3 t4 t5 t6 a b c d e f : List ℕ) → t1 ≡ old ++ a → t2 ≡ t1 ++ b → t3 ≡ t2 ++ c
    → t4 ≡ t3 ++ d → t5 ≡ t4 ++ e → t6 ≡ t5 ++ f → t6 ≡ old ++ (a ++ b ++ c ++ d ++ e ++ f)
adds_six old t1 t2 t3 t4 t5 t6 a b c d e f first second third fourth fifth sixth =
    adds_two old t5 t6 (a ++ b ++ c ++ d ++ e) f
    (adds_five old t1 t2 t3 t4 t5 a b c d e first second third fourth fifth) sixth

pub adds_seven : (old t1 t2 t3 t4 t5 t6 t7 a b c d e f g : List ℕ) → t1 ≡ old ++ a → t2 ≡ t1 ++ b → t3 ≡ t2 ++ c
    → t4 ≡ t3 ++ d → t5 ≡ t4 ++ e → t6 ≡ t5 ++ f → t7 ≡ t6 ++ g → t7 ≡ old ++ (a ++ b ++ c ++ d ++ e ++ f ++ g)
adds_seven old t1 t2 t3 t4 t5 t6 t7 a b c d e f g first second third fourth fifth sixth seventh =
    adds_two old t6 t7 (a ++ b ++ c ++ d ++ e ++ f) g
    (adds_six old t1 t2 t3 t4 t5 t6 a b c d e f first second third fourth fifth sixth) seventh

-- The last of them in a call that may fail.
pub adds_then : {X E : Type 0} (result : Result X E) (old mid new a b : List ℕ) → mid ≡ old ++ a
    → OnOk result (new ≡ mid ++ b) → OnOk result (new ≡ old ++ (a ++ b))
adds_then (Ok done) old mid new a b first second = adds_two old mid new a b first second
adds_then (Err error) old mid new a b first second = tt

pub adds_text : {X E : Type 0} (result : Result X E) (old mid new a b : List ℕ) → mid ≡ old ++ a
    → new ≡ (if is_ok result then mid ++ b else mid) → OnOk result (new ≡ old ++ (a ++ b))
adds_text (Ok done) old mid new a b first second = adds_two old mid new a b first second
adds_text (Err error) old mid new a b first second = tt
