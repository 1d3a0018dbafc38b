-- Elements of `answers`, piece by piece. Used by `run`.
use Rattle.std.proofs.Common.{◌≡◌, ℕ, List, [], ◌∷◌, ◌++◌, refl, sym, ap, ◌∙◌, append_assoc, codes}
use Rattle.std.specs.Fmt.{decimal}
use Rattle.json.specs.Print.{quoted}
use Rattle.serde_json.specs.Written.{compact_text}
use Rattle.ms_json.specs.Document.{answer_data}
use Rattle.ms_json.proofs.WritingLemmas.{quoted_plain}

-- The bracket and the two numbers that begin an element.
abbrev pub lines_text : ℕ → ℕ → List ℕ
lines_text first last = codes "[" ++ (decimal first ++ (codes "," ++ (decimal last ++ codes ",")))

pub element_text : (first last : ℕ) (reply : List ℕ)
    → lines_text first last ++ (quoted reply ++ codes "]") ≡ compact_text (answer_data first last reply)
element_text first last reply =
    ap (λ (text : List ℕ). 91 ∷ text)
    (append_assoc (decimal first) (44 ∷ (decimal last ++ 44 ∷ [])) (quoted reply ++ 93 ∷ [])
    ∙ ap (λ (text : List ℕ). decimal first ++ 44 ∷ text)
    (append_assoc (decimal last) (44 ∷ []) (quoted reply ++ 93 ∷ [])))

pub run_text : (first last : ℕ) → lines_text first last ++ codes "\"ok\"]" ≡ compact_text (answer_data first last (codes "ok"))
run_text first last =
    ap (λ (word : List ℕ). lines_text first last ++ (word ++ 93 ∷ [])) (sym (quoted_plain (codes "ok") refl))
    ∙ element_text first last (codes "ok")

pub five_text : (a b c d e : List ℕ) → (((a ++ b) ++ c) ++ d) ++ e ≡ a ++ (b ++ (c ++ (d ++ e)))
five_text a b c d e =
    append_assoc ((a ++ b) ++ c) d e ∙ append_assoc (a ++ b) c (d ++ e) ∙ append_assoc a b (c ++ (d ++ e))
