-- Each number is read where the one before it ends.
use Rattle.std.proofs.Common.{ℕ, List, ◌∷◌, ◌++◌, ◌∙◌, ap, decimal}
use Rattle.std.proofs.lemmas.List.{take_rest}
use Rattle.ms_trace.proofs.SpellingLemmas.{four_joined}
use Rattle.ms_trace.proofs.spellings.three_before.Goals as goal

pub returns : goal.returns
returns c =
    let front : List ℕ = c.args.word.now ++ decimal c.in_ok-loader.loader in
    let middle : List ℕ = decimal c.in_ok-block.block in
    rw (take_rest c.args.text.now c.in_ok-word.at)
    (c.in_ok-loader.ensures.spelled
    ∙ ap (λ (rest : List ℕ). front ++ 32 ∷ rest)
    (c.in_ok-block.ensures.spelled ∙ ap (λ (rest : List ℕ). middle ++ 32 ∷ rest) c.in_ok-word.ensures.spelled)
    ∙ four_joined front (32 ∷ middle) _ _)
