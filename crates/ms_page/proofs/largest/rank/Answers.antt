use Rattle.std.proofs.Common.{ℕ, List, ap, ◌∙◌, take}
use Rattle.std.specs.List.{insert}
use Rattle.ms_page.specs.declared.holding.Holding.{Holding}
use Rattle.ms_page.specs.Largest.{position_of}
use Rattle.ms_page.proofs.LargestLemmas.{put_is}
use Rattle.ms_page.proofs.largest.rank.Goals as goal

pub returns : goal.returns
returns c =
    let holding = c.args.holding.now in
    let before = c.args.largest.now.items in
    c.truncate.ensures.items
    ∙ ap (λ (l : List Holding). take 20 l)
    (c.in_ok-insert.ensures.items
    ∙ ap (λ (position : ℕ). insert before position holding)
    (c.position_of-position.ensures.position ∙ ap (λ (l : List Holding). position_of holding l) c.deref.ensures.value)
    ∙ put_is holding before)
