use Rattle.std.proofs.Common.{◌≡◌, ◌∙◌, ◌+◌, ◌<◌, sym, refl, arith, length}
use Rattle.std.proofs.lemmas.List.{get_or_default}
use Rattle.ms_loader.specs.Table.{at_slot, no_block}
use Rattle.ms_loader.proofs.naming.table.hand_over.Goals as goal
use Rattle.ms_loader.proofs.naming.table.hand_over.Goals.{then-not-is_none+in-Ok, else-not-is_none}
use Rattle.ms_loader.proofs.SlideLemmas.{one_more, none_more}

pub loop-at-preserved : goal.loop-at-preserved
loop-at-preserved c =
    let within : c.loop-at.at < length c.args.row.now = omega (arith, c.loop-at-test.true, c.requires.within) in
    let here : c.index-row-at.result ≡ at_slot c.args.row.now c.loop-at.at = c.index-row-at.is
    ∙ get_or_default c.args.row.now c.loop-at.at c.index-row-at.result no_block within in
    elim c.if-not-is_none.branch [
      | then-not-is_none+in-Ok w ↦ rw w.others-is
          (one_more c.args.first c.loop-at.at (c.args.first + c.loop-at.at) c.args.row.now c.index-row-at.result
          c.args.others.now.entries c.loop-at.others.entries _ refl here
          (sym c.is_none.ensures ∙ w.if-not-is_none.true) c.loop-at.invariant w.in-Ok.ensures.updates.0)
      | else-not-is_none w ↦ rw w.others-is
          (none_more c.args.first c.loop-at.at c.args.row.now c.index-row-at.result c.args.others.now.entries
          c.loop-at.others.entries here (sym c.is_none.ensures ∙ w.if-not-is_none.false) c.loop-at.invariant)
    ]
