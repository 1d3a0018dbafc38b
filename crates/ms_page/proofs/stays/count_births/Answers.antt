use Rattle.std.proofs.Common.{List, ℕ, arith, ap, ◌∙◌, length, take}
use Rattle.std.proofs.lemmas.List.{length-take}
use Rattle.ms_page.proofs.StayLemmas.{births_more, each_is_few, with_birth_count}
use Rattle.ms_page.proofs.stays.count_births.Goals as goal

pub count_birth-requires : goal.count_birth-requires
count_birth-requires c = λ column other within.
    let holdings = c.args.holdings.now in
    let at = c.loop-holding.holding-index in
    omega (
      arith,
      each_is_few c.args.lines (take at holdings) c.loop-holding.births.items c.loop-holding.invariant.births column other
          within,
      length-take at holdings,
    )

pub loop-holding-preserved : goal.loop-holding-preserved
loop-holding-preserved c =
    let births = c.loop-holding.births.items in
    record {
      births =
          births_more c.args.lines c.args.holdings.now births c.count_birth.new.births.items c.loop-holding.holding-index _
          c.loop-holding-test.true c.count_birth.ensures c.loop-holding.invariant.births;
      count =
          ap (λ (l : List ℕ). length l) c.count_birth.ensures ∙ with_birth_count c.args.lines _ births
          ∙ c.loop-holding.invariant.count;
    }
