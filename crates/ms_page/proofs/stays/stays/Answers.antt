use Rattle.std.proofs.Common.{List, ℕ, ◌≡◌, ◌∙◌, IfOk, arith, ap, sym, subst, length, sum}
use Rattle.ms_page.proofs.StayLemmas.{births_are_few, stays_from}
use Rattle.ms_page.proofs.stays.stays.Goals as goal

pub sums-requires : goal.sums-requires
sums-requires c =
    omega (
      arith,
      births_are_few c.lines.result c.args.holdings.now c.count_births.new.births.items c.count_births.ensures.births,
      ap (λ (l : List ℕ). sum l) c.as_slice.ensures.value,
    )

pub returns : goal.returns
returns c =
    let count = sym c.resize.new.self.ok.0 ∙ c.in_ok-resize.ensures.len in
    let is =
    stays_from c.args.columns.now c.args.holdings.now c.count_births.new.births.items c.as_slice.result.now
    c.lines.result _ c.lines.ensures c.as_slice.ensures.value c.count_births.ensures.births
    (c.count_births.ensures.count ∙ count) (ap length c.columns.ensures) in
    subst (λ (l : List ℕ). IfOk c.sums.result (λ stays. stays.items ≡ l)) is c.sums.ensures
