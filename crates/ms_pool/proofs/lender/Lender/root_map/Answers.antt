use Rattle.std.proofs.Common.{refl, ◌∙◌, arith}
use Rattle.std.proofs.lemmas.List.{length-set}
use Rattle.ms_pool.specs.Keeping.{ledger_of}
use Rattle.ms_pool.specs.Ledger.{state_in}
use Rattle.ms_pool.specs.Mapping.{cell_in}
use Rattle.ms_pool.proofs.maps.RootMapLemmas.{map_is, one_more_cell}
use Rattle.ms_pool.proofs.lender.Lender.root_map.Goals as goal

pub loop-number-init : goal.loop-number-init
loop-number-init c = record { root = refl; full = refl; told = λ k h. absurd (omega (arith, h)) }

pub loop-number-preserved : goal.loop-number-preserved
loop-number-preserved c = record {
  root = c.loop-number.invariant.root;
  full = length-set c.loop-number.map.cells c.loop-number.number c.cell_in.result ∙ c.loop-number.invariant.full;
  told = one_more_cell (cell_in (state_in c.args.space (ledger_of c.args.self.now)) c.args.root)
      c.loop-number.map.cells c.loop-number.number c.cell_in.result
      (omega (arith, c.loop-number.invariant.full, c.loop-number-test.true))
      c.cell_in.ensures c.loop-number.invariant.told;
}

pub returns : goal.returns
returns c =
    map_is (state_in c.args.space (ledger_of c.args.self.now)) c.args.root c.loop-number.map
    c.loop-number.invariant.root c.loop-number.invariant.full
    (λ k h. c.loop-number.invariant.told k (omega (arith, h, c.loop-number-test.false)))
