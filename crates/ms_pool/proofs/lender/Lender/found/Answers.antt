use Rattle.std.proofs.Common.{sym, ◌∙◌, arith}
use Rattle.ms_base.proofs.free.HalvesLemmas.{size_falls}
use Rattle.ms_pool.specs.Ledger.{state_in}
use Rattle.ms_pool.specs.Keeping.{ledger_of}
use Rattle.ms_pool.proofs.searches.SearchLemmas.{first_found-is, found_here, found_later}
use Rattle.ms_pool.proofs.lender.Lender.found.Goals as goal

pub returns-in-Some-clause-first : goal.returns-in-Some-clause-first
returns-in-Some-clause-first c =
    sym (first_found-is (state_in c.args.space (ledger_of c.args.self.now)) c.args.wanted c.args.most c.args.words
    ∙ found_here _ _ c.in-Some.part (sym c.in-Some.ensures.first))

pub returns-in-Some-larger-clause-first : goal.returns-in-Some-larger-clause-first
returns-in-Some-larger-clause-first c =
    sym (first_found-is (state_in c.args.space (ledger_of c.args.self.now)) c.args.wanted c.args.most c.args.words
    ∙ found_later _ _ (sym c.in_default.ensures.first) ∙ found_here _ _ c.in-Some-larger.part (sym c.in-Some-larger.ensures))

pub returns-in-Some-smaller-clause-first : goal.returns-in-Some-smaller-clause-first
returns-in-Some-smaller-clause-first c =
    sym (first_found-is (state_in c.args.space (ledger_of c.args.self.now)) c.args.wanted c.args.most c.args.words
    ∙ found_later _ _ (sym c.in_default.ensures.first) ∙ found_later _ _ (sym c.in_default-larger.ensures)
    ∙ found_here _ _ c.in-Some-smaller.part (sym c.in-Some-smaller.ensures))

pub returns-in-Some-smaller-2-clause-first : goal.returns-in-Some-smaller-2-clause-first
returns-in-Some-smaller-2-clause-first c =
    sym (first_found-is (state_in c.args.space (ledger_of c.args.self.now)) c.args.wanted c.args.most c.args.words
    ∙ found_later _ _ (sym c.in_default.ensures.first) ∙ found_later _ _ (sym c.in_default-larger.ensures)
    ∙ found_later _ _ (sym c.in_default-smaller.ensures)
    ∙ found_here _ _ c.in-Some-smaller-2.part (sym c.in-Some-smaller-2.ensures))

pub returns-clause-first : goal.returns-clause-first
returns-clause-first c =
    c.larger-2.ensures
    ∙ sym (first_found-is (state_in c.args.space (ledger_of c.args.self.now)) c.args.wanted c.args.most c.args.words
    ∙ found_later _ _ (sym c.in_default.ensures.first) ∙ found_later _ _ (sym c.in_default-larger.ensures)
    ∙ found_later _ _ (sym c.in_default-smaller.ensures)
    ∙ found_later _ _ (sym c.in_default-smaller-2.ensures))

pub larger-requires-clause-fits : goal.larger-requires-clause-fits
larger-requires-clause-fits c =
    omega (
      arith,
      c.requires.asks.fits,
      size_falls c.args.wanted c.args.most c.requires.asks.levels,
    )

pub larger-requires-2-clause-fits : goal.larger-requires-2-clause-fits
larger-requires-2-clause-fits c =
    omega (
      arith,
      c.requires.asks.fits,
      size_falls c.args.wanted c.args.most c.requires.asks.levels,
    )
