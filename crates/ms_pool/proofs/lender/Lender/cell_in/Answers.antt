use Rattle.std.proofs.Common.{ℕ, ◌+◌, ◌*◌, [], ap, get_or, refl, ◌∙◌}
use Rattle.ms_base.specs.Level.{root_words}
use Rattle.ms_pool.specs.Keeping.{ledger_of}
use Rattle.ms_pool.specs.Ledger.{state_in}
use Rattle.ms_pool.specs.Mapping.{is_committed_in, cell_words}
use Rattle.ms_pool.proofs.maps.CellLemmas.{cell_is}
use Rattle.ms_pool.proofs.lender.Lender.cell_in.Goals as goal

pub returns : goal.returns
returns c =
    c.of.ensures
    ∙ cell_is c.args.space c.args.self.now c.args.root c.args.number
    (get_or c.args.self.now.trees.items c.args.root []) _ _ c.has_granule-committed.result c.requires.kept
    c.requires.low c.requires.high c.requires.within refl (c.requires.found.lent c.args.number c.requires.within)
    (c.requires.found.free c.args.number c.requires.within)
    (c.has_granule-committed.ensures
    ∙ ap (λ (root : ℕ). is_committed_in (state_in c.args.space (ledger_of c.args.self.now))
    (c.args.number * cell_words + root * root_words)) c.from.ensures)
