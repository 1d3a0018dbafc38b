-- The size decides where the free parts of a level are committed enough.
use Rattle.std.proofs.Common.{sym, ap, ◌∙◌}
use Rattle.ms_pool.specs.Ledger.{state_in}
use Rattle.ms_pool.specs.Keeping.{ledger_of}
use Rattle.ms_pool.specs.Searching.{first_at}
use Rattle.ms_pool.proofs.searches.BySizeLemmas.{asked_by_size}
use Rattle.ms_pool.proofs.lender.Lender.lowest_free.Goals as goal
use Rattle.ms_pool.proofs.lender.Lender.lowest_free.Goals.{else-wish, then-wish}

pub returns : goal.returns
returns c =
    let pool = state_in c.args.wish.now.space (ledger_of c.args.self.now) in
    c.lowest_among.ensures
    ∙ elim c.if-wish.branch [
      | then-wish w ↦
          asked_by_size pool c.args.wish.now.words c.args.level w.words.result w.granule.result c.if-wish.asked
          (c.requires.kept.sound.spaces c.args.wish.now.space) c.args.wish.now.some c.requires.fits w.words.ensures.size
          w.granule.ensures w.asked-is
          ∙ ap (λ committed. first_at pool c.args.wish.now.words committed c.args.level) (sym w.if-wish.true)
      | else-wish w ↦
          ap (λ committed. first_at pool c.args.wish.now.words committed c.args.level) w.asked-is
    ]
