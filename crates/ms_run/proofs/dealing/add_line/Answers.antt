use Rattle.std.proofs.Common.{◌∙◌, ap, refl, Some, sym, arith, Vec, Global, ℕ}
use Rattle.std.proofs.lemmas.Option.{slice_get-get_or}
use Rattle.ms_run.specs.Turn.{position_in}
use Rattle.ms_run.proofs.sharing.ListingLemmas.{one_added, none_added}
use Rattle.ms_run.proofs.dealing.add_line.Goals as goal

pub returns-in_default : goal.returns-in_default
returns-in_default c = record {
  count = refl;
  added = λ all is. none_added all (position_in c.args.turn.now) c.args.line c.args.lists.now.items
      (λ step is. c.in_default.not-Step step (c.command.ensures ∙ is));
}

pub returns-clause-added : goal.returns-clause-added
returns-clause-added c = λ all is.
    one_added all (position_in c.args.turn.now) c.args.line c.in-Step.step c.args.index c.position-at.result
    c.args.lists.now.items c.index_mut.result.now c.push.new.self is (sym c.command.ensures ∙ c.in-Step.is)
    (c.position-at.ensures.position ∙ ap (position_in c.args.turn.now) c.loader_named.ensures)
    (slice_get-get_or c.args.lists.now.items c.position-at.result c.index_mut.result.now
    (omega (arith, c.position-at.ensures.within, c.requires.count, c.args.lists.now.ok.0))
    ∙ ap (λ (v : Vec ℕ Global). Some v) (sym c.index_mut.ensures.value))
    c.in_ok-push.ensures.items
