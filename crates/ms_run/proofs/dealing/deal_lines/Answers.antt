use Rattle.std.proofs.Common.{◌≡◌, ◌∙◌, ◌∷◌, [], ap, subst, sym, arith, take, length, List, Some}
use Rattle.std.proofs.Math.Seq.{take-length}
use Rattle.std.proofs.lemmas.Option.{slice_get-get_or}
use Rattle.ms_trace.specs.declared.trace.Line.{Line}
use Rattle.ms_run.specs.Turn.{position_in}
use Rattle.ms_run.specs.Dealing.{AreAdded, AreListed}
use Rattle.ms_run.specs.Shares.{tasks_of}
use Rattle.ms_run.proofs.sharing.ListingLemmas.{listed_none, listed_more}
use Rattle.ms_run.proofs.dealing.deal_lines.Goals as goal

pub loop-index-init : goal.loop-index-init
loop-index-init c = (
  listed_none c.args.lines.now (position_in c.args.turn.now) c.in_ok-lists.lists.items c.in_ok-lists.ensures.listed,
  c.in_ok-lists.ensures.count,
)

pub add_line-requires : goal.add_line-requires
add_line-requires c = record { count = c.loop-index.invariant.1 ∙ c.requires.count }

pub loop-index-preserved : goal.loop-index-preserved
loop-index-preserved c =
    let is = c.index-lines-index.is in (
      listed_more c.args.lines.now (position_in c.args.turn.now) c.args.lines.now c.loop-index.index _
          c.loop-index.lists.items c.add_line.new.lists.items c.loop-index-test.true c.loop-index.invariant.0
          (subst (λ (line : Line). AreAdded c.args.lines.now (tasks_of (line ∷ [])) (position_in c.args.turn.now)
          c.loop-index.lists.items c.add_line.new.lists.items) is
          (c.in_ok-add_line.ensures.added c.args.lines.now
          (slice_get-get_or c.args.lines.now c.loop-index.index _ c.loop-index-test.true
          ∙ ap (λ (line : Line). Some line) (sym is)))),
      c.add_line.ensures.count ∙ c.loop-index.invariant.1,
    )

pub returns-clause-listed : goal.returns-clause-listed
returns-clause-listed c =
    let end : c.loop-index.index ≡ length c.args.lines.now =
    omega (arith, c.loop-index-test.false, c.loop-index.auto.index-end) in
    subst (λ (l : List Line). AreListed c.args.lines.now (position_in c.args.turn.now) l c.loop-index.lists.items)
    (ap (λ n. take n c.args.lines.now) end ∙ take-length c.args.lines.now) c.loop-index.invariant.0

pub returns-clause-count : goal.returns-clause-count
returns-clause-count c = c.loop-index.invariant.1
