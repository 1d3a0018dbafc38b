use Rattle.std.proofs.Common.{◌<◌, ◌∙◌, ◌∷◌, [], List, None, arith, length, subst, sym}
use Rattle.std.proofs.lemmas.Option.{slice_get_read}
use Rattle.ms_answers.specs.declared.replies.Answer.{Answer}
use Rattle.ms_run.specs.Sink.{PutsAll}
use Rattle.ms_run.specs.Turn.{position_in}
use Rattle.ms_run.proofs.AloneLemmas.{puts_more, puts_none}
use Rattle.ms_run.proofs.sharing.MergeLemmas.{Next, starts, next_line, has_reply, merges_next, all_merged}
use Rattle.ms_run.proofs.merging.merge.Given.{Over}
use Rattle.ms_run.proofs.merging.merge.Goals as goal
use Rattle.ms_run.proofs.merging.merge.Goals.{After-index}

pub loop-line-init : goal.loop-line-init
loop-line-init g c = (
  [],
  starts (position_in c.args.turn.now) c.args.lines.now c.args.shares.now.items [] c.len.result
      c.in_ok-taken.taken.items
      (c.in_ok-taken.ensures.items_if_clones_equal (λ y same. same))
      (sym c.in_ok-taken.taken.ok.0 ∙ c.in_ok-taken.ensures.len)
      (c.len.ensures ∙ c.args.shares.now.ok.0),
  puts_none g.S.AnswerSink.took c.args.sink.now,
)

-- The line that is merged next has its task and its share.
within : (g : Over) (c : After-index g) → c.loop-line.line-index < length c.args.lines.now
within g c = omega (arith, c.loop-line-test.true, c.loop-line.auto.line-index-end)

next : (g : Over) (c : After-index g)
    → Next (position_in c.args.turn.now) c.args.lines.now c.args.shares.now.items c.loop-line.line-index
    c.loop-line.taken.items c.line-item.result
    (c.requires.steps c.loop-line.line-index c.line-item.result (within g c)).0 c.position_of-position.result
    c.index.result.now c.index-next.result.now
next g c =
    next_line (position_in c.args.turn.now) c.args.lines.now c.args.shares.now.items c.loop-line.line-index
    c.loop-line.taken.items _ _ _ _ c.line-item.is (c.requires.steps c.loop-line.line-index _ (within g c))
    c.position_of-position.ensures.position (within g c)
    (slice_get_read c.args.shares.now.items _ _ _ c.args.shares.now.ok.0
    (omega (arith, c.position_of-position.ensures.within, c.requires.count)) c.index.ensures)
    c.index-next.ensures

pub index-reply-requires : goal.index-reply-requires
index-reply-requires g c =
    let has = has_reply _ _ _ _ _ _ _ _ _ _ _ _ c.requires.answered c.loop-line.invariant.1 (next g c) in
    omega (arith, has.in_replies, c.index.result.now.replies.ok.0)

pub overflow_add-next : goal.overflow_add-next
overflow_add-next g c =
    let has = has_reply _ _ _ _ _ _ _ _ _ _ _ _ c.requires.answered c.loop-line.invariant.1
    (next g (goal.at.overflow_add-next g c).After-index) in
    let replies = c.index.result.now.replies in
    omega (arith, has.in_replies, replies.ok.0, replies.ok.1, replies.small)

pub loop-line-preserved : goal.loop-line-preserved
loop-line-preserved g c =
    let so_far = c.loop-line.invariant in
    let grown = merges_next _ _ _ _ _ _ _ _ _ _ _ _ _ c.requires.answered so_far.1
    (next g (goal.at.loop-line-preserved g c).After-index) c.index-reply.ensures in (
      _,
      grown,
      puts_more g.S.AnswerSink.took so_far.0 (_ ∷ []) c.args.sink.now c.loop-line.sink c.put.new.self so_far.2
          (subst (λ n. PutsAll g.S.AnswerSink.took (record { line = n; reply = c.index-reply.result.now; report = None } ∷ [])
          c.loop-line.sink c.put.new.self) c.number.ensures c.in_ok-put.ensures),
    )

pub returns : goal.returns
returns g c =
    let so_far = c.loop-line.invariant in
    let all = all_merged _ _ _ _ _ _ _ c.requires.answered so_far.1
    (omega (arith, c.loop-line-test.false, c.loop-line.auto.line-index-end)) in (
      all.0,
      subst (λ (l : List Answer). PutsAll g.S.AnswerSink.took l c.args.sink.now c.loop-line.sink) all.2 so_far.2,
      (all.1, all.3, all.4),
    )
