use Rattle.std.proofs.Common.{rules, ◌≡◌, List, length, get_or, map, ap, ◌∙◌, subst, arith}
use Rattle.std.specs.List.{All}
use denote.Param.Send.{sendable, param_send, arg_send}
use denote.Exit.{no}
use denote.Ref.{NamedLft}
use mir.Syntax.{named}
use Rattle.std.specs.Vec.Iter.{into_iter_items}
use Rattle.ms_run.specs.declared.share.Share.{Share}
use Rattle.ms_run.specs.Gating.{AreTasksGated}
use Rattle.ms_run.specs.Shares.{AllWorked, IsWorked, tasks_in}
use Rattle.ms_run.proofs.sharing.ThreadLemmas.{share_send, handed_send, one_more, one_more_kept, fewer_ready, only, all_kept, all_worked}
use Rattle.ms_run.proofs.working.fn.work_all.scope.Goals as goal

pub spawn_with-started-requires-send-F : goal.spawn_with-started-requires-send-F
spawn_with-started-requires-send-F g c κs w =
    let here : NamedLft = record { mir = named 7; lft = κs.1.1.1.1.1.1.1.0 } in
    let lock : NamedLft = record { mir = named 8; lft = κs.1.1.1.1.1.1.1.1.0 } in
    let count : NamedLft = record { mir = named 9; lft = κs.1.1.1.1.1.1.1.1.1.0 } in
    let gate : NamedLft = record { mir = named 10; lft = κs.1.1.1.1.1.1.1.1.1.1.0 } in
    let lines : NamedLft = record { mir = named 11; lft = κs.1.1.1.1.1.1.1.1.1.1.1.0 } in
    param_send _ _ (arg_send _ no _
    (handed_send _ here lock count gate lines g.row.R g.row.G (search rules) (search rules)))

pub spawn_with-started-requires-send-T : goal.spawn_with-started-requires-send-T
spawn_with-started-requires-send-T g c κs = search (share_send, sendable) depth 20

pub push_reserved-requires : goal.push_reserved-requires
push_reserved-requires g c =
    let inv = c.loop-share.invariant in
    let room = inv.3 in
    let step = c.in-Some.ensures.steps in
    let less = step.1 in
    omega arith

pub loop-share-preserved : goal.loop-share-preserved
loop-share-preserved g c =
    let inv = c.loop-share.invariant in
    let step = c.in-Some.ensures.steps in
    let items = c.push_reserved.ensures.items in
    let len = c.push_reserved.ensures.len in
    let cap = c.push_reserved.ensures.capacity in
    let less = step.1 in
    let same = inv.2 in
    let room = inv.3 in
    let there = ap length step.0 in (
      one_more (λ handle. handle.promise.share.value) _ _ c.in-Ok.handle c.in-Some.share _ _ _ items step.0
          (ap (λ promise. promise.share.value) c.in-Ok.ensures.ok ∙ c.of-in-loop-share.ensures) inv.0,
      fewer_ready _ c.captures.meter.now c.in-Some.share _ _ step.0 inv.1,
      omega arith,
      omega arith,
      one_more_kept (λ handle. handle.promise.gate.value ≡ c.captures.gate.now) _ _ c.in-Ok.handle items inv.4
          (ap (λ promise. promise.gate.value) c.in-Ok.ensures.ok ∙ c.of-in-loop-share-2.ensures),
      one_more_kept (λ handle. handle.promise.lines.value.now ≡ c.captures.lines.now) _ _ c.in-Ok.handle items inv.5
          (ap (λ promise. promise.lines.value.now) c.in-Ok.ensures.ok ∙ ap (λ l. l.now) c.of.ensures),
    )

pub returns-in-Ok-join_promised : goal.returns-in-Ok-join_promised
returns-in-Ok-join_promised g c = record {
  worked =
      let inv = c.loop-share.invariant in
      let given = c.into_iter-share-iterator.ensures.into_iter_gives in
      let ended = c.in-None.ensures.steps in
      let gone = ended.0 in
      let len = c.in-Ok-join_promised.ensures.len in
      let each = c.in-Ok-join_promised.ensures.each in
      let same = inv.2 in
      let made = c.in-Ok-join_promised.done.ok in
      let held = c.loop-share.handles.ok in
      let none : length (into_iter_items c.loop-share.share-iterator) ≡ 0 = omega arith in
      let all : map (λ handle. handle.promise.share.value) c.loop-share.handles.items ≡ c.captures.shares.items =
      only _ _ _ none inv.0 ∙ given.0 in
      let lines = c.captures.lines.now in
      let done = c.in-Ok-join_promised.done.items in
      subst (λ (shares : List Share). AllWorked lines shares done) all
      (all_worked lines (λ handle. handle.promise.share.value) c.loop-share.handles.items done (omega arith)
      (λ i d below. let kept = (each i d (omega arith)).1 in (
        kept.handle,
        kept.handle_is,
        subst (λ its. IsWorked its kept.handle.promise.share.value (get_or done i d))
            (ap (λ handle. handle.promise.lines.value.now) kept.handle_is ∙ inv.5 i kept.handle (omega arith))
            kept.kept.0,
      )));
  gated =
      let inv = c.loop-share.invariant in
      let given = c.into_iter-share-iterator.ensures.into_iter_gives in
      let ended = c.in-None.ensures.steps in
      let gone = ended.0 in
      let len = c.in-Ok-join_promised.ensures.len in
      let each = c.in-Ok-join_promised.ensures.each in
      let same = inv.2 in
      let made = c.in-Ok-join_promised.done.ok in
      let held = c.loop-share.handles.ok in
      let none : length (into_iter_items c.loop-share.share-iterator) ≡ 0 = omega arith in
      let all : map (λ handle. handle.promise.share.value) c.loop-share.handles.items ≡ c.captures.shares.items =
      only _ _ _ none inv.0 ∙ given.0 in
      let lines = c.captures.lines.now in
      let Gated : Share → Type 0 =
      λ share. AreTasksGated (g.G.Gate.told c.captures.gate.now) share.worker (tasks_in lines share) in
      subst (All Gated) all
      (all_kept (λ handle. handle.promise.share.value) Gated c.loop-share.handles.items c.in-Ok-join_promised.done.items
      (omega arith)
      (λ i d below. let kept = (each i d (omega arith)).1 in (
        kept.handle,
        kept.handle_is,
        subst (λ its. AreTasksGated (g.G.Gate.told c.captures.gate.now) kept.handle.promise.share.value.worker
            (tasks_in its kept.handle.promise.share.value))
            (ap (λ handle. handle.promise.lines.value.now) kept.handle_is ∙ inv.5 i kept.handle (omega arith))
            (subst (λ gate. AreTasksGated (g.G.Gate.told gate) kept.handle.promise.share.value.worker
            (tasks_in kept.handle.promise.lines.value.now kept.handle.promise.share.value))
            (ap (λ handle. handle.promise.gate.value) kept.handle_is ∙ inv.4 i kept.handle (omega arith)) kept.kept.1),
      )));
  wanting = tt;
}
