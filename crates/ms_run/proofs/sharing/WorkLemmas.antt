-- The work on a share, task by task: for working.rt.
use Rattle.std.proofs.Common.{◌≡◌, ℕ, ◌+◌, ◌<◌, ◌≤◌, Bool, List}
use Rattle.std.proofs.Common.{[], ◌∷◌, ◌++◌, length, get_or, Vec, Global, vec_len, vec_capacity, refl}
use Rattle.std.proofs.Common.{sym, ap, ◌∙◌, subst, arith}
use Rattle.std.proofs.lemmas.List.{get_or-map}
use Rattle.std.proofs.lemmas.List.Elements.{All-append, All-from_recursion}
use Rattle.ms_base.specs.declared.step.Step.{Step}
use Rattle.ms_base.specs.declared.step.Step.TheVariants.{Purge}
use Rattle.ms_base.specs.declared.step.Reply.{Reply}
use Rattle.ms_base.specs.declared.step.Reply.TheVariants.{Ok as Done}
use Rattle.ms_loader.specs.Loader.{LoaderView}
use Rattle.ms_loader_map.specs.Used.{used_in}
use Rattle.ms_run.proofs.metered.MeterMoveLemmas.{moved_looked, moved_none, moved_then}
use Rattle.ms_shared.specs.MeterRule.{MeterSeatState}
use Rattle.ms_shared.specs.SeatView.{SeatState}
use Rattle.ms_run.specs.Acts.{HasMade, Makes, Touches, HasActed}
use Rattle.ms_run.proofs.ActLemmas.{acted_none, acted_more}
use Rattle.ms_run.specs.Answering.{IsAnswered}
use Rattle.ms_run.specs.Manned.{IsManned}
use Rattle.ms_run.specs.Metering.{after_look}
use Rattle.ms_run.specs.Moved.{IsMoved}
use Rattle.ms_base.specs.Run.Own.{Said, ArePurged}
use Rattle.ms_trace.specs.declared.trace.Line.{Line}
use Rattle.ms_run.specs.Shares.{said_in, task_at, tasks_by, tasks_in, IsWorked}
use Rattle.ms_run.specs.declared.share.Task.{Task}
use Rattle.ms_run.specs.declared.share.Share.{Share}

-- The task that is read at an index is the share's next.
pub task_read : (lines : List Line) (indices : List ℕ) (at d : ℕ) (task : Task) → at < length indices
    → task ≡ task_at lines (get_or indices at d) → get_or (tasks_by lines indices) at task ≡ task
task_read lines indices at d task within is = get_or-map (task_at lines) indices at d task within ∙ sym is

-- One task more.
said_more : (tasks : List Task) (replies : List Reply) (d : Task) (reply : Reply) → length replies < length tasks
    → said_in tasks (replies ++ reply ∷ []) ≡ said_in tasks replies ++ ((get_or tasks (length replies) d).step, reply)
    ∷ []
said_more [] replies d reply within = absurd (omega arith)
said_more (t ∷ tasks) [] d reply within = no_replies tasks
  where
    no_replies : (tasks : List Task) → said_in (t ∷ tasks) (reply ∷ []) ≡ (t.step, reply) ∷ []
    no_replies [] = refl
    no_replies (u ∷ tasks) = refl
said_more (t ∷ tasks) (r ∷ replies) d reply within =
    ap (λ (said : List Said). (t.step, r) ∷ said) (said_more tasks replies d reply (omega arith))

purged_more : (said : List Said) (step : Step) (reply : Reply) → ArePurged said → (step ≡ Purge → reply ≡ Done)
    → ArePurged (said ++ (step, reply) ∷ [])
purged_more said step reply all one =
    All-append IsDone said ((step, reply) ∷ []) all (All-from_recursion IsDone ((step, reply) ∷ []) (one, tt))
  where
    IsDone : Said → Type 0
    IsDone s = s.0 ≡ Purge → s.1 ≡ Done

-- The share is worked so far: the seat serves the loaders and made the tasks' events, so many tasks
-- have their reply, and the meter's seat moved as the words in use did.
pub record IsWorkedTo (share : Share) (pool : SeatState) (counted : MeterSeatState) (loaders : List (ℕ × LoaderView))
    (tasks : List Task) (index : ℕ) (replies : Vec Reply Global) : Type 0 where
  pub manned : IsManned pool.knows loaders
  pub id : pool.id ≡ share.seat.id
  pub count : vec_len replies ≡ index
  pub room : length tasks ≤ vec_capacity replies
  pub purges : ArePurged (said_in tasks replies.items)
  pub acted : HasActed share.seat pool share.loaders (said_in tasks replies.items) loaders
  pub moved : IsMoved share.meter (used_in share.loaders) counted (used_in loaders)

pub work_begins : (share : Share) (pool : SeatState) (tasks : List Task) → IsManned share.seat.knows share.loaders
    → vec_len share.indices ≤ vec_capacity share.replies → share.replies.items ≡ []
    → pool ≡ share.seat → length tasks ≡ vec_len share.indices
    → IsWorkedTo share pool share.meter share.loaders tasks 0 share.replies
work_begins share pool tasks manned room none seat count = record {
  manned = subst (λ (s : SeatState). IsManned s.knows share.loaders) (sym seat) manned;
  id = ap (λ (s : SeatState). s.id) seat;
  count = share.replies.ok.0 ∙ ap length none;
  room = omega arith;
  purges = subst ArePurged (sym said) none_purged;
  acted = subst (λ (l : List Said). HasActed share.seat pool share.loaders l share.loaders) (sym said)
      (subst (λ (s : SeatState). HasActed share.seat s share.loaders [] share.loaders) (sym seat) (acted_none share.seat share.loaders));
  moved = moved_none share.meter (used_in share.loaders);
}
  where
    none_in : (tasks : List Task) → said_in tasks [] ≡ []
    none_in [] = refl
    none_in (t ∷ tasks) = refl

    said : said_in tasks share.replies.items ≡ []
    said = ap (said_in tasks) none ∙ none_in tasks

    none_purged : ArePurged []
    none_purged = All-from_recursion (λ (s : Said). s.0 ≡ Purge → s.1 ≡ Done) [] tt

pub work_goes_on : (share : Share) (pool new_pool : SeatState) (counted mid_counted new_counted : MeterSeatState)
    (loaders new_loaders : List (ℕ × LoaderView)) (tasks : List Task) (index : ℕ)
    (replies new_replies : Vec Reply Global) (task : Task) (reply : Reply) (looks : Bool)
    → IsWorkedTo share pool counted loaders tasks index replies → index < length tasks → get_or tasks index task ≡ task
    → new_pool.id ≡ pool.id
    → IsAnswered loaders task.step reply new_pool.knows new_loaders
    → HasMade pool new_pool (Makes loaders task.step reply new_loaders)
    → Touches loaders task.step reply new_loaders
    → IsMoved counted (used_in loaders) mid_counted (used_in new_loaders)
    → new_counted ≡ after_look looks mid_counted
    → new_replies.items ≡ replies.items ++ reply ∷ [] → vec_len new_replies ≡ vec_len replies + 1
    → vec_capacity new_replies ≡ vec_capacity replies
    → IsWorkedTo share new_pool new_counted new_loaders tasks (index + 1) new_replies
work_goes_on share pool new_pool counted mid_counted new_counted loaders new_loaders tasks index replies new_replies task
    reply looks its within is id answered made touches moved looked items count capacity = record {
      manned = answered.manned;
      id = id ∙ its.id;
      count = let before = its.count in omega arith;
      room = let before = its.room in omega arith;
      purges = subst ArePurged (sym said)
          (purged_more (said_in tasks replies.items) task.step reply its.purges answered.purge);
      acted = subst (λ (l : List Said). HasActed share.seat new_pool share.loaders l new_loaders) (sym said)
          (acted_more share.seat pool new_pool share.loaders loaders new_loaders (said_in tasks replies.items)
          task.step reply its.acted made
          (record { own = answered.own; others = answered.others; touches = touches }));
      moved = moved_then share.meter counted new_counted (used_in share.loaders) (used_in loaders)
          (used_in new_loaders) its.moved
          (subst (λ (s : MeterSeatState). IsMoved counted (used_in loaders) s (used_in new_loaders)) (sym looked)
          (moved_looked counted mid_counted (used_in loaders) (used_in new_loaders) looks moved));
    }
  where
    at_it : length replies.items ≡ index
    at_it = sym replies.ok.0 ∙ its.count

    said : said_in tasks new_replies.items ≡ said_in tasks replies.items ++ (task.step, reply) ∷ []
    said = ap (said_in tasks) items ∙ said_more tasks replies.items task reply (omega (arith, at_it, within))
        ∙ ap (λ (n : ℕ). said_in tasks replies.items ++ ((get_or tasks n task).step, reply) ∷ []) at_it
        ∙ ap (λ (t : Task). said_in tasks replies.items ++ (t.step, reply) ∷ []) is

pub work_ends : (lines : List Line) (share : Share) (pool seat : SeatState) (counted : MeterSeatState) (loaders : List (ℕ × LoaderView))
    (tasks : List Task) (index : ℕ) (replies : Vec Reply Global)
    → IsWorkedTo share pool counted loaders tasks index replies
    → seat ≡ pool → tasks ≡ tasks_in lines share → index ≡ length tasks
    → IsWorked lines share
    (record {
      worker = share.worker;
      seat = seat;
      meter = counted;
      loaders = loaders;
      indices = share.indices;
      replies = replies;
    })
work_ends lines share pool seat counted loaders tasks index replies its seat_is tasks_are all = record {
  id = ap (λ (s : SeatState). s.id) seat_is ∙ its.id;
  manned = subst (λ (s : SeatState). IsManned s.knows loaders) (sym seat_is) its.manned;
  tasks = refl;
  replies = its.count ∙ all ∙ ap length tasks_are;
  purges = subst (λ (l : List Task). ArePurged (said_in l replies.items)) tasks_are its.purges;
  acted = subst (λ (s : SeatState). HasActed share.seat s share.loaders (said_in (tasks_in lines share) replies.items) loaders) (sym seat_is)
      (subst (λ (l : List Task). HasActed share.seat pool share.loaders (said_in l replies.items) loaders) tasks_are its.acted);
  moved = its.moved;
}
