-- The words in use and live of a machine over one line: what the loader that the line names got or
-- lost is what their sums did; and how the machine then stands. For observing.rt.
use Rattle.std.proofs.Common.{◌≡◌, ◌≢◌, ◌<◌, ◌≤◌, ◌+◌, ◌*◌, ◌^◌, ℕ, Option, Some, None, List, []}
use Rattle.std.proofs.Common.{◌∷◌, refl, sym, ap, ap₂, ◌∙◌, subst, length, arith}
use Rattle.std.specs.List.{sum_by}
use Rattle.std.specs.Map.{values_of}
use Rattle.std.proofs.lemmas.Option.{same_Some}
use Rattle.std.proofs.lemmas.List.FromFn.{length-range_with_len}
use Rattle.ms_base.specs.declared.kind.Space.TheVariants.{NonClass, Class}
use Rattle.ms_base.specs.declared.step.Step.{Step}
use Rattle.ms_base.specs.declared.step.Reply.{Reply}
use Rattle.ms_base.specs.declared.step.Reply.TheVariants.{Ok as Done, At, Value, Refused}
use Rattle.ms_base.specs.Good.{IsGood}
use Rattle.ms_base.specs.Names.{named}
use Rattle.ms_base.specs.Request.{loader_of}
use Rattle.ms_base.specs.Spaces.{class_slots}
use Rattle.ms_base.specs.State.{LoaderState, Machine}
use Rattle.ms_base.specs.Totals.{committed_words, over_spaces}
use Rattle.ms_base.specs.Transition.{Transition}
use Rattle.ms_base.proofs.events.SeenEntryLemmas.{same_entries}
use Rattle.ms_base.proofs.granules.FrontSumLemmas.{sums_are_bounded}
use Rattle.ms_base.proofs.machine.SumLemmas.{used_below}
use Rattle.ms_base.proofs.own.OwnStepLemmas.{refused_leaves, served_others}
use Rattle.ms_trace.specs.declared.trace.Line.{Line}
use Rattle.ms_trace.specs.Steps.{step_of}
use Rattle.ms_course.specs.Standing.{standing_of}
use Rattle.ms_course.specs.declared.standing.Standing.{Standing}
use Rattle.ms_course.proofs.NestLemmas.{good_nests}
use Rattle.ms_pool.specs.LimitCounts.{limit_counts}
use Rattle.ms_pool.specs.declared.pool.counts.LimitCounts.{LimitCounts}
use Rattle.ms_loader.specs.Amounts.{amounts_by, amounts_if, amounts_of, no_amounts}
use Rattle.ms_loader.specs.declared.amounts.Amounts.{Amounts}
use Rattle.ms_answers.specs.declared.verbosity.Verbosity.TheVariants.{Full}
use Rattle.ms_answers.specs.declared.replies.Answer.{Answer}
use Rattle.ms_run.specs.Counting.{HasTaken}
use Rattle.ms_run.specs.Course.{Course}
use Rattle.ms_run.specs.Observing.{amounts_in, moved_by}
use Rattle.ms_run.specs.Replay.{Advances, Answers}
use Rattle.ms_run.specs.Workers.{loader_if, named_by}
use Rattle.ms_run.specs.Sink.{IsOfLine, Puts}
use Rattle.ms_run.specs.declared.alone.Metered.{Metered}
use Rattle.ms_run.proofs.metered.UseLemmas.{amounts_apart, amounts_moved}

-- A step leaves the loaders that it doesn't name.
step_others : (old new : Machine) (step : Step) (reply : Reply) → Transition old step reply new
    → (name : ℕ) → loader_of step ≢ Some name → named new.loaders name ≡ named old.loaders name
step_others old new step (Refused refusal) told = λ name differs.
    ap (λ (l : List (ℕ × LoaderState)). named l name) (refused_leaves old new step refusal told.1)
step_others old new step Done told = served_others old new step Done told.0
step_others old new step (At start) told = served_others old new step (At start) told.0
step_others old new step (Value value) told = served_others old new step (Value value) told.0

-- And so does a line.
pub line_others : (asks : Option Step) (old new : Course) (reply : Reply) → Advances asks old reply new
    → (name : ℕ) → loader_if asks ≢ Some name → named new.state.loaders name ≡ named old.state.loaders name
line_others None old new reply told = λ name differs. ap (λ (course : Course). named course.state.loaders name) told.1
line_others (Some step) old new reply told = step_others old.state new.state step reply told.0

-- One of the amounts of all loaders.
abbrev sum_of : (Amounts → ℕ) → List (ℕ × LoaderState) → ℕ
sum_of amount es = sum_by (λ (loader : LoaderState). amount (amounts_by loader)) (values_of es)

-- It moves as that of the loader does that is named.
sum_moves : (amount : Amounts → ℕ) → amount no_amounts ≡ 0 → (old new : Machine) (at : Option ℕ) → IsGood old
    → IsGood new → ((name : ℕ) → at ≢ Some name → named new.loaders name ≡ named old.loaders name)
    → sum_of amount new.loaders + amount (amounts_in at old.loaders)
    ≡ sum_of amount old.loaders + amount (amounts_in at new.loaders)
sum_moves amount none old new None was good others =
    ap (λ (es : List (ℕ × LoaderState)). sum_of amount es + amount no_amounts)
    (same_entries new.loaders old.loaders good.names was.names (λ name. others name (λ e. absurd (cc))))
sum_moves amount none old new (Some mine) was good others =
    amounts_moved (λ (found : Option LoaderState). amount (amounts_if found)) old.loaders new.loaders mine none
    was.names good.names (λ name differs. others name (λ e. differs (same_Some mine name e)))

-- One loader has no more than all.
part_of_all : (amount : Amounts → ℕ) → amount no_amounts ≡ 0 → (at : Option ℕ) (es : List (ℕ × LoaderState))
    → amount (amounts_in at es) ≤ sum_of amount es
part_of_all amount none None es = omega (arith, none)
part_of_all amount none (Some mine) es =
    omega (arith, amounts_apart (λ (found : Option LoaderState). amount (amounts_if found)) es mine none)

-- The amounts of all loaders are few.
record AreSmall (amounts : Amounts) : Type 0 where
  used : amounts.used < 2 ^ 52
  live : amounts.live < 2 ^ 52
  class_used : amounts.class_used < 2 ^ 52
  class_live : amounts.class_live < 2 ^ 52

are_small : (m : Machine) → IsGood m → AreSmall (amounts_of m)
are_small m good =
    let used = used_below NonClass m good in
    let class_used = used_below Class m good in
    let its = sums_are_bounded NonClass m good in
    let class_its = sums_are_bounded Class m good in
    record {
      used = omega (arith, used);
      live = omega (arith, used, its.blocks);
      class_used = omega (arith, class_used);
      class_live = omega (arith, class_used, class_its.blocks);
    }

-- A difference modulo 2^64 is the difference.
is_moved : (all before after now next : ℕ) → now + before ≡ all + after → all < 2 ^ 52 → now < 2 ^ 52
    → before ≤ all → next ≡ moved_by all before after → next ≡ now
is_moved all before after now next moves few small part is = omega (arith, moves, few, small, part, is)

-- The amounts of a machine of which one loader's went from some to others.
pub moved_are : (old new : Machine) (at : Option ℕ) (all before after next : Amounts) → IsGood old → IsGood new
    → ((name : ℕ) → at ≢ Some name → named new.loaders name ≡ named old.loaders name)
    → all ≡ amounts_of old → before ≡ amounts_in at old.loaders → after ≡ amounts_in at new.loaders
    → next.used ≡ moved_by all.used before.used after.used
    → next.live ≡ moved_by all.live before.live after.live
    → next.class_used ≡ moved_by all.class_used before.class_used after.class_used
    → next.class_live ≡ moved_by all.class_live before.class_live after.class_live → next ≡ amounts_of new
moved_are old new at all before after next was good others are first last used live class_used class_live =
    λ i. record {
      used =
          by (λ (a : Amounts). a.used) refl (ap (λ (a : Amounts). a.used) are) small.used small_new.used used i;
      live =
          by (λ (a : Amounts). a.live) refl (ap (λ (a : Amounts). a.live) are) small.live small_new.live live i;
      class_used =
          by (λ (a : Amounts). a.class_used) refl (ap (λ (a : Amounts). a.class_used) are) small.class_used small_new.class_used class_used i;
      class_live =
          by (λ (a : Amounts). a.class_live) refl (ap (λ (a : Amounts). a.class_live) are) small.class_live small_new.class_live class_live i;
    }
  where
    small : AreSmall all
    small = subst AreSmall (sym are) (are_small old was)

    small_new : AreSmall (amounts_of new)
    small_new = are_small new good

    by : (amount : Amounts → ℕ) → amount no_amounts ≡ 0 → amount all ≡ sum_of amount old.loaders → amount all < 2 ^ 52
        → sum_of amount new.loaders < 2 ^ 52
        → amount next ≡ moved_by (amount all) (amount before) (amount after)
        → amount next ≡ sum_of amount new.loaders
    by amount none sum_is few now_few is =
        is_moved (amount all) (amount before) (amount after) (sum_of amount new.loaders) (amount next)
        (ap (λ (a : Amounts). sum_of amount new.loaders + amount a) first
        ∙ sum_moves amount none old new at was good others
        ∙ ap₂ (λ (n : ℕ) (a : Amounts). n + amount a) (sym sum_is) (sym last))
        few now_few part is
      where
        part : amount before ≤ amount all
        part = omega (arith, part_of_all amount none at old.loaders, ap amount first, sum_is)

-- So they do over a line that a run answers.
pub line_moved : {S : Type 0} (took : S → S → List Answer → Type 0) (old new : Metered) (line : Line) (reply : Reply)
    (sink sunk : S) (name : Option ℕ) (all before after next : Amounts)
    → Puts took (IsOfLine Full old line reply new) sink sunk → (course : Course) × HasTaken course old
    → IsGood old.system → IsGood new.system → name ≡ named_by line → all ≡ amounts_of old.system
    → before ≡ amounts_in name old.system.loaders → after ≡ amounts_in name new.system.loaders
    → next.used ≡ moved_by all.used before.used after.used → next.live ≡ moved_by all.live before.live after.live
    → next.class_used ≡ moved_by all.class_used before.class_used after.class_used
    → next.class_live ≡ moved_by all.class_live before.class_live after.class_live → next ≡ amounts_of new.system
line_moved took old new line reply sink sunk name all before after next told taken was good is are first last used live
    class_used class_live =
    moved_are old.system new.system name all before after next was good others are first last used live class_used
    class_live
  where
    its : (answer_is : told.2.0.reply ≡ reply) × (later : Course)
        × Answers taken.0 (line ∷ []) (told.2.0 ∷ []) later × HasTaken later new
    its = told.2.3 taken.0 taken.1

    others : (other : ℕ) → name ≢ Some other → named new.system.loaders other ≡ named old.system.loaders other
    others other differs =
        ap (λ (m : Machine). named m.loaders other) its.3.state
        ∙ ap (λ (course : Course). named course.state.loaders other) its.2.4.1
        ∙ line_others (step_of line.command) taken.0 its.2.0 told.2.0.reply its.2.2 other (λ e. differs (is ∙ e))
        ∙ sym (ap (λ (m : Machine). named m.loaders other) taken.1.state)

-- How a machine stands, by its counts and the amounts of all loaders.
abbrev pub standing_with : Amounts → ℕ → ℕ → ℕ → ℕ → ℕ → Standing
standing_with amounts nodes class_nodes committed class_committed loaders = record {
  both = record {
    reserved = nodes * 1048576 + class_nodes * 1048576;
    committed = committed;
    used = amounts.used + amounts.class_used;
    live = amounts.live + amounts.class_live;
  };
  class_space = record {
    reserved = class_nodes * 1048576;
    committed = class_committed;
    used = amounts.class_used;
    live = amounts.class_live;
  };
  loaders = loaders;
}

pub stands_so : (m : Machine) (counts : LimitCounts) (amounts : Amounts)
    (nodes class_nodes committed class_committed loaders : ℕ)
    → counts ≡ limit_counts m.slots m.committed m.class_committed m.limits → amounts ≡ amounts_of m
    → nodes ≡ counts.nodes → class_nodes ≡ counts.class_nodes
    → committed ≡ over_spaces (λ space. committed_words space m) → class_committed ≡ committed_words Class m
    → loaders ≡ length m.loaders
    → standing_with amounts nodes class_nodes committed class_committed loaders ≡ standing_of m
stands_so m counts amounts nodes class_nodes committed class_committed loaders is are nodes_are class_are committed_are
    class_committed_are loaders_are =
    λ i. record {
      both = record {
        reserved = ap₂ (λ (a b : ℕ). a * 1048576 + b * 1048576) slots class_slots_are i;
        committed = committed_are i;
        used = ap (λ (a : Amounts). a.used + a.class_used) are i;
        live = ap (λ (a : Amounts). a.live + a.class_live) are i;
      };
      class_space = record {
        reserved = ap (λ (n : ℕ). n * 1048576) class_slots_are i;
        committed = class_committed_are i;
        used = ap (λ (a : Amounts). a.class_used) are i;
        live = ap (λ (a : Amounts). a.class_live) are i;
      };
      loaders = loaders_are i;
    }
  where
    slots : nodes ≡ length m.slots
    slots = nodes_are ∙ ap (λ (c : LimitCounts). c.nodes) is

    class_slots_are : class_nodes ≡ length (class_slots m.limits.class_nodes)
    class_slots_are =
        class_are ∙ ap (λ (c : LimitCounts). c.class_nodes) is ∙ sym (length-range_with_len 64 m.limits.class_nodes)

-- A class space without nodes has no committed granule.
pub no_class_granules : (m : Machine) → IsGood m → m.limits.class_nodes ≡ 0 → committed_words Class m ≡ 0
no_class_granules m good none =
    let slots : length (class_slots m.limits.class_nodes) ≡ 0 =
    length-range_with_len 64 m.limits.class_nodes ∙ none in
    let within : committed_words Class m ≤ length (class_slots m.limits.class_nodes) * 1048576 =
    (good_nests m good).class_space.committed in
    omega (arith, slots, within)

-- The bounds of a system's words, so that they can be added.
pub are_added : (m : Machine) (amounts : Amounts) → IsGood m → amounts ≡ amounts_of m
    → (amounts.used + amounts.class_used < 2 ^ 53) × (amounts.live + amounts.class_live < 2 ^ 53)
are_added m amounts good are =
    let small = subst AreSmall (sym are) (are_small m good) in
    (omega (arith, small.used, small.class_used), omega (arith, small.live, small.class_live))
