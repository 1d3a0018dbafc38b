-- Each spread is serial, by a walk over its moments from the last: before each there is a machine
-- of the serial order from which its steps are a run.
use Rattle.std.proofs.Common.{◌≡◌, ℕ, Option, Some, None, List, [], ◌∷◌, ◌++◌, refl, sym, ap}
use Rattle.std.proofs.Common.{◌∙◌, subst, inl, inr}
use Rattle.std.specs.Prelude.{⊤}
use Rattle.std.specs.List.{AllByRecursion, filter}
use Rattle.std.proofs.lemmas.Bool.{cases_eq}
use Rattle.std.proofs.lemmas.List.Elements.{recursion_from_All, All-from_recursion}
use Rattle.ms_base.specs.declared.kind.Space.{Space}
use Rattle.ms_base.specs.declared.kind.Space.TheVariants.{NonClass}
use Rattle.ms_base.specs.declared.span.Chunk.{Chunk}
use Rattle.ms_base.specs.declared.step.Step.{Step}
use Rattle.ms_base.specs.declared.step.Step.TheVariants.{Purge}
use Rattle.ms_base.specs.declared.step.Reply.{Reply}
use Rattle.ms_base.specs.declared.step.Reply.TheVariants.{Ok as Done}
use Rattle.ms_base.specs.Names.{AreNamed, named}
use Rattle.ms_base.specs.Request.{is_name}
use Rattle.ms_base.specs.Held.{has_chunk_in}
use Rattle.ms_base.specs.State.{LoaderState, Machine, chunks_held, recommitted}
use Rattle.ms_base.specs.Good.{IsGood}
use Rattle.ms_base.specs.Run.{Run}
use Rattle.ms_base.specs.Transition.{purged}
use Rattle.ms_base.specs.Run.Event.{Event, purging, telling, Answer, counted, told, Happens, loader_of_event}
use Rattle.ms_base.specs.Run.Spread.{SpreadStep, Spreads, Moment, part_of, parts_by, Follow, IsByItself, IsAskedFor}
use Rattle.ms_base.specs.Run.Spread.{words_asked}
use Rattle.ms_base.specs.Run.Serial.{done_by, done_at, serial, steps_of, replies_of, is_position}
use Rattle.ms_base.specs.Laws.Spread.{LeavesOthers, IsKeptAt, SpreadsAreSerial}
use Rattle.ms_base.proofs.granules.FrontSumLemmas.{nothing_is_left}
use Rattle.ms_base.proofs.events.SeenEntryLemmas.{same_entries}
use Rattle.ms_base.proofs.events.KeptEventLemmas.{TakingIsAddable}
use Rattle.ms_base.proofs.events.HappenLemmas.{good_after, others_after}
use Rattle.ms_base.proofs.events.StageLemmas.{Stage, idle}
use Rattle.ms_base.proofs.events.StageLemmas.{Shows, Was, Left, GoesBack, GoesOnBy}
use Rattle.ms_base.proofs.events.BackLemmas.{done_there, with_seen, recommitted_seen}
use Rattle.ms_base.proofs.events.AskLemmas.{same_step}
use Rattle.ms_base.proofs.events.WholeLemmas.{first_left}
use Rattle.ms_base.proofs.events.SeenLemmas.{seen_held, seen_good}
use Rattle.ms_base.proofs.events.StageAtLemmas.{nothing_left, mine_first, other_first, at, at_itself, is_not}
use Rattle.ms_base.proofs.events.StageAtLemmas.{at_other}

-- A machine of the serial order, from which the steps of the moments are a run.
record IsSimulated (stage : ℕ → Stage) (old : Machine) (moments : List Moment) (end : Machine) : Type 0 where
  loaders : List (ℕ × LoaderState)
  rises : AreNamed loaders
  shows : (name : ℕ) → Shows (stage name) (named loaders name) (named old.loaders name)
  run : Run (with_seen old loaders) (steps_of (serial moments)) (replies_of (serial moments)) end

-- What is to be had of the moments after one, whatever the stages then.
abbrev Later : Machine → List Moment → Machine → Type 0
Later mid moments end =
    (stage : ℕ → Stage) → ((name : ℕ) → Was (stage name) (named mid.loaders name)) →
    ((name : ℕ) → Left name (stage name) (parts_by name moments))
    → IsSimulated stage mid moments end

-- A loader's event.
by_loader : (name : ℕ) (stage : ℕ → Stage) (moment : Moment) (moments : List Moment) (old end : Machine)
    → loader_of_event moment.event ≡ Some name → IsGood old → IsGood moment.after
    → ((other : ℕ) → Was (stage other) (named old.loaders other))
    → ((other : ℕ) → Left other (stage other) (parts_by other (moment ∷ moments)))
    → Happens old moment.event moment.answer moment.after → IsAskedFor old moment.event (words_asked moment.of)
    → Later moment.after moments end → IsSimulated stage old (moment ∷ moments) end
by_loader name stage moment moments old end is good good_then was left happens asked later = record {
  loaders = back.loaders;
  rises = back.rises;
  shows = λ other. elim (cases_eq name other) [
    | inl same ↦ subst (λ (n : ℕ). Shows (stage n) (named back.loaders n) (named old.loaders n)) same back.mine
    | inr apart ↦
        subst (λ (s : Stage). Shows s (named back.loaders other) (named old.loaders other))
        (at_other stage name goes.next other apart)
        (subst (λ (o : Option LoaderState). Shows (at stage name goes.next other) o (named old.loaders other))
        (sym (back.others other apart))
        (subst (λ (o : Option LoaderState). Shows (at stage name goes.next other) (named sim.loaders other) o)
        (stays other apart) (sim.shows other)))
  ];
  run = back.run (serial moments) end sim.run;
}
  where
    goes : GoesOnBy name (stage name) old moment.after (part_of moment) (parts_by name moments)
    goes = first_left name (stage name) old moment.after good (was name) (part_of moment ∷ parts_by name moments)
        (subst (Left name (stage name)) (mine_first name moment moments is) (left name)) happens asked is

    stays : (other : ℕ) → (name ≡ other → ⊥) → named moment.after.loaders other ≡ named old.loaders other
    stays other apart = others_after old moment.event moment.answer moment.after happens other
        (ap (is_name other) is ∙ is_not name other apart)

    was_then : (other : ℕ) → Was (at stage name goes.next other) (named moment.after.loaders other)
    was_then other = elim (cases_eq name other) [
      | inl same ↦ subst (λ (n : ℕ). Was (at stage name goes.next n) (named moment.after.loaders n)) same
          (subst (λ (s : Stage). Was s (named moment.after.loaders name)) (sym (at_itself stage name goes.next))
          goes.was)
      | inr apart ↦ subst (λ (s : Stage). Was s (named moment.after.loaders other))
          (sym (at_other stage name goes.next other apart))
          (subst (Was (stage other)) (sym (stays other apart)) (was other))
    ]

    left_then : (other : ℕ) → Left other (at stage name goes.next other) (parts_by other moments)
    left_then other = elim (cases_eq name other) [
      | inl same ↦ subst (λ (n : ℕ). Left n (at stage name goes.next n) (parts_by n moments)) same
          (subst (λ (s : Stage). Left name s (parts_by name moments)) (sym (at_itself stage name goes.next)) goes.left)
      | inr apart ↦ subst (λ (s : Stage). Left other s (parts_by other moments))
          (sym (at_other stage name goes.next other apart))
          (subst (Left other (stage other)) (other_first other moment moments
          (ap (is_name other) is ∙ is_not name other apart)) (left other))
    ]

    sim : IsSimulated (at stage name goes.next) moment.after moments end
    sim = later (at stage name goes.next) was_then left_then

    back : GoesBack name (stage name) old moment.after sim.loaders (done_at moment)
    back = goes.back sim.loaders (record {
      rises = sim.rises;
      mine = subst (λ (s : Stage). Shows s (named sim.loaders name) (named moment.after.loaders name))
          (at_itself stage name goes.next) (sim.shows name);
      held = seen_held (at stage name goes.next) moment.after sim.loaders good_then sim.rises sim.shows was_then;
      good = seen_good (at stage name goes.next) moment.after sim.loaders good_then sim.rises sim.shows was_then;
    })

-- A purge leaves the two machines beside each other, as does what the pool tells.
purged_seen : (m : Machine) (seen : List (ℕ × LoaderState))
    → ((space : Space) → chunks_held space seen ≡ chunks_held space m.loaders)
    → purged (with_seen m seen) ≡ with_seen (purged m) seen
purged_seen m seen held =
    ap (λ (l : List Chunk). recommitted (record m { loaders = seen; slots = filter (has_chunk_in l) m.slots }))
    (held NonClass)
    ∙ recommitted_seen (record m { slots = filter (has_chunk_in (chunks_held NonClass m.loaders)) m.slots }) seen held

-- What a Purge's only event, or totals, leaves in the serial order.
record StepsAside (old new : Machine) (seen : List (ℕ × LoaderState)) (done : List (Step × Reply)) : Type 0 where
  run : (later : List (Step × Reply)) (end : Machine) → Run (with_seen new seen) (steps_of later) (replies_of later) end
      → Run (with_seen old seen) (steps_of (done ++ later)) (replies_of (done ++ later)) end

abbrev AsideFirst : Machine → Machine → List (ℕ × LoaderState) → SpreadStep → List (Event × Answer) → Type 0
AsideFirst old new seen spread [] = ⊤
AsideFirst old new seen spread (event ∷ events) = Happens old event.0 event.1 new → StepsAside old new seen
    (done_by (Some spread) event)

by_purge : (old new : Machine) (seen : List (ℕ × LoaderState)) (spread : SpreadStep)
    → ((space : Space) → chunks_held space seen ≡ chunks_held space new.loaders) → IsGood (with_seen new seen)
    → Spreads Purge spread.reply spread.events → spread.step ≡ Purge → AsideFirst old new seen spread spread.events
by_purge old new seen spread held good whole step_is =
    subst (AsideFirst old new seen spread) (sym whole.events_are) (λ purges. record {
      run = λ later end run. subst (λ (l : List (Step × Reply)). Run (with_seen old seen) (steps_of (l ++ later))
          (replies_of (l ++ later)) end) (sym done)
          (with_seen new seen, (after purges.after, good), run);
    })
  where
    done : done_by (Some spread) (purging, counted whole.nodes) ≡ (Purge, Done) ∷ []
    done =
        done_there spread purging (counted whole.nodes) (ap (λ (l : List (Event × Answer)). is_position l
        (purging, counted whole.nodes)) whole.events_are)
        ∙ same_step spread Purge Done step_is whole.done

    after : new ≡ purged old → with_seen new seen ≡ purged (with_seen old seen)
    after is =
        ap (λ (m : Machine). with_seen m seen) is
        ∙ sym (purged_seen old seen (λ space. held space ∙ ap (λ (m : Machine). chunks_held space m.loaders) is))

aside : (old new : Machine) (seen : List (ℕ × LoaderState))
    → ((space : Space) → chunks_held space seen ≡ chunks_held space new.loaders) → IsGood (with_seen new seen)
    → (of : Option SpreadStep) (event : Event) (answer : Answer) → IsByItself (event, answer) None of
    → Happens old event answer new → StepsAside old new seen (done_by of (event, answer))
aside old new seen held good (Some spread) event answer its happens =
    subst (AsideFirst old new seen spread) its.2
    (by_purge old new seen spread held good (subst (λ (s : Step). Spreads s spread.reply spread.events) its.1 its.0)
    its.1) happens
aside old new seen held good None event answer its happens = record {
  run = λ later end run. subst (λ (m : Machine). Run (with_seen m seen) (steps_of later) (replies_of later) end)
      (told_is old answer new its.0 (subst (λ (e : Event). Happens old e answer new) its.1 happens)) run;
}
  where
    told_is : (old : Machine) (answer : Answer) (new : Machine) (space : Space)
        → Happens old (telling space) answer new → new ≡ old
    told_is old (told sums) new space tells = tells.after
    told_is old _ new space none = absurd none

-- An event of no loader.
by_itself : (stage : ℕ → Stage) (moment : Moment) (moments : List Moment) (old end : Machine)
    → loader_of_event moment.event ≡ None → IsGood moment.after
    → ((other : ℕ) → Was (stage other) (named old.loaders other))
    → ((other : ℕ) → Left other (stage other) (parts_by other (moment ∷ moments)))
    → Happens old moment.event moment.answer moment.after → IsByItself (moment.event, moment.answer) None moment.of
    → Later moment.after moments end → IsSimulated stage old (moment ∷ moments) end
by_itself stage moment moments old end none good_then was left happens its later = record {
  loaders = sim.loaders;
  rises = sim.rises;
  shows = λ other. subst (Shows (stage other) (named sim.loaders other)) (stays other) (sim.shows other);
  run = (aside old moment.after sim.loaders
      (seen_held stage moment.after sim.loaders good_then sim.rises sim.shows was_then)
      (seen_good stage moment.after sim.loaders good_then sim.rises sim.shows was_then)
      moment.of moment.event moment.answer its happens).run (serial moments) end sim.run;
}
  where
    stays : (other : ℕ) → named moment.after.loaders other ≡ named old.loaders other
    stays other = others_after old moment.event moment.answer moment.after happens other (ap (is_name other) none)

    was_then : (other : ℕ) → Was (stage other) (named moment.after.loaders other)
    was_then other = subst (Was (stage other)) (sym (stays other)) (was other)

    sim : IsSimulated stage moment.after moments end
    sim = later stage was_then (λ other. subst (Left other (stage other))
        (other_first other moment moments (ap (is_name other) none)) (left other))

abbrev IsAside : Moment → Type 0
IsAside moment = IsByItself (moment.event, moment.answer) (loader_of_event moment.event) moment.of

abbrev IsAsked : Moment → Type 0
IsAsked moment = IsAskedFor moment.before moment.event (words_asked moment.of)

by_event : (moment : Moment) (moments : List Moment) (old end : Machine) → IsGood old → IsGood moment.after
    → (stage : ℕ → Stage) → ((other : ℕ) → Was (stage other) (named old.loaders other))
    → ((other : ℕ) → Left other (stage other) (parts_by other (moment ∷ moments)))
    → Happens old moment.event moment.answer moment.after → IsAskedFor old moment.event (words_asked moment.of)
    → IsAside moment → Later moment.after moments end → IsSimulated stage old (moment ∷ moments) end
by_event moment moments old end good good_then stage was left happens asked its later =
    elim (loader_of_event moment.event) as (λ (o : Option ℕ). loader_of_event moment.event ≡ o → IsByItself
    (moment.event, moment.answer) o moment.of → IsSimulated stage old (moment ∷ moments) end) [
      | Some name ↦ λ is own. by_loader name stage moment moments old end is good good_then was left happens asked later
      | None ↦ λ none own. by_itself stage moment moments old end none good_then was left happens own later
    ] refl its

-- All moments, from whatever stages.
simulated : TakingIsAddable → (moments : List Moment) (old end : Machine) → IsGood old → Follow old moments end
    → AllByRecursion IsAside moments → AllByRecursion IsAsked moments → Later old moments end
simulated addable [] old end good follow asides asked stage was left = record {
  loaders = old.loaders;
  rises = good.names;
  shows = λ name. nothing_left name (stage name) (named old.loaders name) (left name);
  run = follow;
}
simulated addable (moment ∷ moments) old end good follow asides asked stage was left =
    by_event moment moments old end good good_then stage was left follow.1
    (subst (λ (m : Machine). IsAskedFor m moment.event (words_asked moment.of)) follow.0 asked.0) asides.0
    (simulated addable moments moment.after end good_then follow.2 asides.1 asked.1)
  where
    good_then : IsGood moment.after
    good_then = good_after addable old moment.event moment.answer moment.after good follow.1

-- What holds after each moment.
kept_at : TakingIsAddable → (moments : List Moment) (old end : Machine) → IsGood old → Follow old moments end
    → AllByRecursion IsKeptAt moments
kept_at addable [] old end good follow = tt
kept_at addable (moment ∷ moments) old end good follow = (
  record {
    good = good_then;
    others = subst (λ (m : Machine). LeavesOthers m moment.event moment.after) (sym follow.0)
        (others_after old moment.event moment.answer moment.after follow.1);
    given_back = λ none. nothing_is_left moment.after good_then none;
  },
  kept_at addable moments moment.after end good_then follow.2,
)
  where
    good_then : IsGood moment.after
    good_then = good_after addable old moment.event moment.answer moment.after good follow.1

-- So each spread is serial.
pub spreads_are_serial : TakingIsAddable → SpreadsAreSerial
spreads_are_serial addable old new moments good follow spread = record {
  kept = All-from_recursion IsKeptAt moments (kept_at addable moments old new good follow);
  run = subst (λ (l : List (ℕ × LoaderState)). Run (with_seen old l) (steps_of (serial moments))
      (replies_of (serial moments)) new)
      (same_entries sim.loaders old.loaders sim.rises good.names sim.shows) sim.run;
}
  where
    sim : IsSimulated (λ name. idle) old moments new
    sim = simulated addable moments old new good follow (recursion_from_All IsAside moments spread.others)
        (recursion_from_All IsAsked moments spread.asked)
        (λ name. idle) (λ name. tt) spread.each
