-- The first event of a loader's whole step, and the next of one that is begun.
use Rattle.std.proofs.Common.{◌≡◌, ℕ, Bool, true, false, Option, Some, List, [], ◌∷◌, ◌++◌, refl, sym, ap, ◌∙◌, subst}
use Rattle.std.proofs.Common.{inl, inr}
use Rattle.std.specs.Prelude.{slice_set}
use Rattle.std.specs.List.{AllByRecursion, flat_map}
use Rattle.std.specs.Ordering.{nat_cmp}
use Rattle.std.specs.BTreeMap.{is_at}
use Rattle.std.proofs.lemmas.List.Elements.{recursion_from_All, All-from_recursion}
use Rattle.std.proofs.lemmas.Map.Steps.{set_value_same}
use Rattle.ms_base.specs.declared.kind.Kind.{Kind}
use Rattle.ms_base.specs.declared.kind.Space.{Space}
use Rattle.ms_base.specs.declared.kind.Space.TheVariants.{NonClass, Class}
use Rattle.ms_base.specs.declared.step.Step.{Step}
use Rattle.ms_base.specs.declared.step.Step.TheVariants.{New, Alloc, Calloc, Write, Read, Free, Unload, Purge}
use Rattle.ms_base.specs.declared.step.Reply.{Reply}
use Rattle.ms_base.specs.declared.step.Reply.TheVariants.{Ok as Done, At, Value, Refused}
use Rattle.ms_base.specs.declared.refusal.Refusal.{Refusal}
use Rattle.ms_base.specs.declared.refusal.Refusal.TheVariants.{OutOfMemory, IdsUsedUp}
use Rattle.ms_base.specs.Names.{named}
use Rattle.ms_base.specs.Spaces.{space_at}
use Rattle.ms_base.specs.State.{LoaderState, Machine}
use Rattle.ms_base.specs.Good.{IsGood}
use Rattle.ms_base.specs.Transition.{HasLoader, with_loader, with_block, with_freed}
use Rattle.ms_base.specs.Request.{alloc_in}
use Rattle.ms_base.specs.Run.Event.{Event, opening, growing, closing, acting, Answer, accepted, lent, replied, refused}
use Rattle.ms_base.specs.Run.Event.{Happens}
use Rattle.ms_base.specs.Run.Spread.{SpreadStep, Spreads, IsWhole, IsAlone, Part, spread_parts, AreWhole, HasNoSpan, not_asked}
use Rattle.ms_base.specs.Run.Spread.{not_had, GoesOn, SpreadsAlloc}
use Rattle.ms_base.specs.Run.Serial.{is_position}
use Rattle.ms_base.proofs.events.StageLemmas.{Stage, idle, turned_down, owes_block, owes_refusal, unloading, retracting}
use Rattle.ms_base.proofs.events.StageLemmas.{Was, Left, rest_of, GoesOnBy, FirstGoesOn}
use Rattle.ms_base.proofs.events.AllocEventLemmas.{IsPlain}
use Rattle.ms_base.proofs.events.AskLemmas.{goes_on_grown}
use Rattle.ms_base.proofs.events.LocalLemmas.{acts_refused, acts_on_block}
use Rattle.ms_base.proofs.events.OwedLemmas.{goes_on_turned, added_by, pays_block, pays_refusal}
use Rattle.ms_base.proofs.events.OpenEventLemmas.{goes_on_opened, goes_on_unopened, goes_on_in_vain, goes_on_emptied}
use Rattle.ms_base.proofs.events.OpenEventLemmas.{goes_on_closed, goes_on_retracted}
use Rattle.ms_base.proofs.events.FirstLemmas.{goes_on_first}

idle_is_plain : IsPlain idle
idle_is_plain serial real e = e

turned_is_plain : (spread : SpreadStep) → IsPlain (turned_down spread)
turned_is_plain spread serial real e = e

-- The events of a New that finds no memory after the opening, and those of an Unload.
abbrev in_vain : ℕ → Kind → List (Event × Answer)
in_vain name kind = (opening name kind, accepted) ∷ (closing name, accepted) ∷ []

abbrev unload_of : ℕ → List (Event × Answer)
unload_of name = (acting (Unload name), replied Done) ∷ (closing name, accepted) ∷ []

abbrev some_name : ℕ → Option ℕ
some_name name = Some name

same_name : (mine name : ℕ) → some_name mine ≡ some_name name → mine ≡ name
same_name mine name e = cc

module _ (name : ℕ) (old new : Machine) (good : IsGood old) (spread : SpreadStep) (more : List Part)
    (whole : AreWhole more) where
  abbrev goal : List (Event × Answer) → Type 0
  goal events = FirstGoesOn name idle old new (rest_of spread events ++ more)

  onto : (mine : ℕ) (part : Part) (rest : List Part) → Some mine ≡ Some name → GoesOnBy mine idle old new part rest
      → GoesOnBy name idle old new part rest
  onto mine part rest e goes = subst (λ (n : ℕ). GoesOnBy n idle old new part rest) (same_name mine name e) goes

  position_of : (event : Event) (answer : Answer) (events : List (Event × Answer)) → spread.events ≡ events → (b : Bool)
      → is_position events (event, answer) ≡ b → is_position spread.events (event, answer) ≡ b
  position_of event answer events its b e = ap (λ (l : List (Event × Answer)). is_position l (event, answer)) its ∙ e

  -- A step that is its local event alone is done there.
  alone_here : (step : Step) (reply : Reply) → IsAlone step reply spread.events
      → is_position spread.events (acting step, replied reply) ≡ true
  alone_here step reply alone =
      position_of (acting step) (replied reply) ((acting step, replied reply) ∷ []) alone.events_are true refl

  -- So where it is refused.
  refused_alone : (step : Step) (refusal : Refusal) → spread.step ≡ step → spread.reply ≡ Refused refusal
      → IsAlone step (Refused refusal) spread.events → goal spread.events
  refused_alone step refusal step_is reply_is alone = subst goal (sym alone.events_are) (λ happens asks is_mine.
      acts_refused name spread idle old new step refusal more whole idle_is_plain step_is reply_is is_mine alone.own
      (alone_here step (Refused refusal) alone) happens)

  -- And no other reply is given than those that the request is served with.
  never : (step : Step) (reply : Reply) → IsAlone step reply spread.events
      → (Happens old (acting step) (replied reply) new → ⊥) → goal spread.events
  never step reply alone none = subst goal (sym alone.events_are) (λ happens asks is_mine. absurd (none happens))

  -- A New.
  first_new : (mine : ℕ) (kind : Kind) → spread.step ≡ New mine kind → (reply : Reply) → spread.reply ≡ reply
      → Spreads (New mine kind) reply spread.events → goal spread.events
  first_new mine kind step_is Done reply_is its = subst goal (sym its) (λ happens asks is_mine.
      onto mine (Some spread, opening mine kind, accepted) more is_mine
      (goes_on_opened mine spread old new more whole kind step_is reply_is
      (position_of (opening mine kind) accepted ((opening mine kind, accepted) ∷ []) its true refl) happens))
  first_new mine kind step_is (Refused IdsUsedUp) reply_is its = subst goal (sym its) (λ happens asks is_mine.
      onto mine (Some spread, opening mine kind, refused IdsUsedUp) more is_mine
      (goes_on_unopened mine spread old new more whole kind step_is reply_is
      (position_of (opening mine kind) (refused IdsUsedUp) ((opening mine kind, refused IdsUsedUp) ∷ []) its true refl)
      happens))
  first_new mine kind step_is (Refused OutOfMemory) reply_is (inl its) = subst goal (sym its) (λ happens asks is_mine.
      onto mine (Some spread, opening mine kind, accepted) ((Some spread, closing mine, accepted) ∷ more) is_mine
      (goes_on_in_vain mine spread old new more whole kind step_is reply_is
      (position_of (opening mine kind) accepted (in_vain mine kind) its true refl)
      (position_of (closing mine) accepted (in_vain mine kind) its false refl) happens))
  first_new mine kind step_is (Refused OutOfMemory) reply_is (inr its) = refused_alone
      (New mine kind) OutOfMemory step_is reply_is its
  first_new mine kind step_is (Refused refusal) reply_is its =
      refused_alone (New mine kind) refusal step_is reply_is its
  first_new mine kind step_is (At start) reply_is its = never (New mine kind) (At start) its (λ happens. happens.0)
  first_new mine kind step_is (Value value) reply_is its =
      never (New mine kind) (Value value) its (λ happens. happens.0)

  -- An Unload.
  first_unload : (mine : ℕ) → spread.step ≡ Unload mine → (reply : Reply) → spread.reply ≡ reply
      → Spreads (Unload mine) reply spread.events → goal spread.events
  first_unload mine step_is Done reply_is its = subst goal (sym its) (λ happens asks is_mine.
      onto mine (Some spread, acting (Unload mine), replied Done) ((Some spread, closing mine, accepted) ∷ more) is_mine
      (goes_on_emptied mine spread old new more whole good step_is reply_is
      (position_of (acting (Unload mine)) (replied Done) (unload_of mine) its false refl)
      (position_of (closing mine) accepted (unload_of mine) its true refl) happens.0))
  first_unload mine step_is (Refused refusal) reply_is its = refused_alone (Unload mine) refusal step_is reply_is its
  first_unload mine step_is (At start) reply_is its = never (Unload mine) (At start) its (λ happens. happens.0)
  first_unload mine step_is (Value value) reply_is its = never (Unload mine) (Value value) its (λ happens. happens.0)

  -- A Write, a Read and a Free.
  first_write : (mine block index value : ℕ) → spread.step ≡ Write mine block index value → (reply : Reply)
      → spread.reply ≡ reply → Spreads (Write mine block index value) reply spread.events → goal spread.events
  first_write mine block index value step_is Done reply_is its =
      subst goal (sym its.events_are) (λ happens asks is_mine.
      let writes = happens.0 in
      onto mine (Some spread, acting (Write mine block index value), replied Done) more is_mine
      (acts_on_block mine spread old new (Write mine block index value) Done more whole step_is reply_is
      (alone_here (Write mine block index value) Done its) writes.loader
      (with_block writes.loader block (record writes.found { contents = slice_set writes.found.contents index value }))
      writes.has.loader_is writes.after (λ m has sound. (
        record {
          loader = writes.loader;
          found = writes.found;
          has = record { loader_is = has; block_is = writes.has.block_is };
          within = writes.within;
          after = refl;
        },
        sound,
      ))))
  first_write mine block index value step_is (Refused refusal) reply_is its = refused_alone
      (Write mine block index value) refusal step_is reply_is its
  first_write mine block index value step_is (At start) reply_is its = never (Write mine block index value)
      (At start) its (λ happens. happens.0)
  first_write mine block index value step_is (Value other) reply_is its = never (Write mine block index value)
      (Value other) its (λ happens. happens.0)

  first_read : (mine block index : ℕ) → spread.step ≡ Read mine block index → (reply : Reply) → spread.reply ≡ reply
      → Spreads (Read mine block index) reply spread.events → goal spread.events
  first_read mine block index step_is (Value value) reply_is its =
      subst goal (sym its.events_are) (λ happens asks is_mine.
      let reads = happens.0 in
      let same : (m : Machine) → HasLoader m mine reads.loader → with_loader m mine reads.loader ≡ m =
      λ m has. ap (λ (l : List (ℕ × LoaderState)). record m { loaders = l })
      (set_value_same (is_at (nat_cmp mine)) m.loaders reads.loader has) in
      onto mine (Some spread, acting (Read mine block index), replied (Value value)) more is_mine
      (acts_on_block mine spread old new (Read mine block index) (Value value) more whole step_is reply_is
      (alone_here (Read mine block index) (Value value) its) reads.loader reads.loader reads.has.loader_is
      (reads.after ∙ sym (same old reads.has.loader_is)) (λ m has sound. (
        record {
          loader = reads.loader;
          found = reads.found;
          has = record { loader_is = has; block_is = reads.has.block_is };
          word = reads.word;
          after = same m has;
        },
        sound,
      ))))
  first_read mine block index step_is (Refused refusal) reply_is its = refused_alone
      (Read mine block index) refusal step_is reply_is its
  first_read mine block index step_is Done reply_is its = never (Read mine block index) Done its (λ happens. happens.0)
  first_read mine block index step_is (At start) reply_is its = never (Read mine block index) (At start) its
      (λ happens. happens.0)

  first_free : (mine block : ℕ) → spread.step ≡ Free mine block → (reply : Reply) → spread.reply ≡ reply
      → Spreads (Free mine block) reply spread.events → goal spread.events
  first_free mine block step_is Done reply_is its = subst goal (sym its.events_are) (λ happens asks is_mine.
      let frees = happens.0 in
      onto mine (Some spread, acting (Free mine block), replied Done) more is_mine
      (acts_on_block mine spread old new (Free mine block) Done more whole step_is reply_is
      (alone_here (Free mine block) Done its) frees.loader
      (with_freed (space_at frees.found.start) frees.loader block frees.kept) frees.has.loader_is frees.after
      (λ m has sound. (
        record {
          loader = frees.loader;
          found = frees.found;
          kept = frees.kept;
          has = record { loader_is = has; block_is = frees.has.block_is };
          after = refl;
        },
        sound,
      ))))
  first_free mine block step_is (Refused refusal) reply_is its = refused_alone
      (Free mine block) refusal step_is reply_is its
  first_free mine block step_is (At start) reply_is its = never (Free mine block) (At start) its (λ happens. happens.0)
  first_free mine block step_is (Value value) reply_is its = never (Free mine block) (Value value) its
      (λ happens. happens.0)

  -- An Alloc or a Calloc.
  turned_elsewhere : (space : Space) (mine at total : ℕ) (enlarges : Bool) (refusal : Refusal) (step : Step)
      (reply : Reply) (rest : List (Event × Answer))
      → GoesOn space mine step reply rest
      → is_position ((growing space mine at total enlarges, refused refusal) ∷ rest)
      (growing space mine at total enlarges, refused refusal) ≡ false
  turned_elsewhere space mine at total enlarges refusal step reply rest goes_on = elim goes_on [
    | inl takes ↦ subst elsewhere (sym takes.events_are) refl
    | inr other ↦ elim other [
      | inl passes ↦ subst elsewhere (sym passes.events_are) refl
      | inr alone ↦ subst elsewhere (sym alone.events_are) refl
    ]
  ]
    where
      elsewhere : List (Event × Answer) → Type 0
      elsewhere l = is_position ((growing space mine at total enlarges, refused refusal) ∷ l)
          (growing space mine at total enlarges, refused refusal) ≡ false

  module _ (space : Space) (mine block words : ℕ) (step_is : spread.step ≡ alloc_in space mine block words)
      (reply : Reply) (reply_is : spread.reply ≡ reply) where
    first_asked : (asked rest : List (Event × Answer)) → HasNoSpan space mine asked
        → GoesOn space mine (alloc_in space mine block words) reply rest → spread.events ≡ asked ++ rest
        → goal spread.events
    first_asked [] rest not_asked goes_on its =
        subst goal (sym its) (goes_on_first space mine block words spread step_is idle idle_is_plain old new name
        (onto mine) [] rest reply reply_is not_asked goes_on its more whole)
    first_asked (a ∷ asked) rest (not_had at total enlarges refusal) goes_on its = subst goal (sym its)
        (λ happens asks is_mine.
        onto mine (Some spread, growing space mine at total enlarges, refused refusal) (rest_of spread rest ++ more)
        is_mine
        (goes_on_turned space mine spread idle idle_is_plain old new at total enlarges refusal
        (rest_of spread rest ++ more)
        (record {
          space = space;
          block = block;
          words = words;
          asked = (growing space mine at total enlarges, refused refusal) ∷ [];
          rest = rest;
          more = more;
          step_is = step_is;
          no_span = not_had at total enlarges refusal;
          goes_on = subst (λ (s : Step). GoesOn space mine s spread.reply rest) (sym step_is)
              (subst (λ (r : Reply). GoesOn space mine (alloc_in space mine block words) r rest)
              (sym reply_is) goes_on);
          events_are = its;
          parts_are = refl;
          whole = whole;
        })
        (position_of (growing space mine at total enlarges) (refused refusal)
        ((growing space mine at total enlarges, refused refusal) ∷ rest) its false
        (turned_elsewhere space mine at total enlarges refusal
        (alloc_in space mine block words) reply rest goes_on)) happens))

    first_alloc : SpreadsAlloc space mine (alloc_in space mine block words) reply spread.events → goal spread.events
    first_alloc (inl grows) = subst goal (sym grows.events_are) (λ happens asks is_mine.
        onto mine (Some spread, growing space mine grows.start grows.total grows.enlarges, lent grows.chunk)
        ((Some spread, acting (alloc_in space mine block words), replied (At grows.at)) ∷ more) is_mine
        (goes_on_grown space mine block words spread step_is idle idle_is_plain old new more whole good grows.start
        grows.total grows.at grows.enlarges grows.chunk (reply_is ∙ grows.served)
        (position_of (growing space mine grows.start grows.total grows.enlarges)
        (lent grows.chunk) _ grows.events_are true refl)
        (position_of (acting (alloc_in space mine block words))
        (replied (At grows.at)) _ grows.events_are false refl) happens))
    first_alloc (inr after) = first_asked after.asked after.rest after.no_span after.goes_on after.events_are

  first_purge : (reply : Reply) → Spreads Purge reply spread.events → goal spread.events
  first_purge reply its = subst goal (sym its.events_are) (λ happens asks is_mine. absurd (cc))

  -- Each whole step.
  first_whole : (step : Step) → spread.step ≡ step → Spreads step spread.reply spread.events → goal spread.events
  first_whole (New mine kind) step_is its = first_new mine kind step_is spread.reply refl its
  first_whole (Alloc mine block words) step_is its = first_alloc NonClass mine block words step_is spread.reply refl its
  first_whole (Calloc mine block words) step_is its = first_alloc Class mine block words step_is spread.reply refl its
  first_whole (Write mine block index value) step_is its =
      first_write mine block index value step_is spread.reply refl its
  first_whole (Read mine block index) step_is its = first_read mine block index step_is spread.reply refl its
  first_whole (Free mine block) step_is its = first_free mine block step_is spread.reply refl its
  first_whole (Unload mine) step_is its = first_unload mine step_is spread.reply refl its
  first_whole Purge step_is its = first_purge spread.reply its

-- The first event that is left, however far the step has come.
pub first_left : (name : ℕ) (stage : Stage) (old new : Machine) → IsGood old → Was stage (named old.loaders name)
    → (parts : List Part) → Left name stage parts → FirstGoesOn name stage old new parts
first_left name idle old new good was parts left = subst (FirstGoesOn name idle old new) (sym left.parts_are)
    (of_steps left.steps (recursion_from_All IsWhole left.steps left.whole))
  where
    of_steps : (steps : List SpreadStep) → AllByRecursion IsWhole steps
        → FirstGoesOn name idle old new (flat_map spread_parts steps)
    of_steps [] whole = tt
    of_steps (spread ∷ steps) whole =
        first_whole name old new good spread (flat_map spread_parts steps)
        (record { steps = steps; whole = All-from_recursion IsWhole steps whole.1; parts_are = refl }) spread.step refl
        whole.0
first_left name (turned_down spread) old new good was parts left = subst
    (FirstGoesOn name (turned_down spread) old new) (sym left.parts_are)
    (goes_on_first left.space name left.block left.words spread left.step_is (turned_down spread)
    (turned_is_plain spread) old new name (λ part rest e goes. goes)
    left.asked left.rest spread.reply refl left.no_span (subst
    (λ (s : Step). GoesOn left.space name s spread.reply left.rest) left.step_is left.goes_on) left.events_are left.more
    left.whole)
first_left name (owes_block space block words start) old new good was parts left = subst
    (FirstGoesOn name (owes_block space block words start) old new) (sym left.parts_are)
    (λ happens asks is_mine. pays_block space name block words start left.spread old new left.more left.whole
    left.position_is (added_by space old name block words start new happens))
first_left name (owes_refusal space block words refusal) old new good was parts left = subst
    (FirstGoesOn name (owes_refusal space block words refusal) old new) (sym left.parts_are)
    (λ happens asks is_mine. pays_refusal space name block words refusal left.spread old new left.more left.whole was
    left.position_is happens)
first_left name (unloading loader) old new good was parts left = subst (FirstGoesOn name (unloading loader) old new)
    (sym left.parts_are)
    (λ happens asks is_mine. goes_on_closed name left.spread old new left.more left.whole loader left.step_is
    left.reply_is left.position_is good happens)
first_left name retracting old new good was parts left =
    subst (FirstGoesOn name retracting old new) (sym left.2.parts_are)
    (λ happens asks is_mine. goes_on_retracted name left.2.spread old new left.2.more left.2.whole left.0 left.1
    left.2.position_is good was happens)
