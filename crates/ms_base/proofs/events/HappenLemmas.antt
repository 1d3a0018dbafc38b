-- Each event leaves a good state, and all that is another loader's.
use Rattle.std.proofs.Common.{◌≡◌, ℕ, false, ◌⊎◌, Some, List, refl, sym, ap, ◌∙◌, subst, inl, inr}
use Rattle.std.specs.Prelude.{◌==◌, slice_set}
use Rattle.std.proofs.lemmas.Bool.{both_ways, eq-eqb}
use Rattle.ms_base.specs.declared.kind.Space.{Space}
use Rattle.ms_base.specs.declared.kind.Space.TheVariants.{NonClass, Class}
use Rattle.ms_base.specs.Live.{LiveBlock}
use Rattle.ms_base.specs.declared.step.Step.{Step}
use Rattle.ms_base.specs.declared.step.Step.TheVariants.{Alloc, Calloc, Write, Read, Free, Unload}
use Rattle.ms_base.specs.declared.step.Reply.{Reply}
use Rattle.ms_base.specs.declared.step.Reply.TheVariants.{Ok as Done, At, Value, Refused}
use Rattle.ms_base.specs.declared.refusal.Refusal.TheVariants.{IdsUsedUp}
use Rattle.ms_base.specs.Spaces.{space_at}
use Rattle.ms_base.specs.Names.{named, with_new, with_changed, without}
use Rattle.ms_base.specs.Request.{loader_of, is_name}
use Rattle.ms_base.specs.State.{ArenaState, LoaderState, Machine, arena_of, with_arena, empty_loader}
use Rattle.ms_base.specs.Live.{block_words}
use Rattle.ms_base.specs.Good.{IsGood}
use Rattle.ms_base.specs.Transition.{HasLoader, with_loader, zeroed}
use Rattle.ms_base.specs.Run.Event.{Event, opening, taking, growing, closing, purging, telling, acting, Answer, accepted}
use Rattle.ms_base.specs.Run.Event.{lent, counted, told, replied, refused, Happens, Acts, PlacesBlock, AddsBlock, emptied}
use Rattle.ms_base.specs.Run.Event.{IsSoundAfter}
use Rattle.ms_base.specs.Laws.Spread.{LeavesOthers}
use Rattle.ms_base.proofs.entries.LookupLemmas.{named_changed_same, named_changed_other, named_new_other}
use Rattle.ms_base.proofs.entries.LookupLemmas.{named_without_other}
use Rattle.ms_base.proofs.machine.GoodLemmas.{good_with_new_loader, good_with_loader, good_without_loader}
use Rattle.ms_base.proofs.machine.GoodLemmas.{good_when_purged}
use Rattle.ms_base.proofs.events.KeptEventLemmas.{TakingIsAddable, good_with_taken}
use Rattle.ms_base.proofs.events.GrownEventLemmas.{good_with_greater}

-- A local event changes one loader, but for its chunks.
pub record ChangesOne (old : Machine) (step : Step) (new : Machine) : Type 0 where
  pub name : ℕ
  pub before : LoaderState
  pub after : LoaderState
  pub its : loader_of step ≡ Some name
  pub has : HasLoader old name before
  pub same : (space : Space) → (arena_of space after).chunks ≡ (arena_of space before).chunks
  pub is : new ≡ with_loader old name after

with_blocks_stay : (space : Space) (loader : LoaderState) (blocks : List (ℕ × LiveBlock)) (arena : ArenaState)
    → arena.chunks ≡ (arena_of space loader).chunks → (one : Space)
    → (arena_of one (with_arena space (record loader { blocks = blocks }) arena)).chunks ≡ (arena_of one loader).chunks
with_blocks_stay NonClass loader blocks arena same NonClass = same
with_blocks_stay NonClass loader blocks arena same Class = refl
with_blocks_stay Class loader blocks arena same NonClass = refl
with_blocks_stay Class loader blocks arena same Class = same

pub added_chunks : (space : Space) (block words start : ℕ) (before after : LoaderState)
    → AddsBlock space block words start before after → (one : Space)
    → (arena_of one after).chunks ≡ (arena_of one before).chunks
added_chunks space block words start before after adds one =
    ap (λ (l : LoaderState). (arena_of one l).chunks) adds.after ∙ with_blocks_stay space before
    (with_new before.blocks block (zeroed start (block_words words))) adds.arena adds.chunks one

pub emptied_chunks : (loader : LoaderState) (space : Space)
    → (arena_of space (emptied loader)).chunks ≡ (arena_of space loader).chunks
emptied_chunks loader NonClass = refl
emptied_chunks loader Class = refl

same_arenas : (loader : LoaderState) (blocks : List (ℕ × LiveBlock)) (space : Space)
    → (arena_of space (record loader { blocks = blocks })).chunks ≡ (arena_of space loader).chunks
same_arenas loader blocks NonClass = refl
same_arenas loader blocks Class = refl

added : (space : Space) (old : Machine) (name block words start : ℕ) (new : Machine) (step : Step)
    → loader_of step ≡ Some name → PlacesBlock old space name block words start new → ChangesOne old step new
added space old name block words start new step its adds = record {
  name = name;
  before = adds.before;
  after = adds.with_it;
  its = its;
  has = adds.has;
  same = added_chunks space block words start adds.before adds.with_it adds.adds;
  is = adds.after;
}

-- Each local event that is served does so, or changes nothing.
pub acted : (old : Machine) (step : Step) (reply : Reply) (new : Machine) → Acts old step reply new
    → (new ≡ old) ⊎ ChangesOne old step new
acted old (Alloc name block words) (At start) new acts = inr
    (added NonClass old name block words start new (Alloc name block words) refl acts)
acted old (Calloc name block words) (At start) new acts = inr
    (added Class old name block words start new (Calloc name block words) refl acts)
acted old (Write name block index value) Done new acts = inr (record {
  name = name;
  before = acts.loader;
  after = _;
  its = refl;
  has = acts.has.loader_is;
  same = same_arenas acts.loader (with_changed acts.loader.blocks block
      (record acts.found { contents = slice_set acts.found.contents index value }));
  is = acts.after;
})
acted old (Read name block index) (Value value) new acts = inl acts.after
acted old (Free name block) Done new acts = inr (record {
  name = name;
  before = acts.loader;
  after = _;
  its = refl;
  has = acts.has.loader_is;
  same = with_blocks_stay (space_at acts.found.start) acts.loader (without acts.loader.blocks block) _ refl;
  is = acts.after;
})
acted old (Unload name) Done new acts = inr (record {
  name = name;
  before = acts.loader;
  after = emptied acts.loader;
  its = refl;
  has = acts.has;
  same = emptied_chunks acts.loader;
  is = acts.after;
})
acted old _ _ new acts = absurd acts

good_acted : (old : Machine) (step : Step) (reply : Reply) (new : Machine) → IsGood old
    → Acts old step reply new × IsSoundAfter new step → IsGood new
good_acted old step reply new good does = elim (acted old step reply new does.0) [
  | inl same ↦ subst IsGood (sym same) good
  | inr changes ↦ subst IsGood (sym changes.is)
      (good_with_loader old changes.name changes.before changes.after changes.has changes.same
      (does.1 changes.name changes.after changes.its (ap (λ (m : Machine). named m.loaders changes.name) changes.is
      ∙ named_changed_same old.loaders changes.name changes.before changes.after changes.has)) good)
]

-- Each event leaves a good state.
pub good_after : TakingIsAddable → (old : Machine) (event : Event) (answer : Answer) (new : Machine) → IsGood old
    → Happens old event answer new → IsGood new
good_after addable old (opening name kind) accepted new good opens =
    subst IsGood (sym opens.made.after) (good_with_new_loader old name kind opens.made.unused opens.numbers good)
good_after addable old (opening name kind) (refused IdsUsedUp) new good none = subst IsGood (sym none.1) good
good_after addable old (taking space name p m words) (lent chunk) new good takes =
    good_with_taken addable space old name p m words chunk new good takes
good_after addable old (taking space name p m words) (refused refusal) new good none =
    subst IsGood (sym none.after) good
good_after addable old (growing space name start total may_enlarge)
    (lent chunk) new good grows = good_with_greater space old name start total may_enlarge chunk new good grows
good_after addable old (growing space name start total may_enlarge) (refused refusal) new good none = subst IsGood
    (sym none.after) good
good_after addable old (closing name) accepted new good closes = subst IsGood (sym closes.after)
    (good_without_loader old name closes.loader closes.has good)
good_after addable old purging (counted nodes) new good purges =
    subst IsGood (sym purges.after) (good_when_purged old good)
good_after addable old (telling space) (told sums) new good tells = subst IsGood (sym tells.after) good
good_after addable old (acting step) (replied (Refused refusal)) new good none = subst IsGood (sym none.1) good
good_after addable old (acting step) (replied Done) new good does = good_acted old step Done new good does
good_after addable old (acting step) (replied (At start)) new good does = good_acted old step (At start) new good does
good_after addable old (acting step) (replied (Value value)) new good does =
    good_acted old step (Value value) new good does
good_after addable old _ _ new good none = absurd none

-- Each event leaves the other loaders.
is_other : (name other : ℕ) → (other == name) ≡ false → (other ≡ name → ⊥)
is_other name other e same = both_ways (other == name) e (eq-eqb other name same)

others_acted : (old : Machine) (step : Step) (reply : Reply) (new : Machine) → Acts old step reply new
    → LeavesOthers old (acting step) new
others_acted old step reply new acts name e = elim (acted old step reply new acts) [
  | inl same ↦ ap (λ (m : Machine). named m.loaders name) same
  | inr changes ↦ ap (λ (m : Machine). named m.loaders name) changes.is
      ∙ named_changed_other old.loaders changes.name changes.after name
      (is_other name changes.name (ap (is_name name) (sym changes.its) ∙ e))
]

pub others_after : (old : Machine) (event : Event) (answer : Answer) (new : Machine) → Happens old event answer new
    → LeavesOthers old event new
others_after old (opening mine kind) accepted new opens name e =
    ap (λ (m : Machine). named m.loaders name) opens.made.after ∙ named_new_other old.loaders mine
    (empty_loader kind) name (is_other name mine e)
others_after old (opening mine kind) (refused IdsUsedUp) new none name e =
    ap (λ (m : Machine). named m.loaders name) none.1
others_after old (taking space mine p m words) (lent chunk) new takes name e =
    ap (λ (m : Machine). named m.loaders name) takes.after ∙ named_changed_other old.loaders mine _ name
    (is_other name mine e)
others_after old (taking space mine p m words) (refused refusal) new none name e = ap
    (λ (m : Machine). named m.loaders name) none.after
others_after old (growing space mine start total may_enlarge) (lent chunk) new grows name e =
    ap (λ (m : Machine). named m.loaders name) grows.after ∙ named_changed_other old.loaders mine _ name
    (is_other name mine e)
others_after old (growing space mine start total may_enlarge) (refused refusal) new none name e = ap
    (λ (m : Machine). named m.loaders name) none.after
others_after old (closing mine) accepted new closes name e =
    ap (λ (m : Machine). named m.loaders name) closes.after ∙ named_without_other old.loaders mine name
    (is_other name mine e)
others_after old purging (counted nodes) new purges name e = ap (λ (m : Machine). named m.loaders name) purges.after
others_after old (telling space) (told sums) new tells name e = ap (λ (m : Machine). named m.loaders name) tells.after
others_after old (acting step) (replied (Refused refusal)) new none name e = ap
    (λ (m : Machine). named m.loaders name) none.1
others_after old (acting step) (replied Done) new does name e = others_acted old step Done new does.0 name e
others_after old (acting step) (replied (At start)) new does name e = others_acted old step (At start) new does.0 name e
others_after old (acting step) (replied (Value value)) new does name e = others_acted old step
    (Value value) new does.0 name e
others_after old _ _ new none name e = absurd none
