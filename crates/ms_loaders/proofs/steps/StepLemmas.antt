-- An allocation of a system that is answered by a block is a step of its machine: which chunks and
-- slots it changes. Used by the calls of a system.
use Rattle.std.proofs.Common.{◌≡◌, ℕ, zero, suc, Some, None, Result, Ok, List, [], ◌∷◌, map, cond, refl, sym, ap, ◌∙◌}
use Rattle.std.proofs.Common.{subst, inl, inr}
use Rattle.std.specs.Prelude.{◌==◌, slice_get, slice_set}
use Rattle.std.specs.List.{All, AllByRecursion, Contains}
use Rattle.std.specs.List.Sorted.{IsPermutation}
use Rattle.std.proofs.lemmas.List.Elements.{recursion_from_All, All-contains_itself}
use Rattle.std.proofs.lemmas.List.Sorted.{All-permutation}
use Rattle.ms_base.specs.declared.kind.Space.{Space}
use Rattle.ms_base.specs.declared.kind.Space.TheVariants.{NonClass, Class}
use Rattle.ms_base.specs.declared.span.Chunk.{Chunk}
use Rattle.ms_base.specs.declared.span.Block.{Block}
use Rattle.ms_base.specs.declared.refusal.Refusal.{Refusal}
use Rattle.ms_base.specs.declared.step.Reply.TheVariants.{At}
use Rattle.ms_base.specs.Level.{size_of}
use Rattle.ms_base.specs.Front.{front_for}
use Rattle.ms_base.specs.Spaces.{by_space}
use Rattle.ms_base.specs.Names.{named, with_changed}
use Rattle.ms_base.specs.Live.{block_words}
use Rattle.ms_base.specs.Place.{last_index}
use Rattle.ms_base.specs.PoolSteps.{slots_with}
use Rattle.ms_base.specs.State.{ArenaState, LoaderState, Machine, arena_of, chunks_held, slots_in, with_slots}
use Rattle.ms_base.specs.State.{recommitted as machine_recommitted}
use Rattle.ms_base.specs.Good.{IsGood}
use Rattle.ms_base.specs.Transition.{HasLoader, LacksLoader, with_loader, with_allocated, zeroed, Change, MayChange}
use Rattle.ms_base.specs.Transition.{Allocates, Transition}
use Rattle.ms_base.specs.Laws.Sum.{GrowsWell}
use Rattle.ms_base.proofs.entries.EntryLemmas.{split_at}
use Rattle.ms_base.proofs.runs.ApartLemmas.{All-middle_of}
use Rattle.ms_base.proofs.machine.GoodLemmas.{chunks_split}
use Rattle.ms_base.proofs.machine.ChangeLemmas.{slots_same, unchanged_pools}
use Rattle.ms_base.proofs.granules.GranuleGrowingLemmas.{growing_keeps_the_limit}
use Rattle.ms_pool.specs.Ledger.{Loan, Ledger, held_in, state_in, with_loan}
use Rattle.ms_pool.specs.Calls.{tallied}
use Rattle.ms_arena.specs.Arena.{ArenaView}
use Rattle.ms_loader.specs.Loader.{LoaderView, IsSoundView, IsArenaOf, AllocatesBlock}
use Rattle.ms_base.specs.Request.{alloc_in}
use Rattle.ms_loaders.specs.System.{states_of, machine_of, AreTogether}
use Rattle.ms_loader.proofs.MappedLemmas.{found-mapped, missing-mapped, changed-mapped}
use Rattle.ms_loaders.proofs.steps.OutcomeLemmas.{GrewAtAll, TookAtAll, GrownBy, LentBy, IsMade, picked_is}
use Rattle.ms_loaders.proofs.steps.AskedLemmas.{outcome}
use Rattle.ms_loaders.proofs.sums.FitLemmas.{fits, machine_is_good, recommitted_machine}
use Rattle.ms_loaders.proofs.steps.ServedLemmas.{apart_of}
use Rattle.ms_loaders.proofs.steps.StillTogetherLemmas.{own_sound}

abbrev state_of : LoaderView → LoaderState
state_of loader = loader.state

-- A loader of the system is one of the machine.
pub has_loader : (ledger : Ledger) (loaders : List (ℕ × LoaderView)) (name : ℕ) (v : LoaderView)
    → named loaders name ≡ Some v → HasLoader (machine_of ledger loaders) name v.state
has_loader ledger loaders name v found = found-mapped state_of loaders name v found

-- And a name that no loader of the system has, none of the machine has.
pub lacks_loader : (ledger : Ledger) (loaders : List (ℕ × LoaderView)) (name : ℕ) → named loaders name ≡ None
    → LacksLoader (machine_of ledger loaders) name
lacks_loader ledger loaders name none = missing-mapped state_of loaders name none

-- The machine where a loader changed, before the granules follow.
pub machine_with : (ledger : Ledger) (loaders : List (ℕ × LoaderView)) (name : ℕ) (v : LoaderView)
    → machine_of ledger (with_changed loaders name v) ≡ with_loader (machine_of ledger loaders) name v.state
machine_with ledger loaders name v =
    ap (λ (l : List (ℕ × LoaderState)). record (machine_of ledger loaders) { loaders = l })
    (changed-mapped state_of loaders name v)

-- What a made block changes of chunks and slots, and the machine then.
record IsStep (space : Space) (old new : Ledger) (loaders : List (ℕ × LoaderView)) (name n : ℕ) (was is : LoaderView)
    (chunks : List Chunk) : Type 0 where
  slots : List ℕ
  changes : MayChange old.limits.policy n
      (record { chunks = (arena_of space was.state).chunks; slots = slots_in space (machine_of old loaders) })
      (record { chunks = chunks; slots = slots })
  after : machine_of new (with_changed loaders name is)
      ≡ machine_recommitted (with_slots space (with_loader (machine_of old loaders) name is.state) slots)

abbrev change : List Chunk → List ℕ → Change
change chunks slots = record { chunks = chunks; slots = slots }

same_change : (chunks other : List Chunk) (slots : List ℕ) → other ≡ chunks → change other slots ≡ change chunks slots
same_change chunks other slots e = ap (λ (l : List Chunk). change l slots) e

-- No chunk is touched.
stays : (space : Space) (old new : Ledger) (loaders : List (ℕ × LoaderView)) (name n : ℕ) (was is : LoaderView)
    (chunks : List Chunk) → new ≡ old
    → chunks ≡ (arena_of space was.state).chunks → IsGood (machine_of new (with_changed loaders name is))
    → IsStep space old new loaders name n was is chunks
stays space old new loaders name n was is chunks same as_they good = record {
  slots = slots_in space (machine_of old loaders);
  changes =
      inl (same_change (arena_of space was.state).chunks chunks (slots_in space (machine_of old loaders)) as_they);
  after = machine ∙ sym (unchanged_pools space (machine_of old loaders) name is.state (subst IsGood machine good));
}
  where
    machine : machine_of new (with_changed loaders name is) ≡ with_loader (machine_of old loaders) name is.state
    machine = ap (λ (l : Ledger). machine_of l (with_changed loaders name is)) same ∙ machine_with old loaders name is

-- A chunk is at an index of a list.
set_same : (chunks : List Chunk) (index : ℕ) (chunk : Chunk) → slice_get chunks index ≡ Some chunk
    → slice_set chunks index chunk ≡ chunks
set_same [] index chunk found = absurd (cc)
set_same (c ∷ chunks) zero chunk found = let its : chunk ≡ c = cc in ap (λ (d : Chunk). d ∷ chunks) its
set_same (c ∷ chunks) (suc index) chunk found = ap (λ (l : List Chunk). c ∷ l) (set_same chunks index chunk found)

-- What holds of all chunks of a space holds of a loader's.
each_of_loader : (P : Chunk → Type 0) (space : Space) (m : Machine) (name : ℕ) (loader : LoaderState)
    → HasLoader m name loader → All P (chunks_held space m.loaders)
    → All P (arena_of space loader).chunks
each_of_loader P space m name loader found all =
    let split = split_at m.loaders name loader found in
    All-middle_of P (chunks_held space split.before) (arena_of space loader).chunks (chunks_held space split.after)
    (rw (ap (chunks_held space) split.is ∙ chunks_split space split.before split.after name loader) at all)

at_index : (P : Chunk → Type 0) (chunks : List Chunk) (index : ℕ) (chunk : Chunk) → AllByRecursion P chunks
    → slice_get chunks index ≡ Some chunk → P chunk
at_index P [] index chunk all found = absurd (cc)
at_index P (c ∷ chunks) zero chunk all found = let its : c ≡ chunk = cc in subst P its all.0
at_index P (c ∷ chunks) (suc index) chunk all found = at_index P chunks index chunk all.1 found

is_held : (space : Space) (old : Ledger) (loaders : List (ℕ × LoaderView)) (name : ℕ) (was : LoaderView) (index : ℕ)
    (chunk : Chunk) → AreTogether old loaders → named loaders name ≡ Some was
    → slice_get (arena_of space was.state).chunks index ≡ Some chunk → Contains (held_in space old) chunk
is_held space old loaders name was index chunk its found at_it =
    at_index (Contains held) (arena_of space was.state).chunks index chunk
    (recursion_from_All (Contains held) (arena_of space was.state).chunks
    (each_of_loader (Contains held) space (machine_of old loaders) name was.state
    (has_loader old loaders name was found)
    (All-permutation (Contains held) held (chunks_held space (states_of loaders))
    (fits old loaders its.loaders_sound its.served space) (All-contains_itself held)))) at_it
  where
    held : List Chunk
    held = held_in space old

-- The current chunk grows.
grows : (space : Space) (old new : Ledger) (loaders : List (ℕ × LoaderView)) (name n : ℕ) (was is : LoaderView)
    (after : ArenaState) → named loaders name ≡ Some was
    → AreTogether old loaders → AreTogether new (with_changed loaders name is)
    → GrownBy space old new (arena_of space was.state) after → IsStep space old new loaders name n was is after.chunks
grows space old new loaders name n was is after found its now grown = record {
  slots = slots_in space m;
  changes = elim well.changes [
    | inl same ↦ inl (same_change before.chunks after.chunks (slots_in space m)
        (grown.chunks ∙ ap (slice_set before.chunks (last_index before)) same
        ∙ set_same before.chunks (last_index before) grown.chunk grown.at_it))
    | inr more ↦
        inr (inl (record {
          index = last_index before;
          was = grown.chunk;
          is = grown.greater;
          found = grown.at_it;
          grown = more;
          chunks = grown.chunks;
          slots = refl;
        }))
  ];
  after = ap (λ (l : Ledger). machine_of l (with_changed loaders name is)) grown.ledger
      ∙ recommitted_machine mid (with_changed loaders name is)
      (λ one. subst
      (λ (l : Ledger). IsPermutation (held_in one l) (chunks_held one (states_of (with_changed loaders name is))))
      grown.ledger (fits new (with_changed loaders name is) now.loaders_sound now.served one))
      ∙ ap machine_recommitted (machine_with old loaders name is)
      ∙ ap machine_recommitted (sym (slots_same space (with_loader m name is.state)));
}
  where
    m : Machine
    m = machine_of old loaders

    before : ArenaState
    before = arena_of space was.state

    mid : Ledger
    mid = record old {
      loans = map
          (λ (loan : Loan). cond (loan.chunk.start == grown.greater.start) (record loan { chunk = grown.greater }) loan)
          old.loans;
    }

    well : GrowsWell (state_in space old) grown.chunk grown.greater grown.total
    well = growing_keeps_the_limit (state_in space old) grown.chunk grown.greater grown.total grown.may
        (its.ledger_sound.spaces space)
        (is_held space old loaders name was (last_index before) grown.chunk its found grown.at_it) grown.grows

-- A chunk is lent.
lends : (space : Space) (old new : Ledger) (loaders : List (ℕ × LoaderView)) (name n owner : ℕ) (was is : LoaderView)
    (after : ArenaState)
    → AreTogether new (with_changed loaders name is) → LentBy space owner n old new (arena_of space was.state) after
    → IsStep space old new loaders name n was is after.chunks
lends space old new loaders name n owner was is after now lent = record {
  slots = slots_with (slots_in space m) lent.chunk.start;
  changes = inr (inr (record { added = lent.chunk; front = front; chunks = lent.chunks; slots = refl }));
  after = ap (λ (l : Ledger). machine_of l (with_changed loaders name is)) lent.ledger
      ∙ recommitted_machine (mid space) (with_changed loaders name is)
      (λ one. subst
      (λ (l : Ledger). IsPermutation (held_in one l) (chunks_held one (states_of (with_changed loaders name is))))
      lent.ledger (fits new (with_changed loaders name is) now.loaders_sound now.served one))
      ∙ ap machine_recommitted (slots_are space);
}
  where
    m : Machine
    m = machine_of old loaders

    mid : Space → Ledger
    mid one = record (tallied old lent.tallies) {
      loans = with_loan (record { owner = owner; chunk = lent.chunk }) old.loans;
      slots = by_space one (slots_with old.slots lent.chunk.start) old.slots;
    }

    front : lent.chunk.front ≡ front_for old.limits.policy (size_of lent.chunk.level) n
    front = subst (λ (c : Chunk). c.front ≡ front_for old.limits.policy (size_of c.level) n)
        (sym (picked_is (state_in space old) lent.p lent.m n lent.chunk lent.picks)) refl

    slots_are : (one : Space)
        → machine_of (mid one) (with_changed loaders name is)
        ≡ with_slots one (with_loader m name is.state) (slots_with (slots_in one m) lent.chunk.start)
    slots_are NonClass =
        ap (λ (o : Machine). record o { slots = slots_with old.slots lent.chunk.start })
        (machine_with old loaders name is)
    slots_are Class = machine_with old loaders name is

-- So an allocation that is answered by a block is served.
made_is_step : (space : Space) (old new : Ledger) (loaders : List (ℕ × LoaderView)) (name words : ℕ)
    (was is : LoaderView) (made : Block) (arena after : ArenaView) → named loaders name ≡ Some was
    → IsArenaOf space was arena → AreTogether old loaders → AreTogether new (with_changed loaders name is)
    → IsMade arena words old made after new
    → IsStep space old new loaders name (block_words words) was is after.books.chunks
made_is_step space old new loaders name words was is made arena after found its before now how = elim how.how [
  | inl same ↦ stays space old new loaders name (block_words words) was is after.books.chunks same.1
      (same.0 ∙ ap (λ (a : ArenaState). a.chunks) its.books) (machine_is_good new (with_changed loaders name is) now)
  | inr other ↦ elim other [
    | inl grown ↦ grows space old new loaders name (block_words words) was is after.books found before now
        (subst (λ (s : Space). GrownBy s old new (arena_of space was.state) after.books) its.space_is
        (subst (λ (a : ArenaState). GrownBy arena.space old new a after.books) its.books grown))
    | inr lent ↦ lends space old new loaders name (block_words words) arena.owner was is after.books now
        (subst (λ (s : Space). LentBy s arena.owner (block_words words) old new (arena_of space was.state) after.books)
        its.space_is
        (subst (λ (a : ArenaState). LentBy arena.space arena.owner (block_words words) old new a after.books)
        its.books lent))
  ]
]

alloc_is_served : (space : Space) (old new : Ledger) (loaders : List (ℕ × LoaderView)) (name block words : ℕ)
    (was is : LoaderView) (made : Block) → named loaders name ≡ Some was
    → AllocatesBlock GrewAtAll TookAtAll old.limits.policy space was block words old (Ok made) is new
    → IsSoundView was → AreTogether old loaders → AreTogether new (with_changed loaders name is)
    → Allocates (machine_of old loaders) space name block words made.start
    (machine_of new (with_changed loaders name is))
alloc_is_served space old new loaders name block words was is made found (inl refused) sound before now =
    absurd (let e = refused.answer_is in cc)
alloc_is_served space old new loaders name block words was is made found (inr asks) sound before now = record {
  some = how.askable.some;
  fits = how.askable.fits;
  before = was.state;
  arena = asks.is.books;
  slots = step.slots;
  found = has_loader old loaders name was found;
  unused = asks.unused;
  inside = asks.follows.0;
  changes = step.changes;
  after = step.after
      ∙ ap (λ (l : LoaderState). machine_recommitted
      (with_slots space (with_loader (machine_of old loaders) name l) step.slots)) state;
}
  where
    how : IsMade asks.was words old made asks.is new
    how = outcome asks.was words old (Ok made) asks.is new (apart_of space was asks.was sound asks.arena) asks.allocates

    step : IsStep space old new loaders name (block_words words) was is asks.is.books.chunks
    step = made_is_step space old new loaders name words was is made asks.was asks.is found asks.arena before now how

    state : is.state ≡ with_allocated space was.state asks.is.books block (zeroed made.start (block_words words))
    state = ap state_of asks.follows.1
        ∙ ap (λ (n : ℕ). with_allocated space was.state asks.is.books block (zeroed made.start n)) how.words_are

-- As the call's answer tells it.
alloc_serves : (space : Space) (old new : Machine) (name block words start : ℕ)
    → Allocates old space name block words start new → IsGood new
    → Transition old (alloc_in space name block words) (At start) new
alloc_serves NonClass old new name block words start its good = (its, good)
alloc_serves Class old new name block words start its good = (its, good)

pub alloc_answers_at : (space : Space) (old new : Ledger) (loaders : List (ℕ × LoaderView)) (name block words : ℕ)
    (was is : LoaderView) (answer : Result Block Refusal) (made : Block)
    → answer ≡ Ok made → named loaders name ≡ Some was
    → AllocatesBlock GrewAtAll TookAtAll old.limits.policy space was block words old answer is new
    → AreTogether old loaders → AreTogether new (with_changed loaders name is)
    → Transition (machine_of old loaders) (alloc_in space name block words) (At made.start)
    (machine_of new (with_changed loaders name is))
alloc_answers_at space old new loaders name block words was is answer made ok found allocates before now =
    alloc_serves space (machine_of old loaders) (machine_of new (with_changed loaders name is)) name block words
    made.start
    (alloc_is_served space old new loaders name block words was is made found
    (subst (λ (a : Result Block Refusal).
    AllocatesBlock GrewAtAll TookAtAll old.limits.policy space was block words old a is new) ok allocates)
    (own_sound old loaders name was found before) before now)
    (machine_is_good new (with_changed loaders name is) now)
