-- A write, a read or a free of a block tells what its loader's own requests know of it, and leaves
-- the loader's accounts and words in use; for blocks.rt.
use Rattle.std.proofs.Common.{◌≡◌, ◌≢◌, ℕ, false, inl, inr, Some, None, List, [], ◌∷◌, ◌++◌, map, length, option_map}
use Rattle.std.proofs.Common.{refl, sym, ap, ◌∙◌, subst}
use Rattle.std.specs.Prelude.{IsTrue}
use Rattle.std.specs.Ordering.{nat_cmp}
use Rattle.std.specs.BTreeMap.{is_at}
use Rattle.std.specs.List.{All}
use Rattle.std.specs.Map.{values_of}
use Rattle.std.proofs.lemmas.Map.Made.{lookup-map_values}
use Rattle.std.proofs.lemmas.Map.Views.{All-values-set_value}
use Rattle.ms_base.specs.declared.kind.Space.{Space}
use Rattle.ms_base.specs.declared.kind.Space.TheVariants.{NonClass, Class}
use Rattle.ms_base.specs.declared.span.Chunk.{Chunk}
use Rattle.ms_base.specs.declared.step.Step.TheVariants.{Write, Read, Free}
use Rattle.ms_base.specs.declared.step.Reply.TheVariants.{Ok as Done, Value, Refused}
use Rattle.ms_base.specs.declared.refusal.Refusal.{Refusal}
use Rattle.ms_base.specs.declared.refusal.Refusal.TheVariants.{OutOfRange, NoBlock}
use Rattle.ms_base.specs.Run.Alone.{OwnLoader, OwnReply}
use Rattle.ms_base.specs.Committed.{is_among}
use Rattle.ms_base.specs.Names.{AreNamed, named, with_new, with_changed}
use Rattle.ms_base.specs.Spaces.{by_space, space_at}
use Rattle.ms_base.specs.State.{LoaderState, arena_of}
use Rattle.ms_base.specs.Transition.{with_freed}
use Rattle.ms_base.proofs.entries.EntryLemmas.{Split, split_at, rises_with_changed}
use Rattle.ms_base.proofs.entries.LookupLemmas.{named_changed_same, named_changed_other}
use Rattle.ms_pool.specs.Account.{AccountState}
use Rattle.ms_loader.specs.Loader.{LoaderView, with_state, account_in, HasWord, WritesWord, FreesBlock, LacksWord}
use Rattle.ms_loader.specs.Loader.{LacksName, IsSoundView}
use Rattle.ms_loaders.specs.System.{states_of, accounts_of, AreDistinct}
use Rattle.ms_loader_map.specs.Used.{used_by, used_at}
use Rattle.ms_shared.specs.SeatView.{ServesBy}
use Rattle.ms_base.specs.Run.Own.{own_of, own_in}
use Rattle.ms_run.specs.Manned.{KeepsSeats}
use Rattle.ms_loaders.proofs.steps.CallLemmas.{write_keeps, free_keeps}
use Rattle.ms_loaders.proofs.steps.UnloadLemmas.{state_of}
use Rattle.ms_loaders.proofs.steps.ServedLemmas.{accounts_split, length_changed}

abbrev own_state : LoaderState → OwnLoader
own_state loader = record { kind = loader.kind; blocks = loader.blocks }

-- The state of a loader, by its name.
pub named_states : (loaders : List (ℕ × LoaderView)) (name : ℕ)
    → named (states_of loaders) name ≡ option_map state_of (named loaders name)
named_states loaders name = lookup-map_values state_of (is_at (nat_cmp name)) loaders

-- What a loader's own requests know of it, where it is there, where it is not, where it stayed and
-- where it changed.
pub own_found : (loaders : List (ℕ × LoaderView)) (name : ℕ) (was : LoaderView) → named loaders name ≡ Some was
    → own_in (states_of loaders) name ≡ Some (own_state was.state)
own_found loaders name was found = ap own_of (named_states loaders name ∙ ap (option_map state_of) found)

pub own_missing : (loaders : List (ℕ × LoaderView)) (name : ℕ) → named loaders name ≡ None
    → own_in (states_of loaders) name ≡ None
own_missing loaders name none = ap own_of (named_states loaders name ∙ ap (option_map state_of) none)

pub own_changed : (loaders : List (ℕ × LoaderView)) (name : ℕ) (was is : LoaderView) → named loaders name ≡ Some was
    → own_in (states_of (with_changed loaders name is)) name ≡ Some (own_state is.state)
own_changed loaders name was is found =
    own_found (with_changed loaders name is) name is (named_changed_same loaders name was is found)

-- The other loaders stay.
pub others_stay : (loaders : List (ℕ × LoaderView)) (name : ℕ) (is : LoaderView) (other : ℕ) → other ≢ name
    → named (with_changed loaders name is) other ≡ named loaders other
others_stay loaders name is other differs = named_changed_other loaders name is other (λ e. differs (sym e))

-- The answers where there is a loader.
written : (name block index value : ℕ) (was is : LoaderState) → WritesWord was block index value is
    → OwnReply (Some (own_state was)) (Write name block index value) false Done (Some (own_state is))
written name block index value was is writes =
    (writes.found, writes.has, writes.within, ap (λ (s : LoaderState). Some (own_state s)) writes.after)

own_freed : (space : Space) (loader : LoaderState) (block : ℕ) (kept : List (ℕ × ℕ))
    → own_state (with_freed space loader block kept) ≡ own_state (with_freed NonClass loader block [])
own_freed NonClass loader block kept = refl
own_freed Class loader block kept = refl

freed : (name block : ℕ) (was is : LoaderState) → FreesBlock was block is
    → OwnReply (Some (own_state was)) (Free name block) false Done (Some (own_state is))
freed name block was is frees = (
  frees.found,
  frees.has,
  ap (λ (s : LoaderState). Some (own_state s)) frees.after
      ∙ ap Some
      (own_freed (space_at frees.found.start) was block
      (with_new (arena_of (space_at frees.found.start) was).kept frees.found.start (length frees.found.contents))),
)

pub write_refused : (name block index value : ℕ) (was : LoaderState) (refusal : Refusal) → LacksWord was block index refusal
    → OwnReply (Some (own_state was)) (Write name block index value) false (Refused refusal) (Some (own_state was))
write_refused name block index value was NoBlock lacks = (lacks, refl)
write_refused name block index value was (OutOfRange words) past =
    (past.found, past.has, past.words_are, past.past, refl)
write_refused name block index value was _ lacks = absurd lacks

read_refused : (name block index : ℕ) (was : LoaderState) (refusal : Refusal) → LacksWord was block index refusal
    → OwnReply (Some (own_state was)) (Read name block index) false (Refused refusal) (Some (own_state was))
read_refused name block index was NoBlock lacks = (lacks, refl)
read_refused name block index was (OutOfRange words) past = (past.found, past.has, past.words_are, past.past, refl)
read_refused name block index was _ lacks = absurd lacks

pub free_refused : (name block : ℕ) (was : LoaderState) (refusal : Refusal) → LacksName was block refusal
    → OwnReply (Some (own_state was)) (Free name block) false (Refused refusal) (Some (own_state was))
free_refused name block was NoBlock lacks = (lacks, refl)
free_refused name block was _ lacks = absurd lacks

-- So the loaders answer.
module _ (loaders : List (ℕ × LoaderView)) (name block : ℕ) (was is : LoaderView)
    (found : named loaders name ≡ Some was) where
  pub own_written : (index value : ℕ) → WritesWord was.state block index value is.state
      → OwnReply (own_in (states_of loaders) name) (Write name block index value) false Done
      (own_in (states_of (with_changed loaders name is)) name)
  own_written index value writes =
      rw (own_found loaders name was found, own_changed loaders name was is found)
      (written name block index value was.state is.state writes)

  pub own_freed_in : FreesBlock was.state block is.state
      → OwnReply (own_in (states_of loaders) name) (Free name block) false Done
      (own_in (states_of (with_changed loaders name is)) name)
  own_freed_in frees =
      rw (own_found loaders name was found, own_changed loaders name was is found)
      (freed name block was.state is.state frees)

pub own_read : (loaders : List (ℕ × LoaderView)) (name block index value : ℕ) (was : LoaderView)
    → named loaders name ≡ Some was → HasWord was.state block index value
    → OwnReply (own_in (states_of loaders) name) (Read name block index) false (Value value)
    (own_in (states_of loaders) name)
own_read loaders name block index value was found word =
    rw (own_found loaders name was found) (word.found, word.has, word.word, refl)

pub own_not_read : (loaders : List (ℕ × LoaderView)) (name block index : ℕ) (refusal : Refusal) (was : LoaderView)
    → named loaders name ≡ Some was → LacksWord was.state block index refusal
    → OwnReply (own_in (states_of loaders) name) (Read name block index) false (Refused refusal)
    (own_in (states_of loaders) name)
own_not_read loaders name block index refusal was found lacks =
    rw (own_found loaders name was found) (read_refused name block index was.state refusal lacks)

-- Loaders with the same accounts have the same seats.
keeps_seats : (old new : List (ℕ × LoaderView)) → accounts_of new ≡ accounts_of old → length new ≡ length old
    → (All IsSoundView (values_of old) → All IsSoundView (values_of new)) → (AreNamed old → AreNamed new)
    → KeepsSeats old new
keeps_seats old new same count sound named seat manned = record {
  served = subst (All (ServesBy seat)) (sym same) manned.served;
  distinct = subst AreDistinct (sym (ap (map owner_of) same)) manned.distinct;
  no_other = λ owner chunks has. elim (manned.no_other owner chunks has) [
    | inl none ↦ inl none
    | inr among ↦
        inr (subst (λ (accounts : List AccountState). IsTrue (is_among (map owner_of accounts) owner)) (sym same) among)
  ];
  opened = λ space. manned.opened space ∙ sym count;
  sound = sound manned.sound;
  names = named manned.names;
}
  where
    owner_of : AccountState → ℕ
    owner_of account = account.owner

-- Nor does either move a top.
pub freed_used : (space : Space) (loader : LoaderState) (block : ℕ) (kept : List (ℕ × ℕ))
    → used_by (with_freed space loader block kept) ≡ used_by loader
freed_used NonClass loader block kept = refl
freed_used Class loader block kept = refl

-- So each seat serves the loaders as before.
module _ (loaders : List (ℕ × LoaderView)) (name : ℕ) (was is : LoaderView) (found : named loaders name ≡ Some was)
  where
    account_same : (space : Space) → is ≡ with_state was is.state
        → (arena_of space is.state).chunks ≡ (arena_of space was.state).chunks
        → account_in space is ≡ account_in space was
    account_same space same chunks = ap (account_in space) same
        ∙ ap (λ (l : List Chunk). record { owner = by_space space was.owner was.class_owner; space = space; chunks = l })
        chunks

    pub keeps_with : is ≡ with_state was is.state → IsSoundView is
        → ((space : Space) → (arena_of space is.state).chunks ≡ (arena_of space was.state).chunks)
        → KeepsSeats loaders (with_changed loaders name is)
    keeps_with same sound chunks =
        keeps_seats loaders (with_changed loaders name is) accounts (length_changed loaders name is)
        (λ all. All-values-set_value (is_at (nat_cmp name)) IsSoundView loaders is all sound)
        (rises_with_changed loaders name is)
      where
        split : Split loaders name was
        split = split_at loaders name was found

        accounts : accounts_of (with_changed loaders name is) ≡ accounts_of loaders
        accounts = ap accounts_of (split.changed is) ∙ accounts_split split.before split.after name is
            ∙ ap (λ (a : AccountState). accounts_of split.before ++ a ∷ account_in Class is ∷ accounts_of split.after)
            (account_same NonClass same (chunks NonClass))
            ∙ ap (λ (a : AccountState). accounts_of split.before ++ account_in NonClass was ∷ a ∷ accounts_of split.after)
            (account_same Class same (chunks Class))
            ∙ sym (ap accounts_of split.is ∙ accounts_split split.before split.after name was)

    pub written_keeps : (block index value : ℕ) → is ≡ with_state was is.state → IsSoundView is
        → WritesWord was.state block index value is.state → KeepsSeats loaders (with_changed loaders name is)
    written_keeps block index value same sound writes =
        keeps_with same sound (λ space. write_keeps space was.state is.state block index value writes)

    pub freed_keeps_seats : (block : ℕ) → is ≡ with_state was is.state → IsSoundView is
        → FreesBlock was.state block is.state → KeepsSeats loaders (with_changed loaders name is)
    freed_keeps_seats block same sound frees = keeps_with same sound (λ space. free_keeps space was.state is.state block frees)

    -- And the words in use stay.
    used_with : used_by is.state ≡ used_by was.state
        → used_at (named (with_changed loaders name is) name) ≡ used_at (named loaders name)
    used_with same = ap used_at (named_changed_same loaders name was is found) ∙ same ∙ sym (ap used_at found)

    pub written_uses : (block index value : ℕ) → WritesWord was.state block index value is.state
        → used_at (named (with_changed loaders name is) name) ≡ used_at (named loaders name)
    written_uses block index value writes = used_with (ap used_by writes.after)

    pub freed_uses : (block : ℕ) → FreesBlock was.state block is.state
        → used_at (named (with_changed loaders name is) name) ≡ used_at (named loaders name)
    freed_uses block frees = used_with (ap used_by frees.after
        ∙ freed_used (space_at frees.found.start) was.state block
        (with_new (arena_of (space_at frees.found.start) was.state).kept frees.found.start (length frees.found.contents)))
