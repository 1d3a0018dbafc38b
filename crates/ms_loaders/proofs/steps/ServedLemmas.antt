-- The pool serves the loaders' accounts, and lends to no other, after a loader's allocation.
use Rattle.std.proofs.Common.{◌≡◌, ◌≢◌, ◌+◌, ℕ, suc, Bool, true, false, cond, ◌||◌, Some, Result, Ok}
use Rattle.std.proofs.Common.{Err, List, [], ◌∷◌, ◌++◌, map, length, refl, sym, ap, ◌∙◌, subst, inl, inr, arith}
use Rattle.std.specs.Prelude.{◌==◌}
use Rattle.std.specs.Ordering.{nat_cmp}
use Rattle.std.specs.List.{All, AllByRecursion, count_by, list_any, flat_map}
use Rattle.std.specs.Map.{values_of}
use Rattle.std.specs.BTreeMap.{is_at}
use Rattle.std.proofs.lemmas.Bool.{eq-eqb}
use Rattle.std.proofs.lemmas.List.{map-append}
use Rattle.std.proofs.lemmas.List.Concat.{flat_map-append}
use Rattle.std.proofs.lemmas.List.Sums.{sum_by-cons, sum_by-append}
use Rattle.std.proofs.lemmas.List.Elements.{recursion_from_All, All-from_recursion}
use Rattle.ms_base.specs.declared.kind.Space.{Space}
use Rattle.ms_base.specs.declared.kind.Space.TheVariants.{NonClass, Class}
use Rattle.ms_base.specs.declared.policy.Policy.{Policy}
use Rattle.ms_base.specs.declared.span.Chunk.{Chunk}
use Rattle.ms_base.specs.declared.span.Block.{Block}
use Rattle.ms_base.specs.declared.refusal.Refusal.{Refusal}
use Rattle.ms_base.specs.Interval.{are_apart}
use Rattle.ms_base.specs.Held.{words_of}
use Rattle.ms_base.specs.Spaces.{other_space, by_space}
use Rattle.ms_base.specs.Committed.{is_among}
use Rattle.ms_base.specs.Names.{named, with_new, with_changed}
use Rattle.ms_base.specs.State.{ArenaState, arena_of}
use Rattle.ms_base.specs.Transition.{zeroed}
use Rattle.ms_base.proofs.entries.EntryLemmas.{Split, split_at, values_split}
use Rattle.ms_base.proofs.runs.ApartLemmas.{list_any-with}
use Rattle.ms_base.proofs.arena.BlockLemmas.{arena_elsewhere}
use Rattle.ms_pool.specs.Account.{AccountState}
use Rattle.ms_pool.specs.Ledger.{Loan, Ledger}
use Rattle.ms_arena.specs.Arena.{ArenaView}
use Rattle.ms_arena.specs.Alloc.{TakeRelation, GrowRelation}
use Rattle.ms_loader.specs.Loader.{LoaderView, account_in, IsSoundView, AllocatesBlock, AfterAlloc, IsArenaOf}
use Rattle.ms_loaders.specs.System.{accounts_of, owners_of, AreDistinct}
use Rattle.ms_loaders.proofs.steps.OutcomeLemmas.{GrewAtAll, TookAtAll}
use Rattle.ms_loaders.proofs.steps.AskedLemmas.{outcome}
use Rattle.ms_loaders.proofs.sums.FitLemmas.{HasOwner, owner_of}
use Rattle.ms_loaders.proofs.steps.HasOwnerLemmas.{outcome_has}

-- The accounts of loaders before, at and after a name.
pub accounts_split : (b a : List (ℕ × LoaderView)) (name : ℕ) (v : LoaderView)
    → accounts_of (b ++ (name, v) ∷ a) ≡ accounts_of b ++ account_in NonClass v ∷ account_in Class v ∷ accounts_of a
accounts_split b a name v =
    ap (flat_map (λ (loader : LoaderView). account_in NonClass loader ∷ account_in Class loader ∷ []))
    (values_split b a name v)
    ∙ flat_map-append (λ (loader : LoaderView). account_in NonClass loader ∷ account_in Class loader ∷ []) (values_of b)
    (v ∷ values_of a)

pub owners_split : (b a : List (ℕ × LoaderView)) (name : ℕ) (v : LoaderView)
    → owners_of (b ++ (name, v) ∷ a) ≡ owners_of b ++ v.owner ∷ v.class_owner ∷ owners_of a
owners_split b a name v =
    ap (map owner_of) (accounts_split b a name v)
    ∙ map-append owner_of (accounts_of b) (account_in NonClass v ∷ account_in Class v ∷ accounts_of a)

-- How often a number stands among the owners.
abbrev pub times : ℕ → List ℕ → ℕ
times number numbers = count_by (λ other. other == number) numbers

abbrev pub one_if : Bool → ℕ
one_if b = cond b 1 0

abbrev pub is_it : ℕ → ℕ → ℕ
is_it number other = one_if (other == number)

pub times_split : (number : ℕ) (b a : List ℕ) (x y : ℕ)
    → times number (b ++ x ∷ y ∷ a) ≡ times number b + is_it number x + is_it number y + times number a
times_split number b a x y =
    omega (
      arith,
      sum_by-append (is_it number) b (x ∷ y ∷ a),
      sum_by-cons (is_it number) x (y ∷ a),
      sum_by-cons (is_it number) y a,
    )

pub it_is : (number : ℕ) → is_it number number ≡ 1
it_is number = ap one_if (eq-eqb number number refl)

-- Accounts of other owners are served still, by whatever was and is to serve.
pub served_still : (P Q : AccountState → Type 0) (owner : ℕ)
    → ((other : AccountState) → other.owner ≢ owner → P other → Q other)
    → (accounts : List AccountState) → times owner (map owner_of accounts) ≡ 0 → AllByRecursion P accounts
    → AllByRecursion Q accounts
served_still P Q owner each [] none all = tt
served_still P Q owner each (account ∷ accounts) none all = (
  each account
      (differs account.owner owner
      (omega (arith, none, sum_by-cons (is_it owner) account.owner (map owner_of accounts)))) all.0,
  served_still P Q owner each accounts
      (omega (arith, none, sum_by-cons (is_it owner) account.owner (map owner_of accounts))) all.1,
)
  where
    differs : (a b : ℕ) → is_it b a ≡ 0 → a ≢ b
    differs a b none same = omega (arith, none, it_is b, ap (is_it b) same)

pub all_parts : (P : AccountState → Type 0) (b a : List AccountState) (x y : AccountState)
    → AllByRecursion P (b ++ x ∷ y ∷ a) → AllByRecursion P b × P x × P y × AllByRecursion P a
all_parts P [] a x y all = (tt, all.0, all.1.0, all.1.1)
all_parts P (z ∷ b) a x y all = let rest = all_parts P b a x y all.1 in ((all.0, rest.0), rest.1, rest.2, rest.3)

pub all_joined : (P : AccountState → Type 0) (b a : List AccountState) (x y : AccountState) → AllByRecursion P b → P x
    → P y → AllByRecursion P a → AllByRecursion P (b ++ x ∷ y ∷ a)
all_joined P [] a x y before first second after = (first, (second, after))
all_joined P (z ∷ b) a x y before first second after = (before.0, all_joined P b a x y before.1 first second after)

-- A loader after its allocation in a space: its owners are the same, and its chunks of the other
-- space.
pub record KeepsOther (space : Space) (was is : LoaderView) : Type 0 where
  pub owner : is.owner ≡ was.owner
  pub class_owner : is.class_owner ≡ was.class_owner
  pub elsewhere : (arena_of (other_space space) is.state).chunks ≡ (arena_of (other_space space) was.state).chunks

pub same_account : (one : Space) (was is : LoaderView)
    → by_space one is.owner is.class_owner ≡ by_space one was.owner was.class_owner
    → (arena_of one is.state).chunks ≡ (arena_of one was.state).chunks → account_in one was ≡ account_in one is
same_account one was is owner chunks =
    ap (λ (n : ℕ). record { owner = n; space = one; chunks = (arena_of one was.state).chunks }) (sym owner)
    ∙ ap (λ (l : List Chunk). record { owner = by_space one is.owner is.class_owner; space = one; chunks = l })
    (sym chunks)

-- Its accounts are served, and those of the loaders round it.
pub served_in : (P Q : AccountState → Type 0) (space : Space) (b a : List AccountState) (was is : LoaderView)
    → KeepsOther space was is
    → AreDistinct (map owner_of b ++ was.owner ∷ was.class_owner ∷ map owner_of a)
    → ((other : AccountState) → other.owner ≢ (account_in space was).owner → P other → Q other)
    → Q (account_in space is)
    → AllByRecursion P (b ++ account_in NonClass was ∷ account_in Class was ∷ a)
    → AllByRecursion Q (b ++ account_in NonClass is ∷ account_in Class is ∷ a)
served_in P Q NonClass b a was is keeps distinct each own all =
    let parts = all_parts P b a (account_in NonClass was) (account_in Class was) all in
    let count = times_split was.owner (map owner_of b) (map owner_of a) was.owner was.class_owner in
    all_joined Q b a (account_in NonClass is) (account_in Class is)
    (served_still P Q was.owner each b (omega (arith, distinct was.owner, count, it_is was.owner)) parts.0) own
    (subst Q (same_account Class was is keeps.class_owner keeps.elsewhere)
    (served_still P Q was.owner each (account_in Class was ∷ [])
    (omega (arith, distinct was.owner, count, it_is was.owner, sum_by-cons (is_it was.owner) was.class_owner []))
    (parts.2, tt)).0)
    (served_still P Q was.owner each a (omega (arith, distinct was.owner, count, it_is was.owner)) parts.3)
served_in P Q Class b a was is keeps distinct each own all =
    let parts = all_parts P b a (account_in NonClass was) (account_in Class was) all in
    let count = times_split was.class_owner (map owner_of b) (map owner_of a) was.owner was.class_owner in
    all_joined Q b a (account_in NonClass is) (account_in Class is)
    (served_still P Q was.class_owner each b (omega (arith, distinct was.class_owner, count, it_is was.class_owner))
    parts.0)
    (subst Q (same_account NonClass was is keeps.owner keeps.elsewhere)
    (served_still P Q was.class_owner each (account_in NonClass was ∷ [])
    (omega (
      arith,
      distinct was.class_owner,
      count,
      it_is was.class_owner,
      sum_by-cons (is_it was.class_owner) was.owner [],
    )) (parts.1, tt)).0)
    own
    (served_still P Q was.class_owner each a (omega (arith, distinct was.class_owner, count, it_is was.class_owner))
    parts.3)

-- What holds of each account holds of each still where one loader changed in a space.
pub all_still : (P Q : AccountState → Type 0) (space : Space) (loaders : List (ℕ × LoaderView)) (name : ℕ)
    (was is : LoaderView) → named loaders name ≡ Some was → KeepsOther space was is → AreDistinct (owners_of loaders)
    → ((other : AccountState) → other.owner ≢ (account_in space was).owner → P other → Q other)
    → Q (account_in space is) → All P (accounts_of loaders) → All Q (accounts_of (with_changed loaders name is))
all_still P Q space loaders name was is found keeps distinct each own all =
    All-from_recursion Q (accounts_of (with_changed loaders name is))
    (subst (λ (l : List AccountState). AllByRecursion Q l) (sym now)
    (served_in P Q space (accounts_of split.before) (accounts_of split.after) was is keeps
    (rw (ap owners_of split.is ∙ owners_split split.before split.after name was) at distinct) each own
    (rw (ap accounts_of split.is
    ∙ accounts_split split.before split.after name was) at (recursion_from_All P (accounts_of loaders) all))))
  where
    split : Split loaders name was
    split = split_at loaders name was found

    now : accounts_of (with_changed loaders name is)
        ≡ accounts_of split.before ++ account_in NonClass is ∷ account_in Class is ∷ accounts_of split.after
    now = ap accounts_of (split.changed is) ∙ accounts_split split.before split.after name is

-- And the owners stay.
pub owners_stay : (space : Space) (loaders : List (ℕ × LoaderView)) (name : ℕ) (was is : LoaderView)
    → named loaders name ≡ Some was → KeepsOther space was is
    → owners_of (with_changed loaders name is) ≡ owners_of loaders
owners_stay space loaders name was is found keeps =
    let split = split_at loaders name was found in
    ap owners_of (split.changed is) ∙ owners_split split.before split.after name is
    ∙ ap (λ (n : ℕ). owners_of split.before ++ n ∷ is.class_owner ∷ owners_of split.after) keeps.owner
    ∙ ap (λ (n : ℕ). owners_of split.before ++ was.owner ∷ n ∷ owners_of split.after) keeps.class_owner
    ∙ sym (ap owners_of split.is ∙ owners_split split.before split.after name was)

pub own_is_among : (space : Space) (loaders : List (ℕ × LoaderView)) (name : ℕ) (v : LoaderView)
    → named loaders name ≡ Some v
    → is_among (owners_of loaders) (by_space space v.owner v.class_owner) ≡ true
own_is_among space loaders name v found =
    ap (λ (l : List ℕ). is_among l own) (ap owners_of split.is ∙ owners_split split.before split.after name v)
    ∙ there space
  where
    own : ℕ
    own = by_space space v.owner v.class_owner

    split : Split loaders name v
    split = split_at loaders name v found

    either : (b : Bool) {c : Bool} → c ≡ true → (b || c) ≡ true
    either true e = refl
    either false e = e

    there : (one : Space)
        → is_among (owners_of split.before ++ v.owner ∷ v.class_owner ∷ owners_of split.after)
        (by_space one v.owner v.class_owner) ≡ true
    there NonClass =
        list_any-with (λ other. other == v.owner) (owners_of split.before) v.owner
        (v.class_owner ∷ owners_of split.after)
        ∙ ap (λ b. b || list_any (λ other. other == v.owner)
        (owners_of split.before ++ v.class_owner ∷ owners_of split.after)) (eq-eqb v.owner v.owner refl)
    there Class =
        list_any-with (λ other. other == v.class_owner) (owners_of split.before) v.owner
        (v.class_owner ∷ owners_of split.after)
        ∙ either (v.owner == v.class_owner)
        (list_any-with (λ other. other == v.class_owner) (owners_of split.before) v.class_owner (owners_of split.after)
        ∙ ap (λ b. b || list_any (λ other. other == v.class_owner) (owners_of split.before ++ owners_of split.after))
        (eq-eqb v.class_owner v.class_owner refl))

-- What an allocation keeps of its loader, over any source.
pub block_keeps : {S : Type 0} (grew : GrowRelation S) (took : TakeRelation S) (policy : Policy) (space : Space)
    (was is : LoaderView) (name words : ℕ) (old new : S)
    (answer : Result Block Refusal) → AllocatesBlock grew took policy space was name words old answer is new
    → KeepsOther space was is
block_keeps grew took policy space was is name words old new answer (inl refused) = record {
  owner = ap (λ (v : LoaderView). v.owner) refused.loader;
  class_owner = ap (λ (v : LoaderView). v.class_owner) refused.loader;
  elsewhere = ap (λ (v : LoaderView). (arena_of (other_space space) v.state).chunks) refused.loader;
}
block_keeps grew took policy space was is name words old new answer (inr asks) = go answer asks.follows
  where
    go : (a : Result Block Refusal) → AfterAlloc space was name asks.is a is → KeepsOther space was is
    go (Ok block) follows = record {
      owner = ap (λ (v : LoaderView). v.owner) follows.1;
      class_owner = ap (λ (v : LoaderView). v.class_owner) follows.1;
      elsewhere = ap (λ (v : LoaderView). (arena_of (other_space space) v.state).chunks) follows.1
          ∙ ap (λ (a : ArenaState). a.chunks)
          (arena_elsewhere space
          (record was.state { blocks = with_new was.state.blocks name (zeroed block.start block.words) })
          asks.is.books);
    }
    go (Err refusal) follows = record {
      owner = ap (λ (v : LoaderView). v.owner) follows;
      class_owner = ap (λ (v : LoaderView). v.class_owner) follows;
      elsewhere = ap (λ (v : LoaderView). (arena_of (other_space space) v.state).chunks) follows;
    }

pub apart_of : (space : Space) (v : LoaderView) (arena : ArenaView) → IsSoundView v → IsArenaOf space v arena
    → are_apart (map words_of arena.books.chunks) ≡ true
apart_of space v arena sound its =
    subst (λ (books : ArenaState). are_apart (map words_of books.chunks) ≡ true) (sym its.books)
    (sound.chunks space).apart

pub block_has : (owners : List ℕ) (space : Space) (was is : LoaderView) (name words : ℕ) (old new : Ledger)
    (answer : Result Block Refusal) → IsSoundView was
    → AllocatesBlock GrewAtAll TookAtAll old.limits.policy space was name words old answer is new
    → is_among owners (by_space space was.owner was.class_owner) ≡ true
    → AllByRecursion (HasOwner owners) old.loans → AllByRecursion (HasOwner owners) new.loans
block_has owners space was is name words old new answer sound (inl refused) own all =
    subst (λ (l : List Loan). AllByRecursion (HasOwner owners) l) (ap (λ (l : Ledger). l.loans) (sym refused.source))
    all
block_has owners space was is name words old new answer sound (inr asks) own all =
    outcome_has owners asks.was asks.is words old new answer
    (outcome asks.was words old answer asks.is new (apart_of space was asks.was sound asks.arena) asks.allocates)
    (ap (is_among owners) asks.arena.owner ∙ own) all

-- Changing a loader leaves as many as there were.
pub length_changed : {X : Type 0} (entries : List (ℕ × X)) (name : ℕ) (x : X)
    → length (with_changed entries name x) ≡ length entries
length_changed [] name x = refl
length_changed {X} (e ∷ es) name x =
    elim (is_at (nat_cmp name) e.0) as (λ b. length (cond b ((e.0, x) ∷ es) (e ∷ with_changed es name x))
    ≡ length (e ∷ es)) [
      | true ↦ refl
      | false ↦ ap suc (length_changed es name x)
    ]
