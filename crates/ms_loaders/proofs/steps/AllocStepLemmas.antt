-- An allocation of a system as a whole, tallies aside: it leaves all accounts served, so pool and
-- loaders together, and it is a step of their machine, whatever it answers. For `System::allocate`.
use Rattle.std.proofs.Common.{◌≡◌, ℕ, Some, Result, Ok, Err, List, [], ◌∷◌, ◌++◌, refl, sym, ap, ◌∙◌, subst, inl, inr}
use Rattle.std.specs.Prelude.{slice_set}
use Rattle.ms_base.specs.declared.kind.Space.{Space}
use Rattle.ms_base.specs.declared.kind.Space.TheVariants.{NonClass, Class}
use Rattle.ms_base.specs.declared.span.Chunk.{Chunk}
use Rattle.ms_base.specs.declared.span.Block.{Block}
use Rattle.ms_base.specs.declared.refusal.Refusal.{Refusal}
use Rattle.ms_base.specs.declared.step.Reply.{Reply}
use Rattle.ms_base.specs.declared.step.Reply.TheVariants.{At, Refused}
use Rattle.ms_base.specs.Live.{block_words}
use Rattle.ms_base.specs.Names.{named, with_new, with_changed}
use Rattle.ms_base.specs.Place.{last_index}
use Rattle.ms_base.specs.State.{ArenaState, arena_of}
use Rattle.ms_base.specs.Transition.{zeroed, Transition}
use Rattle.ms_base.specs.Request.{alloc_in}
use Rattle.ms_base.proofs.arena.BlockLemmas.{arena_there}
use Rattle.ms_pool.specs.Account.{AccountState, AreChunks}
use Rattle.ms_pool.specs.Ledger.{Ledger, Serves, IsSoundLedger, opened_in}
use Rattle.ms_pool.specs.Calls.{tallied}
use Rattle.ms_pool.specs.Source.{LeavesRest}
use Rattle.ms_pool.proofs.ledger.LedgerOpenLemmas.{tallied_serves}
use Rattle.ms_pool.proofs.ledger.KeepsLemmas.{Keeps, keeps_where_tallied, serves_where_tallied, keeps_rest}
use Rattle.ms_pool.proofs.ledger.LoanAtLemmas.{contains_at}
use Rattle.ms_pool.proofs.ledger.GrownAccountLemmas.{GrownWell, grown_well, grown_keeps_others}
use Rattle.ms_pool.proofs.ledger.TakeLemmas.{lent_serves, lent_keeps_others}
use Rattle.ms_arena.specs.Arena.{ArenaView, account_of}
use Rattle.ms_loader.specs.Loader.{LoaderView, account_in, owner_in, IsSoundView, IsArenaOf, AllocatesBlock}
use Rattle.ms_loader.specs.Loader.{AfterAlloc}
use Rattle.ms_loaders.specs.System.{machine_of, AreTogether}
use Rattle.ms_loaders.proofs.steps.OutcomeLemmas.{SameBut, GrewAtAll, TookAtAll, GrownBy, LentBy, IsMade, Outcome}
use Rattle.ms_loaders.proofs.steps.AskedLemmas.{outcome}
use Rattle.ms_loaders.proofs.steps.ServedLemmas.{KeepsOther, block_keeps, apart_of}
use Rattle.ms_loaders.proofs.steps.StillTogetherLemmas.{own_sound, own_served, together_after}
use Rattle.ms_loaders.proofs.steps.StepLemmas.{alloc_answers_at}
use Rattle.ms_loaders.proofs.steps.CauseLemmas.{alloc_answers_why}

-- The account of an arena with other chunks.
abbrev with_chunks : AccountState → List Chunk → AccountState
with_chunks account chunks = record account { chunks = chunks }

-- What a call leaves of the pool for an account: the account is served with these chunks, and
-- nothing changes but its loans.
record LeavesServed (old new : Ledger) (account : AccountState) (chunks : List Chunk) : Type 0 where
  own : Serves new (with_chunks account chunks)
  keeps : Keeps account.owner old new

same_leaves : (old new : Ledger) (account : AccountState) (chunks : List Chunk) → SameBut old new
    → chunks ≡ account.chunks
    → Serves old account
    → LeavesServed old new account chunks
same_leaves old new account chunks but same served = record {
  own = subst (λ (l : List Chunk). Serves new (with_chunks account l)) (sym same)
      (serves_where_tallied old new account (record { tallies = but.tallies; is = but.is }) served);
  keeps = keeps_where_tallied account.owner old new (record { tallies = but.tallies; is = but.is });
}

-- So it is of an arena that is answered by a block, by what was asked of the pool.
module _ (was is : ArenaView) (old new : Ledger) (sound : IsSoundLedger old) (served : Serves old (account_of was))
    (chunks : AreChunks was.space was.books.chunks) where
  grown_leaves : GrownBy was.space old new was.books is.books
      → LeavesServed old new (account_of was) is.books.chunks
  grown_leaves grown = record {
    own = subst (λ (l : List Chunk). Serves new (with_chunks (account_of was) l)) (sym grown.chunks)
        (subst (λ (l : Ledger). Serves l
        (with_chunks (account_of was) (slice_set was.books.chunks (last_index was.books) grown.greater)))
        (sym grown.ledger) well.served);
    keeps = subst (Keeps was.owner old) (sym grown.ledger) (record {
      others = λ other differs.
          grown_keeps_others old (account_of was) grown.chunk grown.greater other sound served chunks
          (contains_at was.books.chunks (last_index was.books) grown.chunk grown.at_it) well.start differs;
      given = refl;
      opened = refl;
      limits = refl;
    });
  }
    where
      well : GrownWell old (account_of was) (last_index was.books) grown.chunk grown.greater grown.total grown.may
      well = grown_well old (account_of was) (last_index was.books) grown.chunk grown.greater grown.total grown.may
          sound served chunks grown.at_it grown.grows

  lent_leaves : (n : ℕ) → LentBy was.space was.owner n old new was.books is.books
      → LeavesServed old new (account_of was) is.books.chunks
  lent_leaves n lent = record {
    own = subst (λ (l : List Chunk). Serves new (with_chunks (account_of was) l)) (sym lent.chunks)
        (subst (λ (l : Ledger). Serves l (with_chunks (account_of was) (was.books.chunks ++ lent.chunk ∷ [])))
        (sym lent.ledger)
        (lent_serves (tallied old lent.tallies) (account_of was) lent.chunk
        (tallied_serves old lent.tallies (account_of was) served)));
    keeps = subst (Keeps was.owner old) (sym lent.ledger) (record {
      others = λ other differs.
          lent_keeps_others (tallied old lent.tallies) was.space was.owner lent.chunk other differs;
      given = refl;
      opened = refl;
      limits = refl;
    });
  }

  made_leaves : (words : ℕ) (block : Block) → IsMade was words old block is new
      → LeavesServed old new (account_of was) is.books.chunks
  made_leaves words block made = elim made.how [
    | inl stays ↦ same_leaves old new (account_of was) is.books.chunks
        (record { tallies = old.tallies; is = stays.1 }) stays.0 served
    | inr other ↦ elim other [
      | inl grown ↦ grown_leaves grown
      | inr lent ↦ lent_leaves (block_words words) lent
    ]
  ]

-- What an allocation leaves of the pool for its loader's account in the space, and for all others.
pub record LeavesAllServed (space : Space) (old new : Ledger) (was is : LoaderView) : Type 0 where
  pub own : Serves new (account_in space is)
  pub rest : LeavesRest Serves opened_in (λ (ledger : Ledger). ledger.limits) (owner_in space was) old new

-- From what is left for the account as it was.
leaves_all : (space : Space) (old new : Ledger) (was is : LoaderView) → owner_in space is ≡ owner_in space was
    → LeavesServed old new (account_in space was) (arena_of space is.state).chunks
    → LeavesAllServed space old new was is
leaves_all space old new was is owner leaves = record {
  own = subst (λ (n : ℕ). Serves new (record { owner = n; space = space; chunks = (arena_of space is.state).chunks }))
      (sym owner) leaves.own;
  rest = keeps_rest (owner_in space was) old new leaves.keeps;
}

owner_stays : (space : Space) (was is : LoaderView) → KeepsOther space was is → (one : Space)
    → owner_in one is ≡ owner_in one was
owner_stays space was is keeps NonClass = keeps.owner
owner_stays space was is keeps Class = keeps.class_owner

-- The account of a loader's arena is the loader's, and its chunks after an allocation are the
-- loader's.
arena_account : (space : Space) (v : LoaderView) (arena : ArenaView) → IsArenaOf space v arena
    → account_of arena ≡ account_in space v
arena_account space v arena its = λ i. record {
  owner = its.owner i;
  space = its.space_is i;
  chunks = ap (λ (books : ArenaState). books.chunks) its.books i;
}

pub after_chunks : (space : Space) (was is : LoaderView) (name : ℕ) (arena : ArenaView) (made : Block)
    → AfterAlloc space was name arena (Ok made) is
    → (arena_of space is.state).chunks ≡ arena.books.chunks
after_chunks space was is name arena made follows =
    ap (λ (v : LoaderView). (arena_of space v.state).chunks) follows.1
    ∙ ap (λ (a : ArenaState). a.chunks)
    (arena_there space (record was.state { blocks = with_new was.state.blocks name (zeroed made.start made.words) })
    arena.books)

asked_leaves : (space : Space) (old new : Ledger) (was is : LoaderView) (name words : ℕ)
    (answer : Result Block Refusal) (arena after : ArenaView)
    → IsArenaOf space was arena → Outcome arena words old answer after new → AfterAlloc space was name after answer is
    → IsSoundLedger old → IsSoundView was → Serves old (account_in space was)
    → LeavesServed old new (account_in space was) (arena_of space is.state).chunks
asked_leaves space old new was is name words (Ok made) arena after its how follows ledger_sound sound served =
    subst (λ (l : List Chunk). LeavesServed old new (account_in space was) l)
    (sym (after_chunks space was is name after made follows))
    (subst (λ (a : AccountState). LeavesServed old new a after.books.chunks) account_is
    (made_leaves arena after old new ledger_sound (subst (Serves old) (sym account_is) served)
    (subst (λ (a : AccountState). AreChunks a.space a.chunks) (sym account_is) (sound.chunks space)) words made how))
  where
    account_is : account_of arena ≡ account_in space was
    account_is = arena_account space was arena its
asked_leaves space old new was is name words (Err refusal) arena after its how follows ledger_sound sound served =
    same_leaves old new (account_in space was) (arena_of space is.state).chunks how.ledger
    (ap (λ (v : LoaderView). (arena_of space v.state).chunks) follows) served

pub alloc_serves_all : (space : Space) (old new : Ledger) (name words : ℕ) (was is : LoaderView)
    (answer : Result Block Refusal)
    → AllocatesBlock GrewAtAll TookAtAll old.limits.policy space was name words old answer is new → IsSoundLedger old
    → IsSoundView was → Serves old (account_in space was)
    → LeavesAllServed space old new was is
alloc_serves_all space old new name words was is answer allocates ledger_sound sound served =
    leaves_all space old new was is
    (owner_stays space was is
    (block_keeps GrewAtAll TookAtAll old.limits.policy space was is name words old new answer allocates) space)
    (leaves allocates)
  where
    leaves : AllocatesBlock GrewAtAll TookAtAll old.limits.policy space was name words old answer is new
        → LeavesServed old new (account_in space was) (arena_of space is.state).chunks
    leaves (inl refused) = same_leaves old new (account_in space was) (arena_of space is.state).chunks
        (record { tallies = old.tallies; is = refused.source })
        (ap (λ (v : LoaderView). (arena_of space v.state).chunks) refused.loader) served
    leaves (inr asks) =
        asked_leaves space old new was is name words answer asks.was asks.is asks.arena
        (outcome asks.was words old answer asks.is new (apart_of space was asks.was sound asks.arena) asks.allocates)
        asks.follows ledger_sound sound served

-- The reply that an allocation's answer is.
abbrev pub reply_to : Result Block Refusal → Reply
reply_to (Ok made) = At made.start
reply_to (Err refusal) = Refused refusal

-- So pool and loaders stay together, and the allocation is a step of their machine.
pub alloc_goes : (space : Space) (old new : Ledger) (loaders : List (ℕ × LoaderView)) (name block words : ℕ)
    (was is : LoaderView) (answer : Result Block Refusal)
    → named loaders name ≡ Some was
    → AllocatesBlock GrewAtAll TookAtAll old.limits.policy space was block words old answer is new
    → IsSoundLedger new → IsSoundView is → AreTogether old loaders
    → AreTogether new (with_changed loaders name is)
    × Transition (machine_of old loaders) (alloc_in space name block words) (reply_to answer)
    (machine_of new (with_changed loaders name is))
alloc_goes space old new loaders name block words was is answer found allocates ledger_sound sound its =
    (together, goes answer refl)
  where
    leaves : LeavesAllServed space old new was is
    leaves = alloc_serves_all space old new block words was is answer allocates its.ledger_sound
        (own_sound old loaders name was found its) (own_served space old loaders name was found its.served)

    together : AreTogether new (with_changed loaders name is)
    together = together_after space old new loaders name block words was is answer found allocates leaves.own
        leaves.rest.others leaves.rest.counted ledger_sound sound its

    goes : (a : Result Block Refusal) → answer ≡ a
        → Transition (machine_of old loaders) (alloc_in space name block words) (reply_to a)
        (machine_of new (with_changed loaders name is))
    goes (Ok made) e =
        alloc_answers_at space old new loaders name block words was is answer made e found allocates its together
    goes (Err refusal) e =
        alloc_answers_why space old new loaders name block words was is answer refusal e found allocates its
