-- An allocation over the lock, arena by arena: its events, and that it is whole at the one where it
-- is done. For the lemmas of `answer`.
use Rattle.std.proofs.Common.{◌≡◌, ℕ, Bool, true, false, Option, Some, None, Result, Ok, Err, List, [], ◌∷◌, inl, inr}
use Rattle.std.proofs.Common.{refl, sym, ap, ◌∙◌, subst}
use Rattle.ms_base.specs.declared.kind.Space.{Space}
use Rattle.ms_base.specs.declared.policy.Policy.{Policy}
use Rattle.ms_base.specs.declared.span.Chunk.{Chunk}
use Rattle.ms_base.specs.declared.span.Span.{Span}
use Rattle.ms_base.specs.declared.span.Block.{Block}
use Rattle.ms_base.specs.declared.refusal.Refusal.{Refusal}
use Rattle.ms_base.specs.Live.{block_words}
use Rattle.ms_base.specs.Place.{placed, current}
use Rattle.ms_base.specs.Asks.{asks_growth, total_asked, may_enlarge}
use Rattle.ms_base.specs.State.{ArenaState, Limits}
use Rattle.ms_pool.specs.Account.{AccountState}
use Rattle.ms_pool.specs.Ledger.{Ledger, Serves as ServesIn}
use Rattle.ms_pool.specs.Calls.{Took}
use Rattle.ms_pool.proofs.ledger.KeepsLemmas.{serves_where_tallied}
use Rattle.ms_pool.proofs.ledger.GrewLemmas.{grow_refused_raises}
use Rattle.ms_arena.specs.Arena.{ArenaView, account_of}
use Rattle.ms_arena.specs.Alloc.{with_block_grown, TakesNew, GrowsCurrent, AfterTake, AfterGrow, AsksChunk, FindsPlace}
use Rattle.ms_arena.specs.Alloc.{Allocates}
use Rattle.ms_loader.specs.Loader.{LoaderView, account_in, AllocatesBlock}
use Rattle.ms_shared.specs.History.{Event}
use Rattle.ms_shared.specs.SeatView.{SeatState, ServesBy, OverLock}
use Rattle.ms_shared.specs.LockCalls.{TookOver, GrewOver}
use Rattle.ms_shared.proofs.LockCallLemmas.{IsCall, served_by_pool, serves_then}
use Rattle.ms_run.specs.Acts.{LacksGrowth, GrewSeen, IsAllocation, Asks, start_of, HasMade}
use Rattle.ms_run.proofs.ActLemmas.{made_none, made_one, made_two}

-- The events of a relation between pools: none, one, or one after a refused growth.
abbrev AskedBy : AccountState → (Ledger → Ledger → Type 0) → List Event → Type 0
AskedBy account whole [] = (pool : Ledger) → whole pool pool
AskedBy account whole (event ∷ []) = ServesIn event.0 account × whole event.0 event.1
AskedBy account whole (event ∷ other ∷ []) =
    LacksGrowth account event × ServesIn other.0 account × whole other.0 other.1
AskedBy account whole _ = ⊥

-- A weaker relation has the same events.
asked_weaker : (account : AccountState) (whole other : Ledger → Ledger → Type 0)
    → ((before after : Ledger) → whole before after → other before after) → (events : List Event)
    → AskedBy account whole events → AskedBy account other events
asked_weaker account whole other weaker [] asked = λ pool. weaker pool pool (asked pool)
asked_weaker account whole other weaker (e ∷ []) asked = (asked.0, weaker e.0 e.1 asked.1)
asked_weaker account whole other weaker (e ∷ f ∷ []) asked = (asked.0, asked.1, weaker f.0 f.1 asked.2)
asked_weaker account whole other weaker (e ∷ f ∷ g ∷ es) asked = absurd asked

made_weaker : (old new : SeatState) (account : AccountState) (whole other : Ledger → Ledger → Type 0)
    → ((before after : Ledger) → whole before after → other before after)
    → HasMade old new (AskedBy account whole) → HasMade old new (AskedBy account other)
made_weaker old new account whole other weaker made = record {
  made = made.made;
  lock = made.lock;
  events = made.events;
  number = made.number;
  sound = made.sound;
  are_so = asked_weaker account whole other weaker made.made made.are_so;
}

-- What leaves the seat as it was is no event.
made_still : (old new : SeatState) (account : AccountState) (whole : Ledger → Ledger → Type 0) → new ≡ old
    → ((pool : Ledger) → whole pool pool) → HasMade old new (AskedBy account whole)
made_still old new account whole same so =
    subst (λ (s : SeatState). HasMade old s (AskedBy account whole)) (sym same)
    (made_none old (AskedBy account whole) so)

module _ (policy : Policy) (was : ArenaView) (n : ℕ) (answer : Result Block Refusal) (is : ArenaView)
    (after : SeatState) where
  -- The events of a relation that the arena's call is.
  abbrev MadeBy : (Ledger → Ledger → Type 0) → SeatState → Type 0
  MadeBy whole before = HasMade before after (AskedBy (account_of was) whole)

  served_then : {call : Ledger → Ledger → Type 0} (before middle : SeatState) (its : OverLock call before middle)
      → ServesBy before.knows (account_of was) → ServesIn its.before (account_of was)
  served_then before middle its serves = served_by_pool its.before before.knows (account_of was) its.known serves

  abbrev WholeTakes : Ledger → Ledger → Type 0
  WholeTakes before later = TakesNew Took before.limits.policy was n before answer is later

  took : (before : SeatState) → TakesNew TookOver policy was n before answer is after
      → policy ≡ before.knows.limits.policy → ServesBy before.knows (account_of was) → MadeBy WholeTakes before
  took before its same serves =
      made_one before after its.asked.event (AskedBy (account_of was) WholeTakes) (
        served_then before after its.asked.event serves,
        record {
          lent = its.lent;
          asked = its.asked.event.called;
          follows = subst (λ (p : Policy). AfterTake p was n its.lent answer is)
              (same ∙ ap (λ (l : Limits). l.policy) (sym its.asked.event.known.limits)) its.follows;
        },
      )

  -- A growth that was refused leaves the account served.
  served_still : (start total : ℕ) (may : Bool) (refusal : Refusal) (before middle : SeatState)
      (its : GrewOver before (account_of was) start total may (Err refusal) middle)
      → ServesBy before.knows (account_of was) → ServesBy middle.knows (account_of was)
  served_still start total may refusal before middle its serves =
      let event = its.event in let call : IsCall before middle event.before event.after =
      record {
        sound = event.sound;
        sound_after = event.sound_after;
        known = event.known;
        left = event.left;
      } in
      serves_then before middle event.before event.after call (account_of was) (account_of was) serves refl
      (serves_where_tallied event.before event.after (account_of was)
      (grow_refused_raises event.before (account_of was) event.called.chunk total may refusal event.after
      event.called.after)
      (served_by_pool event.before before.knows (account_of was) event.known serves))

  abbrev WholeGrows : Chunk → Ledger → Ledger → Type 0
  WholeGrows chunk before later = GrowsCurrent GrewSeen Took before.limits.policy was chunk n before answer is later

  grew : (chunk : Chunk) (grown : Result Span Refusal) (before middle : SeatState)
      → GrewOver before (account_of was) chunk.start (total_asked was.books n)
      (may_enlarge was.kind was.space was.books chunk) grown middle
      → AfterGrow TookOver policy was chunk n grown middle answer is after → policy ≡ before.knows.limits.policy
      → ServesBy before.knows (account_of was)
      → MadeBy (WholeGrows chunk) before
  grew chunk (Ok span) before middle its follows same serves =
      subst (λ (s : SeatState). HasMade before s (AskedBy (account_of was) (WholeGrows chunk))) (sym follows.0)
      (made_one before middle its.event (AskedBy (account_of was) (WholeGrows chunk)) (
        served_then before middle its.event serves,
        record {
          middle = its.event.after;
          grown = Ok span;
          asked = its.event.called;
          follows = (
            refl,
            follows.1,
            subst (λ (p : Policy). is ≡ with_block_grown p was chunk n)
                (same ∙ ap (λ (l : Limits). l.policy) (sym its.event.known.limits)) follows.2,
          );
        },
      ))
  grew chunk (Err refusal) before middle its follows same serves =
      let event = its.event in let other = follows.asked.event in
      made_two before middle after event other (AskedBy (account_of was) (WholeGrows chunk)) (
        (
          refusal,
          record {
            start = chunk.start;
            total = total_asked was.books n;
            enlarges = may_enlarge was.kind was.space was.books chunk;
            served = served_then before middle event serves;
            grew = event.called;
          },
        ),
        served_then middle after other
            (served_still chunk.start (total_asked was.books n) (may_enlarge was.kind was.space was.books chunk) refusal
            before middle its serves),
        record {
          middle = other.before;
          grown = Err refusal;
          asked = refl;
          follows = record {
            lent = follows.lent;
            asked = other.called;
            follows = subst (λ (p : Policy). AfterTake p was n follows.lent answer is)
                (same ∙ sym (ap (λ (s : SeatState). s.knows.limits.policy) event.left)
                ∙ ap (λ (l : Limits). l.policy) (sym other.known.limits)) follows.follows;
          };
        },
      )

  abbrev WholeAsks : Option Chunk → Bool → Ledger → Ledger → Type 0
  WholeAsks o b before later = AsksChunk GrewSeen Took before.limits.policy was n o b before answer is later

  asked : (o : Option Chunk) (b : Bool) (before : SeatState)
      → AsksChunk GrewOver TookOver policy was n o b before answer is after → policy ≡ before.knows.limits.policy
      → ServesBy before.knows (account_of was)
      → MadeBy (WholeAsks o b) before
  asked (Some chunk) true before its same serves =
      grew chunk its.grown before its.middle its.asked its.follows same serves
  asked (Some chunk) false before its same serves = took before its same serves
  asked None true before its same serves = took before its same serves
  asked None false before its same serves = took before its same serves

  abbrev WholeServes : Option (ℕ × ArenaState) → Ledger → Ledger → Type 0
  WholeServes o before later = FindsPlace GrewSeen Took before.limits.policy was n o before answer is later

  served : (o : Option (ℕ × ArenaState)) (before : SeatState)
      → FindsPlace GrewOver TookOver policy was n o before answer is after → policy ≡ before.knows.limits.policy
      → ServesBy before.knows (account_of was)
      → MadeBy (WholeServes o) before
  served (Some place) before its same serves =
      made_still before after (account_of was) (WholeServes (Some place)) its.2 (λ pool. (its.0, its.1, refl))
  served None before its same serves =
      asked (current was.books) (asks_growth was.kind was.space was.books (current was.books) n) before its same serves

-- An allocation in an arena, and of a block, as one event sees it.
abbrev ArenaAsks : ArenaView → ℕ → Result Block Refusal → ArenaView → Ledger → Ledger → Type 0
ArenaAsks was words answer is pool later = Allocates GrewSeen Took pool.limits.policy was words pool answer is later

abbrev BlockAsks : Space → LoaderView → LoaderView → ℕ → ℕ → Result Block Refusal → Ledger → Ledger → Type 0
BlockAsks space was is name words answer pool later =
    AllocatesBlock GrewSeen Took pool.limits.policy space was name words pool answer is later

arena_made : (policy : Policy) (was : ArenaView) (words : ℕ) (before : SeatState) (answer : Result Block Refusal)
    (is : ArenaView) (after : SeatState)
    → Allocates GrewOver TookOver policy was words before answer is after → policy ≡ before.knows.limits.policy
    → ServesBy before.knows (account_of was)
    → HasMade before after (AskedBy (account_of was) (ArenaAsks was words answer is))
arena_made policy was words before answer is after (inl refused) same serves =
    made_still before after (account_of was) (ArenaAsks was words answer is) refused.source
    (λ pool. inl (record {
      refusal = refused.refusal;
      answer_is = refused.answer_is;
      cause = refused.cause;
      arena = refused.arena;
      source = refl;
    }))
arena_made policy was words before answer is after (inr its) same serves =
    made_weaker before after (account_of was)
    (λ pool later. FindsPlace GrewSeen Took pool.limits.policy was (block_words words)
    (placed was.books (block_words words)) pool answer is later)
    (ArenaAsks was words answer is) (λ pool later whole. inr (its.0, whole))
    (served policy was (block_words words) answer is after (placed was.books (block_words words)) before its.1 same
    serves)

block_asked : (space : Space) (policy : Policy) (was is : LoaderView) (name words : ℕ) (old new : SeatState)
    (answer : Result Block Refusal)
    → AllocatesBlock GrewOver TookOver policy space was name words old answer is new
    → policy ≡ old.knows.limits.policy → ServesBy old.knows (account_in space was)
    → HasMade old new (AskedBy (account_in space was) (BlockAsks space was is name words answer))
block_asked space policy was is name words old new answer (inl refused) same serves =
    made_still old new (account_in space was) (BlockAsks space was is name words answer) refused.source
    (λ pool. inl (record {
      refusal = refused.refusal;
      answer_is = refused.answer_is;
      cause = refused.cause;
      loader = refused.loader;
      source = refl;
    }))
block_asked space policy was is name words old new answer (inr asks) same serves =
    made_weaker old new (account_in space was) (ArenaAsks asks.was words answer asks.is)
    (BlockAsks space was is name words answer)
    (λ pool later whole. inr (record {
      unused = asks.unused;
      was = asks.was;
      is = asks.is;
      arena = asks.arena;
      allocates = whole;
      follows = asks.follows;
    }))
    (subst (λ (account : AccountState). HasMade old new (AskedBy account (ArenaAsks asks.was words answer asks.is)))
    account_is
    (arena_made policy asks.was words old answer asks.is new asks.allocates same
    (subst (ServesBy old.knows) (sym account_is) serves)))
  where
    account_is : account_of asks.was ≡ account_in space was
    account_is = λ i. record {
      owner = asks.arena.owner i;
      space = asks.arena.space_is i;
      chunks = ap (λ (books : ArenaState). books.chunks) asks.arena.books i;
    }

asks_from : (space : Space) (was is : LoaderView) (name words : ℕ) (answer : Result ℕ Refusal) (events : List Event)
    → AskedBy (account_in space was) (λ before after. IsAllocation space was is name words answer before after) events
    → Asks space was is name words answer events
asks_from space was is name words answer [] asked = asked
asks_from space was is name words answer (e ∷ []) asked = asked
asks_from space was is name words answer (e ∷ f ∷ []) asked = asked
asks_from space was is name words answer (e ∷ f ∷ g ∷ es) asked = asked

pub block_made : (space : Space) (policy : Policy) (was is : LoaderView) (name words : ℕ) (old new : SeatState)
    (answer : Result Block Refusal)
    → AllocatesBlock GrewOver TookOver policy space was name words old answer is new
    → policy ≡ old.knows.limits.policy → ServesBy old.knows (account_in space was) → HasMade old new (Asks space was is name words (start_of answer))
block_made space policy was is name words old new answer allocates same serves =
    let made = made_weaker old new (account_in space was) (BlockAsks space was is name words answer)
    (λ pool later. IsAllocation space was is name words (start_of answer) pool later)
    (λ pool later whole. record { made = answer; answer_is = refl; allocates = whole })
    (block_asked space policy was is name words old new answer allocates same serves) in
    record {
      made = made.made;
      lock = made.lock;
      events = made.events;
      number = made.number;
      sound = made.sound;
      are_so = asks_from space was is name words (start_of answer) made.made made.are_so;
    }
