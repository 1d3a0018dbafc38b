-- A member has one seat, with the pool or without; and what its loader's calls answer is what the
-- member answers.
use Rattle.std.proofs.Common.{◌≡◌, ℕ, Option, Some, None, Result, Ok, Err, refl, sym, ap, ◌∙◌, subst, inl, inr}
use Rattle.ms_base.specs.declared.kind.Space.{Space}
use Rattle.ms_base.specs.declared.span.Block.{Block}
use Rattle.ms_base.specs.declared.refusal.Refusal.{Refusal}
use Rattle.ms_base.specs.declared.step.Reply.{Reply}
use Rattle.ms_base.specs.declared.step.Reply.TheVariants.{Ok as Done, At, Value, Refused}
use Rattle.ms_loader.specs.Loader.{LoaderView}
use Rattle.ms_shared.specs.declared.lock_rule.SeatView.{SeatView}
use Rattle.ms_shared.specs.SeatView.{LockState, SeatState, HeldState}
use Rattle.ms_member.specs.Member.{MemberState, ServesIt, IsSeated, AnswersAlloc, AnswersFree, AllocatesOver}
use Rattle.ms_member.specs.Member.{AnswersOver, AnswersWithout, AnswersAlone, AnswersFreeing, FreesIn, block_told}
use Rattle.ms_member.proofs.ServedLemmas.{serves_placed, serves_freed}

-- Where the seat has the pool.
pub record HasIt (lock : LockState) (seat : Option SeatState) (held : HeldState) (loader : Option LoaderView) : Type 0
  where
    pub alone : seat ≡ None
    pub own : held.seat.id ≡ lock.id
    pub serves : ServesIt held.seat.knows loader

pub has_it : (lock : LockState) (seat : Option SeatState) (one : Option HeldState) (held : HeldState)
    (loader : Option LoaderView) → one ≡ Some held → IsSeated lock seat one loader → HasIt lock seat held loader
has_it lock (Some seat) (Some other) held loader is its = absurd its
has_it lock (Some seat) None held loader is its = absurd (cc)
has_it lock None None held loader is its = absurd its
has_it lock None (Some other) held loader is its =
    let same : other ≡ held = cc in
    subst (λ (h : HeldState). HasIt lock None h loader) same (record { alone = refl; own = its.0; serves = its.1 })

-- Where it doesn't.
pub record LacksIt (lock : LockState) (seat : SeatState) (held : Option HeldState) (loader : Option LoaderView) : Type 0
  where
    pub alone : held ≡ None
    pub own : seat.id ≡ lock.id
    pub serves : ServesIt seat.knows loader

pub lacks_it : (lock : LockState) (one : Option SeatState) (seat : SeatState) (held : Option HeldState)
    (loader : Option LoaderView) → one ≡ Some seat → IsSeated lock one held loader → LacksIt lock seat held loader
lacks_it lock None seat held loader is its = absurd (cc)
lacks_it lock (Some other) seat (Some held) loader is its = absurd its
lacks_it lock (Some other) seat None loader is its =
    let same : other ≡ seat = cc in
    subst (λ (s : SeatState). LacksIt lock s None loader) same (record { alone = refl; own = its.0; serves = its.1 })

-- So it has the pool, or has a seat alone.
pub has_pool : (lock : LockState) (seat : Option SeatState) (held : Option HeldState) (loader : Option LoaderView)
    → seat ≡ None → IsSeated lock seat held loader → (one : HeldState) × (held ≡ Some one)
has_pool lock (Some seat) held loader is its = absurd (cc)
has_pool lock None (Some held) loader is its = (held, refl)
has_pool lock None None loader is its = absurd its

-- With another loader that the seat serves too.
pub seated_still : (lock : LockState) (seat : Option SeatState) (held : Option HeldState)
    (old new : Option LoaderView) → ((knows : SeatView) → ServesIt knows old → ServesIt knows new)
    → IsSeated lock seat held old → IsSeated lock seat held new
seated_still lock (Some seat) None old new each its = (its.0, each seat.knows its.1)
seated_still lock None (Some held) old new each its = (its.0, each held.seat.knows its.1)
seated_still lock (Some seat) (Some held) old new each its = absurd its
seated_still lock None None old new each its = absurd its

-- A loader that placed a block, and one that freed one.
serves_alone : (space : Space) (block words : ℕ) (knows : SeatView) (old new : LoaderView) (reply : Option Reply)
    → AnswersAlone space block words old reply new → ServesIt knows (Some old) → ServesIt knows (Some new)
serves_alone space block words knows old new None same its =
    subst (λ (l : LoaderView). ServesIt knows (Some l)) (sym same) its
serves_alone space block words knows old new (Some (At start)) placed its =
    serves_placed knows space block words start old new placed its
serves_alone space block words knows old new (Some (Refused refusal)) refused its =
    subst (λ (l : LoaderView). ServesIt knows (Some l)) (sym refused.1) its
serves_alone space block words knows old new (Some Done) none its = absurd none
serves_alone space block words knows old new (Some (Value value)) none its = absurd none

pub serves_without : (space : Space) (block words : ℕ) (old new : Option LoaderView) (reply : Option Reply)
    → AnswersWithout space block words old reply new → (knows : SeatView) → ServesIt knows old → ServesIt knows new
serves_without space block words None new reply answers knows its =
    subst (ServesIt knows) (sym answers.1) its
serves_without space block words (Some old) new reply answers knows its =
    subst (ServesIt knows) (sym answers.1)
    (serves_alone space block words knows old answers.0 reply answers.2 its)

serves_freeing : (block : ℕ) (knows : SeatView) (old new : LoaderView) (reply : Reply)
    → AnswersFreeing block old reply new → ServesIt knows (Some old) → ServesIt knows (Some new)
serves_freeing block knows old new Done freed its = serves_freed knows old new block freed.1 freed.0 its
serves_freeing block knows old new (Refused refusal) refused its =
    subst (λ (l : LoaderView). ServesIt knows (Some l)) (sym refused.1) its
serves_freeing block knows old new (At start) none its = absurd none
serves_freeing block knows old new (Value value) none its = absurd none

pub serves_after_free : (block : ℕ) (old new : Option LoaderView) (reply : Reply) → FreesIn block old reply new
    → (knows : SeatView) → ServesIt knows old → ServesIt knows new
serves_after_free block None new reply answers knows its = subst (ServesIt knows) (sym answers.1) its
serves_after_free block (Some old) new reply answers knows its =
    subst (ServesIt knows) (sym answers.1) (serves_freeing block knows old answers.0 reply answers.2 its)

-- A member with what it has.
with_both : (old : MemberState) (held : Option HeldState) (loader : Option LoaderView) → old.held ≡ held
    → old.loader ≡ loader → record old { held = held; loader = loader } ≡ old
with_both old held loader held_is loader_is =
    ap (λ (h : Option HeldState). record old { held = h; loader = loader }) (sym held_is)
    ∙ ap (λ (l : Option LoaderView). record old { loader = l }) (sym loader_is)

-- What is answered over the pool.
module _ (space : Space) (block words : ℕ) (old new : MemberState) where
  over_told : (answer : Result Block Refusal) → AllocatesOver space block words old answer new
      → AnswersAlloc space block words old (Some (block_told answer)) new
  over_told (Ok made) its = inl (made, refl, its)
  over_told (Err refusal) its = inr (inr its)

  over : (held now : HeldState) (reply : Reply) (one is : Option LoaderView) → old.loader ≡ one
      → old.held ≡ Some held → new ≡ record old { held = Some now; loader = is }
      → AnswersOver space block words held one reply is now → AnswersAlloc space block words old (Some reply) new
  over held now reply None is found was new_is its =
      subst (λ (r : Reply). AnswersAlloc space block words old (Some r) new) (sym its.0)
      (inl (
        refl,
        found,
        new_is ∙ ap (λ (l : Option LoaderView). record old { held = Some now; loader = l }) its.1
            ∙ ap (λ (h : HeldState). record old { held = Some h; loader = None }) its.2
            ∙ with_both old (Some held) None was found,
      ))
  over held now reply (Some loader) is found was new_is its =
      subst (λ (r : Reply). AnswersAlloc space block words old (Some r) new) (sym its.reply_is)
      (over_told its.answer (record {
        loader = loader;
        is = its.is;
        found = found;
        unchanged = its.unchanged;
        called = record {
          held = held;
          now = now;
          was = was;
          called = its.allocates;
          new_is = new_is ∙ ap (λ (l : Option LoaderView). record old { held = Some now; loader = l }) its.new_is;
        };
      }))

  pub over_answers : (held now : HeldState) (reply : Reply) (is : Option LoaderView)
      → old.held ≡ Some held → new ≡ record old { held = Some now; loader = is }
      → AnswersOver space block words held old.loader reply is now → AnswersAlloc space block words old (Some reply) new
  over_answers held now reply is was new_is its = over held now reply old.loader is refl was new_is its

  -- And without the pool.
  alone_so : (reply : Option Reply) (loader is : LoaderView) → old.loader ≡ Some loader → old.held ≡ None
      → new ≡ record old { loader = Some is } → AnswersAlone space block words loader reply is
      → AnswersAlloc space block words old reply new
  alone_so None loader is found alone new_is its = (
    alone,
    new_is ∙ ap (λ (l : LoaderView). record old { loader = Some l }) its
        ∙ ap (λ (l : Option LoaderView). record old { loader = l }) (sym found),
  )
  alone_so (Some (At start)) loader is found alone new_is its =
      inr (record { loader = loader; is = is; found = found; alone = alone; placed_so = its; new_is = new_is })
  alone_so (Some (Refused refusal)) loader is found alone new_is its = inr (inl (record {
    loader = loader;
    found = found;
    cause = its.0;
    same = new_is ∙ ap (λ (l : LoaderView). record old { loader = Some l }) its.1
        ∙ ap (λ (l : Option LoaderView). record old { loader = l }) (sym found);
  }))
  alone_so (Some Done) loader is found alone new_is its = absurd its
  alone_so (Some (Value value)) loader is found alone new_is its = absurd its

  without : (reply : Option Reply) (one is : Option LoaderView) → old.loader ≡ one → old.held ≡ None
      → new ≡ record old { loader = is } → AnswersWithout space block words one reply is
      → AnswersAlloc space block words old reply new
  without reply None is found alone new_is its =
      subst (λ (r : Option Reply). AnswersAlloc space block words old r new) (sym its.0)
      (inl (refl, found, new_is ∙ ap (λ (l : Option LoaderView). record old { loader = l }) (its.1 ∙ sym found)))
  without reply (Some loader) is found alone new_is its =
      alone_so reply loader its.0 found alone
      (new_is ∙ ap (λ (l : Option LoaderView). record old { loader = l }) its.1) its.2

  pub without_answers : (reply : Option Reply) (is : Option LoaderView) → old.held ≡ None
      → new ≡ record old { loader = is } → AnswersWithout space block words old.loader reply is
      → AnswersAlloc space block words old reply new
  without_answers reply is alone new_is its = without reply old.loader is refl alone new_is its

-- What freeing answers.
module _ (block : ℕ) (old new : MemberState) where
  freeing_so : (reply : Reply) (loader is : LoaderView) → old.loader ≡ Some loader
      → new ≡ record old { loader = Some is } → AnswersFreeing block loader reply is
      → AnswersFree block old (Some reply) new
  freeing_so Done loader is found new_is its = record {
    loader = loader;
    now = is.state;
    found = found;
    freed = its.0;
    new_is = new_is ∙ ap (λ (l : LoaderView). record old { loader = Some l }) its.1;
  }
  freeing_so (Refused refusal) loader is found new_is its = inr (record {
    loader = loader;
    found = found;
    cause = its.0;
    same = new_is ∙ ap (λ (l : LoaderView). record old { loader = Some l }) its.1
        ∙ ap (λ (l : Option LoaderView). record old { loader = l }) (sym found);
  })
  freeing_so (At start) loader is found new_is its = absurd its
  freeing_so (Value value) loader is found new_is its = absurd its

  frees : (reply : Reply) (one is : Option LoaderView) → old.loader ≡ one → new ≡ record old { loader = is }
      → FreesIn block one reply is → AnswersFree block old (Some reply) new
  frees reply None is found new_is its =
      subst (λ (r : Reply). AnswersFree block old (Some r) new) (sym its.0)
      (inl (refl, found, new_is ∙ ap (λ (l : Option LoaderView). record old { loader = l }) (its.1 ∙ sym found)))
  frees reply (Some loader) is found new_is its =
      freeing_so reply loader its.0 found
      (new_is ∙ ap (λ (l : Option LoaderView). record old { loader = l }) its.1) its.2

  pub free_answers : (reply : Reply) (is : Option LoaderView) → new ≡ record old { loader = is }
      → FreesIn block old.loader reply is → AnswersFree block old (Some reply) new
  free_answers reply is new_is its = frees reply old.loader is refl new_is its
