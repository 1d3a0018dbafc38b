-- What the calls of a loader without names answer is what its member answers.
use Rattle.std.proofs.Common.{◌≡◌, ℕ, Option, Some, None, Result, Ok, Err, refl, sym, ap, ◌∙◌, subst, inl, inr}
use Rattle.std.proofs.Common.{IfOk, IfErr, IfSome, IfNone, OnErr, true, false, is_some}
use Rattle.ms_base.specs.declared.kind.Space.{Space}
use Rattle.ms_base.specs.declared.kind.Space.TheVariants.{NonClass, Class}
use Rattle.ms_base.specs.declared.span.Block.{Block}
use Rattle.ms_base.specs.declared.refusal.Refusal.{Refusal}
use Rattle.ms_base.specs.declared.step.Reply.{Reply}
use Rattle.ms_base.specs.declared.step.Reply.TheVariants.{Ok as Done, At, Value, Refused}
use Rattle.ms_base.specs.Live.{block_words}
use Rattle.ms_base.specs.Place.{placed}
use Rattle.ms_base.specs.State.{ArenaState}
use Rattle.ms_arena.specs.Arena.{ArenaView, PlacedAt, PlaceRefused}
use Rattle.ms_loaders.specs.declared.system.sums.LoaderTotals.{LoaderTotals}
use Rattle.ms_shared.specs.SeatView.{HeldState}
use Rattle.ms_member.specs.declared.member.arenas.Arenas.{Arenas}
use Rattle.ms_member.specs.declared.member.bare.BareArenas.{BareArenas}
use Rattle.ms_member.specs.declared.member.hosted.Hosted.{Hosted}
use Rattle.ms_member.specs.declared.member.hosted.Hosted.TheVariants.{Known, Bare}
use Rattle.ms_member.specs.Arenas.{arena_in, with_arena}
use Rattle.ms_member.specs.Bare.{BareView}
use Rattle.ms_member.specs.Hosted.{bare_in, with_bare, PlacesHosted, KnowNone, LeaveNone, TellsSums}
use Rattle.ms_member.specs.Member.{MemberState, AnswersUnload, block_told}
use Rattle.ms_member.specs.Taking.{TakesAny, TakesAlone, AnswersOwn, GivesAny, AnswersGiving, placed_told}
use Rattle.ms_member.specs.Taking.{AnswersTake, AnswersGive, TakesBlock, AnswersUnloadArenas, AnswersUnloadOf}
use Rattle.ms_member.specs.Taking.{AnswersGiveBare, FreesAny, FreesOf, AreTheirSums, KnowsNoBlocks}

-- What the arenas answer without the pool.
same_with : (space : Space) (old : Arenas) → with_arena space old (arena_in space old) ≡ old
same_with NonClass old = refl
same_with Class old = refl

stays_there : (was is : ArenaView) (n : ℕ) (o : Option (ℕ × ArenaState)) → PlacedAt was n o None is → is ≡ was
stays_there was is n None its = its
stays_there was is n (Some place) its = absurd its

same_bare : (space : Space) (old : BareArenas) → with_bare space old (bare_in space old) ≡ old
same_bare NonClass old = refl
same_bare Class old = refl

stay_all : (space : Space) (words : ℕ) (old new : Hosted) → PlacesHosted space words old None new → new ≡ old
stay_all space words (Known old) (Known new) placing =
    ap (λ (a : Arenas). Known a)
    (placing.new_is
    ∙ ap (λ (a : ArenaView). with_arena space old a)
    (stays_there (arena_in space old) placing.is (block_words words) (placed (arena_in space old).books (block_words words))
    placing.placing.1)
    ∙ same_with space old)
stay_all space words (Bare old) (Bare new) placing =
    ap (λ (a : BareArenas). Bare a)
    (placing.new_is ∙ ap (λ (a : BareView). with_bare space old a) placing.none ∙ same_bare space old)
stay_all space words (Known old) (Bare new) placing = absurd placing
stay_all space words (Bare old) (Known new) placing = absurd placing

pub own_answers : (space : Space) (words : ℕ) (old new : Hosted) (answer : Result (Option Block) Refusal)
    → IfOk answer (λ found. PlacesHosted space words old found new) → IfErr answer (λ refusal. PlaceRefused words refusal)
    → OnErr answer (new ≡ old) → AnswersOwn space words old (placed_told answer) new
own_answers space words old new (Ok (Some made)) placing refused same = (made, refl, placing)
own_answers space words old new (Ok None) placing refused same = stay_all space words old new placing
own_answers space words old new (Err refusal) placing refused same = (refused, same)

-- A member with what it has.
with_arenas : (old : MemberState) (held : Option HeldState) (arenas : Option Hosted) → old.held ≡ held
    → old.arenas ≡ arenas → record old { held = held; arenas = arenas } ≡ old
with_arenas old held arenas held_is arenas_is =
    ap (λ (h : Option HeldState). record old { held = h; arenas = arenas }) (sym held_is)
    ∙ ap (λ (a : Option Hosted). record old { arenas = a }) (sym arenas_is)

module _ (space : Space) (words : ℕ) (old new : MemberState) where
  -- What is answered over the pool.
  taken_told : (answer : Result Block Refusal) → TakesBlock space words old answer new
      → AnswersTake space words old (Some (block_told answer)) new
  taken_told (Ok made) its = inl (made, refl, its)
  taken_told (Err refusal) its = inr (inr its)

  taken : (held now : HeldState) (reply : Reply) (one is : Option Hosted) → old.arenas ≡ one
      → old.held ≡ Some held → new ≡ record old { held = Some now; arenas = is }
      → TakesAny space words held one reply is now → AnswersTake space words old (Some reply) new
  taken held now reply None is found was new_is its =
      subst (λ (r : Reply). AnswersTake space words old (Some r) new) (sym its.0)
      (inl (
        refl,
        found,
        new_is ∙ ap (λ (a : Option Hosted). record old { held = Some now; arenas = a }) its.1
            ∙ ap (λ (h : HeldState). record old { held = Some h; arenas = None }) its.2
            ∙ with_arenas old (Some held) None was found,
      ))
  taken held now reply (Some arenas) is found was new_is its =
      subst (λ (r : Reply). AnswersTake space words old (Some r) new) (sym its.reply_is)
      (taken_told its.answer (record {
        held = held;
        now = now;
        arenas = arenas;
        is = its.is;
        found = found;
        was = was;
        unchanged = its.unchanged;
        takes = its.takes;
        new_is = new_is ∙ ap (λ (a : Option Hosted). record old { held = Some now; arenas = a }) its.new_is;
      }))

  pub take_answers : (held now : HeldState) (reply : Reply) (is : Option Hosted)
      → old.held ≡ Some held → new ≡ record old { held = Some now; arenas = is }
      → TakesAny space words held old.arenas reply is now → AnswersTake space words old (Some reply) new
  take_answers held now reply is was new_is its = taken held now reply old.arenas is refl was new_is its

  -- And without it.
  own_so : (reply : Option Reply) (arenas is : Hosted) → old.arenas ≡ Some arenas → old.held ≡ None
      → new ≡ record old { arenas = Some is } → AnswersOwn space words arenas reply is
      → AnswersTake space words old reply new
  own_so None arenas is found alone new_is its = (
    alone,
    new_is ∙ ap (λ (a : Hosted). record old { arenas = Some a }) its
        ∙ ap (λ (a : Option Hosted). record old { arenas = a }) (sym found),
  )
  own_so (Some (At start)) arenas is found alone new_is its = inr (record {
    arenas = arenas;
    is = is;
    made = its.0;
    found = found;
    alone = alone;
    start_is = its.1;
    placing = its.2;
    new_is = new_is;
  })
  own_so (Some (Refused refusal)) arenas is found alone new_is its = inr (inl (record {
    arenas = arenas;
    found = found;
    cause = its.0;
    same = new_is ∙ ap (λ (a : Hosted). record old { arenas = Some a }) its.1
        ∙ ap (λ (a : Option Hosted). record old { arenas = a }) (sym found);
  }))
  own_so (Some Done) arenas is found alone new_is its = absurd its
  own_so (Some (Value value)) arenas is found alone new_is its = absurd its

  alone : (reply : Option Reply) (one is : Option Hosted) → old.arenas ≡ one → old.held ≡ None
      → new ≡ record old { arenas = is } → TakesAlone space words one reply is
      → AnswersTake space words old reply new
  alone reply None is found none new_is its =
      subst (λ (r : Option Reply). AnswersTake space words old r new) (sym its.0)
      (inl (refl, found, new_is ∙ ap (λ (a : Option Hosted). record old { arenas = a }) (its.1 ∙ sym found)))
  alone reply (Some arenas) is found none new_is its =
      own_so reply arenas its.0 found none
      (new_is ∙ ap (λ (a : Option Hosted). record old { arenas = a }) its.1) its.2

  pub take_alone_answers : (reply : Option Reply) (is : Option Hosted) → old.held ≡ None
      → new ≡ record old { arenas = is } → TakesAlone space words old.arenas reply is
      → AnswersTake space words old reply new
  take_alone_answers reply is none new_is its = alone reply old.arenas is refl none new_is its

-- What giving back answers.
module _ (space : Space) (block : Block) (old new : MemberState) where
  giving_so : (reply : Reply) (arenas is : Hosted) → old.arenas ≡ Some arenas
      → new ≡ record old { arenas = Some is } → AnswersGiving space block arenas reply is
      → AnswersGive space block old (Some reply) new
  giving_so Done (Known arenas) (Known is) found new_is its =
      record { arenas = arenas; is = is; found = found; gives = its; new_is = new_is }
  giving_so Done (Known arenas) (Bare is) found new_is its = absurd its
  giving_so (Refused refusal) (Known arenas) is found new_is its = inr (record {
    arenas = arenas;
    found = found;
    not_live = its.0;
    cause = its.1;
    same = new_is ∙ ap (λ (a : Hosted). record old { arenas = Some a }) its.2
        ∙ ap (λ (a : Option Hosted). record old { arenas = a }) (sym found);
  })
  giving_so (At start) (Known arenas) is found new_is its = absurd its
  giving_so (Value value) (Known arenas) is found new_is its = absurd its
  giving_so (Refused refusal) (Bare arenas) is found new_is its = inl (
    its.0,
    subst KnowNone (sym found) tt,
    new_is ∙ ap (λ (a : Hosted). record old { arenas = Some a }) its.1
        ∙ ap (λ (a : Option Hosted). record old { arenas = a }) (sym found),
  )
  giving_so Done (Bare arenas) is found new_is its = absurd its
  giving_so (At start) (Bare arenas) is found new_is its = absurd its
  giving_so (Value value) (Bare arenas) is found new_is its = absurd its

  gives : (reply : Reply) (one is : Option Hosted) → old.arenas ≡ one → new ≡ record old { arenas = is }
      → GivesAny space block one reply is → AnswersGive space block old (Some reply) new
  gives reply None is found new_is its =
      subst (λ (r : Reply). AnswersGive space block old (Some r) new) (sym its.0)
      (inl (
        refl,
        subst KnowNone (sym found) tt,
        new_is ∙ ap (λ (a : Option Hosted). record old { arenas = a }) (its.1 ∙ sym found),
      ))
  gives reply (Some arenas) is found new_is its =
      giving_so reply arenas its.0 found
      (new_is ∙ ap (λ (a : Option Hosted). record old { arenas = a }) its.1) its.2

  pub give_answers : (reply : Reply) (is : Option Hosted) → new ≡ record old { arenas = is }
      → GivesAny space block old.arenas reply is → AnswersGive space block old (Some reply) new
  give_answers reply is new_is its = gives reply old.arenas is refl new_is its

  -- So it is of bare arenas.
  freed_so : (reply : Reply) (arenas is : Hosted) → old.arenas ≡ Some arenas
      → new ≡ record old { arenas = Some is } → FreesOf space block arenas reply is
      → AnswersGiveBare space block old (Some reply) new
  freed_so Done (Bare arenas) (Bare is) found new_is its =
      record { arenas = arenas; is = is; found = found; gives = its; new_is = new_is }
  freed_so Done (Bare arenas) (Known is) found new_is its = absurd its
  freed_so Done (Known arenas) is found new_is its = absurd its
  freed_so (Refused refusal) (Known arenas) is found new_is its = (
    its.0,
    subst LeaveNone (sym found) tt,
    new_is ∙ ap (λ (a : Hosted). record old { arenas = Some a }) its.1
        ∙ ap (λ (a : Option Hosted). record old { arenas = a }) (sym found),
  )
  freed_so (Refused refusal) (Bare arenas) is found new_is its = absurd its
  freed_so (At start) (Known arenas) is found new_is its = absurd its
  freed_so (At start) (Bare arenas) is found new_is its = absurd its
  freed_so (Value value) (Known arenas) is found new_is its = absurd its
  freed_so (Value value) (Bare arenas) is found new_is its = absurd its

  frees_so : (reply : Reply) (one is : Option Hosted) → old.arenas ≡ one → new ≡ record old { arenas = is }
      → FreesAny space block one reply is → AnswersGiveBare space block old (Some reply) new
  frees_so reply None is found new_is its =
      subst (λ (r : Reply). AnswersGiveBare space block old (Some r) new) (sym its.0) (
        refl,
        subst LeaveNone (sym found) tt,
        new_is ∙ ap (λ (a : Option Hosted). record old { arenas = a }) (its.1 ∙ sym found),
      )
  frees_so reply (Some arenas) is found new_is its =
      freed_so reply arenas its.0 found
      (new_is ∙ ap (λ (a : Option Hosted). record old { arenas = a }) its.1) its.2

  pub give_bare_answers : (reply : Reply) (is : Option Hosted) → new ≡ record old { arenas = is }
      → FreesAny space block old.arenas reply is → AnswersGiveBare space block old (Some reply) new
  give_bare_answers reply is new_is its = frees_so reply old.arenas is refl new_is its

-- What arenas answer_of are the sums of the loader; and where they answer_of none they know no block.
pub told_sums : (member : MemberState) (is : Hosted) (totals : Option LoaderTotals) → member.arenas ≡ Some is
    → TellsSums is totals → IfSome totals (AreTheirSums member.arenas member)
told_sums member is (Some totals) found its =
    subst (λ (arenas : Option Hosted). AreTheirSums arenas member totals) (sym found) its
told_sums member is None found its = tt

pub told_none : (member : MemberState) (is : Hosted) (totals : Option LoaderTotals) → member.loader ≡ None
    → member.arenas ≡ Some is → TellsSums is totals → IfNone totals (KnowsNoBlocks member)
told_none member (Known is) None alone found its = absurd its
told_none member (Bare is) None alone found its = (alone, subst KnowNone (sym found) tt)
told_none member is (Some totals) alone found its = tt

-- The loader that there is was unloaded.
pub unloads_arenas : (arenas : Option Hosted) (old : MemberState) (reply : Option Reply) (new : MemberState)
    → is_some arenas ≡ true → AnswersUnloadArenas old reply new → AnswersUnloadOf arenas old reply new
unloads_arenas (Some arenas) old reply new is its = its
unloads_arenas None old reply new is its = absurd (cc)

pub unloads_named : (arenas : Option Hosted) (old : MemberState) (reply : Option Reply) (new : MemberState)
    → is_some arenas ≡ false → AnswersUnload old reply new → AnswersUnloadOf arenas old reply new
unloads_named None old reply new is its = its
unloads_named (Some arenas) old reply new is its = absurd (cc)
