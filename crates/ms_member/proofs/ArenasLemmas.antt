-- Arenas without names whose blocks come and go are arenas of the same accounts' owners, and the seat
-- serves them still.
use Rattle.std.proofs.Common.{◌≡◌, ◌≢◌, ◌<◌, ℕ, Bool, true, false, Option, Some, None, Result, Ok, Err, refl, sym, ap}
use Rattle.std.proofs.Common.{◌∙◌, ◌+◌, subst, inl, inr, IfOk, [], arith}
use Rattle.ms_base.specs.declared.kind.Kind.{Kind}
use Rattle.ms_base.specs.declared.kind.Space.{Space}
use Rattle.ms_base.specs.declared.kind.Space.TheVariants.{NonClass, Class}
use Rattle.ms_base.specs.declared.policy.Policy.{Policy}
use Rattle.ms_base.specs.declared.span.Chunk.{Chunk}
use Rattle.ms_base.specs.declared.span.Span.{Span}
use Rattle.ms_base.specs.declared.span.Block.{Block}
use Rattle.ms_base.specs.declared.refusal.Refusal.{Refusal}
use Rattle.ms_base.specs.Live.{block_words}
use Rattle.ms_base.specs.Place.{placed, current}
use Rattle.ms_base.specs.Asks.{asks_growth}
use Rattle.ms_base.specs.State.{ArenaState}
use Rattle.ms_pool.specs.Account.{AccountState}
use Rattle.ms_arena.specs.Arena.{ArenaView, account_of, Places, PlacedAt}
use Rattle.ms_arena.specs.Alloc.{TakeRelation, GrowRelation, TakesNew, AfterTake, AfterGrow, AsksChunk, FindsPlace}
use Rattle.ms_arena.specs.Alloc.{Allocates}
use Rattle.ms_arena.specs.Raw.{live_with}
use Rattle.ms_shared.specs.declared.lock_rule.SeatView.{SeatView}
use Rattle.ms_shared.specs.SeatView.{SeatState, ServesBy, opened_by}
use Rattle.ms_shared.specs.LockCalls.{OpenedBothOver}
use Rattle.ms_member.specs.declared.member.arenas.Arenas.{Arenas}
use Rattle.ms_member.specs.declared.member.bare.BareArenas.{BareArenas}
use Rattle.ms_member.specs.declared.member.hosted.Hosted.{Hosted}
use Rattle.ms_member.specs.declared.member.hosted.Hosted.TheVariants.{Known, Bare}
use Rattle.ms_member.specs.Arenas.{arena_in, with_arena, ServesArenas, PlacesOwn, GivesBlock}
use Rattle.ms_member.specs.Bare.{BareView, arena_with, bare_account}
use Rattle.ms_member.specs.Hosted.{bare_in, with_bare, shown, new_hosted, PlacesBare, GivesBare, PlacesHosted}
use Rattle.ms_base.specs.declared.step.Reply.{Reply}
use Rattle.ms_base.specs.declared.step.Reply.TheVariants.{Ok as Done, At, Value, Refused}
use Rattle.ms_loaders.proofs.steps.OutcomeLemmas.{placed_chunks}
use Rattle.ms_member.specs.Taking.{AnswersOwn, AnswersGiving, FreesOf}

-- An arena keeps its owner and its space.
abbrev Keeps : ArenaView → ArenaView → Type 0
Keeps was is = (is.owner ≡ was.owner) × (is.space ≡ was.space)

keeps : (was is one : ArenaView) → is ≡ one → Keeps was one → Keeps was is
keeps was is one same its = (
  ap (λ (a : ArenaView). a.owner) same ∙ its.0,
  ap (λ (a : ArenaView). a.space) same ∙ its.1,
)

module _ {S : Type 0} (grew : GrowRelation S) (took : TakeRelation S) (policy : Policy) (was : ArenaView) (n : ℕ)
    (answer : Result Block Refusal) (is : ArenaView) (after : S) where
  keeps_after : (lent : Result Span Refusal) → AfterTake policy was n lent answer is → Keeps was is
  keeps_after (Ok span) its = keeps was is _ its.1 (refl, refl)
  keeps_after (Err refusal) its = keeps was is was its.1 (refl, refl)

  keeps_taken : (before : S) → TakesNew took policy was n before answer is after → Keeps was is
  keeps_taken before its = keeps_after its.lent its.follows

  keeps_grown : (chunk : Chunk) (grown : Result Span Refusal) (middle : S)
      → AfterGrow took policy was chunk n grown middle answer is after → Keeps was is
  keeps_grown chunk (Ok span) middle its = keeps was is _ its.2 (refl, refl)
  keeps_grown chunk (Err refusal) middle its = keeps_taken middle its

  keeps_asked : (o : Option Chunk) (b : Bool) (before : S)
      → AsksChunk grew took policy was n o b before answer is after → Keeps was is
  keeps_asked (Some chunk) true before its = keeps_grown chunk its.grown its.middle its.follows
  keeps_asked (Some chunk) false before its = keeps_taken before its
  keeps_asked None true before its = keeps_taken before its
  keeps_asked None false before its = keeps_taken before its

  keeps_found : (o : Option (ℕ × ArenaState)) (before : S)
      → FindsPlace grew took policy was n o before answer is after → Keeps was is
  keeps_found (Some place) before its = keeps was is _ its.1 (refl, refl)
  keeps_found None before its =
      keeps_asked (current was.books) (asks_growth was.kind was.space was.books (current was.books) n) before its

pub keeps_allocated : {S : Type 0} (grew : GrowRelation S) (took : TakeRelation S) (policy : Policy) (was : ArenaView)
    (words : ℕ) (before : S) (answer : Result Block Refusal) (is : ArenaView) (after : S)
    → Allocates grew took policy was words before answer is after → Keeps was is
keeps_allocated grew took policy was words before answer is after (inl refused) =
    keeps was is was refused.arena (refl, refl)
keeps_allocated grew took policy was words before answer is after (inr its) =
    keeps_found grew took policy was (block_words words) answer is after (placed was.books (block_words words)) before its.1

-- The seat serves the arenas once one of them took a chunk, or none.
pub serves_taken : (space : Space) (old new : SeatView) (arenas : Arenas) (is : ArenaView)
    → ServesArenas old arenas → Keeps (arena_in space arenas) is → ServesBy new (account_of is)
    → ((other : AccountState) → other.owner ≢ (arena_in space arenas).owner → ServesBy old other → ServesBy new other)
    → opened_by new ≡ opened_by old → ServesArenas new (with_arena space arenas is)
serves_taken NonClass old new arenas is its keeps own others counts = record {
  served = own;
  class_served = others (account_of arenas.class_arena) (λ e. its.apart (sym e)) its.class_served;
  space = keeps.1 ∙ its.space;
  class_space = its.class_space;
  counted = λ one. subst (λ (n : ℕ). 0 < n) (sym (ap (λ (f : Space → ℕ). f one) counts)) (its.counted one);
  apart = λ e. its.apart (sym keeps.0 ∙ e);
}
serves_taken Class old new arenas is its keeps own others counts = record {
  served = others (account_of arenas.arena) its.apart its.served;
  class_served = own;
  space = its.space;
  class_space = keeps.1 ∙ its.class_space;
  counted = λ one. subst (λ (n : ℕ). 0 < n) (sym (ap (λ (f : Space → ℕ). f one) counts)) (its.counted one);
  apart = λ e. its.apart (e ∙ keeps.0);
}

-- And where an arena's account is as it was.
pub serves_alike : (space : Space) (knows : SeatView) (arenas : Arenas) (is : ArenaView)
    → account_of is ≡ account_of (arena_in space arenas) → ServesArenas knows arenas
    → ServesArenas knows (with_arena space arenas is)
serves_alike NonClass knows arenas is same its = record {
  served = subst (ServesBy knows) (sym same) its.served;
  class_served = its.class_served;
  space = ap (λ (a : AccountState). a.space) same ∙ its.space;
  class_space = its.class_space;
  counted = its.counted;
  apart = λ e. its.apart (sym (ap (λ (a : AccountState). a.owner) same) ∙ e);
}
serves_alike Class knows arenas is same its = record {
  served = its.served;
  class_served = subst (ServesBy knows) (sym same) its.class_served;
  space = its.space;
  class_space = ap (λ (a : AccountState). a.space) same ∙ its.class_space;
  counted = its.counted;
  apart = λ e. its.apart (e ∙ ap (λ (a : AccountState). a.owner) same);
}

-- What an arena placed is a block of the arenas.
pub placed_so : (space : Space) (old : Arenas) (is : ArenaView) (words : ℕ) (answer : Result (Option Block) Refusal)
    → IfOk answer (λ found. Places (arena_in space old) words found is)
    → IfOk answer (λ found. PlacesOwn space words old found (with_arena space old is))
placed_so space old is words (Ok found) placing = record { is = is; placing = placing; new_is = refl }
placed_so space old is words (Err refusal) placing = tt

-- What an arena without names placed or freed leaves its account as it was.
placed_alike : (was is : ArenaView) (n : ℕ) (o : Option (ℕ × ArenaState)) (found : Option Block)
    → placed was.books n ≡ o → PlacedAt was n o found is → account_of is ≡ account_of was
placed_alike was is n (Some place) (Some block) at its =
    ap account_of its.1
    ∙ ap (λ chunks. record { owner = was.owner; space = was.space; chunks = chunks }) (placed_chunks was.books n place at)
placed_alike was is n None None at its = ap account_of its
placed_alike was is n (Some place) None at its = absurd its
placed_alike was is n None (Some block) at its = absurd its

serves_placed_own : (space : Space) (words : ℕ) (knows : SeatView) (old new : Arenas) (found : Option Block)
    → PlacesOwn space words old found new → ServesArenas knows old → ServesArenas knows new
serves_placed_own space words knows old new found placing its =
    subst (ServesArenas knows) (sym placing.new_is) (serves_alike space knows old placing.is
    (placed_alike (arena_in space old) placing.is (block_words words) (placed (arena_in space old).books (block_words words))
    found refl placing.placing.1) its)

serves_given : (space : Space) (block : Block) (knows : SeatView) (old new : Arenas) → GivesBlock space old block new
    → ServesArenas knows old → ServesArenas knows new
serves_given space block knows old new gives its =
    subst (ServesArenas knows) (sym gives.new_is)
    (serves_alike space knows old gives.is (ap account_of gives.frees.after) its)

-- So it is of bare ones.
pub serves_bare : (space : Space) (knows : SeatView) (arenas : BareArenas) (is : BareView)
    → bare_account is ≡ bare_account (bare_in space arenas) → ServesArenas knows (shown (Bare arenas))
    → ServesArenas knows (shown (Bare (with_bare space arenas is)))
serves_bare NonClass knows arenas is same its =
    serves_alike NonClass knows (shown (Bare arenas)) (arena_with is []) same its
serves_bare Class knows arenas is same its =
    serves_alike Class knows (shown (Bare arenas)) (arena_with is []) same its

serves_placed_bare : (space : Space) (words : ℕ) (knows : SeatView) (old new : BareArenas) (found : Option Block)
    → PlacesBare space words old found new → ServesArenas knows (shown (Bare old))
    → ServesArenas knows (shown (Bare new))
serves_placed_bare space words knows old new found placing its =
    let was = bare_in space old in let n = block_words words in
    subst (λ (arenas : BareArenas). ServesArenas knows (shown (Bare arenas))) (sym placing.new_is)
    (serves_bare space knows old placing.is
    (placed_alike (arena_with was []) (arena_with placing.is (live_with [] found)) n (placed was.books n) found refl
    (placing.placing []).1) its)

pub serves_given_bare : (space : Space) (block : Block) (knows : SeatView) (old new : BareArenas)
    → GivesBare space old block new → ServesArenas knows (shown (Bare old)) → ServesArenas knows (shown (Bare new))
serves_given_bare space block knows old new gives its =
    subst (λ (arenas : BareArenas). ServesArenas knows (shown (Bare arenas))) (sym gives.new_is)
    (serves_bare space knows old gives.is (ap bare_account gives.frees.after) its)

serves_placed : (space : Space) (words : ℕ) (knows : SeatView) (old new : Hosted) (found : Option Block)
    → PlacesHosted space words old found new → ServesArenas knows (shown old) → ServesArenas knows (shown new)
serves_placed space words knows (Known old) (Known new) found placing its =
    serves_placed_own space words knows old new found placing its
serves_placed space words knows (Bare old) (Bare new) found placing its =
    serves_placed_bare space words knows old new found placing its
serves_placed space words knows (Known old) (Bare new) found placing its = absurd placing
serves_placed space words knows (Bare old) (Known new) found placing its = absurd placing

-- And of what they answer.
pub serves_own : (space : Space) (words : ℕ) (knows : SeatView) (old new : Hosted) (reply : Option Reply)
    → AnswersOwn space words old reply new → ServesArenas knows (shown old) → ServesArenas knows (shown new)
serves_own space words knows old new None same its =
    subst (λ (arenas : Hosted). ServesArenas knows (shown arenas)) (sym same) its
serves_own space words knows old new (Some (At start)) its serves =
    serves_placed space words knows old new (Some its.0) its.2 serves
serves_own space words knows old new (Some (Refused refusal)) refused its =
    subst (λ (arenas : Hosted). ServesArenas knows (shown arenas)) (sym refused.1) its
serves_own space words knows old new (Some Done) none its = absurd none
serves_own space words knows old new (Some (Value value)) none its = absurd none

pub serves_giving : (space : Space) (block : Block) (knows : SeatView) (old new : Hosted) (reply : Reply)
    → AnswersGiving space block old reply new → ServesArenas knows (shown old) → ServesArenas knows (shown new)
serves_giving space block knows (Known old) (Known new) Done gives its =
    serves_given space block knows old new gives its
serves_giving space block knows (Known old) (Bare new) Done none its = absurd none
serves_giving space block knows (Known old) new (Refused refusal) refused its =
    subst (λ (arenas : Hosted). ServesArenas knows (shown arenas)) (sym refused.2) its
serves_giving space block knows (Known old) new (At start) none its = absurd none
serves_giving space block knows (Known old) new (Value value) none its = absurd none
serves_giving space block knows (Bare old) new (Refused refusal) refused its =
    subst (λ (arenas : Hosted). ServesArenas knows (shown arenas)) (sym refused.1) its
serves_giving space block knows (Bare old) new Done none its = absurd none
serves_giving space block knows (Bare old) new (At start) none its = absurd none
serves_giving space block knows (Bare old) new (Value value) none its = absurd none

pub serves_freed_of : (space : Space) (block : Block) (knows : SeatView) (old new : Hosted) (reply : Reply)
    → FreesOf space block old reply new → ServesArenas knows (shown old) → ServesArenas knows (shown new)
serves_freed_of space block knows (Bare old) (Bare new) Done gives its =
    serves_given_bare space block knows old new gives its
serves_freed_of space block knows (Bare old) (Known new) Done none its = absurd none
serves_freed_of space block knows (Bare old) new (Refused refusal) none its = absurd none
serves_freed_of space block knows (Bare old) new (At start) none its = absurd none
serves_freed_of space block knows (Bare old) new (Value value) none its = absurd none
serves_freed_of space block knows (Known old) new (Refused refusal) refused its =
    subst (λ (arenas : Hosted). ServesArenas knows (shown arenas)) (sym refused.1) its
serves_freed_of space block knows (Known old) new Done none its = absurd none
serves_freed_of space block knows (Known old) new (At start) none its = absurd none
serves_freed_of space block knows (Known old) new (Value value) none its = absurd none

-- Arenas that were opened are served, whether they know their blocks or not.
pub serves_opened : (is_bare : Bool) (kind : Kind) (old new : SeatState) (accounts : AccountState × AccountState)
    → OpenedBothOver old (Ok accounts) new → ServesBy new.knows accounts.0 → ServesBy new.knows accounts.1
    → accounts.0.space ≡ NonClass → accounts.1.space ≡ Class
    → ((space : Space) → opened_by new.knows space ≡ opened_by old.knows space + 1)
    → ServesArenas new.knows (shown (new_hosted is_bare accounts kind))
serves_opened true kind old new accounts opened first second space class_space counts = record {
  served = first;
  class_served = second;
  space = space;
  class_space = class_space;
  counted = λ one. omega (arith, counts one);
  apart = λ e. omega (arith, e, ap (λ (a : AccountState × AccountState). a.1.owner) opened.new_are);
}
serves_opened false kind old new accounts opened first second space class_space counts = record {
  served = first;
  class_served = second;
  space = space;
  class_space = class_space;
  counted = λ one. omega (arith, counts one);
  apart = λ e. omega (arith, e, ap (λ (a : AccountState × AccountState). a.1.owner) opened.new_are);
}
