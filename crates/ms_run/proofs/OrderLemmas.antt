-- One order of whole steps, from the one history of events that workers' acts made. For
-- `run_phase`.
use Rattle.std.proofs.Common.{◌≡◌, ◌<◌, ◌==◌, ℕ, true, false, not, cond, Option, Some, None, Result, Ok, Err}
use Rattle.std.proofs.Common.{List, [], ◌∷◌, map, length, inl, inr, refl, sym, ap, ◌∙◌, subst, arith}
use Rattle.std.specs.Prelude.{slice_index_or}
use Rattle.std.specs.List.{filter}
use Rattle.std.proofs.lemmas.List.Sorted.{length_permutation}
use native.Mathlib.Decide.{dec_lt}
use Rattle.ms_base.specs.declared.kind.Kind.{Kind}
use Rattle.ms_base.specs.declared.kind.Space.{Space}
use Rattle.ms_base.specs.declared.kind.Space.TheVariants.{NonClass, Class}
use Rattle.ms_base.specs.declared.refusal.Refusal.{Refusal}
use Rattle.ms_base.specs.declared.step.Step.{Step}
use Rattle.ms_base.specs.declared.step.Step.TheVariants.{New, Alloc, Calloc, Write, Read, Free, Unload, Purge}
use Rattle.ms_base.specs.declared.step.Reply.{Reply}
use Rattle.ms_base.specs.declared.step.Reply.TheVariants.{Ok as Done, At, Refused}
use Rattle.ms_base.specs.Names.{named}
use Rattle.ms_base.specs.Request.{loader_of}
use Rattle.ms_pool.specs.Account.{AccountState}
use Rattle.ms_pool.specs.Ledger.{Loan, Ledger, IsSoundLedger, Serves, chunks_of, is_owned_by, others_than, recommitted}
use Rattle.ms_pool.specs.Ledger.{with_less_open}
use Rattle.ms_pool.specs.Calls.{ClosedBoth}
use Rattle.ms_pool.proofs.returns.PoolSettleLemmas.{settled_already}
use Rattle.ms_pool.proofs.ledger.GrewLemmas.{grow_refused_raises}
use Rattle.ms_loader.specs.Loader.{LoaderView, account_in, new_loader}
use Rattle.ms_shared.specs.History.{Event, Logged, Chain, events_in, events_of, AreBelow}
use Rattle.ms_shared.specs.Weaving.{IsStill, Spread, of, Works as WorksOf, Runs}
use Rattle.ms_shared.proofs.WeaveLemmas.{weaves}
use Rattle.ms_base.specs.Run.Own.{Said}
use Rattle.ms_run.specs.Acts.{IsGrowing, IsOpening, IsClosing, AsksOf, Makes, Act, IsAct, Works, said_of, events_by}
use Rattle.ms_run.specs.Acts.{seen, IsSoundEvent, AreSound, IsDoneBy, IsOwnStep, IsStep}
use Rattle.ms_run.specs.Shares.{Position}
use Rattle.std.proofs.lemmas.List.{nil_from_length}

-- An owner without a chunk has no loan.
none_other : (owner : ℕ) (loans : List Loan)
    → map (λ (loan : Loan). loan.chunk) (filter (is_owned_by owner) loans) ≡ [] → others_than owner loans ≡ loans
none_other owner [] none = refl
none_other owner (loan ∷ loans) none =
    elim (loan.owner == owner) as (λ b.
    map (λ (l : Loan). l.chunk) (cond b (loan ∷ filter (is_owned_by owner) loans) (filter (is_owned_by owner) loans)) ≡ []
    → cond (not b) (loan ∷ others_than owner loans) (others_than owner loans) ≡ loan ∷ loans) [
      | true ↦ λ mine. absurd (cc)
      | false ↦ λ rest. ap (λ (l : List Loan). loan ∷ l) (none_other owner loans rest)
    ] none

none_held : (pool : Ledger) (account : AccountState) → account.chunks ≡ [] → Serves pool account
    → others_than account.owner pool.loans ≡ pool.loans
none_held pool account none served =
    none_other account.owner pool.loans
    (nil_from_length (chunks_of pool account.owner)
    (omega (arith, length_permutation (chunks_of pool account.owner) account.chunks served.chunks, ap length none)))

-- The machine sees nothing of accounts closed without a chunk, nor of a refused growth.
closed_still : (old new : Ledger) (account class_account : AccountState) → account.chunks ≡ []
    → class_account.chunks ≡ [] → IsSoundLedger old → Serves old account → Serves old class_account
    → ClosedBoth old account class_account new → seen new ≡ seen old
closed_still old new account class_account none class_none sound served class_served closed =
    ap seen closed ∙ ap (λ (loans : List Loan). left loans) same ∙ ap seen (settled_already old sound)
  where
    left : List Loan → Ledger
    left loans = seen (recommitted (with_less_open NonClass (with_less_open Class (record old { loans = loans }))))

    same : others_than class_account.owner (others_than account.owner old.loans) ≡ old.loans
    same = ap (others_than class_account.owner) (none_held old account none served)
        ∙ none_held old class_account class_none class_served

vain_still : (kind : Kind) (loader : LoaderView) (opened closed : Event) → IsOpening kind loader opened
    → IsClosing loader closed → IsStill seen closed
vain_still kind loader opened closed its closes =
    let new = new_loader its.0.0 its.0.1 kind in
    let all = subst (λ (v : LoaderView). IsClosing v closed) its.1 closes in
    closed_still closed.0 closed.1 (account_in NonClass new) (account_in Class new) refl refl all.sound all.both.served
    all.both.class_served all.closed

growth_still : (account : AccountState) (refusal : Refusal) (event : Event) → IsGrowing account (Err refusal) event
    → IsStill seen event
growth_still account refusal event its =
    ap seen
    (grow_refused_raises event.0 account its.grew.chunk its.total its.enlarges refusal event.1 its.grew.after).is

-- A step's events are spread: one has its position, and of the own the machine sees nothing.
abbrev SpreadOf : List (ℕ × LoaderView) → Step → Reply → List (ℕ × LoaderView) → List Event → Type 0
SpreadOf old step reply new events = Spread seen (λ before after. IsStep before old (step, reply) after new) events

step_at : (old : List (ℕ × LoaderView)) (step : Step) (reply : Reply) (new : List (ℕ × LoaderView)) (event : Event)
    → IsOwnStep old (step, reply) new → IsSoundEvent event → IsDoneBy old step reply new event
    → IsStep (seen event.0) old (step, reply) (seen event.1) new
step_at old step reply new event own sound done =
    record { loaders = own; pool = inr (event, sound, refl, refl, done) }

asks_two : (old new : Option LoaderView) (space : Space) (block words : ℕ) (answer : Result ℕ Refusal) (e f : Event)
    (es : List Event) → AsksOf old new space block words answer (e ∷ f ∷ es)
    → (es ≡ []) × IsStill seen e × AsksOf old new space block words answer (f ∷ [])
asks_two (Some old) (Some new) space block words answer e f [] made =
    (refl, growth_still (account_in space old) made.0.0 e made.0.1, (made.1, made.2))
asks_two (Some old) (Some new) space block words answer e f (g ∷ es) made = absurd made
asks_two (Some old) None space block words answer e f es made = absurd made
asks_two None (Some new) space block words answer e f es made = absurd made
asks_two None None space block words answer e f es made =
    let long : length (e ∷ f ∷ es) ≡ 0 = ap length made in absurd (omega arith)

asks_spread : (old : List (ℕ × LoaderView)) (step : Step) (reply : Reply) (new : List (ℕ × LoaderView)) (name : ℕ)
    (space : Space) (block words : ℕ) (answer : Result ℕ Refusal) (e f : Event) (es : List Event)
    → IsOwnStep old (step, reply) new → IsSoundEvent f
    → (AsksOf (named old name) (named new name) space block words answer (f ∷ []) → Makes old step reply new (f ∷ []))
    → AsksOf (named old name) (named new name) space block words answer (e ∷ f ∷ es)
    → SpreadOf old step reply new (e ∷ f ∷ es)
asks_spread old step reply new name space block words answer e f es own sound makes made =
    let two = asks_two (named old name) (named new name) space block words answer e f es made in
    subst (λ (l : List Event). SpreadOf old step reply new (e ∷ f ∷ l)) (sym two.0)
    (inr (two.1, inl (step_at old step reply new f own sound (inl (makes two.2)), tt)))

none_long : (e f : Event) (es : List Event) → (e ∷ f ∷ es) ≡ [] → ⊥
none_long e f es none = let long : length (e ∷ f ∷ es) ≡ 0 = ap length none in absurd (omega arith)

spread_two : (old : List (ℕ × LoaderView)) (step : Step) (reply : Reply) (new : List (ℕ × LoaderView)) (e f : Event)
    (es : List Event) → IsOwnStep old (step, reply) new → AreSound (e ∷ f ∷ es) → Makes old step reply new (e ∷ f ∷ es)
    → SpreadOf old step reply new (e ∷ f ∷ es)
spread_two old (New name kind) (Refused refusal) new e f [] own sound made =
    inl (
      step_at old (New name kind) (Refused refusal) new e own sound.0 (inr (made.0, made.1, made.2)),
      (vain_still kind made.1 e f made.2 made.3, tt),
    )
spread_two old (New name kind) (Refused refusal) new e f (g ∷ es) own sound made = absurd made
spread_two old (Alloc name block words) (At start) new e f es own sound made =
    asks_spread old (Alloc name block words) (At start) new name NonClass block words (Ok start) e f es own sound.1.0 (λ m. m) made
spread_two old (Alloc name block words) (Refused refusal) new e f es own sound made =
    asks_spread old (Alloc name block words) (Refused refusal) new name NonClass block words (Err refusal) e f es own sound.1.0 (λ m. m) made
spread_two old (Calloc name block words) (At start) new e f es own sound made =
    asks_spread old (Calloc name block words) (At start) new name Class block words (Ok start) e f es own sound.1.0 (λ m. m) made
spread_two old (Calloc name block words) (Refused refusal) new e f es own sound made =
    asks_spread old (Calloc name block words) (Refused refusal) new name Class block words (Err refusal) e f es own sound.1.0 (λ m. m) made
spread_two old (Write name block index value) reply new e f es own sound made = absurd (none_long e f es made)
spread_two old (Read name block index) reply new e f es own sound made = absurd (none_long e f es made)
spread_two old (Free name block) reply new e f es own sound made = absurd (none_long e f es made)
spread_two old (Unload name) (Refused refusal) new e f es own sound made = absurd (none_long e f es made)
spread_two old Purge Done new e f es own sound made = absurd made
spread_two old _ _ new e f es own sound made = absurd made

spread : (old : List (ℕ × LoaderView)) (step : Step) (reply : Reply) (new : List (ℕ × LoaderView)) (events : List Event)
    → IsAct old ((step, reply), events) new → SpreadOf old step reply new events
spread old step reply new [] its = λ view. record { loaders = its.loaders; pool = inl (refl, its.made) }
spread old step reply new (e ∷ []) its =
    inl (step_at old step reply new e its.loaders its.sound.0 (inl its.made), tt)
spread old step reply new (e ∷ f ∷ es) its = spread_two old step reply new e f es its.loaders its.sound its.made

spread_works : (old : List (ℕ × LoaderView)) (acts : List Act) (new : List (ℕ × LoaderView)) → Works old acts new
    → WorksOf seen IsStep old acts new
spread_works old [] new works = works
spread_works old (act ∷ acts) new works = (
  works.0,
  spread old act.0.0 act.0.1 works.0 act.1 works.1,
  spread_works works.0 acts new works.2,
)

-- What was said at one position came of acts, over the loaders of that position, and the events of that
-- number are those of the acts.
pub record HasPart (position : Position) (said : List Said) (log : List Logged) (before after : List (ℕ × LoaderView))
    (at : ℕ) : Type 0 where
  pub acts : List Act
  pub works : Works before acts after
  pub said_are : said_of acts ≡ filter (λ (s : Said). position (loader_of s.0) == at) said
  pub events : events_by acts ≡ events_of at log

-- So there is one order.
pub record AreWoven (position : Position) (said : List Said) (first last : Ledger)
    (before after : List (List (ℕ × LoaderView))) : Type 0 where
  pub order : List (ℕ × Said)
  pub runs : Runs IsStep [] (seen first, before) order (seen last, after)
  pub keeps : (at : ℕ) → at < length before
      → of at order ≡ filter (λ (s : Said). position (loader_of s.0) == at) said

pub ordered : (position : Position) (said : List Said) (first last : Ledger) (before after : List (List (ℕ × LoaderView)))
    (log : List Logged) → length after ≡ length before → Chain first (events_in log) last
    → AreBelow (length before) log
    → ((at : ℕ) → at < length before
    → HasPart position said log (slice_index_or before at []) (slice_index_or after at []) at)
    → AreWoven position said first last before after
ordered position said first last before after log count chain below parts =
    let woven = weaves seen IsStep [] first last before after log acts chain below
    (record {
      count = count;
      works = λ at less. works_at at (dec_lt at (length before)) less;
      events = λ at less. events_at at (dec_lt at (length before)) less;
    }) in
    record {
      order = woven.order;
      runs = woven.runs;
      keeps = λ at less. woven.keeps at less ∙ said_at at (dec_lt at (length before)) less;
    }
  where
    acts_of : (at : ℕ) → Dec (at < length before) → List Act
    acts_of at (yes less) = (parts at less).acts
    acts_of at (no more) = []

    acts : ℕ → List Act
    acts at = acts_of at (dec_lt at (length before))

    works_at : (at : ℕ) (d : Dec (at < length before)) → at < length before
        → WorksOf seen IsStep (slice_index_or before at []) (acts_of at d) (slice_index_or after at [])
    works_at at (yes less) below = spread_works _ _ _ (parts at less).works
    works_at at (no more) below = absurd (more below)

    events_at : (at : ℕ) (d : Dec (at < length before)) → at < length before → events_by (acts_of at d) ≡ events_of at log
    events_at at (yes less) below = (parts at less).events
    events_at at (no more) below = absurd (more below)

    said_at : (at : ℕ) (d : Dec (at < length before)) → at < length before
        → said_of (acts_of at d) ≡ filter (λ (s : Said). position (loader_of s.0) == at) said
    said_at at (yes less) below = (parts at less).said_are
    said_at at (no more) below = absurd (more below)
