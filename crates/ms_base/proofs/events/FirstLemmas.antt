-- The first of the events that are left of a loader's, by what its step is.
use Rattle.std.proofs.Common.{◌≡◌, ℕ, true, false, Some, List, [], ◌∷◌, ◌++◌, refl, sym, ap, ◌∙◌, subst, inl, inr}
use Rattle.ms_base.specs.declared.kind.Space.{Space}
use Rattle.ms_base.specs.declared.kind.Space.TheVariants.{NonClass, Class}
use Rattle.ms_base.specs.declared.span.Chunk.{Chunk}
use Rattle.ms_base.specs.declared.step.Step.{Step}
use Rattle.ms_base.specs.declared.step.Reply.{Reply}
use Rattle.ms_base.specs.declared.step.Reply.TheVariants.{Ok as Done, At, Value, Refused}
use Rattle.ms_base.specs.declared.refusal.Refusal.{Refusal}
use Rattle.ms_base.specs.Request.{alloc_in, loader_of}
use Rattle.ms_base.specs.State.{Machine}
use Rattle.ms_base.specs.Run.Event.{Event, taking, acting, Answer, lent, replied, refused, Happens}
use Rattle.ms_base.specs.Run.Spread.{SpreadStep, IsOwnReply, Part, AreWhole, HasNoSpan, not_asked, not_had, GoesOn}
use Rattle.ms_base.specs.Run.Serial.{is_position}
use Rattle.ms_base.proofs.events.StageLemmas.{Stage, rest_of, GoesOnBy, FirstGoesOn}
use Rattle.ms_base.proofs.events.AllocEventLemmas.{IsPlain}
use Rattle.ms_base.proofs.events.AskLemmas.{goes_on_taken, goes_on_refused}
use Rattle.ms_base.proofs.events.LocalLemmas.{acts_refused}
use Rattle.ms_base.proofs.events.OwedLemmas.{added_by, goes_on_placed}

-- No allocation is answered by another reply.
not_done : (space : Space) (old : Machine) (name block words : ℕ) (new : Machine)
    → Happens old (acting (alloc_in space name block words)) (replied Done) new → ⊥
not_done NonClass old name block words new does = does.0
not_done Class old name block words new does = does.0

not_value : (space : Space) (old : Machine) (name block words value : ℕ) (new : Machine)
    → Happens old (acting (alloc_in space name block words)) (replied (Value value)) new → ⊥
not_value NonClass old name block words value new does = does.0
not_value Class old name block words value new does = does.0

names_it : (space : Space) (name block words : ℕ) → loader_of (alloc_in space name block words) ≡ Some name
names_it NonClass name block words = refl
names_it Class name block words = refl

-- What an allocation does once no growth was had.
module _ (space : Space) (mine block words : ℕ) (spread : SpreadStep)
    (step_is : spread.step ≡ alloc_in space mine block words) (stage : Stage) (plain : IsPlain stage)
    (old new : Machine) where
  abbrev request : Step
  request = alloc_in space mine block words

  -- Its local event alone.
  alone : (reply : Reply) → spread.reply ≡ reply → IsOwnReply reply → (more : List Part) → AreWhole more
      → is_position spread.events (acting request, replied reply) ≡ true
      → Happens old (acting request) (replied reply) new
      → GoesOnBy mine stage old new (Some spread, acting request, replied reply) more
  alone Done reply_is own more whole here does = absurd (not_done space old mine block words new does)
  alone (Value value) reply_is own more whole here does = absurd (not_value space old mine block words value new does)
  alone (At start) reply_is own more whole here does =
      goes_on_placed space mine block words start spread step_is reply_is stage plain old new more whole here
      (added_by space old mine block words start new does)
  alone (Refused refusal) reply_is own more whole here does =
      acts_refused mine spread stage old new request refusal more whole plain step_is reply_is
      (names_it space mine block words) own here does

  abbrev took : (p m n start : ℕ) (chunk : Chunk) → List (Event × Answer)
  took p m n start chunk = (taking space mine p m n, lent chunk) ∷ (acting request, replied (At start)) ∷ []

  abbrev passed : (p m n : ℕ) (refusal : Refusal) → List (Event × Answer)
  passed p m n refusal = (taking space mine p m n, refused refusal) ∷ (acting request, replied (Refused refusal)) ∷ []

  record Positions (asked events : List (Event × Answer)) (first last : Event × Answer) : Type 0 where
    here : is_position (asked ++ events) first ≡ true
    elsewhere : is_position (asked ++ events) last ≡ false

  positions_taken : (asked : List (Event × Answer)) → HasNoSpan space mine asked → (p m n start : ℕ) (chunk : Chunk)
      → Positions asked (took p m n start chunk) (taking space mine p m n, lent chunk) (acting request, replied (At start))
  positions_taken [] not_asked p m n start chunk = record { here = refl; elsewhere = refl }
  positions_taken (a ∷ asked) (not_had at total enlarges refusal) p m n start chunk =
      record { here = refl; elsewhere = refl }

  positions_passed : (asked : List (Event × Answer)) → HasNoSpan space mine asked → (p m n : ℕ) (refusal : Refusal)
      → Positions asked (passed p m n refusal) (taking space mine p m n, refused refusal)
      (acting request, replied (Refused refusal))
  positions_passed [] not_asked p m n refusal = record { here = refl; elsewhere = refl }
  positions_passed (a ∷ asked) (not_had at total enlarges other) p m n refusal = record { here = refl; elsewhere = refl }

  position_alone : (asked : List (Event × Answer)) → HasNoSpan space mine asked → (reply : Reply)
      → is_position (asked ++ (acting request, replied reply) ∷ []) (acting request, replied reply) ≡ true
  position_alone [] not_asked reply = refl
  position_alone (a ∷ asked) (not_had at total enlarges other) reply = refl

  -- The first event of what is left, whatever was asked for in vain before it.
  module _ (name : ℕ)
      (onto : (part : Part) (rest : List Part) → Some mine ≡ Some name → GoesOnBy mine stage old new part rest
      → GoesOnBy name stage old new part rest) where
    abbrev goal : List (Event × Answer) → List Part → Type 0
    goal rest more = FirstGoesOn name stage old new (rest_of spread rest ++ more)

    pub goes_on_first : (asked rest : List (Event × Answer)) (reply : Reply) → spread.reply ≡ reply
        → HasNoSpan space mine asked → GoesOn space mine request reply rest → spread.events ≡ asked ++ rest
        → (more : List Part) → AreWhole more → goal rest more
    goes_on_first asked rest reply reply_is no_span (inl takes) events_are more whole =
        let its : spread.events ≡ asked ++ took takes.p takes.m takes.words takes.at takes.chunk = events_are ∙ ap
        (λ (l : List (Event × Answer)). asked ++ l) takes.events_are in
        let positions = positions_taken asked no_span takes.p takes.m takes.words takes.at takes.chunk in
        subst (λ (l : List (Event × Answer)). goal l more) (sym takes.events_are) (λ happens asks is_mine.
        onto (Some spread, taking space mine takes.p takes.m takes.words, lent takes.chunk)
        ((Some spread, acting request, replied (At takes.at)) ∷ more) is_mine
        (goes_on_taken space mine block words spread step_is stage plain old new more whole takes.p takes.m takes.words
        takes.at takes.chunk (reply_is ∙ takes.served)
        (ap (λ (l : List (Event × Answer)). is_position l
        (taking space mine takes.p takes.m takes.words, lent takes.chunk)) its ∙ positions.here)
        (ap (λ (l : List (Event × Answer)). is_position l (acting request, replied (At takes.at))) its
        ∙ positions.elsewhere) happens asks))
    goes_on_first asked rest reply reply_is no_span (inr (inl passes)) events_are more whole =
        let its : spread.events ≡ asked ++ passed passes.p passes.m passes.words passes.refusal = events_are ∙ ap
        (λ (l : List (Event × Answer)). asked ++ l) passes.events_are in
        let positions = positions_passed asked no_span passes.p passes.m passes.words passes.refusal in
        subst (λ (l : List (Event × Answer)). goal l more) (sym passes.events_are) (λ happens asks is_mine.
        onto (Some spread, taking space mine passes.p passes.m passes.words, refused passes.refusal)
        ((Some spread, acting request, replied (Refused passes.refusal)) ∷ more) is_mine
        (goes_on_refused space mine block words spread step_is stage plain old new more whole passes.p passes.m
        passes.words passes.refusal (reply_is ∙ passes.passed)
        (ap (λ (l : List (Event × Answer)). is_position l
        (taking space mine passes.p passes.m passes.words, refused passes.refusal)) its ∙ positions.here)
        (ap (λ (l : List (Event × Answer)). is_position l (acting request, replied (Refused passes.refusal))) its
        ∙ positions.elsewhere) happens asks))
    goes_on_first asked rest reply reply_is no_span (inr (inr none)) events_are more whole =
        subst (λ (l : List (Event × Answer)). goal l more) (sym none.events_are) (λ happens asks is_mine.
        onto (Some spread, acting request, replied reply) more (sym (names_it space mine block words) ∙ is_mine)
        (alone reply reply_is none.own more whole
        (ap (λ (l : List (Event × Answer)). is_position l (acting request, replied reply))
        (events_are ∙ ap (λ (l : List (Event × Answer)). asked ++ l) none.events_are)
        ∙ position_alone asked no_span reply) happens))
