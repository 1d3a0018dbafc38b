-- A chunk that an allocation takes or lets grow, or that is refused to it, as its step goes on.
use Rattle.std.proofs.Common.{◌≡◌, ℕ, Bool, true, false, Some, List, [], ◌∷◌, refl, sym, ap, ◌∙◌, subst, inl, inr}
use Rattle.std.specs.Prelude.{slice_set}
use Rattle.ms_base.specs.declared.kind.Space.{Space}
use Rattle.ms_base.specs.declared.kind.Space.TheVariants.{NonClass, Class}
use Rattle.ms_base.specs.declared.span.Chunk.{Chunk}
use Rattle.ms_base.specs.declared.step.Step.{Step}
use Rattle.ms_base.specs.declared.step.Reply.{Reply}
use Rattle.ms_base.specs.declared.step.Reply.TheVariants.{At, Refused}
use Rattle.ms_base.specs.declared.refusal.Refusal.{Refusal}
use Rattle.ms_base.specs.declared.refusal.Refusal.TheVariants.{CommitLimit, ReserveLimit, OutOfMemory}
use Rattle.ms_base.specs.Level.{size_of, level_that_holds}
use Rattle.ms_base.specs.Front.{front_for}
use Rattle.ms_base.specs.Names.{named}
use Rattle.ms_base.specs.Live.{block_words}
use Rattle.ms_base.specs.Place.{with_chunk}
use Rattle.ms_base.specs.Asks.{wanted_level}
use Rattle.ms_base.specs.PoolSteps.{slots_with}
use Rattle.ms_base.specs.State.{ArenaState, LoaderState, Machine, PoolState, arena_of, with_arena, slots_in, pool_of}
use Rattle.ms_base.specs.State.{recommitted}
use Rattle.ms_base.specs.Good.{IsGood}
use Rattle.ms_base.specs.Transition.{HasLoader, with_loader, Change, MayChange, IsServable, AllocCause, Transition}
use Rattle.ms_base.specs.Request.{alloc_in}
use Rattle.ms_base.specs.Run.Event.{taking, growing, acting, lent, replied, refused, Takes, TakesNone, GrowsChunk, with_chunk_at}
use Rattle.ms_base.specs.Run.Spread.{SpreadStep, Part, AreWhole, AsksChunk, words_for}
use Rattle.ms_base.specs.Run.Serial.{is_position}
use Rattle.ms_base.proofs.granules.TakingLimitLemmas.{taken_is}
use Rattle.ms_base.proofs.machine.ChangeLemmas.{slots_same}
use Rattle.ms_base.proofs.events.GrownEventLemmas.{grows_well, set_same}
use Rattle.ms_base.proofs.events.EventCauseLemmas.{NoneCause, none_cause, leaves_same}
use Rattle.ms_base.proofs.events.StageLemmas.{Stage, owes_block, owes_refusal, OwesRefusal, IsPassed, IsOwed, GoesOnBy}
use Rattle.ms_base.proofs.events.BackLemmas.{done_there, with_seen, pool_seen, steps_back}
use Rattle.ms_base.proofs.events.AllocEventLemmas.{IsPlain, had_back}

words_of_it : (space : Space) (name block words : ℕ) → words_for (alloc_in space name block words) ≡ block_words words
words_of_it NonClass name block words = refl
words_of_it Class name block words = refl

is_passed : (pool : PoolState) (p m n : ℕ) (refusal : Refusal) → NoneCause pool p m n refusal → IsPassed refusal
is_passed pool p m n (CommitLimit committed limit need) cause = tt
is_passed pool p m n (ReserveLimit nodes limit) cause = tt
is_passed pool p m n OutOfMemory cause = tt
is_passed pool p m n _ cause = absurd cause

-- The refusal that the pool gave, as the machine tells it.
told_by : (space : Space) (m : Machine) (name block words : ℕ) (loader : LoaderState) (refusal : Refusal)
    → HasLoader m name loader → IsServable m name block words
    → NoneCause (pool_of space m) (wanted_level loader.kind space (arena_of space loader) (block_words words))
    (level_that_holds (block_words words)) (block_words words) refusal
    → AllocCause m space name block words refusal
told_by space m name block words loader (CommitLimit committed limit need) has servable cause =
    (servable, record { loader = loader; has = has; cause = cause })
told_by space m name block words loader (ReserveLimit nodes limit) has servable cause = (servable, cause)
told_by space m name block words loader OutOfMemory has servable cause = servable
told_by space m name block words loader _ has servable cause = absurd cause

refused_in : (space : Space) (m : Machine) (name block words : ℕ) (refusal : Refusal)
    → AllocCause m space name block words refusal → Transition m (alloc_in space name block words) (Refused refusal) m
refused_in NonClass m name block words refusal cause =
    (cause, leaves_same m (alloc_in NonClass name block words) refusal)
refused_in Class m name block words refusal cause = (cause, leaves_same m (alloc_in Class name block words) refusal)

abbrev one_done : Step → Reply → List (Step × Reply)
one_done step reply = (step, reply) ∷ []

pub same_step : (spread : SpreadStep) (step : Step) (reply : Reply) → spread.step ≡ step → spread.reply ≡ reply
    → one_done spread.step spread.reply ≡ one_done step reply
same_step spread step reply e f = ap (λ (s : Step). one_done s spread.reply) e ∙ ap (one_done step) f

module _ (space : Space) (name block words : ℕ) (spread : SpreadStep)
    (step_is : spread.step ≡ alloc_in space name block words) (stage : Stage) (plain : IsPlain stage)
    (old new : Machine) (more : List Part) (whole : AreWhole more) where
  abbrev request : Step
  request = alloc_in space name block words

  abbrev after_it : Reply → List Part
  after_it reply = (Some spread, acting request, replied reply) ∷ more

  owed : (reply : Reply) → spread.reply ≡ reply → is_position spread.events (acting request, replied reply) ≡ false
      → IsOwed request reply (acting request) (replied reply) false (after_it reply)
  owed reply reply_is elsewhere =
      record {
        spread = spread;
        more = more;
        step_is = step_is;
        reply_is = reply_is;
        position_is = elsewhere;
        parts_are = refl;
        whole = whole;
      }

  -- A chunk is taken.
  pub goes_on_taken : (p m n start : ℕ) (chunk : Chunk) → spread.reply ≡ At start
      → is_position spread.events (taking space name p m n, lent chunk) ≡ true
      → is_position spread.events (acting request, replied (At start)) ≡ false → Takes old space name p m n chunk new
      → AsksChunk old space name p m n (words_for spread.step)
      → GoesOnBy name stage old new (Some spread, taking space name p m n, lent chunk) (after_it (At start))
  goes_on_taken p m n start chunk reply_is here elsewhere takes asks =
      subst (λ (one : Machine). GoesOnBy name stage old one (Some spread, taking space name p m n, lent chunk)
      (after_it (At start))) (sym takes.after) (record {
        next = owes_block space block words start;
        was = tt;
        left = owed (At start) reply_is elsewhere;
        back = λ seen its. had_back space old name block words start takes.loader
            (with_chunk (arena_of space takes.loader) chunk) (slots_with (slots_in space old) chunk.start) takes.has
            stage plain (inr (inr (record { added = chunk; front = front; chunks = refl; slots = refl }))) seen its _
            (done_there spread (taking space name p m n) (lent chunk) here ∙ same_step spread request
            (At start) step_is reply_is);
      })
    where
      front : chunk.front ≡ front_for old.limits.policy (size_of chunk.level) (block_words words)
      front =
          let picked = (taken_is (pool_of space old) p m n chunk takes.answer).is in
          subst (λ (k : ℕ). chunk.front ≡ front_for old.limits.policy (size_of chunk.level) k)
          (asks.words_are ∙ ap words_for step_is ∙ words_of_it space name block words)
          (subst (λ (c : Chunk). c.front ≡ front_for old.limits.policy (size_of c.level) n) (sym picked) refl)

  -- A chunk grows.
  pub goes_on_grown : IsGood old → (at total start : ℕ) (enlarges : Bool) (chunk : Chunk) → spread.reply ≡ At start
      → is_position spread.events (growing space name at total enlarges, lent chunk) ≡ true
      → is_position spread.events (acting request, replied (At start)) ≡ false
      → GrowsChunk old space name at total enlarges chunk new
      → GoesOnBy name stage old new (Some spread, growing space name at total enlarges, lent chunk)
      (after_it (At start))
  goes_on_grown good at total start enlarges chunk reply_is here elsewhere grows =
      subst (λ (one : Machine). GoesOnBy name stage old one
      (Some spread, growing space name at total enlarges, lent chunk) (after_it (At start)))
      (sym (grows.after ∙ ap recommitted (sym (slots_same space
      (with_loader old name (with_arena space grows.loader greater)))))) (record {
        next = owes_block space block words start;
        was = tt;
        left = owed (At start) reply_is elsewhere;
        back = λ seen its. had_back space old name block words start grows.loader greater
            (slots_in space old) grows.asked.has stage plain changes seen its _
            (done_there spread (growing space name at total enlarges) (lent chunk) here ∙ same_step spread request
            (At start) step_is reply_is);
      })
    where
      arena : ArenaState
      arena = arena_of space grows.loader

      greater : ArenaState
      greater = with_chunk_at arena grows.index chunk

      change : List Chunk → Change
      change chunks = record { chunks = chunks; slots = slots_in space old }

      changes : MayChange old.limits.policy (block_words words) (change arena.chunks) (change greater.chunks)
      changes = elim (grows_well space old name at total enlarges chunk new good grows).changes [
        | inl same ↦ inl (ap change (ap (slice_set arena.chunks grows.index) same
            ∙ set_same arena.chunks grows.index grows.was grows.asked.found))
        | inr grown ↦
            inr (inl (record {
              index = grows.index;
              was = grows.was;
              is = chunk;
              found = grows.asked.found;
              grown = grown;
              chunks = refl;
              slots = refl;
            }))
      ]

  -- A chunk is refused.
  pub goes_on_refused : (p m n : ℕ) (refusal : Refusal) → spread.reply ≡ Refused refusal
      → is_position spread.events (taking space name p m n, refused refusal) ≡ true
      → is_position spread.events (acting request, replied (Refused refusal)) ≡ false
      → TakesNone old space name p m n refusal new → AsksChunk old space name p m n (words_for spread.step)
      → GoesOnBy name stage old new (Some spread, taking space name p m n, refused refusal) (after_it (Refused refusal))
  goes_on_refused p m n refusal reply_is here elsewhere none asks =
      subst (λ (one : Machine). GoesOnBy name stage old one (Some spread, taking space name p m n, refused refusal)
      (after_it (Refused refusal))) (sym none.after) (record {
        next = owes_refusal space block words refusal;
        was = is_passed (pool_of space old) p m n refusal cause;
        left = owed (Refused refusal) reply_is elsewhere;
        back = λ seen its. steps_back name stage old old seen seen _ request (Refused refusal)
            (done_there spread (taking space name p m n) (refused refusal) here ∙ same_step spread request
            (Refused refusal) step_is reply_is)
            its.rises (λ other differ. refl) (plain (named seen name) (named old.loaders name) its.mine.same)
            (refused_in space (with_seen old seen) name block words refusal
            (told_by space (with_seen old seen) name block words asks.loader refusal (its.mine.same ∙ asks.has)
            (servable seen its.mine) (as_asked seen (its.held space))));
      })
    where
      cause : NoneCause (pool_of space old) p m n refusal
      cause = none_cause (pool_of space old) p m n refusal none.cause

      servable : (seen : List (ℕ × LoaderState)) → OwesRefusal block words (named seen name) (named old.loaders name)
          → IsServable (with_seen old seen) name block words
      servable seen its = record {
        lacks = record {
          loader = its.loader;
          loader_is = its.same
              ∙ its.real_is;
          unused = its.unused;
        };
        some = its.some;
        fits = its.fits;
      }

      n_is : n ≡ block_words words
      n_is = asks.words_are ∙ ap words_for step_is ∙ words_of_it space name block words

      as_asked : (seen : List (ℕ × LoaderState))
          → (pool_of space (with_seen old seen)).held ≡ (pool_of space old).held
          → NoneCause (pool_of space (with_seen old seen))
          (wanted_level asks.loader.kind space (arena_of space asks.loader) (block_words words))
          (level_that_holds (block_words words)) (block_words words) refusal
      as_asked seen held =
          subst (λ (pool : PoolState). NoneCause pool (wanted_level asks.loader.kind space
          (arena_of space asks.loader) (block_words words)) (level_that_holds (block_words words))
          (block_words words) refusal)
          (sym (pool_seen space old seen held))
          (subst (λ (k : ℕ). NoneCause (pool_of space old) (wanted_level asks.loader.kind space
          (arena_of space asks.loader) k) (level_that_holds k) k refusal) n_is
          (subst (λ (k : ℕ). NoneCause (pool_of space old) (wanted_level asks.loader.kind space
          (arena_of space asks.loader) n) k n refusal) (asks.most_is ∙ ap level_that_holds (sym asks.words_are))
          (subst (λ (k : ℕ). NoneCause (pool_of space old) k m n refusal)
          (asks.wanted ∙ ap (wanted_level asks.loader.kind space (arena_of space asks.loader))
          (sym asks.words_are)) cause)))
