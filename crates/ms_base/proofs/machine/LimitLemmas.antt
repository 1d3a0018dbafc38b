-- A run whose states keep a limit of granules, and which never met one, is a run under that limit
-- too (`peak_suffices`): nothing but the commit limit and the good state asks for it.
use Rattle.std.proofs.Common.{ℕ, ◌≤◌, List, [], ◌∷◌, IsTrue, ap, arith, inl, inr}
use Rattle.ms_base.specs.declared.kind.Space.{Space}
use Rattle.ms_base.specs.declared.kind.Space.TheVariants.{NonClass, Class}
use Rattle.ms_base.specs.declared.step.Step.{Step}
use Rattle.ms_base.specs.declared.step.Step.TheVariants.{New, Alloc, Calloc, Write, Read, Free, Unload, Purge}
use Rattle.ms_base.specs.declared.step.Reply.{Reply}
use Rattle.ms_base.specs.declared.step.Reply.TheVariants.{Ok as Done, At, Value, Refused}
use Rattle.ms_base.specs.declared.refusal.Refusal.{Refusal}
use Rattle.ms_base.specs.declared.refusal.Refusal.TheVariants.{ZeroWords, TooLarge, CommitLimit, ReserveLimit}
use Rattle.ms_base.specs.declared.refusal.Refusal.TheVariants.{OutOfRange, OutOfMemory, NoLoader, LoaderExists, NoBlock}
use Rattle.ms_base.specs.declared.refusal.Refusal.TheVariants.{BlockExists, IdsUsedUp}
use Rattle.ms_base.specs.State.{Machine, pool_of}
use Rattle.ms_base.specs.Good.{IsGood, IsSoundPool}
use Rattle.ms_base.specs.Transition.{LacksBlock, IsServable, NewCause, AllocCause, BlockCause, WordCause, Cause, Leaves}
use Rattle.ms_base.specs.Transition.{ServesStep, Transition}
use Rattle.ms_base.specs.Run.{Run}
use Rattle.ms_base.specs.Laws.Peak.{granules_of_both, under_limit, is_within_limit, RunsBelow}

-- A good state is good under every limit that its granules keep.
pub good_under : (limit : ℕ) (m : Machine) → granules_of_both m ≤ limit → IsGood m → IsGood (under_limit limit m)
good_under limit m within good =
    record { loaders = good.loaders; names = good.names; pools = pools; given = good.given }
  where
    pools : (space : Space) → IsSoundPool (pool_of space (under_limit limit m))
    pools NonClass = let pool = good.pools NonClass in record {
      held = pool.held;
      slots = pool.slots;
      below = pool.below;
      committed = pool.committed;
      granules = within;
      reserved = pool.reserved;
    }
    pools Class = let pool = good.pools Class in record {
      held = pool.held;
      slots = pool.slots;
      below = pool.below;
      committed = pool.committed;
      granules = omega (arith, within);
      reserved = pool.reserved;
    }

-- What a machine has under a name it has under every limit.
block_under : (limit : ℕ) (m : Machine) (name block : ℕ) → LacksBlock m name block
    → LacksBlock (under_limit limit m) name block
block_under limit m name block l = record { loader = l.loader; loader_is = l.loader_is; unused = l.unused }

servable_under : (limit : ℕ) (m : Machine) (name block words : ℕ) → IsServable m name block words
    → IsServable (under_limit limit m) name block words
servable_under limit m name block words s =
    record { lacks = block_under limit m name block s.lacks; some = s.some; fits = s.fits }

-- What is served is served alike under every limit.
serves_under : (limit : ℕ) (old new : Machine) (step : Step) (reply : Reply) → ServesStep old step reply new
    → ServesStep (under_limit limit old) step reply (under_limit limit new)
serves_under limit old new (New name kind) Done s = record { unused = s.unused; after = ap (under_limit limit) s.after }
serves_under limit old new (Alloc name block words) (At start) s = record {
  some = s.some;
  fits = s.fits;
  before = s.before;
  arena = s.arena;
  slots = s.slots;
  found = s.found;
  unused = s.unused;
  inside = s.inside;
  changes = s.changes;
  after = ap (under_limit limit) s.after;
}
serves_under limit old new (Calloc name block words) (At start) s = record {
  some = s.some;
  fits = s.fits;
  before = s.before;
  arena = s.arena;
  slots = s.slots;
  found = s.found;
  unused = s.unused;
  inside = s.inside;
  changes = s.changes;
  after = ap (under_limit limit) s.after;
}
serves_under limit old new (Write name block index value) Done s = record {
  loader = s.loader;
  found = s.found;
  has = record { loader_is = s.has.loader_is; block_is = s.has.block_is };
  within = s.within;
  after = ap (under_limit limit) s.after;
}
serves_under limit old new (Read name block index) (Value value) s = record {
  loader = s.loader;
  found = s.found;
  has = record { loader_is = s.has.loader_is; block_is = s.has.block_is };
  word = s.word;
  after = ap (under_limit limit) s.after;
}
serves_under limit old new (Free name block) Done s = record {
  loader = s.loader;
  found = s.found;
  kept = s.kept;
  has = record { loader_is = s.has.loader_is; block_is = s.has.block_is };
  after = ap (under_limit limit) s.after;
}
serves_under limit old new (Unload name) Done s =
    record { loader = s.loader; has = s.has; after = ap (under_limit limit) s.after }
serves_under limit old new Purge Done s = ap (under_limit limit) s
serves_under limit old new _ _ s = absurd s

-- So is the cause of each refusal but for the commit limit.
new_cause : (limit : ℕ) (m : Machine) (name : ℕ) (refusal : Refusal) → NewCause m name refusal
    → NewCause (under_limit limit m) name refusal
new_cause limit m name LoaderExists c = record { loader = c.loader; has = c.has }
new_cause limit m name IdsUsedUp c = c
new_cause limit m name OutOfMemory c = c
new_cause limit m name _ c = absurd c

alloc_cause : (limit : ℕ) (m : Machine) (space : Space) (name block words : ℕ) (refusal : Refusal)
    → IsTrue (is_within_limit (Refused refusal)) → AllocCause m space name block words refusal
    → AllocCause (under_limit limit m) space name block words refusal
alloc_cause limit m space name block words NoLoader within c = c
alloc_cause limit m space name block words BlockExists within c = record {
  loader = c.loader;
  found = c.found;
  has = record { loader_is = c.has.loader_is; block_is = c.has.block_is };
}
alloc_cause limit m space name block words ZeroWords within c = (block_under limit m name block c.0, c.1)
alloc_cause limit m space name block words TooLarge within c = (block_under limit m name block c.0, c.1)
alloc_cause limit m NonClass name block words (ReserveLimit nodes most) within c = (
  servable_under limit m name block words c.0,
  record { met = c.1.met; nodes_are = c.1.nodes_are; limit_is = c.1.limit_is },
)
alloc_cause limit m Class name block words (ReserveLimit nodes most) within c = (
  servable_under limit m name block words c.0,
  record { met = c.1.met; nodes_are = c.1.nodes_are; limit_is = c.1.limit_is },
)
alloc_cause limit m space name block words OutOfMemory within c = servable_under limit m name block words c
alloc_cause limit m space name block words (CommitLimit committed most need) within c = absurd (cc)
alloc_cause limit m space name block words _ within c = absurd c

block_cause : (limit : ℕ) (m : Machine) (name block : ℕ) (refusal : Refusal) → BlockCause m name block refusal
    → BlockCause (under_limit limit m) name block refusal
block_cause limit m name block NoLoader c = c
block_cause limit m name block NoBlock c = block_under limit m name block c
block_cause limit m name block _ c = absurd c

word_cause : (limit : ℕ) (m : Machine) (name block index : ℕ) (refusal : Refusal)
    → WordCause m name block index refusal → WordCause (under_limit limit m) name block index refusal
word_cause limit m name block index (OutOfRange words) c = record {
  loader = c.loader;
  found = c.found;
  has = record { loader_is = c.has.loader_is; block_is = c.has.block_is };
  words_are = c.words_are;
  past = c.past;
}
word_cause limit m name block index NoLoader c = c
word_cause limit m name block index NoBlock c = block_under limit m name block c
word_cause limit m name block index _ c = absurd c

unload_cause : (limit : ℕ) (m : Machine) (name : ℕ) (refusal : Refusal) → Cause m (Unload name) refusal
    → Cause (under_limit limit m) (Unload name) refusal
unload_cause limit m name NoLoader c = c
unload_cause limit m name _ c = absurd c

cause_under : (limit : ℕ) (m : Machine) (step : Step) (refusal : Refusal)
    → IsTrue (is_within_limit (Refused refusal)) → Cause m step refusal → Cause (under_limit limit m) step refusal
cause_under limit m (New name kind) refusal within c = new_cause limit m name refusal c
cause_under limit m (Alloc name block words) refusal within c =
    alloc_cause limit m NonClass name block words refusal within c
cause_under limit m (Calloc name block words) refusal within c =
    alloc_cause limit m Class name block words refusal within c
cause_under limit m (Write name block index value) refusal within c = word_cause limit m name block index refusal c
cause_under limit m (Read name block index) refusal within c = word_cause limit m name block index refusal c
cause_under limit m (Free name block) refusal within c = block_cause limit m name block refusal c
cause_under limit m (Unload name) refusal within c = unload_cause limit m name refusal c
cause_under limit m Purge refusal within c = absurd c

-- What a refusal leaves.
leaves_under : (limit : ℕ) (old new : Machine) (step : Step) (refusal : Refusal) → Leaves old step refusal new
    → Leaves (under_limit limit old) step refusal (under_limit limit new)
leaves_under limit old new (New name kind) OutOfMemory l = elim l [
  | inl same ↦ inl (ap (under_limit limit) same)
  | inr counted ↦ inr (ap (under_limit limit) counted)
]
leaves_under limit old new _ _ l = ap (under_limit limit) l

-- One step, where the state after it keeps the limit:
step_under : (limit : ℕ) (old new : Machine) (step : Step) (reply : Reply) → granules_of_both new ≤ limit
    → IsTrue (is_within_limit reply) → Transition old step reply new
    → Transition (under_limit limit old) step reply (under_limit limit new)
step_under limit old new step (Refused refusal) kept within t =
    (cause_under limit old step refusal within t.0, leaves_under limit old new step refusal t.1)
step_under limit old new step Done kept within t =
    (serves_under limit old new step Done t.0, good_under limit new kept t.1)
step_under limit old new step (At start) kept within t =
    (serves_under limit old new step (At start) t.0, good_under limit new kept t.1)
step_under limit old new step (Value value) kept within t =
    (serves_under limit old new step (Value value) t.0, good_under limit new kept t.1)

-- A run's first state keeps its peak.
first_below : (peak : ℕ) (old new : Machine) (steps : List Step) (replies : List Reply)
    → RunsBelow peak old steps replies new → granules_of_both old ≤ peak
first_below peak old new [] [] r = r.1
first_below peak old new (s ∷ steps) (q ∷ replies) r = r.1
first_below peak old new [] (q ∷ replies) r = absurd r
first_below peak old new (s ∷ steps) [] r = absurd r

-- The whole run.
pub same_run : (steps : List Step) (replies : List Reply) (old new : Machine) (peak limit : ℕ)
    → RunsBelow peak old steps replies new → peak ≤ limit
    → Run (under_limit limit old) steps replies (under_limit limit new)
same_run [] [] old new peak limit r most = ap (under_limit limit) r.0
same_run (step ∷ steps) (reply ∷ replies) old new peak limit r most = (
  under_limit limit r.0,
  step_under limit old r.0 step reply kept r.2 r.3,
  same_run steps replies r.0 new peak limit r.4 most,
)
  where
    kept : granules_of_both r.0 ≤ limit
    kept = let first = first_below peak r.0 new steps replies r.4 in omega (arith, first, most)
same_run [] (reply ∷ replies) old new peak limit r most = absurd r
same_run (step ∷ steps) [] old new peak limit r most = absurd r
