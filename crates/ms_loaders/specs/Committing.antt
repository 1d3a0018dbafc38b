-- The run of granules that an allocation tells, beside those that it committed (this project's
-- choice).
use Rattle.std.specs.Prelude.{◌≡◌, ℕ, ◌+◌, ◌-◌, ◌/◌, Bool, ◌&&◌, ◌==◌, nat_le, nat_lt, List, length, slice_get, Some}
use Rattle.std.specs.Prelude.{IsTrue, IsFalse, if◌then◌else◌}
use Rattle.ms_base.specs.declared.kind.Space.{Space}
use Rattle.ms_base.specs.declared.span.Chunk.{Chunk}
use Rattle.ms_base.specs.Committed.{is_among}
use Rattle.ms_base.specs.Policy.{keeps}
use Rattle.ms_base.specs.Spaces.{other_space}
use Rattle.ms_base.specs.State.{Machine, committed_in}
use Rattle.ms_loaders.specs.declared.system.committing.GranuleRun.{GranuleRun}
use Rattle.ms_loaders.specs.declared.system.committing.Edge.{Edge}

-- The granule is one of the run.
abbrev pub is_in_run : GranuleRun → ℕ → Bool
is_in_run run k = nat_le run.first k && nat_lt k (run.first + run.granules)

-- The granule is committed in the space.
abbrev pub has_granule : Space → Machine → ℕ → Bool
has_granule space m k = is_among (committed_in space m) k

-- No granule goes, and none of the other space comes. Each that came lies in the run, each of the
-- run is committed then, and so many came; where a policy gives back, each of the run came.
pub record TellsRun (space : Space) (old : Machine) (run : GranuleRun) (new : Machine) : Type 0 where
  pub elsewhere : committed_in (other_space space) new ≡ committed_in (other_space space) old
  pub stay : (k : ℕ) → IsTrue (has_granule space old k) → IsTrue (has_granule space new k)
  pub came : (k : ℕ) → IsTrue (has_granule space new k) → IsFalse (has_granule space old k) → IsTrue (is_in_run run k)
  pub backed : (k : ℕ) → IsTrue (is_in_run run k) → IsTrue (has_granule space new k)
  pub count : length (committed_in space new) ≡ length (committed_in space old) + run.came
  pub exact : IsFalse (keeps old.limits.policy) → (k : ℕ) → IsTrue (is_in_run run k)
      → IsFalse (has_granule space old k)

-- How many chunks there are, and where the last one starts and how far it is committed.
pub record IsEdge (chunks : List Chunk) (edge : Edge) : Type 0 where
  pub held : edge.held ≡ length chunks
  pub last : (chunk : Chunk) → slice_get chunks (length chunks - 1) ≡ Some chunk
      → (edge.start ≡ chunk.start) × (edge.front ≡ chunk.front)

-- The first granule past those of a front of so many words, from the start on.
abbrev pub first_past : ℕ → ℕ → ℕ → ℕ
first_past granule start front = if front == 0 then start / granule else (start + front - 1) / granule + 1

-- The granules of a front that hold no word of the one before, where any granule came.
abbrev pub run_of : ℕ → ℕ → ℕ → ℕ → ℕ → GranuleRun
run_of granule before start front came =
    if came == 0 then record { first = 0; granules = 0; came = 0 }
    else record {
      first = first_past granule start before;
      granules = (start + front - 1) / granule + 1 - first_past granule start before;
      came = came;
    }

-- How far the chunk that is the last one now was committed before: 0 where it is new.
abbrev pub front_before : Edge → Edge → ℕ
front_before before now = if now.held == before.held then before.front else 0
