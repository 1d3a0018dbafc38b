-- The tiles of a page: six questions, each with the case of its sentence and a mark (this project's
-- choice).
use Rattle.std.specs.Prelude.{ℕ, ◌-◌, ◌*◌, ◌==◌, ◌&&◌, ◌||◌, Bool, nat_lt, nat_le, if◌then◌else◌}
use Rattle.ms_page.specs.declared.tiles.Facts.{Facts}
use Rattle.ms_page.specs.declared.tiles.Tiles.{Tiles}
use Rattle.ms_page.specs.declared.tiles.Mark.{Mark}
use Rattle.ms_page.specs.declared.tiles.Mark.TheVariants.{Fine, Look, Problem}
use Rattle.ms_page.specs.declared.tiles.CommittedCase.{CommittedCase}
use Rattle.ms_page.specs.declared.tiles.CommittedCase.TheVariants as committed
use Rattle.ms_page.specs.declared.tiles.UsedCase.{UsedCase}
use Rattle.ms_page.specs.declared.tiles.UsedCase.TheVariants as used
use Rattle.ms_page.specs.declared.tiles.ReservedCase.{ReservedCase}
use Rattle.ms_page.specs.declared.tiles.ReservedCase.TheVariants as reserved
use Rattle.ms_page.specs.declared.tiles.ClassCase.{ClassCase}
use Rattle.ms_page.specs.declared.tiles.ClassCase.TheVariants as of_classes
use Rattle.ms_page.specs.declared.tiles.LoaderCase.{LoaderCase}
use Rattle.ms_page.specs.declared.tiles.LoaderCase.TheVariants as loaders
use Rattle.ms_page.specs.declared.tiles.RefusedCase.{RefusedCase}
use Rattle.ms_page.specs.declared.tiles.RefusedCase.TheVariants as refused

-- A peak came within a tenth of a limit.
abbrev pub is_near : ℕ → ℕ → Bool
is_near peak limit = nat_le (9 * limit) (10 * peak)

-- Less than half of what is committed is in use, and a MB or more is idle.
abbrev pub is_idle : ℕ → ℕ → Bool
is_idle used committed = nat_lt (2 * used) committed && nat_le 131072 (committed - used)

-- At the quietest there are a quarter more loaders than before.
abbrev pub is_rising : ℕ → ℕ → Bool
is_rising low low_after = nat_lt low low_after && nat_le (5 * low) (4 * low_after)

-- What each tile says: the first of its cases that holds.
abbrev pub committed_case : Facts → CommittedCase
committed_case facts =
    if nat_lt 0 facts.commit_refused then committed.Refused
    else (if is_near facts.committed_peak facts.limit then committed.Near else committed.Within)

abbrev pub used_case : Facts → UsedCase
used_case facts =
    if facts.committed == 0 then used.Nothing
    else (if is_idle facts.used facts.committed then used.Idle else used.InUse)

abbrev pub reserved_case : Facts → ReservedCase
reserved_case facts =
    if nat_lt 0 facts.reserve_refused then reserved.Refused
    else (if facts.nodes == facts.node_limit then reserved.All
    else (if nat_lt 0 facts.empty_nodes then reserved.Empty
    else (if facts.nodes == 0 then reserved.Nothing else reserved.Held)))

abbrev pub class_case : Facts → ClassCase
class_case facts =
    if facts.class_nodes == 0 then (if nat_lt 0 facts.class_refused then of_classes.Missing else of_classes.Unwanted)
    else (if nat_lt 0 facts.class_refused then of_classes.Refused
    else (if is_near facts.class_peak facts.class_limit then of_classes.Near else of_classes.Within))

abbrev pub loader_case : Facts → LoaderCase
loader_case facts =
    if facts.unloads == 0 then loaders.NoneUnloaded
    else (if facts.two_halves && is_rising facts.low facts.low_after then loaders.Rising else loaders.Level)

abbrev pub wants_something : Facts → Bool
wants_something facts =
    nat_lt 0 facts.commit_refused || nat_lt 0 facts.reserve_refused || nat_lt 0 facts.class_refused
    || nat_lt 0 facts.other_wants

abbrev pub refused_case : Facts → RefusedCase
refused_case facts =
    if wants_something facts then refused.Wants
    else (if nat_lt 0 facts.refused then refused.Asks else refused.Nothing)

-- What all say.
abbrev pub tiles_of : Facts → Tiles
tiles_of facts = record {
  committed = committed_case facts;
  used = used_case facts;
  reserved = reserved_case facts;
  class_space = class_case facts;
  loaders = loader_case facts;
  refused = refused_case facts;
}

-- How each case is marked.
abbrev pub committed_mark : CommittedCase → Mark
committed_mark committed.Refused = Problem
committed_mark committed.Near = Look
committed_mark committed.Within = Fine

abbrev pub used_mark : UsedCase → Mark
used_mark used.Idle = Look
used_mark said = Fine

abbrev pub reserved_mark : ReservedCase → Mark
reserved_mark reserved.Refused = Problem
reserved_mark reserved.All = Look
reserved_mark reserved.Empty = Look
reserved_mark said = Fine

abbrev pub class_mark : ClassCase → Mark
class_mark of_classes.Missing = Problem
class_mark of_classes.Refused = Problem
class_mark of_classes.Near = Look
class_mark said = Fine

abbrev pub loader_mark : LoaderCase → Mark
loader_mark loaders.Rising = Look
loader_mark said = Fine

abbrev pub refused_mark : RefusedCase → Mark
refused_mark refused.Wants = Problem
refused_mark refused.Asks = Look
refused_mark refused.Nothing = Fine

-- The worse of two marks, and the worst of all tiles'.
abbrev pub worse : Mark → Mark → Mark
worse Problem other = Problem
worse Look Problem = Problem
worse Look other = Look
worse Fine other = other

abbrev pub worst_of : Tiles → Mark
worst_of tiles =
    worse
    (worse
    (worse (committed_mark tiles.committed) (used_mark tiles.used))
    (worse (reserved_mark tiles.reserved) (class_mark tiles.class_space)))
    (worse (loader_mark tiles.loaders) (refused_mark tiles.refused))
