use Rattle.std.proofs.Common.{◌≡◌, ◌++◌, drop, false, map}
use Rattle.std.specs.Prelude.{string_bytes}
use Rattle.ms_pool.specs.Mapping.{map_in}
use Rattle.ms_json.specs.Rows.{elements_run}
use Rattle.ms_json.specs.Sums.{root_data}
use Rattle.ms_json.proofs.state.push_each_root.Given as goal

-- the text so far, then the later roots
abbrev pub invariant-loop-root : goal.invariant-loop-root
invariant-loop-root l =
    string_bytes l.fn.text ++ elements_run false (map root_data (map map_in l.roots))
    ≡ string_bytes l.text ++ elements_run l.later (map root_data (map map_in (drop l.root-index l.roots)))
