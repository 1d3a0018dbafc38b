use Rattle.std.proofs.Common.{◌≡◌, ◌++◌, drop, map}
use Rattle.std.specs.Prelude.{string_bytes}
use Rattle.ms_pool.specs.Mapping.{map_in}
use Rattle.ms_report.specs.Map.{map_lines}
use Rattle.ms_report.proofs.maps.push_lines.Given as goal

-- the text so far, then the lines of the later roots
abbrev pub invariant-loop-root : goal.invariant-loop-root
invariant-loop-root l =
    string_bytes l.fn.text ++ map_lines (map map_in l.maps)
    ≡ string_bytes l.text ++ map_lines (map map_in (drop l.root-index l.maps))
