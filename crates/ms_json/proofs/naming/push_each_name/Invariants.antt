use Rattle.std.proofs.Common.{◌≡◌, ◌++◌, drop, false, map}
use Rattle.std.specs.Prelude.{string_bytes}
use Rattle.ms_json.specs.Names.{name_data}
use Rattle.ms_json.specs.Rows.{elements_run}
use Rattle.ms_json.proofs.naming.push_each_name.Given as goal

-- the text so far, then the later names
abbrev pub invariant-loop-named : goal.invariant-loop-named
invariant-loop-named l =
    string_bytes l.fn.text ++ elements_run false (map name_data l.names)
    ≡ string_bytes l.text ++ elements_run l.later (map name_data (drop l.named-index l.names))
