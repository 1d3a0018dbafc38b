use Rattle.std.proofs.Common.{◌≡◌, ◌++◌, drop, false, map}
use Rattle.std.specs.Prelude.{string_bytes}
use Rattle.ms_answers.specs.Details.{loader_in}
use Rattle.ms_json.specs.Rows.{elements_run}
use Rattle.ms_json.specs.Sums.{loader_data}
use Rattle.ms_json.proofs.state.push_each_loader.Given as goal

-- the text so far, then the later loaders
abbrev pub invariant-loop-loader : goal.invariant-loop-loader
invariant-loop-loader l =
    string_bytes l.fn.text ++ elements_run false (map loader_data (map loader_in l.loaders))
    ≡ string_bytes l.text ++ elements_run l.later (map loader_data (map loader_in (drop l.loader-index l.loaders)))
