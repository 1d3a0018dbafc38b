use Rattle.std.proofs.Common.{◌≡◌, ◌++◌, drop, map}
use Rattle.std.specs.Prelude.{string_bytes}
use Rattle.ms_answers.specs.Details.{loader_in}
use Rattle.ms_report.specs.Holdings.{all_holdings}
use Rattle.ms_report.proofs.holdings.push_all.Given as goal

-- the text so far, then the lines of the later loaders
abbrev pub invariant-loop-loader : goal.invariant-loop-loader
invariant-loop-loader l =
    string_bytes l.fn.text ++ all_holdings (map loader_in l.loaders)
    ≡ string_bytes l.text ++ all_holdings (map loader_in (drop l.loader-index l.loaders))
