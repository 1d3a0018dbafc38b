use Rattle.std.specs.Prelude.{string_bytes}
use Rattle.ms_report.proofs.KindLemmas.{holdings_more}
use Rattle.ms_report.proofs.holdings.push_all.Goals as goal

pub loop-loader-preserved : goal.loop-loader-preserved
loop-loader-preserved c =
    holdings_more _ (string_bytes c.loop-loader.text) _ c.args.loaders.now c.loop-loader.loader-index _
    c.loader-item.result c.loop-loader-test.true c.loader-item.is c.loop-loader.invariant c.in_ok-push_loader.ensures
