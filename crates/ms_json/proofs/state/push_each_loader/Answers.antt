use Rattle.std.specs.Prelude.{string_bytes}
use Rattle.ms_json.proofs.ChainLemmas.{loaders_more}
use Rattle.ms_json.proofs.state.push_each_loader.Goals as goal

pub loop-loader-preserved : goal.loop-loader-preserved
loop-loader-preserved c =
    loaders_more _ (string_bytes c.loop-loader.text) _ _ c.loop-loader.later c.args.loaders.now c.loop-loader.loader-index _
    c.loader-item.result c.loop-loader-test.true c.loader-item.is c.loop-loader.invariant c.in_ok-push_comma.ensures
    c.in_ok-push_loader.ensures
