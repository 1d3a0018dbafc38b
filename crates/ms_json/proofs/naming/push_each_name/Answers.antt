use Rattle.std.specs.Prelude.{string_bytes}
use Rattle.ms_json.specs.Names.{name_data}
use Rattle.ms_json.proofs.ChainLemmas.{elements_more}
use Rattle.ms_json.proofs.naming.push_each_name.Goals as goal

pub loop-named-preserved : goal.loop-named-preserved
loop-named-preserved c =
    elements_more name_data _ (string_bytes c.loop-named.text) _ _ c.loop-named.later c.args.names.now c.loop-named.named-index _
    c.named-item.result c.loop-named-test.true c.named-item.is c.loop-named.invariant c.in_ok-push_comma.ensures
    c.in_ok-push_name.ensures
