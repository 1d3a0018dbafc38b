use Rattle.std.proofs.Common.{sym}
use Rattle.ms_pool.specs.Keeping.{ledger_of}
use Rattle.ms_pool.specs.Ledger.{state_in}
use Rattle.ms_pool.proofs.maps.RootMapLemmas.{both_pushed}
use Rattle.ms_pool.proofs.lender.Lender.push_slot.Goals as goal

-- The maps of both roots are added.
pub returns-in_ok-push-2 : goal.returns-in_ok-push-2
returns-in_ok-push-2 c =
    both_pushed (state_in c.args.space (ledger_of c.args.self.now)) c.args.slot _ c.args.maps.now.items _ _
    c.root_map.result c.root_map-then-is_reserved.result (sym c.if-is_reserved.ensures)
    c.in_ok-push.ensures.items c.in_ok-push-2.ensures.items c.root_map.ensures c.root_map-then-is_reserved.ensures
