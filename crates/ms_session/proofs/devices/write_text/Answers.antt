use Rattle.ms_session.proofs.DeviceLemmas.{appends_more, taken_within}
use Rattle.ms_session.proofs.devices.write_text.Goals as goal

pub loop-written-preserved : goal.loop-written-preserved
loop-written-preserved g c = (
  taken_within c.args.text.now c.loop-written.written c.in-Ok.count c.loop-written.invariant.0 c.in-Ok.ensures.bound,
  appends_more _ _ _ c.args.text.now c.loop-written.written c.in-Ok.count c.loop-written.invariant.1
      c.in-Ok.ensures.bytes,
)
