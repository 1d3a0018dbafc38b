-- Each part is read, and so the whole.
use Rattle.std.proofs.Common.{rules}
use Rattle.jvm_log.proofs.ReadingLemmas.{bearing_read}
use Rattle.jvm_log.proofs.reading.bearing.Goals as goal

pub returns : goal.returns
returns c =
    bearing_read c.args.loader c.in_ok-arena.arena c.in_ok-class_arena.class_arena c.args.saying.now
    c.in_ok-arena.rest.now c.in_ok-class_arena.rest.now c.as_slice.result.now c.as_slice-2.result.now c.as_slice-3.result.now
    (search rules) (search rules) (search rules) c.in_ok-arena.ensures c.in_ok-class_arena.ensures c.in_ok-only.ensures
