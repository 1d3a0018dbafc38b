-- Each part is read, and so the whole.
use Rattle.std.proofs.Common.{rules}
use Rattle.jvm_log.proofs.ReadingLemmas.{class_read}
use Rattle.jvm_log.proofs.reading.class_line.Goals as goal

pub returns : goal.returns
returns c =
    class_read c.in_ok-address.address c.in_ok-rest-2.field-0-0 c.kind_in.result c.args.message.now c.in_ok-address.rest.now
    c.in_ok-after.field-0.now c.in_ok-rest.rest.now c.in_ok-rest-2.rest.now c.in_ok-owner.owner.now c.as_slice.result.now
    c.as_slice-2.result.now c.as_slice-3.result.now c.as_slice-4.result.now (search rules) (search rules) (search rules)
    (search rules) c.in_ok-address.ensures c.in_ok-after.ensures c.in_ok-rest.ensures c.in_ok-rest-2.ensures
    c.in_ok-owner.ensures c.kind_in.ensures
