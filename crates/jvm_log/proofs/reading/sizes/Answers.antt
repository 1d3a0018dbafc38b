-- Each part is read, and so the whole.
use Rattle.std.proofs.Common.{rules}
use Rattle.jvm_log.proofs.ReadingLemmas.{sizes_read}
use Rattle.jvm_log.proofs.reading.sizes.Goals as goal

pub returns : goal.returns
returns c =
    sizes_read c.in_ok-rest.field-0-0 c.in_ok-rest-2.field-0-0 c.in_ok-rest-3.field-0-0 c.only.result c.args.text.now
    c.in_ok-rest.rest.now c.in_ok-rest-2.rest.now c.in_ok-rest-3.rest.now c.as_slice.result.now c.as_slice-2.result.now
    c.as_slice-3.result.now c.as_slice-4.result.now (search rules) (search rules) (search rules) (search rules)
    c.in_ok-rest.ensures c.in_ok-rest-2.ensures c.in_ok-rest-3.ensures c.only.ensures
