-- Each part is read, and so the whole.
use Rattle.std.proofs.Common.{rules}
use Rattle.jvm_log.proofs.ReadingLemmas.{committed_read}
use Rattle.jvm_log.proofs.reading.committed_line.Goals as goal

pub returns : goal.returns
returns c =
    committed_read c.in_ok-rest.field-0-0 c.in_ok-rest-2.field-0-0 c.in_ok-words.words c.args.message.now c.in_ok-rest.rest.now
    c.in_ok-rest-2.rest.now c.in_ok-words.rest.now c.as_slice.result.now c.as_slice-2.result.now c.as_slice-3.result.now
    c.as_slice-4.result.now (search rules) (search rules) (search rules) (search rules) c.in_ok-rest.ensures
    c.in_ok-rest-2.ensures c.in_ok-words.ensures c.in_ok-only.ensures
