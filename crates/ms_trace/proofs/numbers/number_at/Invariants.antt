-- What was passed so far are digits, with their sum modulo 2^64; the text goes on after them.
use Rattle.std.specs.Prelude.{◌-◌, ◌<◌, length}
use Rattle.ms_trace.proofs.NumberLemmas.{HasPassed}
use Rattle.ms_trace.proofs.numbers.number_at.Given as goal

abbrev pub invariant-loop-value : goal.invariant-loop-value
invariant-loop-value l = record {
  inside : l.at < length l.fn.text;
  passed : HasPassed l.fn.text l.fn.from l.at l.value;
}

abbrev pub decreases-loop-value : goal.decreases-loop-value
decreases-loop-value l = length l.fn.text - l.at
