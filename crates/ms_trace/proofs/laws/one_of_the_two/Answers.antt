-- The lines have no fault, and then read as a trace, or they have a first one.
use Rattle.std.proofs.Common.{inl, inr, ⊎_elim, add_comm}
use Rattle.ms_trace.specs.Grammar.{lines_of}
use Rattle.ms_trace.proofs.TraceLemmas.{Reads, reads_from_faultless, faultless_or_first}
use Rattle.ms_trace.proofs.laws.one_of_the_two.Goals as goal

pub returns : goal.returns
returns c = λ most text.
    ⊎_elim
    (λ faultless.
    let found : Reads most 1 (lines_of text) = reads_from_faultless most 1 (lines_of text) faultless in
    inl (record { lines = found.trace }, found.reads))
    (λ first. inr (
      _,
      first.kind,
      record {
        before = first.before;
        line = first.line;
        after = first.after;
        lines_are = first.lines_are;
        faultless = first.faultless;
        number_is = add_comm 1 _;
        kind_is = first.kind_is;
      },
    ))
    (faultless_or_first most 1 (lines_of text))
