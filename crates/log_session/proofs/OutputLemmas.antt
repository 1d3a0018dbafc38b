-- What goes out of a text that is kept, and what a command's line reads as. Used by the functions of
-- `output`.
use Rattle.std.proofs.Common.{◌≡◌, ◌++◌, ℕ, List, [], ◌∷◌, Option, true, ap, ◌∙◌, append-nil, arith}
use Rattle.std.proofs.KnownBytes.{Appends-nil}
use Rattle.std.specs.Io.KnownBytes.{Appends}
use Rattle.ms_trace.specs.declared.trace.Command.{Command}
use Rattle.ms_trace.specs.Spelling.{IsValid, rises_above}
use Rattle.ms_trace.proofs.PrintingLemmas.{printed_reads}
use Rattle.log_session.specs.Output.{GoesOut, ReadsBack}

-- Nothing goes out.
pub goes_none : (old : Option (List ℕ)) (kept text left : List ℕ) → left ≡ kept ++ text → GoesOut old kept text old left
goes_none old kept text left is = record { out = []; written = Appends-nil old; in_order = is }

-- All goes out.
pub goes_all : (old : Option (List ℕ)) (kept text all : List ℕ) (new : Option (List ℕ)) (left : List ℕ) → all ≡ kept ++ text
    → Appends old new all → left ≡ [] → GoesOut old kept text new left
goes_all old kept text all new left is written none =
    record { out = all; written = written; in_order = ap (λ rest. all ++ rest) none ∙ append-nil all ∙ is }

-- A command's line reads as the trace of that command.
pub reads_back : (command : Command) → IsValid command → ReadsBack command
reads_back command valid = λ most some.
    let rises : rises_above most 0 (record { number = 1; command = command } ∷ []) ≡ true = grind (arith, some) in
    printed_reads most 0 (record { number = 1; command = command } ∷ []) (valid, tt) rises
