-- How a session ends without an answer to each line (this project's choice).
use Rattle.std.specs.Prelude.{ℕ, List, ⊤}
use Rattle.ms_trace.specs.declared.fault.ParseFault.{ParseFault}
use Rattle.ms_trace.specs.declared.fault.ParseFault.TheVariants as parse
use Rattle.ms_trace.specs.Faults.{HasFault}
use Rattle.ms_session.specs.declared.devices.ReadFault.{ReadFault}
use Rattle.ms_session.specs.declared.devices.ReadFault.TheVariants as read
use Rattle.ms_run.specs.declared.fault.RunFault.{RunFault}
use Rattle.ms_run.specs.declared.fault.RunFault.TheVariants as run
use Rattle.ms_session.specs.declared.failure.Failure.{Failure}
use Rattle.ms_session.specs.declared.failure.Failure.TheVariants.{Fault, OutOfMemory, NoThread, Unsettled, Input, NamesFile}
use Rattle.ms_session.specs.declared.failure.Failure.TheVariants.{Misnamed, Output}

-- The exit status: 1 for a faulty trace, 3 for want of memory or of a thread, 4 for accounts left
-- open at a phase's end, 5 for a device, or for a file of names that can't be read or doesn't fit the
-- trace.
abbrev pub status_of : Failure → ℕ
status_of (Fault fault) = 1
status_of OutOfMemory = 3
status_of NoThread = 3
status_of (Unsettled opened gathered) = 4
status_of Input = 5
status_of NamesFile = 5
status_of (Misnamed line) = 5
status_of Output = 5

-- What a fault of reading or of parsing makes of a session.
abbrev pub failure_of_reading : ReadFault → Failure
failure_of_reading read.Device = Input
failure_of_reading read.OutOfMemory = OutOfMemory

abbrev pub failure_of_parsing : ParseFault → Failure
failure_of_parsing (parse.Trace fault) = Fault fault
failure_of_parsing parse.OutOfMemory = OutOfMemory

-- And a fault of the run.
abbrev pub failure_of_running : RunFault → Failure
failure_of_running run.OutOfMemory = OutOfMemory
failure_of_running run.NoThread = NoThread
failure_of_running (run.Unsettled opened gathered) = Unsettled opened gathered

-- A fault is one of the text's, of so many lines at most.
abbrev pub Blames : (limit : ℕ) → List ℕ → Failure → Type 0
Blames limit text (Fault fault) = HasFault limit text fault.line fault.kind
Blames limit text _ = ⊤

-- Memory or a thread was wanting.
abbrev pub IsWant : Failure → Type 0
IsWant OutOfMemory = ⊤
IsWant NoThread = ⊤
IsWant _ = ⊥

-- Or the file of names can't be read, or doesn't fit the trace.
abbrev pub IsPageless : Failure → Type 0
IsPageless NamesFile = ⊤
IsPageless (Misnamed line) = ⊤
IsPageless failure = IsWant failure

-- No accounts were left open.
abbrev pub IsSettled : Failure → Type 0
IsSettled (Unsettled opened gathered) = ⊥
IsSettled _ = ⊤
