-- How a session ends without a trace, or with a beginning of one (this project's choice).
use Rattle.std.specs.Prelude.{ℕ}
use Rattle.log_session.specs.declared.failure.Failure.{Failure}
use Rattle.log_session.specs.declared.failure.Failure.TheVariants.{OtherRelease, NoLoader, OutOfMemory, Input, Output, Names}

-- The exit status: 1 where nothing can be made of the log, 3 for want of memory, 5 for a device.
abbrev pub status_of : Failure → ℕ
status_of (OtherRelease line) = 1
status_of NoLoader = 1
status_of OutOfMemory = 3
status_of Input = 5
status_of Output = 5
status_of Names = 5
