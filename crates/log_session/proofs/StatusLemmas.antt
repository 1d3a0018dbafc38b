-- The exit statuses of failures. Used by `session` and `start`.
use Rattle.std.proofs.Common.{◌≡◌, ◌≤◌, arith}
use Rattle.log_session.specs.declared.failure.Failure.{Failure}
use Rattle.log_session.specs.declared.failure.Failure.TheVariants.{OtherRelease, NoLoader, OutOfMemory, Input, Output, Names}
use Rattle.log_session.specs.Failure.{status_of}

pub status_is_few : (failure : Failure) → status_of failure ≤ 5
status_is_few (OtherRelease line) = omega arith
status_is_few NoLoader = omega arith
status_is_few OutOfMemory = omega arith
status_is_few Input = omega arith
status_is_few Output = omega arith
status_is_few Names = omega arith

-- 2 is for a command line.
pub status_is_no_usage : (failure : Failure) → status_of failure ≡ 2 → ⊥
status_is_no_usage (OtherRelease line) e = cc
status_is_no_usage NoLoader e = cc
status_is_no_usage OutOfMemory e = cc
status_is_no_usage Input e = cc
status_is_no_usage Output e = cc
status_is_no_usage Names e = cc

-- 0 is for a trace that was written.
pub status_is_no_success : (failure : Failure) → status_of failure ≡ 0 → ⊥
status_is_no_success (OtherRelease line) e = cc
status_is_no_success NoLoader e = cc
status_is_no_success OutOfMemory e = cc
status_is_no_success Input e = cc
status_is_no_success Output e = cc
status_is_no_success Names e = cc
