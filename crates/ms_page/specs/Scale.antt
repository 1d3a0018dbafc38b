-- Numbers as lengths of a track (this project's choice).
use Rattle.std.specs.Prelude.{ℕ, ◌*◌, ◌==◌, min, if◌then◌else◌}
use Rattle.std.specs.Int.{div_ceil}

-- A number's length on a track that stands for a whole: rounded up, so that something is never
-- drawn as nothing, and never past the track.
abbrev pub scaled : ℕ → ℕ → ℕ → ℕ
scaled number whole length = if whole == 0 then 0 else min (div_ceil (number * length) whole) length
