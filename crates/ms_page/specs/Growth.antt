-- How a loader's live words grew since half-way (this project's choice).
use Rattle.std.specs.Prelude.{ℕ, ◌-◌, nat_lt, Option, Some, None, if◌then◌else◌}
use Rattle.ms_page.specs.declared.holding.Growth.{Growth}
use Rattle.ms_page.specs.declared.holding.Growth.TheVariants.{New, Same, More, Less}

-- Live words against those half-way, where there were any.
abbrev pub growth_between : Option ℕ → ℕ → Growth
growth_between None live = New
growth_between (Some before) live =
    if nat_lt before live then More (live - before) else (if nat_lt live before then Less (before - live) else Same)
