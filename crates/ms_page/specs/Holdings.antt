-- What each loader holds at the end, and how it grew since half-way (this project's choice).
use Rattle.std.specs.Prelude.{ℕ, ◌+◌, nat_le, unwrap_or, if◌then◌else◌}
use Rattle.ms_course.specs.declared.births.Birth.{Birth}
use Rattle.ms_course.specs.Gathering.{CourseView, birth_in}
use Rattle.ms_answers.specs.declared.details.LoaderDetails.{LoaderDetails}
use Rattle.ms_page.specs.declared.holding.Growth.{Growth}
use Rattle.ms_page.specs.declared.holding.Growth.TheVariants.{New}
use Rattle.ms_page.specs.declared.holding.Holding.{Holding}
use Rattle.ms_page.specs.Growth.{growth_between}
use Rattle.ms_page.specs.Halfway.{live_then}
use Rattle.ms_page.specs.Sums.{capped}

-- The line that made a loader. One of which the course knows none, as no run has it, counts as there
-- from the first line on.
abbrev pub since_of : CourseView → ℕ → Birth
since_of course name = unwrap_or (birth_in course.births name) (record { position = 0; line = 0 })

-- A loader that a line from half-way on made is new, also where there was one of its name before.
abbrev pub growth_of : CourseView → ℕ → ℕ → Growth
growth_of course name live =
    if nat_le course.schedule.half (since_of course name).position then New
    else growth_between (live_then course.halfway name) live

-- What a loader holds, both spaces together.
abbrev pub held_by : LoaderDetails → Birth → Growth → Holding
held_by loader since growth = record {
  name = loader.name;
  kind = loader.kind;
  since = since;
  chunks = loader.space.chunks + loader.class_space.chunks;
  capacity = capped (loader.space.capacity + loader.class_space.capacity);
  used = capped (loader.space.used + loader.class_space.used);
  live = capped (loader.space.live + loader.class_space.live);
  free_blocks = capped (loader.space.free_blocks + loader.class_space.free_blocks);
  waste = capped (loader.space.waste + loader.class_space.waste);
  growth = growth;
}

abbrev pub holding_of : CourseView → LoaderDetails → Holding
holding_of course loader =
    held_by loader (since_of course loader.name)
    (growth_of course loader.name (capped (loader.space.live + loader.class_space.live)))
