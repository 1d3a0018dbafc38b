-- What the columns of a run show of the lines that were seen of it (this project's choice).
use Rattle.std.specs.Prelude.{◌≡◌, List, [], map}
use Rattle.ms_base.specs.declared.step.Reply.{Reply}
use Rattle.ms_trace.specs.declared.trace.Command.{Command}
use Rattle.ms_trace.specs.declared.trace.Command.TheVariants as command
use Rattle.ms_trace.specs.declared.trace.Line.{Line}
use Rattle.ms_course.specs.Course.{ColumnsView, Shows}
use Rattle.ms_course.specs.Standing.{standing_of}
use Rattle.ms_course.specs.declared.moment.Asked.{Asked}
use Rattle.ms_course.specs.declared.moment.Asked.TheVariants as asked
use Rattle.ms_course.specs.declared.moment.Moment.{Moment}
use Rattle.ms_course.specs.declared.standing.Standing.{Standing}
use Rattle.ms_run.specs.Seeing.{Sight}

-- What a line asks, as a course names it.
abbrev pub asked_of : Command → Asked
asked_of (command.Step step) = asked.Step step
asked_of command.Sync = asked.Sync
asked_of command.Report = asked.Report

-- The moment after a line, by how it was answered and how the metaspace stood then.
abbrev pub moment_by : Line → Reply → Standing → Moment
moment_by line reply standing = record {
  line = line.number;
  asked = asked_of line.command;
  reply = reply;
  standing = standing;
}

-- The moment after a line that was seen, and those after each.
abbrev pub moment_of : Sight → Moment
moment_of sight = moment_by sight.line sight.reply (standing_of sight.state)

abbrev pub moments_of : List Sight → List Moment
moments_of sights = map moment_of sights

-- While these lines were seen, columns that showed none came to show them.
pub record Charts (first now : ColumnsView) (sights : List Sight) : Type 0 where
  pub lines : now.lines ≡ first.lines
  pub shown : Shows first [] → Shows now (moments_of sights)
