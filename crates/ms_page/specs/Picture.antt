-- The picture of a run: its parts together (this project's choice).
use Rattle.std.specs.Prelude.{◌≡◌, List, map}
use Rattle.ms_base.specs.declared.settings.Settings.{Settings}
use Rattle.ms_course.specs.declared.standing.Standing.{Standing}
use Rattle.ms_course.specs.Gathering.{CourseView}
use Rattle.ms_answers.specs.declared.details.LoaderDetails.{LoaderDetails}
use Rattle.ms_page.specs.declared.picture.Lists.{Lists}
use Rattle.ms_page.specs.declared.picture.Picture.{Picture}
use Rattle.ms_page.specs.Advice.{advice_of}
use Rattle.ms_page.specs.Holdings.{holding_of}
use Rattle.ms_page.specs.Largest.{largest_of}
use Rattle.ms_page.specs.Peaks.{class_words, peaks_of, with_reserved}
use Rattle.ms_page.specs.Stays.{stays_of}
use Rattle.ms_page.specs.Tiles.{tiles_of}

-- The tiles and the advice are those of the facts.
pub record IsJudged (settings : Settings) (picture : Picture) : Type 0 where
  pub tiles : picture.tiles ≡ tiles_of picture.facts
  pub advice : picture.advice ≡ advice_of picture.facts settings

-- The most over the columns, and reserved at least what the class space has.
abbrev pub peaks_in : Settings → CourseView → Standing
peaks_in settings course = with_reserved (class_words settings) (peaks_of course.columns.columns)

-- The loaders are those of the end, each once in their order, and the largest are the first of
-- these by size.
pub record IsListed (course : CourseView) (details : List LoaderDetails) (picture : Picture) : Type 0 where
  pub loaders : picture.loaders.items ≡ map (holding_of course) details
  pub largest : picture.largest.items ≡ largest_of picture.loaders.items

-- The lists of a picture.
pub record AreLists (course : CourseView) (details : List LoaderDetails) (lists : Lists) : Type 0 where
  pub loaders : lists.loaders.items ≡ map (holding_of course) details
  pub largest : lists.largest.items ≡ largest_of lists.loaders.items
  pub stays : lists.stays.items ≡ stays_of course.columns lists.loaders.items
