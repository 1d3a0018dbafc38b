use Rattle.std.proofs.Common.{◌≡◌, ◌∷◌, [], ℕ, List, map, refl, ap}
use Rattle.ms_course.specs.Gathering.{CourseView}
use Rattle.ms_answers.specs.declared.details.LoaderDetails.{LoaderDetails}
use Rattle.ms_page.specs.declared.holding.Holding.{Holding}
use Rattle.ms_page.specs.Holdings.{holding_of}
use Rattle.ms_page.proofs.laws.loaders_are_listed.Goals as goal

names_are : (course : CourseView) (loaders : List LoaderDetails)
    → map (λ (holding : Holding). holding.name) (map (holding_of course) loaders)
    ≡ map (λ (loader : LoaderDetails). loader.name) loaders
names_are course [] = refl
names_are course (loader ∷ loaders) = ap (λ (names : List ℕ). loader.name ∷ names) (names_are course loaders)

pub returns : goal.returns
returns c = names_are
