use Rattle.std.proofs.Common.{List, ap, ◌∙◌}
use Rattle.ms_course.specs.declared.course.LoaderThen.{LoaderThen}
use Rattle.ms_answers.specs.declared.details.LoaderDetails.{LoaderDetails}
use Rattle.ms_page.specs.Kinds.{kind_holdings}
use Rattle.ms_page.proofs.picture.Picture.new.Goals as goal

pub returns-clause-kinds : goal.returns-clause-kinds
returns-clause-kinds c =
    c.kind_holdings-kinds.ensures
    ∙ ap (λ (halfway : List LoaderThen). kind_holdings halfway c.loaders_in-details.result.now) c.halfway.ensures
    ∙ ap (λ (loaders : List LoaderDetails). kind_holdings c.args.course.now.halfway loaders) c.loaders_in-details.ensures
