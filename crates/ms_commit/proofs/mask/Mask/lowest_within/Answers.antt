use Rattle.std.proofs.Common.{sym, ap, ◌∙◌}
use Rattle.std.proofs.lemmas.Option.{IfSome_then}
use Rattle.ms_base.specs.Committed.{is_among}
use Rattle.ms_commit.proofs.LowestLemmas.{IfNone_then}
use Rattle.ms_commit.proofs.MaskLemmas.{is_among-members}
use Rattle.ms_commit.proofs.mask.Mask.lowest_within.Goals as goal

pub returns-clause-member : goal.returns-clause-member
returns-clause-member g c =
    IfSome_then c.lowest_set.result c.lowest_set.ensures.set
    (λ number set. ap (λ members. is_among members number) (sym c.self.view_is)
    ∙ is_among-members c.self.inside.words number ∙ set)

pub returns-clause-lowest : goal.returns-clause-lowest
returns-clause-lowest g c =
    IfSome_then c.lowest_set.result c.lowest_set.ensures.lowest
    (λ number lowest k from below. ap (λ members. is_among members k) (sym c.self.view_is)
    ∙ is_among-members c.self.inside.words k ∙ lowest k from below)

pub returns-clause-none : goal.returns-clause-none
returns-clause-none g c =
    IfNone_then c.lowest_set.result c.lowest_set.ensures.none
    (λ none k from below. ap (λ members. is_among members k) (sym c.self.view_is)
    ∙ is_among-members c.self.inside.words k ∙ none k from below)
