use Rattle.std.proofs.Common.{◌*◌, length, sym, ap, ◌∙◌}
use Rattle.std.proofs.lemmas.Option.{IfSome_then}
use Rattle.ms_base.specs.PoolSteps.Pick.{lowest_unreserved}
use Rattle.ms_base.specs.Committed.{is_among}
use Rattle.ms_commit.proofs.LowestLemmas.{IfNone_then}
use Rattle.ms_commit.proofs.MaskLemmas.{is_among-members}
use Rattle.ms_commit.proofs.MemberLemmas.{lowest_is_unreserved, length-members_full}
use Rattle.ms_commit.proofs.mask.Mask.lowest_missing.Goals as goal

pub returns-clause-lowest : goal.returns-clause-lowest
returns-clause-lowest g c =
    IfSome_then c.lowest_clear.result c.lowest_clear.ensures.lowest
    (λ number lowest. lowest_is_unreserved c.self.inside.words number lowest ∙ ap lowest_unreserved c.self.view_is)

pub returns-clause-missing : goal.returns-clause-missing
returns-clause-missing g c =
    IfSome_then c.lowest_clear.result c.lowest_clear.ensures.lowest
    (λ number lowest. ap (λ members. is_among members number) (sym c.self.view_is)
    ∙ is_among-members c.self.inside.words number ∙ lowest.clear)

pub returns-clause-full : goal.returns-clause-full
returns-clause-full g c =
    IfNone_then c.lowest_clear.result c.lowest_clear.ensures.full
    (λ full. ap length (sym c.self.view_is) ∙ length-members_full c.self.inside.words full
    ∙ ap (λ n. 64 * n) c.self.told)
