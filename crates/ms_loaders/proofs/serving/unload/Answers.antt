use Rattle.std.proofs.Common.{refl, ◌∙◌}
use Rattle.ms_base.specs.declared.kind.Space.TheVariants.{NonClass, Class}
use Rattle.ms_loader.proofs.MappedLemmas.{without_missing}
use Rattle.ms_loaders.proofs.ServingLemmas.{both_back, closed_back}
use Rattle.ms_loaders.proofs.serving.unload.Goals as goal

pub close_both-requires : goal.close_both-requires
close_both-requires g c =
    let at = c.in-Some.ensures.found in record {
      both = both_back _ _ at.loader (c.in-Some.account, c.in-Some.class_account) at.own.account at.own.class_account
          (record {
            served = c.requires.served c.args.name at.loader at.found NonClass;
            class_served = c.requires.served c.args.name at.loader at.found Class;
            space = refl;
            class_space = refl;
          });
      counted = c.requires.counted c.args.name at.loader at.found;
    }

pub returns-in-Some : goal.returns-in-Some
returns-in-Some g c =
    let at = c.in-Some.ensures.found in record {
      loader = at.loader;
      found = at.found;
      both = record {
        served = c.requires.served c.args.name at.loader at.found NonClass;
        class_served = c.requires.served c.args.name at.loader at.found Class;
        space = refl;
        class_space = refl;
      };
      closed = closed_back g.S.AccountSource.closed_both c.args.source.now c.close_both.new.self at.loader
          (c.in-Some.account, c.in-Some.class_account) at.own.account at.own.class_account
          c.close_both.ensures.closed;
      gone = c.close.ensures.rest;
    }

pub returns-in-None : goal.returns-in-None
returns-in-None g c = (
  record {
    refusal_is = refl;
    none = c.in-None.ensures.none;
    same = c.close.ensures.rest ∙ without_missing c.args.loaders.now c.args.name c.in-None.ensures.none;
  },
  refl,
)
