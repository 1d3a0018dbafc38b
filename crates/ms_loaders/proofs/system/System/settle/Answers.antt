use Rattle.std.proofs.Common.{◌≤◌, arith, refl}
use Rattle.ms_loaders.specs.Settles.{open_accounts, accounts_in}
use Rattle.ms_loaders.proofs.system.System.settle.Goals as goal

pub from_parts-requires : goal.from_parts-requires
from_parts-requires c =
    let no_more : open_accounts c.args.pool ≤ accounts_in c.args.loaders =
    omega (arith, c.accounts-opened.ensures.sum, c.len.ensures.count, c.if-opened-gathered.false) in
    record {
      ledger_sound = c.accounts-opened.ensures.sound;
      loaders_sound = c.learn.ensures.sound;
      names = c.learn.ensures.names;
      served = record {
        served = c.requires.served;
        distinct = c.requires.distinct;
        no_other = c.requires.no_other no_more;
        opened = omega (arith, no_more, c.requires.opened, c.requires.class_opened);
        class_opened = omega (arith, no_more, c.requires.opened, c.requires.class_opened);
      };
    }

pub returns-clause-exact : goal.returns-clause-exact
returns-clause-exact c = (
  λ _. omega (arith, c.accounts-opened.ensures.sum, c.len.ensures.count, c.if-opened-gathered.false),
  λ _. refl,
)
