use Rattle.std.proofs.Common.{sym, ◌∙◌}
use borrow.Follows.Closed.{read_of}
use Rattle.std.specs.Option.{ghost_name_of}
use Rattle.ms_loader.specs.Loader.{LoaderView}
use Rattle.ms_loader_map.specs.Slots.{rest_of}
use Rattle.ms_loader_map.proofs.slots.ChangeLemmas.{named_rest}
use Rattle.ms_loader_map.proofs.slots.LentLemmas.{changed_lent, kept_lent}
use Rattle.ms_loader_map.proofs.loaders.Loaders.get_mut.Goals as goal

pub invariant_of-self-lent : goal.invariant_of-self-lent
invariant_of-self-lent c = λ lent. (
  λ w. kept_lent c.self.inside.slots c.args.name w c.self.inside.first c.self.inside.count c.self.invariant,
  c.self.invariant,
)

pub returns : goal.returns
returns c = rw (← c.self.view_is) (
  λ t. read_of (ghost_name_of c.get_mut.result) (λ (w : LoaderView). changed_lent c.self.inside.slots c.args.name w
      c.self.inside.first c.self.inside.count c.self.invariant t) (rest_of c.self.inside.slots 0),
  record {
    writes_back = tt;
    found = c.get_mut.ensures.found ∙ sym (named_rest c.self.inside.slots c.args.name c.self.invariant.at_names);
  },
)
