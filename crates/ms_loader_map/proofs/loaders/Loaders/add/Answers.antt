use Rattle.std.proofs.Common.{ℕ, List, ◌∙◌, ap}
use Rattle.ms_base.specs.Names.{named, with_new}
use Rattle.ms_loader.specs.Loader.{LoaderView}
use Rattle.ms_loader_map.proofs.loaders.Loaders.add.Goals as goal

-- The loaders are the same once room was made.
pub stand-requires-clause-unused : goal.stand-requires-clause-unused
stand-requires-clause-unused c =
    ap (λ (loaders : List (ℕ × LoaderView)). named loaders c.args.name) c.make_room.ensures ∙ c.requires.unused

pub returns-in-Ok-stand-clause-added : goal.returns-in-Ok-stand-clause-added
returns-in-Ok-stand-clause-added c = c.in-Ok-stand.ensures.stands
    ∙ ap (λ (loaders : List (ℕ × LoaderView)). with_new loaders c.args.name c.in-Ok.boxed.1) c.make_room.ensures
    ∙ ap (λ (boxed : ℕ × LoaderView). with_new c.args.self.now c.args.name boxed.1) c.in-Ok.ensures.boxed
