-- The words that are in use and live, in each space: of one loader and of all.
use Rattle.std.specs.Prelude.{Option, Some, None}
use Rattle.ms_base.specs.declared.kind.Space.TheVariants.{NonClass, Class}
use Rattle.ms_base.specs.State.{LoaderState, Machine, arena_of}
use Rattle.ms_base.specs.Totals.{used_of, live_in, used_words, live_words}
use Rattle.ms_loader.specs.Loader.{LoaderView}
use Rattle.ms_loader.specs.declared.amounts.Amounts.{Amounts}

-- Of one loader.
abbrev pub amounts_by : LoaderState → Amounts
amounts_by loader = record {
  used = used_of (arena_of NonClass loader);
  live = live_in NonClass loader;
  class_used = used_of (arena_of Class loader);
  class_live = live_in Class loader;
}

-- Of no loader.
abbrev pub no_amounts : Amounts
no_amounts = record { used = 0; live = 0; class_used = 0; class_live = 0 }

-- Of the loader that was found, and none where there is none.
abbrev pub amounts_at : Option LoaderView → Amounts
amounts_at None = no_amounts
amounts_at (Some loader) = amounts_by loader.state

-- The same of a machine's loader.
abbrev pub amounts_if : Option LoaderState → Amounts
amounts_if None = no_amounts
amounts_if (Some loader) = amounts_by loader

-- Of all loaders of a machine.
abbrev pub amounts_of : Machine → Amounts
amounts_of m = record {
  used = used_words NonClass m;
  live = live_words NonClass m;
  class_used = used_words Class m;
  class_live = live_words Class m;
}
