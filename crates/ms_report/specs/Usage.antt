-- How much of the memory is what (after HotSpot's VM.metaspace, with this project's numbers).
use Rattle.std.specs.Prelude.{ℕ, ◌+◌, ◌*◌, ◌/◌, ◌==◌, ◌<◌, Option, Some, None, if◌then◌else◌}
use Rattle.ms_base.specs.declared.settings.Settings.{Settings}
use Rattle.ms_base.specs.Policy.{granule_of}
use Rattle.ms_base.specs.Totals.{SpaceSums, Sums}
use Rattle.ms_report.specs.declared.usage.Amount.{Amount}
use Rattle.ms_report.specs.declared.usage.Usage.{Usage}
use Rattle.ms_report.specs.declared.usage.Usages.{Usages}
use Rattle.ms_report.specs.declared.usage.Words.{Words}

-- The words that may be committed, over both spaces.
abbrev pub limit_of : Settings → ℕ
limit_of settings = settings.max_granules * granule_of settings.policy

-- A part's share of a whole in tenths of a per cent, cut off; none where there is nothing to divide
-- by.
abbrev pub share_of : ℕ → ℕ → Option ℕ
share_of part whole = if whole == 0 then None else Some (part * 1000 / whole)

-- An amount, and its share of what stands above it.
abbrev pub amount_of : ℕ → ℕ → Amount
amount_of words whole = record { words = words; share = share_of words whole }

-- The words of a space, by what they are.
abbrev pub words_of : SpaceSums → Words
words_of space = record {
  reserved = space.reserved;
  committed = space.committed;
  used = space.used;
  live = space.live;
  free_blocks = space.free_blocks;
  waste = space.waste;
}

-- Those of two spaces together.
abbrev pub both_words : Words → Words → Words
both_words one other = record {
  reserved = one.reserved + other.reserved;
  committed = one.committed + other.committed;
  used = one.used + other.used;
  live = one.live + other.live;
  free_blocks = one.free_blocks + other.free_blocks;
  waste = one.waste + other.waste;
}

-- Each is less than a bound.
pub record AreSmall (bound : ℕ) (words : Words) : Type 0 where
  pub reserved : words.reserved < bound
  pub committed : words.committed < bound
  pub used : words.used < bound
  pub live : words.live < bound
  pub free_blocks : words.free_blocks < bound
  pub waste : words.waste < bound

-- Committed is told of the limit, used of committed, and of used the three that make it up; nothing
-- stands above reserved.
abbrev pub usage_of : ℕ → Words → Usage
usage_of limit words = record {
  reserved = record { words = words.reserved; share = None };
  committed = amount_of words.committed limit;
  used = amount_of words.used words.committed;
  live = amount_of words.live words.used;
  free_blocks = amount_of words.free_blocks words.used;
  waste = amount_of words.waste words.used;
}

-- The usage of each space, and of both together.
abbrev pub usages_of : Settings → Sums → Usages
usages_of settings sums = record {
  space = usage_of (limit_of settings) (words_of sums.space);
  class_space = usage_of (limit_of settings) (words_of sums.class_space);
  both = usage_of (limit_of settings) (both_words (words_of sums.space) (words_of sums.class_space));
}
