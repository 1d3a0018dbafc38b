-- How a machine stands: the words of one space and of both, by how far they are taken, and its
-- loaders (this project's choice).
use Rattle.std.specs.Prelude.{ℕ, ◌*◌, ◌≤◌, length}
use Rattle.ms_base.specs.declared.kind.Space.{Space}
use Rattle.ms_base.specs.declared.kind.Space.TheVariants.{Class}
use Rattle.ms_base.specs.Part.{node_words}
use Rattle.ms_base.specs.State.{Machine, slots_in}
use Rattle.ms_base.specs.Totals.{over_spaces, committed_words, used_words, live_words}
use Rattle.ms_course.specs.declared.standing.Extent.{Extent}
use Rattle.ms_course.specs.declared.standing.Standing.{Standing}

-- The words of a space's reserved nodes.
abbrev pub reserved_words : Space → Machine → ℕ
reserved_words space m = length (slots_in space m) * node_words

-- The words of a space, and those of both.
abbrev pub extent_in : Space → Machine → Extent
extent_in space m = record {
  reserved = reserved_words space m;
  committed = committed_words space m;
  used = used_words space m;
  live = live_words space m;
}

abbrev pub extent_of_both : Machine → Extent
extent_of_both m = record {
  reserved = over_spaces (λ space. reserved_words space m);
  committed = over_spaces (λ space. committed_words space m);
  used = over_spaces (λ space. used_words space m);
  live = over_spaces (λ space. live_words space m);
}

-- How the machine stands.
abbrev pub standing_of : Machine → Standing
standing_of m = record {
  both = extent_of_both m;
  class_space = extent_in Class m;
  loaders = length m.loaders;
}

-- What is live is in use, what is in use is committed, and what is committed is reserved.
pub record IsNested (extent : Extent) : Type 0 where
  pub live : extent.live ≤ extent.used
  pub used : extent.used ≤ extent.committed
  pub committed : extent.committed ≤ extent.reserved

pub record AreNested (standing : Standing) : Type 0 where
  pub both : IsNested standing.both
  pub class_space : IsNested standing.class_space
