-- Policies: what becomes of the granules of memory that is given back (after HotSpot's
-- MetaspaceReclaimPolicy; what each policy does is this project's choice).
use Rattle.std.specs.Prelude.{ℕ, ◌/◌, Bool, true, false}
use Rattle.ms_base.specs.declared.policy.Policy.{Policy}
use Rattle.ms_base.specs.declared.policy.Policy.TheVariants.{Balanced, Aggressive, None as Never}
use Rattle.ms_base.specs.Part.{node_words}

-- The words of a granule.
abbrev pub granule_of : Policy → ℕ
granule_of Balanced = 8192
granule_of Aggressive = 2048
granule_of Never = 8192

-- How many granules of so many words a slot's node has.
abbrev pub slot_granules : ℕ → ℕ
slot_granules granule = node_words / granule

-- Under policy none what is committed stays so, and each chunk is committed whole.
abbrev pub keeps : Policy → Bool
keeps Balanced = false
keeps Aggressive = false
keeps Never = true
