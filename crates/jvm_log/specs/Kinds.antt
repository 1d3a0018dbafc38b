-- The level of the first chunk that an arena of a loader asks for, which tells the loader's kind.
-- After HotSpot 17's metaspaceArenaGrowthPolicy.cpp.
use Rattle.std.specs.Prelude.{ℕ}
use Rattle.ms_base.specs.declared.kind.Kind.{Kind}
use Rattle.ms_base.specs.declared.kind.Kind.TheVariants.{Standard, Boot, Reflection, Hidden}
use Rattle.ms_base.specs.declared.kind.Space.{Space}
use Rattle.ms_base.specs.declared.kind.Space.TheVariants.{NonClass, Class}

-- By the JVM's levels, of which level 0 has 16 MB and level 14 has 1 KB.
abbrev pub first_level : Space → Kind → ℕ
first_level NonClass Standard = 12
first_level NonClass Boot = 2
first_level NonClass Reflection = 13
first_level NonClass Hidden = 14
first_level Class Standard = 13
first_level Class Boot = 6
first_level Class Reflection = 14
first_level Class Hidden = 14
