-- Of which release a log is: JDK 17 gives its arenas two names, and others give them others.
use Rattle.std.specs.Prelude.{◌≢◌, List, ℕ, Option, Some, None, ⊤}
use Rattle.std.specs.List.{All}
use Rattle.jvm_log.specs.declared.event.Event.TheVariants.{OtherRelease}
use Rattle.jvm_log.specs.declared.event.Said.{Said}
use Rattle.jvm_log.specs.Hearing.{AreLines, trimmed}
use Rattle.jvm_log.specs.Reading.{said_in}

-- What a line says shows no other release.
abbrev pub IsOfJdk17 : Said → Type 0
IsOfJdk17 said = said.event ≢ OtherRelease

-- Nor does what is read of a line, which may be nothing.
abbrev pub IsNoOther : Option Said → Type 0
IsNoOther None = ⊤
IsNoOther (Some said) = IsOfJdk17 said

-- A line, with its newline, shows none.
abbrev pub LineIsOfJdk17 : List ℕ → Type 0
LineIsOfJdk17 line = IsNoOther (said_in (trimmed line))

-- No line of a log does.
abbrev pub LogIsOfJdk17 : List ℕ → Type 0
LogIsOfJdk17 text = (lines : List (List ℕ)) × AreLines text lines × All LineIsOfJdk17 lines
