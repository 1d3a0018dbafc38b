-- Which blocks of a trace become one (this project's choice).
use Rattle.std.specs.Prelude.{◌≡◌, ◌≢◌, ◌≤◌, ◌+◌, ◌*◌, ◌%◌, ◌^◌, ℕ, zero, suc, Bool, true, false, ◌&&◌, nat_eq, max, if◌then◌else◌}
use Rattle.std.specs.Prelude.{List, [], ◌∷◌, ◌++◌}
use Rattle.std.specs.HashSet.{HashSet, contains}
use Rattle.ms_base.specs.declared.kind.Space.{Space}
use Rattle.ms_base.specs.declared.step.Step.TheVariants.{Alloc, Calloc, Free}
use Rattle.ms_trace.specs.declared.trace.Command.{Command}
use Rattle.ms_trace.specs.declared.trace.Command.TheVariants.{Step as Asks}
use Rattle.jvm_log.specs.declared.placed.Placed.{Placed}
use Rattle.jvm_log.specs.Steps.{step_for}

-- The words that a block takes: two at least.
abbrev pub taken : ℕ → ℕ
taken words = max words 2

-- Two commands ask for blocks of one arena, which take so many words together at most, and a third asks
-- for them as one, under the number of the first.
pub record Joins (most : ℕ) (first second joined : Command) : Type 0 where
  pub space : Space
  pub loader : ℕ
  pub block : ℕ
  pub words : ℕ
  pub other : ℕ
  pub more : ℕ
  pub first_is : first ≡ Asks (step_for space loader block words)
  pub second_is : second ≡ Asks (step_for space loader other more)
  pub joined_is : joined ≡ Asks (step_for space loader block (taken words + taken more))
  pub few : taken words + taken more ≤ most

-- The address behind a block of so many words, and 0 where that of the block isn't known.
abbrev pub behind : ℕ → ℕ → ℕ
behind zero words = 0
behind (suc n) words = (suc n + taken words * 8) % 2 ^ 64

-- The same of the block that a command asks for; 0 where it asks for none.
abbrev pub end_by : Command → ℕ → ℕ
end_by (Asks (Alloc loader block words)) address = behind address words
end_by (Asks (Calloc loader block words)) address = behind address words
end_by _ address = 0

-- The same of a line.
abbrev pub end_of : Placed → ℕ
end_of line = end_by line.command line.address

-- The blocks of two lines join to what a command asks for: the second lies right behind the first.
pub record Meets (most : ℕ) (first second : Placed) (joined : Command) : Type 0 where
  pub known : second.address ≢ 0
  pub beside : second.address ≡ end_of first
  pub joins : Joins most first.command second.command joined

-- A trace joins to another, line by line: a line comes to the end, or the last one takes it in.
pub data IsJoined (most : ℕ) : List Placed → List Placed → Type 0 where
  none : IsJoined most [] []
  alone : (old new : List Placed) (line : Placed) → IsJoined most old new → IsJoined most (old ++ line ∷ []) (new ++ line ∷ [])
  taken_in : (old new : List Placed) (last line : Placed) (joined : Command) → IsJoined most old (new ++ last ∷ [])
      → Meets most last line joined → IsJoined most (old ++ line ∷ []) (new ++ record last { command = joined } ∷ [])

-- Two blocks are of one loader and have one number.
abbrev pub same_block : ℕ × ℕ → ℕ × ℕ → Bool
same_block one other = nat_eq one.0 other.0 && nat_eq one.1 other.1

-- A set of blocks has that one.
abbrev pub has : {S : Type 0} → HashSet (ℕ × ℕ) S → ℕ → ℕ → Bool
has blocks loader block = contains same_block blocks (loader, block)

-- Whether the next command that names a block frees it: this one, or else what later ones do.
abbrev pub named_then : ℕ → ℕ → Command → Bool → Bool
named_then loader block (Asks (Free of number)) later =
    if nat_eq of loader && nat_eq number block then true else later
named_then loader block (Asks (Alloc of number words)) later =
    if nat_eq of loader && nat_eq number block then false else later
named_then loader block (Asks (Calloc of number words)) later =
    if nat_eq of loader && nat_eq number block then false else later
named_then loader block _ later = later

-- The same of lines: where none names the block, none frees it.
abbrev pub is_freed_in : List Placed → ℕ → ℕ → Bool
is_freed_in [] loader block = false
is_freed_in (line ∷ lines) loader block = named_then loader block line.command (is_freed_in lines loader block)

-- A command asks for a block that the test accepts.
abbrev pub asks_for : (ℕ → ℕ → Bool) → Command → Bool
asks_for is_freed (Asks (Alloc loader block words)) = is_freed loader block
asks_for is_freed (Asks (Calloc loader block words)) = is_freed loader block
asks_for is_freed _ = false

-- A line without its address where its block is freed later.
abbrev pub forgot : (ℕ → ℕ → Bool) → Placed → Placed
forgot is_freed line = if asks_for is_freed line.command then record line { address = 0 } else line

-- All lines so.
abbrev pub forgotten : List Placed → List Placed
forgotten [] = []
forgotten (line ∷ lines) = forgot (is_freed_in lines) line ∷ forgotten lines
