-- What a block's line says of its end, and which blocks are forgotten as one goes from the end of a trace
-- to its beginning. Used by the functions of `joining`.
use Rattle.std.proofs.Common.{◌≡◌, ◌≢◌, ◌≤◌, ◌<◌, ◌++◌, ◌+◌, ◌*◌, ◌%◌, ◌^◌, ℕ, zero, suc, Bool, true, false, ◌&&◌, List, [], ◌∷◌}
use Rattle.std.proofs.lemmas.List.{length-set, take_all, take_more, take_more_set}
use Rattle.std.proofs.Common.{◌-◌, take, drop, length, get_or, ap, sym, refl, subst, ◌∙◌, arith, Option, Some, None, nat_eq}
use Rattle.std.specs.Prelude.{slice_set, IfNone, if◌then◌else◌}
use Rattle.ms_base.specs.declared.kind.Space.{Space}
use Rattle.ms_base.specs.declared.kind.Space.TheVariants.{NonClass, Class}
use Rattle.ms_base.specs.declared.step.Step.TheVariants.{New, Alloc, Calloc, Write, Read, Free, Unload, Purge}
use Rattle.ms_trace.specs.declared.trace.Command.{Command}
use Rattle.ms_trace.specs.declared.trace.Command.TheVariants.{Step as Asks, Sync, Report}
use Rattle.jvm_log.specs.declared.placed.Placed.{Placed}
use Rattle.jvm_log.specs.Steps.{step_for}
use Rattle.log_session.specs.Joining.{IsJoined, taken_in, Joins, Meets, asks_for, behind, end_by, forgot, forgotten, is_freed_in, named_then, taken}

-- A command asks for no block, or frees none.
abbrev pub AsksForNone : Command → Type 0
AsksForNone command = (space : Space) (loader block words : ℕ) → command ≢ Asks (step_for space loader block words)

abbrev pub FreesNone : Command → Type 0
FreesNone command = (loader block : ℕ) → command ≢ Asks (Free loader block)

-- The end of a block.
end_by_block : (space : Space) (loader block words address : ℕ) → end_by (Asks (step_for space loader block words)) address ≡ behind address words
end_by_block NonClass loader block words address = refl
end_by_block Class loader block words address = refl

behind_known : (address words max : ℕ) → address ≢ 0 → max ≡ taken words → (address + max * 8 % 2 ^ 64) % 2 ^ 64 ≡ behind address words
behind_known zero words max known is = absurd (known refl)
behind_known (suc n) words max known is = omega (arith, is)

pub end_block : (command : Command) (space : Space) (loader block words address max : ℕ)
    → command ≡ Asks (step_for space loader block words) → address ≢ 0 → max ≡ taken words
    → (address + max * 8 % 2 ^ 64) % 2 ^ 64 ≡ end_by command address
end_block command space loader block words address max asks known is =
    behind_known address words max known is
    ∙ sym (ap (λ c. end_by c address) asks ∙ end_by_block space loader block words address)

pub end_unknown : (command : Command) (address : ℕ) → address ≡ 0 → end_by command address ≡ 0
end_unknown (Asks (Alloc loader block words)) address none = ap (λ a. behind a words) none
end_unknown (Asks (Calloc loader block words)) address none = ap (λ a. behind a words) none
end_unknown (Asks (New loader kind)) address none = refl
end_unknown (Asks (Write loader block index value)) address none = refl
end_unknown (Asks (Read loader block index)) address none = refl
end_unknown (Asks (Free loader block)) address none = refl
end_unknown (Asks (Unload loader)) address none = refl
end_unknown (Asks Purge) address none = refl
end_unknown Sync address none = refl
end_unknown Report address none = refl

pub end_none : (command : Command) (address : ℕ) → AsksForNone command → end_by command address ≡ 0
end_none (Asks (Alloc loader block words)) address bare = absurd (bare NonClass loader block words refl)
end_none (Asks (Calloc loader block words)) address bare = absurd (bare Class loader block words refl)
end_none (Asks (New loader kind)) address bare = refl
end_none (Asks (Write loader block index value)) address bare = refl
end_none (Asks (Read loader block index)) address bare = refl
end_none (Asks (Free loader block)) address bare = refl
end_none (Asks (Unload loader)) address bare = refl
end_none (Asks Purge) address bare = refl
end_none Sync address bare = refl
end_none Report address bare = refl

-- Where no command joins two blocks none does so for their lines.
pub none_meets : (most : ℕ) (last line : Placed) (joined : Option Command)
    → IfNone joined ((command : Command) → Joins most last.command line.command command → ⊥)
    → IfNone joined ((command : Command) → Meets most last line command → ⊥)
none_meets most last line (Some command) none = tt
none_meets most last line None none = λ command meets. none command meets.joins

-- A block's line, as its block is freed later or not.
asks_for_block : (is_freed : ℕ → ℕ → Bool) (space : Space) (loader block words : ℕ)
    → asks_for is_freed (Asks (step_for space loader block words)) ≡ is_freed loader block
asks_for_block is_freed NonClass loader block words = refl
asks_for_block is_freed Class loader block words = refl

forgot_by : (is_freed : ℕ → ℕ → Bool) (line : Placed) (freed : Bool) → asks_for is_freed line.command ≡ freed
    → (if freed then record line { address = 0 } else line) ≡ forgot is_freed line
forgot_by is_freed line freed is = ap (λ (b : Bool). if b then record line { address = 0 } else line) (sym is)

pub forgot_block : (is_freed : ℕ → ℕ → Bool) (line : Placed) (space : Space) (loader block words : ℕ)
    → line.command ≡ Asks (step_for space loader block words) → is_freed loader block ≡ true
    → record line { address = 0 } ≡ forgot is_freed line
forgot_block is_freed line space loader block words asks freed =
    forgot_by is_freed line true (ap (asks_for is_freed) asks ∙ asks_for_block is_freed space loader block words ∙ freed)

pub kept_block : (is_freed : ℕ → ℕ → Bool) (line : Placed) (space : Space) (loader block words : ℕ)
    → line.command ≡ Asks (step_for space loader block words) → is_freed loader block ≡ false → line ≡ forgot is_freed line
kept_block is_freed line space loader block words asks freed =
    forgot_by is_freed line false (ap (asks_for is_freed) asks ∙ asks_for_block is_freed space loader block words ∙ freed)

pub forgot_freed : (is_freed : ℕ → ℕ → Bool) (line : Placed) (loader block : ℕ) → line.command ≡ Asks (Free loader block)
    → line ≡ forgot is_freed line
forgot_freed is_freed line loader block frees = forgot_by is_freed line false (ap (asks_for is_freed) frees)

asks_for_none : (is_freed : ℕ → ℕ → Bool) (command : Command) → AsksForNone command → asks_for is_freed command ≡ false
asks_for_none is_freed (Asks (Alloc loader block words)) bare = absurd (bare NonClass loader block words refl)
asks_for_none is_freed (Asks (Calloc loader block words)) bare = absurd (bare Class loader block words refl)
asks_for_none is_freed (Asks (New loader kind)) bare = refl
asks_for_none is_freed (Asks (Write loader block index value)) bare = refl
asks_for_none is_freed (Asks (Read loader block index)) bare = refl
asks_for_none is_freed (Asks (Free loader block)) bare = refl
asks_for_none is_freed (Asks (Unload loader)) bare = refl
asks_for_none is_freed (Asks Purge) bare = refl
asks_for_none is_freed Sync bare = refl
asks_for_none is_freed Report bare = refl

pub forgot_none : (is_freed : ℕ → ℕ → Bool) (line : Placed) → AsksForNone line.command → line ≡ forgot is_freed line
forgot_none is_freed line bare = forgot_by is_freed line false (asks_for_none is_freed line.command bare)

-- What a command makes of a block that it names, or names not.
named_by_block : (space : Space) (of number words loader block : ℕ) (later : Bool)
    → named_then loader block (Asks (step_for space of number words)) later
    ≡ (if nat_eq of loader && nat_eq number block then false else later)
named_by_block NonClass of number words loader block later = refl
named_by_block Class of number words loader block later = refl

pub named_block : (command : Command) (space : Space) (of number words loader block : ℕ) (later : Bool)
    → command ≡ Asks (step_for space of number words)
    → named_then loader block command later ≡ (if nat_eq of loader && nat_eq number block then false else later)
named_block command space of number words loader block later asks =
    ap (λ c. named_then loader block c later) asks ∙ named_by_block space of number words loader block later

pub named_freed : (command : Command) (of number loader block : ℕ) (later : Bool) → command ≡ Asks (Free of number)
    → named_then loader block command later ≡ (if nat_eq of loader && nat_eq number block then true else later)
named_freed command of number loader block later frees = ap (λ c. named_then loader block c later) frees

pub named_none : (command : Command) (loader block : ℕ) (later : Bool) → AsksForNone command → FreesNone command
    → named_then loader block command later ≡ later
named_none (Asks (Alloc of number words)) loader block later bare frees = absurd (bare NonClass of number words refl)
named_none (Asks (Calloc of number words)) loader block later bare frees = absurd (bare Class of number words refl)
named_none (Asks (New of kind)) loader block later bare frees = refl
named_none (Asks (Write of number index value)) loader block later bare frees = refl
named_none (Asks (Read of number index)) loader block later bare frees = refl
named_none (Asks (Free of number)) loader block later bare frees = absurd (frees of number refl)
named_none (Asks (Unload of)) loader block later bare frees = refl
named_none (Asks Purge) loader block later bare frees = refl
named_none Sync loader block later bare frees = refl
named_none Report loader block later bare frees = refl

-- Two tests that agree forget the same.
asks_for_same : (one other : ℕ → ℕ → Bool) (command : Command) → ((loader block : ℕ) → one loader block ≡ other loader block)
    → asks_for one command ≡ asks_for other command
asks_for_same one other (Asks (Alloc loader block words)) same = same loader block
asks_for_same one other (Asks (Calloc loader block words)) same = same loader block
asks_for_same one other (Asks (New loader kind)) same = refl
asks_for_same one other (Asks (Write loader block index value)) same = refl
asks_for_same one other (Asks (Read loader block index)) same = refl
asks_for_same one other (Asks (Free loader block)) same = refl
asks_for_same one other (Asks (Unload loader)) same = refl
asks_for_same one other (Asks Purge) same = refl
asks_for_same one other Sync same = refl
asks_for_same one other Report same = refl

-- The line at an index is read, and stands there without its address if its block is freed later.
turned : (old : List Placed) (at : ℕ) (or after : Placed) → at < length old
    → after ≡ forgot (is_freed_in (drop (suc at) old)) (get_or (take (suc at) old ++ forgotten (drop (suc at) old)) at or)
    → slice_set (take (suc at) old ++ forgotten (drop (suc at) old)) at after ≡ take at old ++ forgotten (drop at old)
turned [] at or after less is = absurd (omega (arith, less))
turned (line ∷ old) zero or after less is = ap (λ first. first ∷ forgotten old) is
turned (line ∷ old) (suc at) or after less is = ap (λ rest. line ∷ rest) (turned old at or after (omega (arith, less)) is)

-- With it is known which blocks are freed from there on.
known : (old : List Placed) (at : ℕ) (or : Placed) (loader block : ℕ) (had has : Bool) → at < length old
    → had ≡ is_freed_in (drop (suc at) old) loader block
    → has ≡ named_then loader block (get_or (take (suc at) old ++ forgotten (drop (suc at) old)) at or).command had
    → has ≡ is_freed_in (drop at old) loader block
known [] at or loader block had has less was is = absurd (omega (arith, less))
known (line ∷ old) zero or loader block had has less was is = is ∙ ap (named_then loader block line.command) was
known (line ∷ old) (suc at) or loader block had has less was is = known old at or loader block had has (omega (arith, less)) was is

-- One turn of the loop, from the index `at` to the one before it.
pub turn : (old lines : List Placed) (at next : ℕ) (read after : Placed) (had has : ℕ → ℕ → Bool) → at ≡ suc next
    → at ≤ length old → lines ≡ take at old ++ forgotten (drop at old)
    → ((loader block : ℕ) → had loader block ≡ is_freed_in (drop at old) loader block) → read ≡ get_or lines next read
    → after ≡ forgot had read → ((loader block : ℕ) → has loader block ≡ named_then loader block read.command (had loader block))
    → (slice_set lines next after ≡ take next old ++ forgotten (drop next old)) × (next ≤ length old)
    × ((loader block : ℕ) → has loader block ≡ is_freed_in (drop next old) loader block)
turn old lines at next read after had has same within are freed reads forgets names =
    let less : next < length old = omega (arith, same, within) in
    let lines_are : lines ≡ take (suc next) old ++ forgotten (drop (suc next) old) =
    subst (λ (n : ℕ). lines ≡ take n old ++ forgotten (drop n old)) same are in
    let freed_are : (loader block : ℕ) → had loader block ≡ is_freed_in (drop (suc next) old) loader block =
    subst (λ (n : ℕ). (loader block : ℕ) → had loader block ≡ is_freed_in (drop n old) loader block) same freed in
    let read_is : read ≡ get_or (take (suc next) old ++ forgotten (drop (suc next) old)) next read =
    reads ∙ ap (λ (l : List Placed). get_or l next read) lines_are in
    let after_is : after ≡ forgot (is_freed_in (drop (suc next) old)) (get_or (take (suc next) old ++ forgotten (drop (suc next) old)) next read) =
    forgets
    ∙ ap (λ (b : Bool). if b then record read { address = 0 } else read)
    (asks_for_same had (is_freed_in (drop (suc next) old)) read.command freed_are)
    ∙ ap (forgot (is_freed_in (drop (suc next) old))) read_is in (
      ap (λ (l : List Placed). slice_set l next after) lines_are ∙ turned old next read after less after_is,
      omega (arith, less),
      λ loader block. known old next read loader block (had loader block) (has loader block) less (freed_are loader block)
          (names loader block ∙ ap (λ (line : Placed). named_then loader block line.command (had loader block)) read_is),
    )

-- The last line takes in another.
pub last_takes : (most : ℕ) (lines items : List Placed) (len : ℕ) (last line : Placed) (command : Command) → IsJoined most lines items
    → len ≡ length items → 0 < len → last ≡ get_or items (len - 1) last → Meets most last line command
    → IsJoined most (lines ++ line ∷ []) (slice_set items (len - 1) (record last { command = command }))
last_takes most lines items len last line command are count some is meets =
    let at : ℕ = len - 1 in
    let new : Placed = record last { command = command } in
    let inside : at < length items = omega (arith, count, some) in
    let all : length items ≤ at + 1 = omega (arith, count, some) in
    let split : items ≡ take at items ++ last ∷ [] =
    sym (take_all (at + 1) items all) ∙ take_more items at last inside
    ∙ ap (λ (x : Placed). take at items ++ x ∷ []) (sym is) in
    let set : slice_set items at new ≡ take at items ++ new ∷ [] =
    sym (take_all (at + 1) (slice_set items at new) (rw (length-set items at new) all)) ∙ take_more_set items at new inside in
    subst (λ (l : List Placed). IsJoined most (lines ++ line ∷ []) l) (sym set)
    (taken_in lines (take at items) last line command (subst (λ (l : List Placed). IsJoined most lines l) split are) meets)
