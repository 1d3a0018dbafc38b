-- Lines that come to those that are held back, with the kinds of loaders left out. Used by the functions of `machine`.
use Rattle.std.proofs.Common.{◌≡◌, ◌≤◌, ◌<◌, ◌+◌, ◌^◌, ℕ, Bool, List, [], ◌∷◌, ◌++◌, map, Option, Some, None}
use Rattle.std.proofs.Common.{refl, sym, ap, ◌∙◌, subst, append_assoc, append-nil}
use Rattle.std.specs.Prelude.{if◌then◌else◌, nat_lt}
use Rattle.std.proofs.lemmas.Bool.{eq-eqb, le-ltb, lt-ltb}
use Rattle.std.proofs.lemmas.List.{map-append}
use Rattle.ms_base.specs.declared.kind.Kind.TheVariants.{Standard}
use Rattle.ms_base.specs.declared.kind.Space.{Space}
use Rattle.ms_base.specs.declared.step.Step.TheVariants.{New, Free}
use Rattle.ms_trace.specs.declared.trace.Command.{Command}
use Rattle.ms_trace.specs.declared.trace.Command.TheVariants.{Step as Asks}
use Rattle.jvm_log.specs.declared.held.Entry.{Entry}
use Rattle.jvm_log.specs.declared.held.Entry.TheVariants.{Whole, Born}
use Rattle.jvm_log.specs.declared.held.Held.{Held}
use Rattle.jvm_log.specs.declared.loader.Block.{Block}
use Rattle.jvm_log.specs.declared.loader.Request.{Request}
use Rattle.jvm_log.specs.declared.machine.Machine.{Machine}
use Rattle.jvm_log.specs.declared.placed.Placed.{Placed}
use Rattle.jvm_log.specs.Giving.{Adds, Bears, Opens, Puts, allocating, bare, freeing, line_of, unloading, whole}
use Rattle.jvm_log.specs.Held.{with_line, without_line}
use Rattle.jvm_log.specs.Known.{Known, Life, Loaders, owner_of}
use Rattle.jvm_log.specs.Parts.{◌>>=◌}
use Rattle.jvm_log.specs.Steps.{step_for}
use Rattle.jvm_log.specs.Waits.{lines_in}

-- Nothing comes.
pub adds_none : (old new : Machine) → map bare (lines_in new) ≡ map bare (lines_in old) → Adds [] (lines_in old) (lines_in new)
adds_none old new same = same ∙ sym (append-nil (map bare (lines_in old)))

pub adds_quiet : (old new : Machine) → lines_in new ≡ lines_in old → Adds [] (lines_in old) (lines_in new)
adds_quiet old new same = adds_none old new (ap (map bare) same)

-- Some come after others, or after kinds that come to be known.
pub adds_both : (first more : List Command) (old mid new : List Entry) → Adds first old mid → Adds more mid new → Adds (first ++ more) old new
adds_both first more old mid new one other =
    other ∙ ap (λ (rest : List Entry). rest ++ map whole more) one ∙ append_assoc (map bare old) (map whole first) (map whole more)
    ∙ ap (λ (rest : List Entry). map bare old ++ rest) (sym (map-append whole first more))

pub adds_after : (commands : List Command) (old mid new : List Entry) → map bare mid ≡ map bare old → Adds commands mid new → Adds commands old new
adds_after commands old mid new same adds = adds ∙ ap (λ (rest : List Entry). rest ++ map whole commands) same

-- A whole line comes to those that are held back, or that of a loader that is born.
pub adds_whole : (entries new : List Entry) (line : Placed) (command : Command) (commands : List Command)
    → new ≡ entries ++ Whole line ∷ [] → line.command ≡ command → commands ≡ command ∷ [] → Adds commands entries new
adds_whole entries new line command commands are is which =
    ap (map bare) are ∙ map-append bare entries (Whole line ∷ [])
    ∙ ap (λ (c : Command). map bare entries ++ whole c ∷ []) is
    ∙ ap (λ (more : List Command). map bare entries ++ map whole more) (sym which)

pub adds_born : (entries new : List Entry) (name : ℕ) → new ≡ entries ++ Born name ∷ [] → Adds (Asks (New name Standard) ∷ []) entries new
adds_born entries new name are = ap (map bare) are ∙ map-append bare entries (Born name ∷ [])

-- A loader is opened.
pub opens_as : (used : List Bool) (old new : List Entry) (name : ℕ) → Adds (Asks (New name Standard) ∷ []) old new → Opens used old new
opens_as used old new name adds = (Asks (New name Standard) ∷ [], (name, refl, refl), adds)

-- One is born after the last line of one that lived there.
pub bears_after : (loader : ℕ) (known : Known) (used : List Bool) (mid new : List Entry)
    → Adds (unloading (known.loaders.loader_at loader)) known.held.entries.items mid → Opens used mid new → Bears loader known used new
bears_after loader known used mid new first (opening, opens, adds) =
    (opening, opens, adds_both (unloading (known.loaders.loader_at loader)) opening known.held.entries.items mid new first adds)

-- The loader of an arena, where arena and loader are known.
pub owner_is : (loaders : Loaders) (arena at : ℕ) (its : Option Life) → loaders.owner_at arena ≡ Some at
    → loaders.loader_at at ≡ its → owner_of loaders arena ≡ its
owner_is loaders arena at its is lives = ap (λ (o : Option ℕ). o >>= loaders.loader_at) is ∙ lives

-- A block is freed by its own loader.
pub freeing_is : (owner : Option Life) (block : Option Block) (its : Life) (whose : Block) → owner ≡ Some its → block ≡ Some whose
    → whose.birth ≡ its.birth → freeing owner block ≡ Asks (Free its.name whose.number) ∷ []
freeing_is owner block its whose owns lies own =
    ap (λ (o : Option Life). freeing o block) owns ∙ ap (freeing (Some its)) lies
    ∙ ap (λ (b : Bool). if b then Asks (Free its.name whose.number) ∷ [] else []) (eq-eqb whose.birth its.birth own)

-- A request that is answered gives its block's line, or nothing.
abbrev if_left : Space → Request → Life → Bool → Option Command
if_left space request owner left = if left then Some (Asks (step_for space owner.name owner.next request.words)) else None

allocating_if : (space : Space) (asked : Option Request) (owner : Option Life) (request : Request) (its : Life) → asked ≡ Some request
    → owner ≡ Some its → allocating space asked owner ≡ if_left space request its (nat_lt (its.next + 1) (2 ^ 32))
allocating_if space asked owner request its is owns =
    ap (λ (a : Option Request). allocating space a owner) is ∙ ap (allocating space (Some request)) owns

pub allocating_is : (space : Space) (asked : Option Request) (owner : Option Life) (request : Request) (its : Life)
    → asked ≡ Some request → owner ≡ Some its → its.next + 1 < 2 ^ 32
    → allocating space asked owner ≡ Some (Asks (step_for space its.name its.next request.words))
allocating_is space asked owner request its is owns less =
    allocating_if space asked owner request its is owns ∙ ap (if_left space request its) (lt-ltb (its.next + 1) (2 ^ 32) less)

pub allocating_full : (space : Space) (asked : Option Request) (owner : Option Life) (request : Request) (its : Life)
    → asked ≡ Some request → owner ≡ Some its → 2 ^ 32 ≤ its.next + 1 → allocating space asked owner ≡ None
allocating_full space asked owner request its is owns most =
    allocating_if space asked owner request its is owns ∙ ap (if_left space request its) (le-ltb (its.next + 1) (2 ^ 32) most)

pub puts_some : (number at : Option ℕ) (command : Option Command) (old : Held) (new : List Entry) (line : Placed)
    → command ≡ Some line.command → number ≡ at → new ≡ with_line at line old → Puts number command old new
puts_some number at command old new line is same put =
    subst (λ (c : Option Command). Puts number c old new) (sym is)
    (line, refl, put ∙ ap (λ (p : Option ℕ). with_line p line old) (sym same))

-- Or it gives nothing, and then has no line.
pub puts_none : (number at : Option ℕ) (command : Option Command) (old : Held) (new : List Entry) → command ≡ None → number ≡ at
    → new ≡ without_line at old → Puts number command old new
puts_none number at command old new is same none =
    subst (λ (c : Option Command). Puts number c old new) (sym is) (none ∙ ap (λ (p : Option ℕ). without_line p old) (sym same))

-- The number of its line, where it has one.
pub line_is : (known : Known) (thread : ℕ) (request : Option Request) → known.request_of thread ≡ request
    → line_of known thread ≡ (request >>= (λ (its : Request). its.line))
line_is known thread request is = ap (λ (r : Option Request). r >>= (λ (its : Request). its.line)) is
