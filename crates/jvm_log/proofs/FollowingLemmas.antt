-- A machine that gives what waits first. Used by the functions of `machine`.
use Rattle.std.proofs.Common.{◌≡◌, ◌≤◌, ◌<◌, ◌+◌, ◌^◌, List, [], ◌∷◌, ◌++◌, true, false, true≢false, Option, Some, None, ap, append_assoc, append-nil, arith, length, length-append, refl, sym, ◌∙◌}
use Rattle.std.specs.Prelude.{IfNone, IfSome}
use Rattle.std.specs.Option.{is_some}
use Rattle.std.proofs.lemmas.Grind.{flat_map-append}
use Rattle.std.proofs.lemmas.List.Elements.{All-append, All-nil}
use Rattle.ms_trace.specs.declared.trace.Command.{Command}
use Rattle.jvm_log.specs.declared.held.Entry.{Entry}
use Rattle.jvm_log.specs.declared.held.Entry.TheVariants.{Whole, Born, Asked, Void}
use Rattle.jvm_log.specs.declared.held.Held.{Held}
use Rattle.jvm_log.specs.declared.machine.Machine.{Machine}
use Rattle.jvm_log.specs.declared.placed.Placed.{Placed}
use Rattle.jvm_log.specs.Following.{HandsOut}
use Rattle.jvm_log.specs.Held.{Goes, is_open, known_of, none_may_go, waiting}
use Rattle.jvm_log.specs.Known.{Known, known_in, waits}
use Rattle.jvm_log.proofs.HeldLemmas.{waiting-more}

-- Nothing more will be known of an entry.
abbrev IsKnown : Entry → Type 0
IsKnown entry = is_open entry ≡ false

-- The first entries go one after another.
pub goes_none : (held : Held) → held.first < 2 ^ 64 → Goes [] held held
goes_none held few = record { lines = refl; number = omega (arith, few); closed = refl; known = λ more. All-nil IsKnown }

pub goes_on : (first second : List Entry) (old mid new : Held) → Goes first old mid → Goes second mid new → Goes (first ++ second) old new
goes_on first second old mid new one other = record {
  lines = one.lines ∙ ap (λ (rest : List Entry). first ++ rest) other.lines ∙ sym (append_assoc first second new.entries.items);
  number = omega (arith, one.number, other.number, length-append first second);
  closed = other.closed ∙ one.closed;
  known = λ more. All-append IsKnown first second (one.known more) (other.known (one.closed ∙ more));
}

-- What an answer says of the lines that go it says of the commands.
abbrev pub Gone : Held → Held → List Command → Type 0
Gone old new commands = (gone : List Entry) × Goes gone old new × (waiting gone ≡ commands)

-- One more goes, which gives nothing, or a line.
gone_more : (entry : Entry) (commands : List Command) (old mid new : Held) → Gone old mid [] → Goes (entry ∷ []) mid new
    → known_of entry ≡ commands → Gone old new commands
gone_more entry commands old mid new (gone, goes, none) more gives = (
  gone ++ entry ∷ [],
  goes_on gone (entry ∷ []) old mid new goes more,
  waiting-more gone entry ∙ ap (λ (first : List Command). first ++ (known_of entry ++ [])) none ∙ append-nil (known_of entry) ∙ gives,
)

pub passes_none : (line : Option Placed) (entry : Entry) (old mid new : Held) → Gone old mid [] → Goes (entry ∷ []) mid new
    → is_some line ≡ false → IfNone line (known_of entry ≡ []) → Gone old new []
passes_none None entry old mid new gone more none gives = gone_more entry [] old mid new gone more gives
passes_none (Some line) entry old mid new gone more none gives = absurd (true≢false none)

pub passes_line : (line : Option Placed) (entry : Entry) (old mid new : Held) → Gone old mid [] → Goes (entry ∷ []) mid new
    → IfSome line (λ its. known_of entry ≡ its.command ∷ []) → IfSome line (λ its. Gone old new (its.command ∷ []))
passes_line None entry old mid new gone more gives = gives
passes_line (Some line) entry old mid new gone more gives = gone_more entry (line.command ∷ []) old mid new gone more gives

-- What waits is what those that go give, and what waits then.
pub gives_first : (commands : List Command) (old new : Known) → HandsOut commands old new → waits old ≡ commands ++ waits new
gives_first commands old new hands =
    ap waiting hands.goes.lines ∙ flat_map-append known_of hands.gone new.held.entries.items
    ∙ ap (λ (first : List Command). first ++ waits new) hands.gives

pub hands_as : (commands : List Command) (old new : Machine) → new ≡ record old { held = new.held }
    → Gone old.held new.held commands → HandsOut commands (known_in old) (known_in new)
hands_as commands old new rest (gone, goes, gives) = record { gone = gone; goes = goes; gives = gives; rest = ap known_in rest }

pub hands_next : (line : Option Placed) (old new : Machine) → new ≡ record old { held = new.held }
    → IfSome line (λ its. Gone old.held new.held (its.command ∷ []))
    → IfSome line (λ its. HandsOut (its.command ∷ []) (known_in old) (known_in new))
hands_next None old new rest first = first
hands_next (Some line) old new rest first = hands_as (line.command ∷ []) old new rest first

pub hands_no_line : (line : Option Placed) (old new : Machine) → new ≡ record old { held = new.held }
    → IfNone line (Gone old.held new.held []) → IfNone line (HandsOut [] (known_in old) (known_in new))
hands_no_line None old new rest gone = hands_as [] old new rest gone
hands_no_line (Some line) old new rest gone = gone

pub few_wait : (entries : List Entry) → length (waiting entries) ≤ length entries
few_wait [] = omega arith
few_wait (Whole line ∷ entries) = omega (arith, few_wait entries)
few_wait (Born loader ∷ entries) = omega (arith, few_wait entries)
few_wait (Asked ∷ entries) = omega (arith, few_wait entries)
few_wait (Void ∷ entries) = omega (arith, few_wait entries)

-- Each line that goes out leaves one less.
pub fewer_held : (command : Command) (old new : Known) → HandsOut (command ∷ []) old new
    → length new.held.entries.items + 1 ≤ length old.held.entries.items
fewer_held command old new hands =
    omega (
      arith,
      few_wait hands.gone,
      ap length hands.gives,
      ap length hands.goes.lines,
      length-append hands.gone new.held.entries.items,
    )

pub none_left : (entries : List Entry) → length entries ≤ 0 → none_may_go entries ≡ true
none_left [] none = refl
none_left (entry ∷ entries) none = absurd (omega (arith, none))
