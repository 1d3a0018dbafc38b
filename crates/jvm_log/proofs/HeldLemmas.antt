-- Which commands are known among the lines held back, and what they do to names, as they change. Used
-- by the functions of `held`.
use Rattle.std.proofs.Common.{◌≡◌, ◌-◌, ℕ, zero, suc, Bool, List, [], ◌∷◌, ◌++◌, true, false, Option, Some, None, get_or, length, map, refl, sym, ap, ◌∙◌, append-nil}
use Rattle.std.specs.Prelude.{flat_map, nat_le, nat_lt, slice_get, slice_set, if◌then◌else◌}
use Rattle.std.proofs.lemmas.Bool.{false≢true}
use Rattle.std.proofs.lemmas.Grind.{flat_map-append}
use Rattle.std.proofs.lemmas.Option.{same_Some}
use Rattle.ms_trace.specs.declared.trace.Command.{Command}
use Rattle.jvm_log.specs.declared.held.Entry.{Entry}
use Rattle.jvm_log.specs.declared.held.Entry.TheVariants.{Whole, Born, Asked, Void}
use Rattle.jvm_log.specs.declared.held.Held.{Held}
use Rattle.jvm_log.specs.declared.loader.Request.{Request}
use Rattle.jvm_log.specs.declared.placed.Placed.{Placed}
use Rattle.jvm_log.specs.Giving.{bare, passing, passing_at}
use Rattle.jvm_log.specs.Held.{answered, asks_at, is_asked, known_of, name_acts_of, settled_first, shortened, waiting, without_line}
use Rattle.jvm_log.specs.NameActs.{name_acts}

-- One that does the same to names changes nothing of what is done to them.
pub acts-set : (entries : List Entry) (at : ℕ) (entry new : Entry) → entry ≡ get_or entries at entry
    → flat_map name_acts (known_of new) ≡ flat_map name_acts (known_of entry)
    → name_acts_of (slice_set entries at new) ≡ name_acts_of entries
acts-set [] at entry new is same = refl
acts-set (first ∷ entries) zero entry new is same =
    flat_map-append name_acts (known_of new) (waiting entries)
    ∙ ap (λ acts. acts ++ name_acts_of entries) (same ∙ ap (λ e. flat_map name_acts (known_of e)) is)
    ∙ sym (flat_map-append name_acts (known_of first) (waiting entries))
acts-set (first ∷ entries) (suc at) entry new is same =
    flat_map-append name_acts (known_of first) (waiting (slice_set entries at new))
    ∙ ap (λ acts. flat_map name_acts (known_of first) ++ acts) (acts-set entries at entry new is same)
    ∙ sym (flat_map-append name_acts (known_of first) (waiting entries))

-- So with the kinds of loaders left out.
pub bare-set : (entries : List Entry) (at : ℕ) (entry new : Entry) → entry ≡ get_or entries at entry → bare new ≡ bare entry
    → map bare (slice_set entries at new) ≡ map bare entries
bare-set [] at entry new is same = refl
bare-set (first ∷ entries) zero entry new is same = ap (λ one. one ∷ map bare entries) (same ∙ ap bare is)
bare-set (first ∷ entries) (suc at) entry new is same = ap (λ more. bare first ∷ more) (bare-set entries at entry new is same)

-- So an entry becomes another, or something else comes.
pub answered_is : (number : ℕ) (entry : Entry) (otherwise : List Entry) (held : Held) → asks_at number held ≡ true
    → slice_set held.entries.items (number - held.first) entry ≡ answered number entry otherwise held
answered_is number entry otherwise held asks =
    sym (ap (λ (b : Bool). if b then slice_set held.entries.items (number - held.first) entry else otherwise) asks)

pub answered_not : (number : ℕ) (entry : Entry) (otherwise : List Entry) (held : Held) → asks_at number held ≡ false
    → otherwise ≡ answered number entry otherwise held
answered_not number entry otherwise held asks =
    sym (ap (λ (b : Bool). if b then slice_set held.entries.items (number - held.first) entry else otherwise) asks)

-- One more entry at the end.
pub waiting-more : (entries : List Entry) (entry : Entry) → waiting (entries ++ entry ∷ []) ≡ waiting entries ++ flat_map known_of (entry ∷ [])
waiting-more entries entry = flat_map-append known_of entries (entry ∷ [])

pub acts-more : (entries : List Entry) (entry : Entry)
    → name_acts_of (entries ++ entry ∷ []) ≡ name_acts_of entries ++ flat_map name_acts (flat_map known_of (entry ∷ []))
acts-more entries entry =
    ap (flat_map name_acts) (waiting-more entries entry) ∙ flat_map-append name_acts (waiting entries) (flat_map known_of (entry ∷ []))

-- A whole line at the end, which may do nothing to names.
pub waiting_added : (entries new : List Entry) (line : Placed) (command : Command) → new ≡ entries ++ Whole line ∷ []
    → line.command ≡ command → waiting new ≡ waiting entries ++ command ∷ []
waiting_added entries new line command are is =
    ap waiting are ∙ waiting-more entries (Whole line) ∙ ap (λ c. waiting entries ++ c ∷ []) is

pub acts_added : (entries new : List Entry) (line : Placed) (command : Command) → new ≡ entries ++ Whole line ∷ []
    → line.command ≡ command → name_acts_of new ≡ name_acts_of entries ++ name_acts command
acts_added entries new line command are is =
    ap (flat_map name_acts) (waiting_added entries new line command are is)
    ∙ flat_map-append name_acts (waiting entries) (command ∷ [])
    ∙ ap (λ acts. name_acts_of entries ++ acts) (append-nil (name_acts command))

pub acts_quiet : (entries new : List Entry) (line : Placed) (command : Command) → new ≡ entries ++ Whole line ∷ []
    → line.command ≡ command → name_acts command ≡ [] → name_acts_of new ≡ name_acts_of entries
acts_quiet entries new line command are is quiet =
    acts_added entries new line command are is ∙ ap (λ acts. name_acts_of entries ++ acts) quiet ∙ append-nil (name_acts_of entries)

-- A loader's line at the end.
pub acts_born : (entries new : List Entry) (name : ℕ) → new ≡ entries ++ Born name ∷ []
    → name_acts_of new ≡ name_acts_of entries ++ (name, true) ∷ []
acts_born entries new name are = ap name_acts_of are ∙ acts-more entries (Born name)

-- A request's entry becomes a line that does nothing to names.
pub acts_asked : (entries : List Entry) (at : ℕ) (line : Placed) → slice_get entries at ≡ Some Asked → name_acts line.command ≡ []
    → name_acts_of (slice_set entries at (Whole line)) ≡ name_acts_of entries
acts_asked [] at line is quiet = refl
acts_asked (first ∷ entries) zero line is quiet =
    ap (λ acts. acts ++ name_acts_of entries) quiet ∙ sym (ap (λ entry. name_acts_of (entry ∷ entries)) (same_Some first Asked is))
acts_asked (first ∷ entries) (suc at) line is quiet =
    flat_map-append name_acts (known_of first) (waiting (slice_set entries at (Whole line)))
    ∙ ap (λ acts. flat_map name_acts (known_of first) ++ acts) (acts_asked entries at line is quiet)
    ∙ sym (flat_map-append name_acts (known_of first) (waiting entries))

-- Or it becomes one that gives nothing.
waiting_void : (entries : List Entry) (at : ℕ) → slice_get entries at ≡ Some Asked → waiting (slice_set entries at Void) ≡ waiting entries
waiting_void [] at is = refl
waiting_void (first ∷ entries) zero is = sym (ap (λ entry. waiting (entry ∷ entries)) (same_Some first Asked is))
waiting_void (first ∷ entries) (suc at) is = ap (λ known. known_of first ++ known) (waiting_void entries at is)

asked_there : (entry : Option Entry) → is_asked entry ≡ true → entry ≡ Some Asked
asked_there None is = absurd (false≢true is)
asked_there (Some (Whole line)) is = absurd (false≢true is)
asked_there (Some (Born loader)) is = absurd (false≢true is)
asked_there (Some Asked) is = refl
asked_there (Some Void) is = absurd (false≢true is)

asked_if : (later : Bool) (entry : Option Entry) → (if later then is_asked entry else false) ≡ true → entry ≡ Some Asked
asked_if true entry is = asked_there entry is
asked_if false entry is = absurd (false≢true is)

waiting_answered : (number : ℕ) (held : Held) (asks : Bool) → asks_at number held ≡ asks
    → waiting (answered number Void held.entries.items held) ≡ waiting held.entries.items
waiting_answered number held true asks =
    ap waiting (sym (answered_is number Void held.entries.items held asks))
    ∙ waiting_void held.entries.items (number - held.first) (asked_if (nat_le held.first number) _ asks)
waiting_answered number held false asks = ap waiting (sym (answered_not number Void held.entries.items held asks))

pub waiting_given_up : (number : Option ℕ) (held : Held) → waiting (without_line number held) ≡ waiting held.entries.items
waiting_given_up None held = refl
waiting_given_up (Some number) held = waiting_answered number held (asks_at number held) refl

pub acts_given_up : (number : Option ℕ) (held : Held) (new : List Entry) → new ≡ without_line number held
    → name_acts_of new ≡ name_acts_of held.entries.items
acts_given_up number held new is = ap name_acts_of is ∙ ap (flat_map name_acts) (waiting_given_up number held)

-- A request that passes the pool gives nothing then.
waiting_passing_at : (entries : List Entry) (line : Option ℕ) → waiting (entries ++ passing_at line) ≡ waiting entries
waiting_passing_at entries None = waiting-more entries Asked ∙ append-nil (waiting entries)
waiting_passing_at entries (Some number) = ap waiting (append-nil entries)

pub waiting_passing : (entries : List Entry) (request : Option Request) → waiting (entries ++ passing request) ≡ waiting entries
waiting_passing entries None = ap waiting (append-nil entries)
waiting_passing entries (Some request) = waiting_passing_at entries request.line

-- Nor does the first line where it waits no longer.
waiting_settled : (entries : List Entry) → waiting (settled_first entries) ≡ waiting entries
waiting_settled [] = refl
waiting_settled (Whole line ∷ entries) = refl
waiting_settled (Born loader ∷ entries) = refl
waiting_settled (Asked ∷ entries) = refl
waiting_settled (Void ∷ entries) = refl

waiting_if : (many : Bool) (entries : List Entry) → waiting (if many then settled_first entries else entries) ≡ waiting entries
waiting_if true entries = waiting_settled entries
waiting_if false entries = refl

pub waiting_shortened : (entries : List Entry) → waiting (shortened entries) ≡ waiting entries
waiting_shortened entries = waiting_if (nat_lt 100000 (length entries)) entries
