-- Names that are taken only where they are free: one list of acts after another. Used by the functions of
-- `machine`, and by the crate above.
use Rattle.std.proofs.Common.{◌≡◌, ℕ, Bool, true, false, List, [], ◌∷◌, ◌++◌, refl, sym, ap, ◌∙◌, subst, append_assoc, append-nil, Option, Some, Result, Ok, Err}
use Rattle.std.specs.Prelude.{OnOk, slice_set, slice_get, flat_map}
use Rattle.ms_base.specs.declared.kind.Space.{Space}
use Rattle.ms_base.specs.declared.kind.Space.TheVariants.{NonClass, Class}
use Rattle.ms_trace.specs.declared.trace.Command.TheVariants.{Step as Asks}
use Rattle.jvm_log.specs.NameActs.{TakesFree, name_acts}
use Rattle.jvm_log.specs.Steps.{step_for}
use Rattle.jvm_log.specs.declared.held.Entry.{Entry}
use Rattle.jvm_log.specs.declared.loader.Request.{Request}
use Rattle.jvm_log.specs.declared.machine.Machine.{Machine}
use Rattle.jvm_log.specs.Giving.{GivesUp, Passes, line_of, passing}
use Rattle.jvm_log.specs.Held.{name_acts_of, shortened, waiting, without_line}
use Rattle.jvm_log.specs.Known.{known_in, request_of}
use Rattle.jvm_log.specs.Waits.{Uses, UsesNames, acts_in, lines_in, names_in}
use Rattle.jvm_log.proofs.HeldLemmas.{waiting_given_up, waiting_passing, waiting_shortened}

-- What one list of acts leaves another goes on with.
pub takes-append : (names : List Bool) (acts : List (ℕ × Bool)) (mid : List Bool) (more : List (ℕ × Bool)) (new : List Bool)
    → TakesFree names acts mid → TakesFree mid more new → TakesFree names (acts ++ more) new
takes-append names [] mid more new first then = subst (λ used. TakesFree used more new) first then
takes-append names ((name, true) ∷ acts) mid more new first then =
    (first.0, takes-append (slice_set names name true) acts mid more new first.1 then)
takes-append names ((name, false) ∷ acts) mid more new first then =
    takes-append (slice_set names name false) acts mid more new first then

-- The acts before others are taken so themselves.
pub takes_before : (names : List Bool) (acts more : List (ℕ × Bool)) (new : List Bool) → TakesFree names (acts ++ more) new
    → (mid : List Bool) × TakesFree names acts mid
takes_before names [] more new takes = (names, refl)
takes_before names ((name, true) ∷ acts) more new takes =
    let rest = takes_before (slice_set names name true) acts more new takes.1 in (rest.0, (takes.0, rest.1))
takes_before names ((name, false) ∷ acts) more new takes = takes_before (slice_set names name false) acts more new takes

-- Nothing more.
pub uses_none : (old : List (ℕ × Bool)) (names : List Bool) (new : List (ℕ × Bool)) (names_then : List Bool)
    → new ≡ old → names_then ≡ names → Uses old names new names_then
uses_none old names new names_then same unchanged = ([], same ∙ sym (append-nil old), unchanged)

-- The same after something else.
pub uses_then : (old : List (ℕ × Bool)) (names : List Bool) (mid : List (ℕ × Bool)) (names_mid : List Bool) (new : List (ℕ × Bool))
    (names_new : List Bool) → Uses old names mid names_mid → Uses mid names_mid new names_new → Uses old names new names_new
uses_then old names mid names_mid new names_new (first, is, takes) (more, are, then) = (
  first ++ more,
  are ∙ ap (λ acts. acts ++ more) is ∙ append_assoc old first more,
  takes-append names first names_mid more names_new takes then,
)

-- A loader is opened under a name that is free, or its name is given back.
pub uses_taken : (old : List (ℕ × Bool)) (names : List Bool) (new : List (ℕ × Bool)) (names_then : List Bool) (name : ℕ)
    → new ≡ old ++ (name, true) ∷ [] → slice_get names name ≡ Some false → names_then ≡ slice_set names name true
    → Uses old names new names_then
uses_taken old names new names_then name is free taken = ((name, true) ∷ [], is, (free, taken))

pub uses_given : (old : List (ℕ × Bool)) (names : List Bool) (new : List (ℕ × Bool)) (names_then : List Bool) (name : ℕ)
    → new ≡ old ++ (name, false) ∷ [] → names_then ≡ slice_set names name false → Uses old names new names_then
uses_given old names new names_then name is given = ((name, false) ∷ [], is, given)

-- Blocks do nothing to names.
pub block_names_none : (space : Space) (loader block words : ℕ) → name_acts (Asks (step_for space loader block words)) ≡ []
block_names_none NonClass loader block words = refl
block_names_none Class loader block words = refl

-- Where nothing new waits, or what does nothing to names.
pub uses_quiet : (old new : Machine) → lines_in new ≡ lines_in old → names_in new ≡ names_in old → UsesNames old new
uses_quiet old new same unchanged =
    uses_none (acts_in old) (names_in old) (acts_in new) (names_in new) (ap name_acts_of same) unchanged

-- A request that is given up, or passes the pool, gives no line then, nor does the first line where it waits no longer.
uses_alike : (lines : List Entry) (old new : Machine) → lines_in new ≡ lines → waiting lines ≡ waiting (lines_in old)
    → names_in new ≡ names_in old → UsesNames old new
uses_alike lines old new are same unchanged =
    uses_none (acts_in old) (names_in old) (acts_in new) (names_in new) (ap name_acts_of are ∙ ap (flat_map name_acts) same) unchanged

pub uses_given_up : {T E : Type 0} (result : Result T E) (thread : ℕ) (old new : Machine)
    → OnOk result (GivesUp thread (known_in old) (lines_in new)) → names_in new ≡ names_in old → OnOk result (UsesNames old new)
uses_given_up (Err error) thread old new given_up unchanged = tt
uses_given_up (Ok value) thread old new given_up unchanged =
    let number : Option ℕ = line_of (known_in old) thread in
    uses_alike (without_line number old.held) old new given_up (waiting_given_up number old.held) unchanged

pub uses_passing : (thread : ℕ) (old new : Machine) → Passes thread (known_in old) (lines_in new) → names_in new ≡ names_in old
    → UsesNames old new
uses_passing thread old new passes unchanged =
    let request : Option Request = request_of old thread in
    uses_alike (lines_in old ++ passing request) old new passes (waiting_passing (lines_in old) request) unchanged

pub uses_shortened : (old new : Machine) → lines_in new ≡ shortened (lines_in old) → names_in new ≡ names_in old → UsesNames old new
uses_shortened old new short unchanged =
    uses_alike (shortened (lines_in old)) old new short (waiting_shortened (lines_in old)) unchanged

pub uses_same : (old new : Machine) → acts_in new ≡ acts_in old → names_in new ≡ names_in old → UsesNames old new
uses_same old new same unchanged = uses_none (acts_in old) (names_in old) (acts_in new) (names_in new) same unchanged

-- One machine's steps after another's.
pub uses_both : (old mid new : Machine) → UsesNames old mid → UsesNames mid new → UsesNames old new
uses_both old mid new = uses_then (acts_in old) (names_in old) (acts_in mid) (names_in mid) (acts_in new) (names_in new)
