-- The spelling of a valid command is cut into its fields, is no silent line, and is that of no
-- other command. So a line has no fault exactly where it is silent or spells a valid command.
use Rattle.std.proofs.Common.{◌≡◌, ℕ, ◌⊎◌, inl, inr, ⊎_elim, IsTrue, get_or, length-append, ◌^◌, ◌<◌, ◌≤◌, Bool, not}
use Rattle.std.proofs.Common.{true, false, cond, ltb, eqb, List, [], ◌∷◌, length, refl, sym, ◌∙◌, ap, arith, Option}
use Rattle.std.proofs.Common.{Some, None, codes, ◌++◌, append_assoc}
use Rattle.std.proofs.lemmas.Bool.Decides.{nat_tests}
use Rattle.std.proofs.lemmas.Fmt.{length-decimal-le}
use Rattle.std.proofs.lemmas.List.Elements.{All-from_recursion}
use Rattle.std.proofs.lemmas.List.Splits.{join_with_byte-slice_split}
use Rattle.std.specs.Fmt.{decimal}
use Rattle.std.proofs.lemmas.Bool.{and_parts, not-true}
use Rattle.std.specs.List.{AllByRecursion, join_with_byte, list_all}
use Rattle.std.specs.Str.{bytes_eq}
use Rattle.std.specs.Str.Parse.{digits_value}
use Rattle.ms_base.specs.declared.kind.Kind.{Kind}
use Rattle.ms_base.specs.declared.kind.Kind.TheVariants.{Standard, Boot, Reflection, Hidden}
use Rattle.ms_trace.specs.declared.fault.FaultKind.{FaultKind}
use Rattle.ms_trace.specs.declared.fault.FaultKind.TheVariants.{TooManyLines, LineTooLong}
use Rattle.ms_base.specs.declared.step.Step.TheVariants.{New, Alloc, Calloc, Write, Read, Free, Unload, Purge}
use Rattle.ms_trace.specs.declared.trace.Command.{Command}
use Rattle.ms_trace.specs.declared.trace.Command.TheVariants.{Step as Asks, Sync, Report}
use Rattle.ms_trace.specs.Grammar.{kind_word, fields_of, is_silent, most_bytes}
use Rattle.ms_trace.specs.Faults.{fault_of, command_fault}
use Rattle.ms_trace.specs.Spelling.{command_fields, spelling_of, IsValid}
use Rattle.ms_trace.proofs.DigitLemmas.{value-decimal, decimal_has_no_space}
use Rattle.ms_trace.proofs.CutLemmas.{IsSolid, fields_of-join}
use Rattle.ms_trace.proofs.CommandLemmas.{IsSpelled, valid_has_no_fault, command_from_no_fault}

-- No field of a valid command has a space.
solid : (bytes : List ℕ) → list_all (λ byte. not (eqb byte 32)) bytes ≡ true
    → AllByRecursion (λ byte. eqb byte 32 ≡ false) bytes
solid [] e = tt
solid (byte ∷ bytes) e =
    let parts : (not (eqb byte 32) ≡ true) × (list_all (λ byte. not (eqb byte 32)) bytes ≡ true) = and_parts _ _ e in
    (not-true _ parts.0, solid bytes parts.1)

solid_from_test : (bytes : List ℕ) → list_all (λ byte. not (eqb byte 32)) bytes ≡ true → IsSolid bytes
solid_from_test bytes e = All-from_recursion (λ byte. eqb byte 32 ≡ false) bytes (solid bytes e)

kind_is_solid : (kind : Kind) → IsSolid (kind_word kind)
kind_is_solid Standard = solid_from_test (kind_word Standard) refl
kind_is_solid Boot = solid_from_test (kind_word Boot) refl
kind_is_solid Reflection = solid_from_test (kind_word Reflection) refl
kind_is_solid Hidden = solid_from_test (kind_word Hidden) refl

loader_is_solid : (n : ℕ) → n < 2 ^ 16 → IsSolid (decimal n)
loader_is_solid n h = decimal_has_no_space n (omega arith)

block_is_solid : (n : ℕ) → n < 2 ^ 32 → IsSolid (decimal n)
block_is_solid n h = decimal_has_no_space n (omega arith)

-- The spelling of a valid command is cut into its fields.
pub fields_of-spelling : (command : Command) → IsValid command
    → fields_of (spelling_of command) ≡ command_fields command
fields_of-spelling (Asks (New loader kind)) h =
    ap (λ fields. codes "new" ∷ fields) (fields_of-join _ (kind_word kind ∷ []) (loader_is_solid loader h) (kind_is_solid kind, tt))
fields_of-spelling (Asks (Alloc loader block words)) (l, b, w) =
    ap (λ fields. codes "alloc" ∷ fields)
    (fields_of-join _ (decimal block ∷ decimal words ∷ []) (loader_is_solid loader l)
    (block_is_solid block b, (decimal_has_no_space words w, tt)))
fields_of-spelling (Asks (Calloc loader block words)) (l, b, w) =
    ap (λ fields. codes "calloc" ∷ fields)
    (fields_of-join _ (decimal block ∷ decimal words ∷ []) (loader_is_solid loader l)
    (block_is_solid block b, (decimal_has_no_space words w, tt)))
fields_of-spelling (Asks (Write loader block index value)) (l, b, i, v) =
    ap (λ fields. codes "write" ∷ fields)
    (fields_of-join _ (decimal block ∷ decimal index ∷ decimal value ∷ []) (loader_is_solid loader l)
    (block_is_solid block b, (decimal_has_no_space index i, (decimal_has_no_space value v, tt))))
fields_of-spelling (Asks (Read loader block index)) (l, b, i) =
    ap (λ fields. codes "read" ∷ fields)
    (fields_of-join _ (decimal block ∷ decimal index ∷ []) (loader_is_solid loader l)
    (block_is_solid block b, (decimal_has_no_space index i, tt)))
fields_of-spelling (Asks (Free loader block)) (l, b) =
    ap (λ fields. codes "free" ∷ fields) (fields_of-join _ (decimal block ∷ []) (loader_is_solid loader l) (block_is_solid block b, tt))
fields_of-spelling (Asks (Unload loader)) h =
    ap (λ fields. codes "unload" ∷ fields) (fields_of-join _ [] (loader_is_solid loader h) tt)
fields_of-spelling (Asks Purge) h = refl
fields_of-spelling Sync h = refl
fields_of-spelling Report h = refl

-- It is no silent line.
pub spelling_is_not_silent : (command : Command) → is_silent (spelling_of command) ≡ false
spelling_is_not_silent (Asks (New _ _)) = refl
spelling_is_not_silent (Asks (Alloc _ _ _)) = refl
spelling_is_not_silent (Asks (Calloc _ _ _)) = refl
spelling_is_not_silent (Asks (Write _ _ _ _)) = refl
spelling_is_not_silent (Asks (Read _ _ _)) = refl
spelling_is_not_silent (Asks (Free _ _)) = refl
spelling_is_not_silent (Asks (Unload _)) = refl
spelling_is_not_silent (Asks Purge) = refl
spelling_is_not_silent Sync = refl
spelling_is_not_silent Report = refl

-- The command that fields are those of, if any.
abbrev kind_of : List ℕ → Kind
kind_of bytes =
    cond (bytes_eq bytes (kind_word Standard)) Standard
    (cond (bytes_eq bytes (kind_word Boot)) Boot (cond (bytes_eq bytes (kind_word Reflection)) Reflection Hidden))

abbrev value_at : ℕ → List (List ℕ) → ℕ
value_at k fields = digits_value 10 (get_or fields k [])

abbrev command_at : List ℕ → List (List ℕ) → Command
command_at word fields =
    cond (bytes_eq word (codes "new")) (Asks (New (value_at 1 fields) (kind_of (get_or fields 2 []))))
    (cond (bytes_eq word (codes "alloc")) (Asks (Alloc (value_at 1 fields) (value_at 2 fields) (value_at 3 fields)))
    (cond (bytes_eq word (codes "calloc")) (Asks (Calloc (value_at 1 fields) (value_at 2 fields) (value_at 3 fields)))
    (cond (bytes_eq word (codes "write")) (Asks (Write (value_at 1 fields) (value_at 2 fields) (value_at 3 fields) (value_at 4 fields)))
    (cond (bytes_eq word (codes "read")) (Asks (Read (value_at 1 fields) (value_at 2 fields) (value_at 3 fields)))
    (cond (bytes_eq word (codes "free")) (Asks (Free (value_at 1 fields) (value_at 2 fields)))
    (cond (bytes_eq word (codes "unload")) (Asks (Unload (value_at 1 fields)))
    (cond (bytes_eq word (codes "purge")) (Asks Purge) (cond (bytes_eq word (codes "sync")) Sync Report))))))))

abbrev command_of : List (List ℕ) → Command
command_of fields = command_at (get_or fields 0 []) fields

kind_of-word : (kind : Kind) → kind_of (kind_word kind) ≡ kind
kind_of-word Standard = refl
kind_of-word Boot = refl
kind_of-word Reflection = refl
kind_of-word Hidden = refl

loader_value : (n : ℕ) → n < 2 ^ 16 → digits_value 10 (decimal n) ≡ n
loader_value n h = value-decimal n (omega arith)

block_value : (n : ℕ) → n < 2 ^ 32 → digits_value 10 (decimal n) ≡ n
block_value n h = value-decimal n (omega arith)

command_of-fields : (command : Command) → IsValid command → command_of (command_fields command) ≡ command
command_of-fields (Asks (New loader kind)) h = rw (loader_value loader h) (rw (kind_of-word kind) refl)
command_of-fields (Asks (Alloc loader block words)) (l, b, w) =
    rw (loader_value loader l) (rw (block_value block b) (rw (value-decimal words w) refl))
command_of-fields (Asks (Calloc loader block words)) (l, b, w) =
    rw (loader_value loader l) (rw (block_value block b) (rw (value-decimal words w) refl))
command_of-fields (Asks (Write loader block index value)) (l, b, i, v) =
    rw (loader_value loader l) (rw (block_value block b) (rw (value-decimal index i) (rw (value-decimal value v) refl)))
command_of-fields (Asks (Read loader block index)) (l, b, i) =
    rw (loader_value loader l) (rw (block_value block b) (rw (value-decimal index i) refl))
command_of-fields (Asks (Free loader block)) (l, b) = rw (loader_value loader l) (rw (block_value block b) refl)
command_of-fields (Asks (Unload loader)) h = rw (loader_value loader h) refl
command_of-fields (Asks Purge) h = refl
command_of-fields Sync h = refl
command_of-fields Report h = refl

-- It is that of no other command.
pub one_command : (one other : Command) → IsValid one → IsValid other → spelling_of one ≡ spelling_of other
    → one ≡ other
one_command one other v w e =
    sym (command_of-fields one v)
    ∙ ap command_of (sym (fields_of-spelling one v) ∙ ap fields_of e ∙ fields_of-spelling other w)
    ∙ command_of-fields other w

-- It fits on a line.
loader_length : (n : ℕ) → n < 2 ^ 16 → length (decimal n) ≤ 5
loader_length n h = length-decimal-le 5 n (omega arith) (omega arith) (omega arith)

block_length : (n : ℕ) → n < 2 ^ 32 → length (decimal n) ≤ 10
block_length n h = length-decimal-le 10 n (omega arith) (omega arith) (omega arith)

word_length : (n : ℕ) → n < 2 ^ 64 → length (decimal n) ≤ 20
word_length n h = length-decimal-le 20 n (omega arith) (omega arith) h

kind_length : (kind : Kind) → length (kind_word kind) ≤ 10
kind_length Standard = omega arith
kind_length Boot = omega arith
kind_length Reflection = omega arith
kind_length Hidden = omega arith

pub spelling_is_short : (command : Command) → IsValid command → length (spelling_of command) ≤ most_bytes
spelling_is_short (Asks (New loader kind)) h =
    simp length-append (omega (arith, loader_length loader h, kind_length kind))
spelling_is_short (Asks (Alloc loader block words)) (l, b, w) =
    simp length-append (omega (arith, loader_length loader l, block_length block b, word_length words w))
spelling_is_short (Asks (Calloc loader block words)) (l, b, w) =
    simp length-append (omega (arith, loader_length loader l, block_length block b, word_length words w))
spelling_is_short (Asks (Write loader block index value)) (l, b, i, v) =
    simp length-append
    (omega (arith, loader_length loader l, block_length block b, word_length index i, word_length value v))
spelling_is_short (Asks (Read loader block index)) (l, b, i) =
    simp length-append (omega (arith, loader_length loader l, block_length block b, word_length index i))
spelling_is_short (Asks (Free loader block)) (l, b) =
    simp length-append (omega (arith, loader_length loader l, block_length block b))
spelling_is_short (Asks (Unload loader)) h = omega (arith, loader_length loader h)
spelling_is_short (Asks Purge) h = omega arith
spelling_is_short Sync h = omega arith
spelling_is_short Report h = omega arith

-- What a line has without a fault.
pub record IsSpelledLine (line : List ℕ) : Type 0 where
  pub command : Command
  pub valid : IsValid command
  pub spelled : line ≡ spelling_of command

spelled_line : (line : List ℕ) → IsSpelled (fields_of line) → IsSpelledLine line
spelled_line line h = record {
  command = h.command;
  valid = h.valid;
  spelled = sym (join_with_byte-slice_split 32 line) ∙ ap (join_with_byte 32) (sym h.fields_are);
}

no_fault_form : (many long silent : Bool) (fault : Option FaultKind) →
    cond many (Some TooManyLines) (cond long (Some LineTooLong) (cond silent None fault)) ≡ None →
    (many ≡ false) × (long ≡ false) × ((silent ≡ true) ⊎ (fault ≡ None))
no_fault_form true long silent fault e = cc
no_fault_form false true silent fault e = cc
no_fault_form false false true fault e = (refl, refl, inl refl)
no_fault_form false false false fault e = (refl, refl, inr e)

-- A line without a fault is allowed, and silent or the spelling of a valid command.
pub record IsAllowed (most : ℕ) (number : ℕ) (line : List ℕ) : Type 0 where
  pub few : number ≤ most
  pub short : length line ≤ most_bytes
  pub says : IsTrue (is_silent line) ⊎ IsSpelledLine line

pub allowed_from_no_fault : (most : ℕ) (number : ℕ) (line : List ℕ) → fault_of most number line ≡ None → IsAllowed most number line
allowed_from_no_fault most number line e =
    let parts : (ltb most number ≡ false) × (ltb most_bytes (length line) ≡ false)
    × ((is_silent line ≡ true) ⊎ (command_fault (fields_of line) ≡ None)) =
    no_fault_form _ _ _ _ e in
    record {
      few = grind (arith, nat_tests, parts.0);
      short = grind (arith, nat_tests, parts.1);
      says = ⊎_elim (λ silent. inl silent)
          (λ none. inr (spelled_line line (command_from_no_fault (fields_of line) none))) parts.2;
    }

no_fault_back : (many long silent : Bool) (fault : Option FaultKind) → many ≡ false → long ≡ false
    → (silent ≡ true) ⊎ (fault ≡ None) →
    cond many (Some TooManyLines) (cond long (Some LineTooLong) (cond silent None fault)) ≡ None
no_fault_back many long silent fault few short (inl e) = rw few (rw short (rw e refl))
no_fault_back many long true fault few short (inr e) = rw few (rw short refl)
no_fault_back many long false fault few short (inr e) = rw few (rw short e)

-- And such a line has no fault.
pub no_fault_from_allowed : (most : ℕ) (number : ℕ) (line : List ℕ) → IsAllowed most number line → fault_of most number line ≡ None
no_fault_from_allowed most number line h =
    no_fault_back _ _ _ _ (grind (arith, nat_tests, h.few)) (grind (arith, nat_tests, h.short))
    (⊎_elim (λ silent. inl silent)
    (λ spelled. inr
    (rw spelled.spelled
    (rw (fields_of-spelling spelled.command spelled.valid) (valid_has_no_fault spelled.command spelled.valid))))
    h.says)

pub four_joined : (a b c d : List ℕ) → a ++ (b ++ (c ++ d)) ≡ a ++ b ++ c ++ d
four_joined a b c d = simp append_assoc refl
