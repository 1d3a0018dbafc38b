-- Fields have no fault exactly where they are those of a valid command, and of one command only.
use Rattle.std.proofs.Common.{◌≡◌, ℕ, ◌-◌, ◌^◌, ◌<◌, Bool, true, false, cond, List, [], ◌∷◌, refl, ap, arith, Option}
use Rattle.std.proofs.Common.{Some, None, codes}
use Rattle.std.proofs.lemmas.Slice.Eq.{bytes_eq-Decides}
use Rattle.std.specs.Fmt.{decimal}
use Rattle.std.specs.Str.{bytes_eq}
use Rattle.ms_base.specs.declared.step.Step.TheVariants.{New, Alloc, Calloc, Write, Read, Free, Unload, Purge}
use Rattle.ms_trace.specs.declared.trace.Command.{Command}
use Rattle.ms_trace.specs.declared.trace.Command.TheVariants.{Step as Asks, Sync, Report}
use Rattle.ms_trace.specs.Grammar.{Field, kind_field, loader_field, block_field, word_field}
use Rattle.ms_trace.specs.Faults.{after_word_fault, command_fault}
use Rattle.ms_trace.specs.Spelling.{command_fields, IsValid}
use Rattle.ms_trace.proofs.FieldLemmas.{number_passes, number_read, kind_passes, kind_read, IsNumeral, IsKindWord}
use Rattle.ms_trace.proofs.FieldLemmas.{Passes, Pass, none, more, no_fault_from_pass, pass_from_no_fault}

-- Fields of numbers within their bounds pass.
loader_passes : (n : ℕ) → n < 2 ^ 16 → Passes loader_field (decimal n)
loader_passes n h = number_passes (2 ^ 16 - 1) n (omega arith) (omega arith)

block_passes : (n : ℕ) → n < 2 ^ 32 → Passes block_field (decimal n)
block_passes n h = number_passes (2 ^ 32 - 1) n (omega arith) (omega arith)

word_passes : (n : ℕ) → n < 2 ^ 64 → Passes word_field (decimal n)
word_passes n h = number_passes (2 ^ 64 - 1) n (omega arith) h

-- The fields of a valid command have no fault.
pub valid_has_no_fault : (command : Command) → IsValid command → command_fault (command_fields command) ≡ None
valid_has_no_fault (Asks (New loader kind)) h =
    no_fault_from_pass (more (loader_passes loader h) (more (kind_passes kind) none))
valid_has_no_fault (Asks (Alloc loader block words)) (l, b, w) =
    no_fault_from_pass (more (loader_passes loader l) (more (block_passes block b) (more (word_passes words w) none)))
valid_has_no_fault (Asks (Calloc loader block words)) (l, b, w) =
    no_fault_from_pass (more (loader_passes loader l) (more (block_passes block b) (more (word_passes words w) none)))
valid_has_no_fault (Asks (Write loader block index value)) (l, b, i, v) =
    no_fault_from_pass
    (more (loader_passes loader l)
    (more (block_passes block b) (more (word_passes index i) (more (word_passes value v) none))))
valid_has_no_fault (Asks (Read loader block index)) (l, b, i) =
    no_fault_from_pass (more (loader_passes loader l) (more (block_passes block b) (more (word_passes index i) none)))
valid_has_no_fault (Asks (Free loader block)) (l, b) =
    no_fault_from_pass (more (loader_passes loader l) (more (block_passes block b) none))
valid_has_no_fault (Asks (Unload loader)) h = no_fault_from_pass (more (loader_passes loader h) none)
valid_has_no_fault (Asks Purge) h = refl
valid_has_no_fault Sync h = refl
valid_has_no_fault Report h = refl

-- The fields are those of a valid command.
pub record IsSpelled (fields : List (List ℕ)) : Type 0 where
  pub command : Command
  pub valid : IsValid command
  pub fields_are : command_fields command ≡ fields

-- Texts that pass are numbers within their bounds.
loader_read : {bytes : List ℕ} → Passes loader_field bytes → IsNumeral (2 ^ 16 - 1) bytes
loader_read passes = number_read (omega arith) passes

block_read : {bytes : List ℕ} → Passes block_field bytes → IsNumeral (2 ^ 32 - 1) bytes
block_read passes = number_read (omega arith) passes

word_read : {bytes : List ℕ} → Passes word_field bytes → IsNumeral (2 ^ 64 - 1) bytes
word_read passes = number_read (omega arith) passes

-- What passes after each word is a command with it.
new_read : {rest : List (List ℕ)} → Pass (loader_field ∷ kind_field ∷ []) rest → IsSpelled (codes "new" ∷ rest)
new_read (more loader (more kind none)) =
    let l : IsNumeral (2 ^ 16 - 1) _ = loader_read loader in
    let k : IsKindWord _ = kind_read kind in
    record {
      command = Asks (New l.value k.kind);
      valid = omega (arith, l.low);
      fields_are = rw l.written (rw k.written refl);
    }

-- Fields that pass as a loader, a block and a word are numbers within their bounds.
record AreThree (rest : List (List ℕ)) : Type 0 where
  loader : ℕ
  block : ℕ
  word : ℕ
  valid : (loader < 2 ^ 16) × (block < 2 ^ 32) × (word < 2 ^ 64)
  written : decimal loader ∷ decimal block ∷ decimal word ∷ [] ≡ rest

three_read : {rest : List (List ℕ)} → Pass (loader_field ∷ block_field ∷ word_field ∷ []) rest → AreThree rest
three_read (more loader (more block (more word none))) =
    let l : IsNumeral (2 ^ 16 - 1) _ = loader_read loader in
    let b : IsNumeral (2 ^ 32 - 1) _ = block_read block in
    let w : IsNumeral (2 ^ 64 - 1) _ = word_read word in
    record {
      loader = l.value;
      block = b.value;
      word = w.value;
      valid = (omega (arith, l.low), omega (arith, b.low), omega (arith, w.low));
      written = rw l.written (rw b.written (rw w.written refl));
    }

alloc_read : {rest : List (List ℕ)} → Pass (loader_field ∷ block_field ∷ word_field ∷ []) rest
    → IsSpelled (codes "alloc" ∷ rest)
alloc_read pass =
    let three = three_read pass in
    record {
      command = Asks (Alloc three.loader three.block three.word);
      valid = three.valid;
      fields_are = ap (λ rest. codes "alloc" ∷ rest) three.written;
    }

calloc_read : {rest : List (List ℕ)} → Pass (loader_field ∷ block_field ∷ word_field ∷ []) rest
    → IsSpelled (codes "calloc" ∷ rest)
calloc_read pass =
    let three = three_read pass in
    record {
      command = Asks (Calloc three.loader three.block three.word);
      valid = three.valid;
      fields_are = ap (λ rest. codes "calloc" ∷ rest) three.written;
    }

write_read : {rest : List (List ℕ)} → Pass (loader_field ∷ block_field ∷ word_field ∷ word_field ∷ []) rest
    → IsSpelled (codes "write" ∷ rest)
write_read (more loader (more block (more index (more value none)))) =
    let l : IsNumeral (2 ^ 16 - 1) _ = loader_read loader in
    let b : IsNumeral (2 ^ 32 - 1) _ = block_read block in
    let i : IsNumeral (2 ^ 64 - 1) _ = word_read index in
    let v : IsNumeral (2 ^ 64 - 1) _ = word_read value in
    record {
      command = Asks (Write l.value b.value i.value v.value);
      valid = (omega (arith, l.low), omega (arith, b.low), omega (arith, i.low), omega (arith, v.low));
      fields_are = rw l.written (rw b.written (rw i.written (rw v.written refl)));
    }

read_read : {rest : List (List ℕ)} → Pass (loader_field ∷ block_field ∷ word_field ∷ []) rest
    → IsSpelled (codes "read" ∷ rest)
read_read pass =
    let three = three_read pass in
    record {
      command = Asks (Read three.loader three.block three.word);
      valid = three.valid;
      fields_are = ap (λ rest. codes "read" ∷ rest) three.written;
    }

free_read : {rest : List (List ℕ)} → Pass (loader_field ∷ block_field ∷ []) rest → IsSpelled (codes "free" ∷ rest)
free_read (more loader (more block none)) =
    let l : IsNumeral (2 ^ 16 - 1) _ = loader_read loader in
    let b : IsNumeral (2 ^ 32 - 1) _ = block_read block in
    record {
      command = Asks (Free l.value b.value);
      valid = (omega (arith, l.low), omega (arith, b.low));
      fields_are = rw l.written (rw b.written refl);
    }

unload_read : {rest : List (List ℕ)} → Pass (loader_field ∷ []) rest → IsSpelled (codes "unload" ∷ rest)
unload_read (more loader none) =
    let l : IsNumeral (2 ^ 16 - 1) _ = loader_read loader in
    record { command = Asks (Unload l.value); valid = omega (arith, l.low); fields_are = rw l.written refl }

purge_read : {rest : List (List ℕ)} → Pass [] rest → IsSpelled (codes "purge" ∷ rest)
purge_read none = record { command = Asks Purge; valid = tt; fields_are = refl }

sync_read : {rest : List (List ℕ)} → Pass [] rest → IsSpelled (codes "sync" ∷ rest)
sync_read none = record { command = Sync; valid = tt; fields_are = refl }

report_read : {rest : List (List ℕ)} → Pass [] rest → IsSpelled (codes "report" ∷ rest)
report_read none = record { command = Report; valid = tt; fields_are = refl }

-- A word of the table is found, or the search goes on.
at_word : {Answer : Type 0} (same : Bool) (fields : List Field) (others : Option (List Field)) (rest : List (List ℕ)) →
    (same ≡ true → Pass fields rest → Answer) → (after_word_fault others rest ≡ None → Answer) →
    after_word_fault (cond same (Some fields) others) rest ≡ None → Answer
at_word true fields others rest here later e = here refl (pass_from_no_fault fields rest e)
at_word false fields others rest here later e = later e

-- A word that is that of the table.
named : (word other : List ℕ) (rest : List (List ℕ)) → bytes_eq word other ≡ true → IsSpelled (other ∷ rest)
    → IsSpelled (word ∷ rest)
named word other rest same spelled = rw ((bytes_eq-Decides word other).0 same) spelled

-- Fields without a fault are those of a valid command.
pub command_from_no_fault : (fields : List (List ℕ)) → command_fault fields ≡ None → IsSpelled fields
command_from_no_fault [] e = cc
command_from_no_fault (word ∷ rest) e =
    at_word _ (loader_field ∷ kind_field ∷ []) _ rest (λ same pass. named word (codes "new") rest same (new_read pass)) (λ e.
    at_word _ (loader_field ∷ block_field ∷ word_field ∷ []) _ rest (λ same pass. named word (codes "alloc") rest same (alloc_read pass)) (λ e.
    at_word _ (loader_field ∷ block_field ∷ word_field ∷ []) _ rest (λ same pass. named word (codes "calloc") rest same (calloc_read pass)) (λ e.
    at_word _ (loader_field ∷ block_field ∷ word_field ∷ word_field ∷ []) _ rest (λ same pass. named word (codes "write") rest same (write_read pass)) (λ e.
    at_word _ (loader_field ∷ block_field ∷ word_field ∷ []) _ rest (λ same pass. named word (codes "read") rest same (read_read pass)) (λ e.
    at_word _ (loader_field ∷ block_field ∷ []) _ rest (λ same pass. named word (codes "free") rest same (free_read pass)) (λ e.
    at_word _ (loader_field ∷ []) _ rest (λ same pass. named word (codes "unload") rest same (unload_read pass)) (λ e.
    at_word _ ([]) _ rest (λ same pass. named word (codes "purge") rest same (purge_read pass)) (λ e.
    at_word _ ([]) _ rest (λ same pass. named word (codes "sync") rest same (sync_read pass)) (λ e.
    at_word _ ([]) _ rest (λ same pass. named word (codes "report") rest same (report_read pass)) (λ e.
    cc) e) e) e) e) e) e) e) e) e) e
