-- The words of a trace, the fields after them, and how a text is cut into lines and fields (this
-- project's choice). A text is a list of bytes.
use Rattle.std.specs.Prelude.{ℕ, ◌-◌, ◌^◌, ◌==◌, Bool, true, List, [], ◌∷◌, codes}
use Rattle.std.specs.List.{slice_split}
use Rattle.ms_base.specs.declared.kind.Kind.{Kind}
use Rattle.ms_base.specs.declared.kind.Kind.TheVariants.{Standard, Boot, Reflection, Hidden}

-- A field is the kind of a loader, or a number up to a greatest one.
pub data Field : Type 0 where
  kind_field : Field
  number_field : (greatest : ℕ) → Field

-- A loader is named by 0 to 65535, a block by 0 to 4294967295; words, indices and values have 64
-- bits.
abbrev pub loader_field : Field
loader_field = number_field (2 ^ 16 - 1)

abbrev pub block_field : Field
block_field = number_field (2 ^ 32 - 1)

abbrev pub word_field : Field
word_field = number_field (2 ^ 64 - 1)

-- The word of a kind.
abbrev pub kind_word : Kind → List ℕ
kind_word Standard = codes "standard"
kind_word Boot = codes "boot"
kind_word Reflection = codes "reflection"
kind_word Hidden = codes "hidden"

-- Each command word with the fields that follow it.
abbrev pub commands : List (List ℕ × List Field)
commands =
    (codes "new", loader_field ∷ kind_field ∷ [])
    ∷ (codes "alloc", loader_field ∷ block_field ∷ word_field ∷ [])
    ∷ (codes "calloc", loader_field ∷ block_field ∷ word_field ∷ [])
    ∷ (codes "write", loader_field ∷ block_field ∷ word_field ∷ word_field ∷ [])
    ∷ (codes "read", loader_field ∷ block_field ∷ word_field ∷ [])
    ∷ (codes "free", loader_field ∷ block_field ∷ [])
    ∷ (codes "unload", loader_field ∷ [])
    ∷ (codes "purge", [])
    ∷ (codes "sync", [])
    ∷ (codes "report", [])
    ∷ []

-- A trace has at most so many lines where nothing else is asked. Each definition takes its limit as an
-- argument, `most`, of which this is one.
abbrev pub most_lines : ℕ
most_lines = 100000

-- No line has a greater number in memory.
abbrev pub any_line : ℕ
any_line = 2 ^ 32 - 1

-- A line has at most so many bytes.

abbrev pub most_bytes : ℕ
most_bytes = 80

-- The last part is no line where it is empty.
abbrev pub without_empty_end : List (List ℕ) → List (List ℕ)
without_empty_end [] = []
without_empty_end ([] ∷ []) = []
without_empty_end (part ∷ parts) = part ∷ without_empty_end parts

-- The lines of a text: it is cut at each newline byte.
abbrev pub lines_of : List ℕ → List (List ℕ)
lines_of text = without_empty_end (slice_split (λ byte. byte == 10) text)

-- The fields of a line: it is cut at each space byte.
abbrev pub fields_of : List ℕ → List (List ℕ)
fields_of line = slice_split (λ byte. byte == 32) line

-- A blank line gives no command, nor does a comment, whose first byte is `#`.
abbrev pub is_silent : List ℕ → Bool
is_silent [] = true
is_silent (byte ∷ bytes) = byte == 35
