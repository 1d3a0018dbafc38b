-- Lines of commands that go out one after another, and what they read as; and that joining blocks opens no
-- other loaders. Used by the functions of `output` and `conversion`.
use Rattle.std.proofs.Common.{◌≡◌, ◌≤◌, ◌+◌, ◌-◌, ℕ, Bool, true, false, List, [], ◌∷◌, ◌++◌, Option, Result, Ok, Err, refl, sym, ap, ◌∙◌, subst, append_assoc, append-nil, arith, replicate, length, take, get_or, ◌<◌}
use Rattle.std.proofs.lemmas.List.{take_more}
use Rattle.std.specs.Prelude.{OnOk, flat_map, if◌then◌else◌}
use Rattle.std.specs.List.{AllByRecursion}
use Rattle.std.specs.Io.KnownBytes.{Appends}
use Rattle.std.proofs.KnownBytes.{Appends-nil, Appends-trans}
use Rattle.std.proofs.lemmas.Grind.{flat_map-append}
use Rattle.std.proofs.lemmas.Bool.{and_from, le-leb}
use Rattle.std.proofs.lemmas.Bool.Decides.{nat_tests}
use Rattle.ms_trace.specs.declared.trace.Command.{Command}
use Rattle.ms_trace.specs.declared.trace.Line.{Line}
use Rattle.ms_trace.specs.Spelling.{IsValid, ReadsAs, rises_above, spelling_of, text_from}
use Rattle.ms_trace.proofs.PrintingLemmas.{printed_reads}
use Rattle.jvm_log.specs.declared.event.Said.{Said}
use Rattle.jvm_log.specs.declared.placed.Placed.{Placed}
use Rattle.jvm_log.specs.NameActs.{TakesFree, name_acts}
use Rattle.jvm_log.proofs.NameLemmas.{block_names_none, takes_before}
use Rattle.log_session.specs.Joining.{IsJoined, asks_for, forgotten, is_freed_in}
use Rattle.log_session.specs.Joining.IsJoined.{none, alone, taken_in}
use Rattle.log_session.specs.Output.{GoesOut, line_of}
use Rattle.log_session.specs.Trace.{AreGiven, OpensFree, ReadsOneALine, WritesLines, WritesTrace, commands_of, last_report, numbered}
use Rattle.log_session.specs.declared.options.Options.{Options}

-- What follows from a success.
pub ok_map : {T E : Type 0} (result : Result T E) (P Q : Type 0) → (P → Q) → OnOk result P → OnOk result Q
ok_map (Ok value) P Q follows holds = follows holds
ok_map (Err error) P Q follows holds = tt

pub ok_both : {T E : Type 0} (result : Result T E) (P Q : Type 0) → OnOk result P → OnOk result Q → OnOk result (P × Q)
ok_both (Ok value) P Q one other = (one, other)
ok_both (Err error) P Q one other = tt

-- All of one list and of another.
both_all : {A : Type 0} (P : A → Type 0) (xs ys : List A) → AllByRecursion P xs → AllByRecursion P ys → AllByRecursion P (xs ++ ys)
both_all P [] ys first second = second
both_all P (x ∷ xs) ys (here, first) second = (here, both_all P xs ys first second)

-- The text of numbered commands is that of their lines.
text_is : (number : ℕ) (commands : List Command) → text_from number (numbered number commands) ≡ flat_map line_of commands
text_is number [] = refl
text_is number (command ∷ commands) =
    let none : number - number ≡ 0 = omega arith in
    ap (λ n. replicate n 10 ++ spelling_of command ++ 10 ∷ text_from (number + 1) (numbered (number + 1) commands)) none
    ∙ ap (λ text. spelling_of command ++ 10 ∷ text) (text_is (number + 1) commands)
    ∙ sym (append_assoc (spelling_of command) (10 ∷ []) (flat_map line_of commands))

lines_valid : (number : ℕ) (commands : List Command) → AllByRecursion IsValid commands
    → AllByRecursion (λ (line : Line). IsValid line.command) (numbered number commands)
lines_valid number [] valid = tt
lines_valid number (command ∷ commands) (first, others) = (first, lines_valid (number + 1) commands others)

lines_rise : (most last : ℕ) (commands : List Command) → last + length commands ≤ most
    → rises_above most last (numbered (last + 1) commands) ≡ true
lines_rise most last [] few = refl
lines_rise most last (command ∷ commands) few =
    and_from _ _ (and_from _ _ (grind (arith, nat_tests)) (le-leb (last + 1) most (omega (arith, few))))
    (lines_rise most (last + 1) commands (omega (arith, few)))

-- The lines of valid commands read as their trace.
pub lines_read : (commands : List Command) → AllByRecursion IsValid commands → ReadsOneALine (flat_map line_of commands) commands
lines_read commands valid = λ most few.
    subst (λ text. ReadsAs most text (record { lines = numbered 1 commands })) (text_is 1 commands)
    (printed_reads most 0 (numbered 1 commands) (lines_valid 1 commands valid) (lines_rise most 0 commands (omega (arith, few))))

-- A line more.
pub line_goes : (start old new : Option (List ℕ)) (kept left : List ℕ) (commands : List Command) (command : Command)
    → GoesOut old kept (line_of command) new left → IsValid command → WritesLines start old kept commands
    → WritesLines start new left (commands ++ command ∷ [])
line_goes start old new kept left commands command goes valid lines = record {
  out = lines.out ++ goes.out;
  written = Appends-trans start old new lines.out goes.out lines.written goes.written;
  in_order =
      append_assoc lines.out goes.out left ∙ ap (λ rest. lines.out ++ rest) goes.in_order
      ∙ sym (append_assoc lines.out kept (line_of command)) ∙ ap (λ text. text ++ line_of command) lines.in_order
      ∙ ap (λ text. flat_map line_of commands ++ text) (sym (append-nil (line_of command)))
      ∙ sym (flat_map-append line_of commands (command ∷ []));
  valid = both_all IsValid commands (command ∷ []) lines.valid (valid, tt);
}

-- Where the text that is kept goes out, all lines have gone out, and the output has grown by a trace.
pub trace_is : (options : Options) (said : List Said) (start old new : Option (List ℕ)) (kept : List ℕ) (commands : List Command) (used : List Bool)
    → WritesLines start old kept commands → AreGiven options said commands (last_report options.reports) → OpensFree commands used
    → Appends old new kept → WritesTrace options said start new
trace_is options said start old new kept commands used lines are opens written = record {
  commands = commands;
  text = lines.out ++ kept;
  written = Appends-trans start old new lines.out kept lines.written written;
  reads = subst (λ text. ReadsOneALine text commands) (sym lines.in_order) (lines_read commands lines.valid);
  are = are;
  used = used;
  opens = opens;
}

-- Nothing was written, and no command came.
pub no_line : (start : Option (List ℕ)) → WritesLines start start [] []
no_line start = record { out = []; written = Appends-nil start; in_order = refl; valid = tt }

-- What some commands open is among what those and others open.
pub opens_first : (commands more : List Command) (used : List Bool) → OpensFree (commands ++ more) used
    → (mid : List Bool) × OpensFree commands mid
opens_first commands more used (free, unused, takes) =
    let acts : TakesFree free (flat_map name_acts commands ++ flat_map name_acts more) used =
    subst (λ acts. TakesFree free acts used) (flat_map-append name_acts commands more) takes in
    let first = takes_before free (flat_map name_acts commands) (flat_map name_acts more) used acts in
    (first.0, (free, unused, first.1))

-- Commands that do the same to names open the same.
pub opens_same : (commands others : List Command) (used : List Bool) → flat_map name_acts others ≡ flat_map name_acts commands
    → OpensFree commands used → OpensFree others used
opens_same commands others used same (free, unused, takes) =
    (free, unused, subst (λ acts. TakesFree free acts used) (sym same) takes)

-- So do those that a quiet one comes after.
pub opens_quiet : (commands : List Command) (command : Command) (used : List Bool) → name_acts command ≡ [] → OpensFree commands used
    → OpensFree (commands ++ command ∷ []) used
opens_quiet commands command used quiet opens =
    opens_same commands (commands ++ command ∷ []) used
    (flat_map-append name_acts commands (command ∷ [])
    ∙ ap (λ acts. flat_map name_acts commands ++ (acts ++ [])) quiet ∙ append-nil (flat_map name_acts commands))
    opens

-- Those of two lists of lines are those of one and of the other.
pub commands-append : (one other : List Placed) → commands_of (one ++ other) ≡ commands_of one ++ commands_of other
commands-append [] other = refl
commands-append (line ∷ one) other = ap (λ rest. line.command ∷ rest) (commands-append one other)

acts-append : (one other : List Placed)
    → flat_map name_acts (commands_of (one ++ other)) ≡ flat_map name_acts (commands_of one) ++ flat_map name_acts (commands_of other)
acts-append one other =
    ap (flat_map name_acts) (commands-append one other) ∙ flat_map-append name_acts (commands_of one) (commands_of other)

-- Joining does nothing to names.
pub joined_acts : (most : ℕ) (old new : List Placed) → IsJoined most old new
    → flat_map name_acts (commands_of new) ≡ flat_map name_acts (commands_of old)
joined_acts most [] [] none = refl
joined_acts most _ _ (alone old new line joined) =
    acts-append new (line ∷ []) ∙ ap (λ acts. acts ++ (name_acts line.command ++ [])) (joined_acts most old new joined)
    ∙ sym (acts-append old (line ∷ []))
joined_acts most _ _ (taken_in old new last line command joined meets) =
    let quiet : name_acts line.command ≡ [] =
    ap name_acts meets.joins.second_is ∙ block_names_none meets.joins.space meets.joins.loader meets.joins.other meets.joins.more in
    let was : name_acts last.command ≡ [] =
    ap name_acts meets.joins.first_is ∙ block_names_none meets.joins.space meets.joins.loader meets.joins.block meets.joins.words in
    let is : name_acts command ≡ [] =
    ap name_acts meets.joins.joined_is ∙ block_names_none meets.joins.space meets.joins.loader meets.joins.block _ in
    acts-append new (record last { command = command } ∷ [])
    ∙ ap (λ acts. flat_map name_acts (commands_of new) ++ (acts ++ [])) (is ∙ sym was)
    ∙ sym (acts-append new (last ∷ []))
    ∙ joined_acts most old (new ++ last ∷ []) joined
    ∙ sym (append-nil (flat_map name_acts (commands_of old)))
    ∙ ap (λ acts. flat_map name_acts (commands_of old) ++ (acts ++ [])) (sym quiet)
    ∙ sym (acts-append old (line ∷ []))

-- Nor does forgetting where blocks lie.
forgot_command : (is_freed : Bool) (line : Placed) → (if is_freed then record line { address = 0 } else line).command ≡ line.command
forgot_command true line = refl
forgot_command false line = refl

pub forgotten_commands : (lines : List Placed) → commands_of (forgotten lines) ≡ commands_of lines
forgotten_commands [] = refl
forgotten_commands (line ∷ lines) =
    ap (λ command. command ∷ commands_of (forgotten lines)) (forgot_command (asks_for (is_freed_in lines) line.command) line)
    ∙ ap (λ rest. line.command ∷ rest) (forgotten_commands lines)

-- One line more of those that go out.
pub commands_next : (lines : List Placed) (at : ℕ) (line : Placed) (commands : List Command) → at < length lines
    → line ≡ get_or lines at line
    → (commands ++ commands_of (take at lines)) ++ line.command ∷ [] ≡ commands ++ commands_of (take (at + 1) lines)
commands_next lines at line commands less is =
    append_assoc commands (commands_of (take at lines)) (line.command ∷ [])
    ∙ ap (λ (rest : List Command). commands ++ rest)
    (ap (λ (last : Placed). commands_of (take at lines) ++ last.command ∷ []) is
    ∙ sym (commands-append (take at lines) (get_or lines at line ∷ []))
    ∙ ap commands_of (sym (take_more lines at line less)))
