-- A conversion comes to its end: all that the log gives has come, is joined, and goes out. Used by the functions of
-- `conversion`.
use Rattle.std.proofs.Common.{◌≡◌, ℕ, List, [], ◌∷◌, ◌++◌, Option, Some, None, refl, sym, ap, ◌∙◌, subst, append-nil}
use Rattle.std.specs.Prelude.{flat_map}
use Rattle.std.specs.Option.{is_some}
use Rattle.std.specs.Io.KnownBytes.{Appends}
use Rattle.std.proofs.lemmas.Grind.{flat_map-append}
use Rattle.ms_trace.specs.declared.trace.Command.{Command}
use Rattle.ms_trace.specs.declared.trace.Command.TheVariants.{Report}
use Rattle.jvm_log.specs.declared.event.Said.{Said}
use Rattle.jvm_log.specs.declared.placed.Placed.{Placed}
use Rattle.jvm_log.specs.Known.{Known, known_in, waits}
use Rattle.jvm_log.specs.NameActs.{name_acts}
use Rattle.log_session.specs.Joining.{IsJoined, forgotten}
use Rattle.log_session.specs.Trace.{AreJoined, WritesLines, WritesTrace, commands_of, last_report}
use Rattle.log_session.specs.UnderWay.{HasEnded, IsUnderWay}
use Rattle.log_session.specs.declared.conversion.Conversion.{Conversion}
use Rattle.log_session.specs.declared.options.Options.{Options}
use Rattle.log_session.proofs.TraceLemmas.{forgotten_commands, joined_acts, opens_first, opens_quiet, opens_same, trace_is}

-- All that the lines give has come, where none are to be joined.
pub ends : {E : Type 0} (start bytes : Option (List ℕ)) (said : List Said) (conversion : Conversion E) → conversion.options.merge ≡ None
    → IsUnderWay start said (conversion, bytes) → waits (known_in conversion.machine) ≡ []
    → HasEnded conversion.options said [] start bytes conversion.text.text.items
ends start bytes said conversion none come all =
    let known : Known = known_in conversion.machine in
    let given : List Command = come.commands ++ commands_of conversion.kept.items in
    let is : come.commands ≡ given ++ [] =
    sym (append-nil come.commands)
    ∙ ap (λ (lines : List Placed). come.commands ++ commands_of lines) (sym (come.alone none))
    ∙ sym (append-nil given) in
    let first = opens_first given (waits known) known.loaders.used come.opens in
    let alone = opens_first come.commands (commands_of conversion.kept.items) first.0 first.1 in
    record {
      commands = come.commands;
      lines = come.lines;
      are = record {
        given = given;
        known = known;
        joined = given;
        follows = come.follows;
        all = all;
        joins = subst (λ (merge : Option ℕ). AreJoined merge given given) (sym none) refl;
        ends = is;
      };
      used = alone.0;
      opens = alone.1;
    }

-- And where those that are kept are joined, and go out.
pub ends_joined : {E : Type 0} (start bytes after : Option (List ℕ)) (said : List Said) (conversion : Conversion E) (most : ℕ)
    (joined : List Placed) (text : List ℕ) → conversion.options.merge ≡ Some most → IsJoined most (forgotten conversion.kept.items) joined
    → ((start : Option (List ℕ)) (commands : List Command) → WritesLines start bytes conversion.text.text.items commands
    → WritesLines start after text (commands ++ commands_of joined))
    → IsUnderWay start said (conversion, bytes) → waits (known_in conversion.machine) ≡ []
    → HasEnded conversion.options said [] start after text
ends_joined start bytes after said conversion most joined text some joins writes come all =
    let known : Known = known_in conversion.machine in
    let kept : List Command = commands_of conversion.kept.items in
    let none : come.commands ≡ [] = come.apart (ap is_some some) in
    let first = opens_first (come.commands ++ kept) (waits known) known.loaders.used come.opens in
    let acts : flat_map name_acts (commands_of joined) ≡ flat_map name_acts kept =
    joined_acts most (forgotten conversion.kept.items) joined joins
    ∙ ap (flat_map name_acts) (forgotten_commands conversion.kept.items) in
    let same : flat_map name_acts (come.commands ++ commands_of joined) ≡ flat_map name_acts (come.commands ++ kept) =
    flat_map-append name_acts come.commands (commands_of joined)
    ∙ ap (λ more. flat_map name_acts come.commands ++ more) acts
    ∙ sym (flat_map-append name_acts come.commands kept) in
    record {
      commands = come.commands ++ commands_of joined;
      lines = writes start come.commands come.lines;
      are = record {
        given = come.commands ++ kept;
        known = known;
        joined = commands_of joined;
        follows = come.follows;
        all = all;
        joins =
            subst (λ (merge : Option ℕ). AreJoined merge (come.commands ++ kept) (commands_of joined)) (sym some)
            (conversion.kept.items, joined, ap (λ (commands : List Command). commands ++ kept) none, joins, refl);
        ends = ap (λ (commands : List Command). commands ++ commands_of joined) none ∙ sym (append-nil (commands_of joined));
      };
      used = first.0;
      opens = opens_same (come.commands ++ kept) (come.commands ++ commands_of joined) first.0 same first.1;
    }

-- A report more, which opens nothing.
pub ends_reported : (options : Options) (said : List Said) (start bytes after : Option (List ℕ)) (kept text : List ℕ)
    → last_report options.reports ≡ Report ∷ []
    → ((start : Option (List ℕ)) (commands : List Command) → WritesLines start bytes kept commands
    → WritesLines start after text (commands ++ Report ∷ []))
    → HasEnded options said [] start bytes kept → HasEnded options said (last_report options.reports) start after text
ends_reported options said start bytes after kept text is writes ended =
    subst (λ (last : List Command). HasEnded options said last start after text) (sym is) (record {
      commands = ended.commands ++ Report ∷ [];
      lines = writes start ended.commands ended.lines;
      are = record {
        given = ended.are.given;
        known = ended.are.known;
        joined = ended.are.joined;
        follows = ended.are.follows;
        all = ended.are.all;
        joins = ended.are.joins;
        ends = ap (λ (commands : List Command). commands ++ Report ∷ []) (ended.are.ends ∙ append-nil ended.are.joined);
      };
      used = ended.used;
      opens = opens_quiet ended.commands Report ended.used refl ended.opens;
    })

-- Or none is wanted.
pub ends_unreported : (options : Options) (said : List Said) (start bytes : Option (List ℕ)) (text : List ℕ)
    → last_report options.reports ≡ [] → HasEnded options said [] start bytes text
    → HasEnded options said (last_report options.reports) start bytes text
ends_unreported options said start bytes text none ended =
    subst (λ (last : List Command). HasEnded options said last start bytes text) (sym none) ended

-- What is kept goes out at last.
pub ends_written : (options : Options) (said : List Said) (start old new : Option (List ℕ)) (kept : List ℕ)
    → HasEnded options said (last_report options.reports) start old kept → Appends old new kept → WritesTrace options said start new
ends_written options said start old new kept ended written =
    trace_is options said start old new kept ended.commands ended.used ended.lines ended.are ended.opens written
