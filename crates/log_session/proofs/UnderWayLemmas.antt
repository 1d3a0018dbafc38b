-- A conversion comes further: by what the machine takes in, and by each line that it gives. Used by the functions
-- of `conversion`.
use Rattle.std.proofs.Common.{◌≡◌, ℕ, Bool, true, false, true≢false, List, [], ◌∷◌, ◌++◌, Option, Some, None, refl, sym, ap, ◌∙◌, subst, append_assoc, append-nil}
use Rattle.std.specs.Prelude.{flat_map}
use Rattle.std.specs.Option.{is_some}
use Rattle.std.proofs.lemmas.Grind.{flat_map-append}
use Rattle.ms_trace.specs.declared.trace.Command.{Command}
use Rattle.jvm_log.specs.declared.event.Said.{Said}
use Rattle.jvm_log.specs.declared.held.Entry.{Entry}
use Rattle.jvm_log.specs.declared.machine.Machine.{Machine}
use Rattle.jvm_log.specs.declared.placed.Placed.{Placed}
use Rattle.jvm_log.specs.Following.{Ends, Follows, HandsOut, KnowsNothing, Learns}
use Rattle.jvm_log.specs.Following.Follows.{nothing, heard, gave, ended}
use Rattle.jvm_log.specs.Held.{waiting}
use Rattle.jvm_log.specs.Known.{Known, known_in, waits}
use Rattle.jvm_log.specs.NameActs.{TakesFree, name_acts}
use Rattle.jvm_log.specs.Waits.{UsesNames, names_in, waiting_in}
use Rattle.jvm_log.proofs.FollowingLemmas.{gives_first}
use Rattle.jvm_log.proofs.NameLemmas.{takes-append}
use Rattle.log_session.specs.Trace.{OpensFree, WritesLines, asks_reports, commands_of}
use Rattle.log_session.specs.UnderWay.{GoesOn, HandsOn, HasCome, IsUnderWay}
use Rattle.log_session.specs.declared.conversion.Conversion.{Conversion}
use Rattle.log_session.specs.declared.options.Options.{Options}
use Rattle.log_session.specs.declared.output.Output.{Output}
use Rattle.log_session.proofs.TraceLemmas.{commands-append, no_line}

-- The acts of what came, is kept and waits, in their parts.
parts : (commands kept waiting : List Command)
    → flat_map name_acts (commands ++ kept ++ waiting)
    ≡ (flat_map name_acts commands ++ flat_map name_acts kept) ++ flat_map name_acts waiting
parts commands kept waiting =
    flat_map-append name_acts (commands ++ kept) waiting
    ∙ ap (λ acts. acts ++ flat_map name_acts waiting) (flat_map-append name_acts commands kept)

-- More that waits opens more.
opens_more : (commands kept waiting more : List Command) (acts : List (ℕ × Bool)) (used new : List Bool)
    → flat_map name_acts more ≡ flat_map name_acts waiting ++ acts → TakesFree used acts new
    → OpensFree (commands ++ kept ++ waiting) used → OpensFree (commands ++ kept ++ more) new
opens_more commands kept waiting more acts used new are then (free, none, takes) =
    let front : List (ℕ × Bool) = flat_map name_acts commands ++ flat_map name_acts kept in
    let is : flat_map name_acts (commands ++ kept ++ more) ≡ flat_map name_acts (commands ++ kept ++ waiting) ++ acts =
    parts commands kept more ∙ ap (λ acts. front ++ acts) are
    ∙ sym (append_assoc front (flat_map name_acts waiting) acts)
    ∙ ap (λ first. first ++ acts) (sym (parts commands kept waiting)) in (
      free,
      none,
      subst (λ acts. TakesFree free acts new) (sym is)
          (takes-append free (flat_map name_acts (commands ++ kept ++ waiting)) used acts new takes then),
    )

-- A machine that knows nothing is where a trace begins.
pub begins : {E : Type 0} (start : Option (List ℕ)) (conversion : Conversion E)
    → KnowsNothing (asks_reports conversion.options.reports) (known_in conversion.machine) → conversion.kept.items ≡ []
    → conversion.text.text.items ≡ [] → IsUnderWay start [] (conversion, start)
begins start conversion knows kept text =
    let known : Known = known_in conversion.machine in
    record {
      commands = [];
      lines = subst (λ left. WritesLines start start left []) (sym text) (no_line start);
      alone = λ _. kept;
      apart = λ _. refl;
      follows =
          subst (λ (lines : List Placed). Follows (asks_reports conversion.options.reports) [] (commands_of lines) known) (sym kept)
          (nothing known knows);
      opens =
          subst (λ (lines : List Placed). OpensFree (commands_of lines ++ waits known) known.loaders.used) (sym kept)
          (subst (λ (lines : List Entry). OpensFree (waiting lines) known.loaders.used) (sym knows.lines)
          (known.loaders.used, knows.names, refl));
    }

-- What came before a change that leaves options, lines and text.
pub same_lines : {E : Type 0} (start bytes : Option (List ℕ)) (said : List Said) (known : Known) (old new : Conversion E)
    → new.options ≡ old.options → new.kept ≡ old.kept → new.text ≡ old.text → HasCome start said known (old, bytes)
    → HasCome start said known (new, bytes)
same_lines start bytes said known old new options kept text come =
    let lines : old.kept.items ≡ new.kept.items = ap (λ k. k.items) (sym kept) in
    record {
      commands = come.commands;
      lines = subst (λ (t : Output). WritesLines start bytes t.text.items come.commands) (sym text) come.lines;
      alone = λ none. sym lines ∙ come.alone (ap (λ (o : Options). o.merge) (sym options) ∙ none);
      apart = λ some. come.apart (ap (λ (o : Options). is_some o.merge) (sym options) ∙ some);
      follows =
          subst (λ (o : Options). Follows (asks_reports o.reports) said (come.commands ++ commands_of new.kept.items) known) (sym options)
          (subst (λ (kept : List Placed). Follows (asks_reports old.options.reports) said (come.commands ++ commands_of kept) known) lines
          come.follows);
      opens =
          subst (λ (kept : List Placed). OpensFree (come.commands ++ commands_of kept ++ waits known) known.loaders.used) lines come.opens;
    }

-- What a line says becomes known.
hears_line : {E : Type 0} (start bytes : Option (List ℕ)) (said : List Said) (line : Said) (old : Conversion E) (new : Machine)
    → Learns line (known_in old.machine) (known_in new) → UsesNames old.machine new
    → HasCome start said (known_in old.machine) (old, bytes) → HasCome start (said ++ line ∷ []) (known_in new) (old, bytes)
hears_line start bytes said line old new learns (acts, are, then) come = record {
  commands = come.commands;
  lines = come.lines;
  alone = come.alone;
  apart = come.apart;
  follows = heard said line (come.commands ++ commands_of old.kept.items) (known_in old.machine) (known_in new) come.follows learns;
  opens =
      opens_more come.commands (commands_of old.kept.items) (waiting_in old.machine) (waiting_in new) acts (names_in old.machine)
      (names_in new) are then come.opens;
}

pub takes_in : {E : Type 0} (old new : Conversion E) (bytes : Option (List ℕ)) (line : Said)
    → Learns line (known_in old.machine) (known_in new.machine) → UsesNames old.machine new.machine → new.options ≡ old.options
    → new.kept ≡ old.kept → new.text ≡ old.text → GoesOn (line ∷ []) (old, bytes) (new, bytes)
takes_in old new bytes line learns uses options kept text = record {
  options = options;
  comes = λ start said come.
      same_lines start bytes (said ++ line ∷ []) (known_in new.machine) old new options kept text
      (hears_line start bytes said line old new.machine learns uses come);
}

-- The first commands that wait go out: then they have come.
hands_first : {E : Type 0} (start bytes : Option (List ℕ)) (said : List Said) (old new : Known) (state : Conversion E)
    → HandsOut [] old new → HasCome start said old (state, bytes) → HasCome start said new (state, bytes)
hands_first start bytes said old new state hands come =
    let out : List Command = come.commands ++ commands_of state.kept.items in
    let used : old.loaders.used ≡ new.loaders.used = ap (λ (known : Known). known.loaders.used) (sym hands.rest) in
    record {
      commands = come.commands;
      lines = come.lines;
      alone = come.alone;
      apart = come.apart;
      follows =
          subst (λ (given : List Command). Follows (asks_reports state.options.reports) said given new) (append-nil out)
          (gave said out [] old new come.follows hands);
      opens =
          subst (λ (names : List Bool). OpensFree (out ++ waits new) names) used
          (subst (λ (waiting : List Command). OpensFree (out ++ waiting) old.loaders.used) (gives_first [] old new hands) come.opens);
    }

-- Nothing new.
pub stays : {E : Type 0} (old new : Conversion E) (bytes : Option (List ℕ)) → HandsOut [] (known_in old.machine) (known_in new.machine)
    → new.options ≡ old.options → new.kept ≡ old.kept → new.text ≡ old.text → GoesOn [] (old, bytes) (new, bytes)
stays old new bytes hands options kept text = record {
  options = options;
  comes = λ start said come.
      subst (λ (s : List Said). IsUnderWay start s (new, bytes)) (sym (append-nil said))
      (same_lines start bytes said (known_in new.machine) old new options kept text
      (hands_first start bytes said (known_in old.machine) (known_in new.machine) old hands come));
}

-- The log is over: nothing new, and nothing more.
pub is_over : {E : Type 0} (old new : Conversion E) (bytes : Option (List ℕ)) → Ends (known_in old.machine) (known_in new.machine)
    → new.options ≡ old.options → new.kept ≡ old.kept → new.text ≡ old.text → GoesOn [] (old, bytes) (new, bytes)
is_over {E} old new bytes ends options kept text = record {
  options = options;
  comes = λ start said come.
      let known : Known = known_in old.machine in
      let out : List Command = come.commands ++ commands_of old.kept.items in
      let over : Known = record known { held = record known.held { closed = true } } in
      let there : HasCome start said over (old, bytes) = record {
        commands = come.commands;
        lines = come.lines;
        alone = come.alone;
        apart = come.apart;
        follows = ended said out known over come.follows refl;
        opens = come.opens;
      } in
      subst (λ (s : List Said). IsUnderWay start s (new, bytes)) (sym (append-nil said))
      (same_lines start bytes said (known_in new.machine) old new options kept text
      (subst (λ (its : Known). HasCome start said its (old, bytes)) (sym ends) there));
}

-- One state after another.
pub goes_on : {E : Type 0} (first second : List Said) (old mid new : Conversion E × Option (List ℕ)) → GoesOn first old mid
    → GoesOn second mid new → GoesOn (first ++ second) old new
goes_on first second old mid new one other = record {
  options = other.options ∙ one.options;
  comes = λ start said come.
      subst (λ (s : List Said). IsUnderWay start s new) (append_assoc said first second)
      (other.comes start (said ++ first) (one.comes start said come));
}

pub goes_nowhere : {E : Type 0} (state : Conversion E × Option (List ℕ)) → GoesOn [] state state
goes_nowhere state = record {
  options = refl;
  comes = λ start said come. subst (λ (s : List Said). IsUnderWay start s state) (sym (append-nil said)) come;
}

-- A command that the machine gives is handed on.
pub gives : {E : Type 0} (old mid : Conversion E) (new : Conversion E × Option (List ℕ)) (bytes : Option (List ℕ)) (command : Command)
    → HandsOut (command ∷ []) (known_in old.machine) (known_in mid.machine) → mid.options ≡ old.options → mid.kept ≡ old.kept
    → mid.text ≡ old.text → HandsOn command (mid, bytes) new → GoesOn [] (old, bytes) new
gives old mid new bytes command hands options kept text on = record {
  options = on.options ∙ options;
  comes = λ start said come.
      subst (λ (s : List Said). IsUnderWay start s new) (sym (append-nil said))
      (on.comes start said (known_in old.machine) hands
      (same_lines start bytes said (known_in old.machine) old mid options kept text come));
}

-- Nothing is there where it isn't something.
none_is : {A : Type 0} (option : Option A) → is_some option ≡ false → option ≡ None
none_is None not = refl
none_is (Some value) not = absurd (true≢false not)

pub none_by : {A : Type 0} (option : Option A) → ((value : A) → option ≡ Some value → ⊥) → option ≡ None
none_by None not = refl
none_by (Some value) not = absurd (not value refl)

-- The names in use where commands go out.
names_stay : (commands : List Command) (old new : Known) → HandsOut commands old new → old.loaders.used ≡ new.loaders.used
names_stay commands old new hands = ap (λ (known : Known). known.loaders.used) (sym hands.rest)

-- What waited opens what the first command and the others open.
opens_then : (out : List Command) (command : Command) (old new : Known) → HandsOut (command ∷ []) old new
    → OpensFree (out ++ waits old) old.loaders.used → OpensFree ((out ++ command ∷ []) ++ waits new) new.loaders.used
opens_then out command old new hands opens =
    subst (λ (commands : List Command). OpensFree commands new.loaders.used) (sym (append_assoc out (command ∷ []) (waits new)))
    (subst (λ (names : List Bool). OpensFree (out ++ command ∷ waits new) names) (names_stay (command ∷ []) old new hands)
    (subst (λ (waiting : List Command). OpensFree (out ++ waiting) old.loaders.used) (gives_first (command ∷ []) old new hands) opens))

-- Its line goes out, or into the text.
pub hands_out : {E : Type 0} (old mid : Conversion E) (text : Output) (bytes after : Option (List ℕ)) (command : Command)
    → mid ≡ record old { naming = mid.naming } → is_some mid.options.merge ≡ false
    → ((start : Option (List ℕ)) (commands : List Command) → WritesLines start bytes mid.text.text.items commands
    → WritesLines start after text.text.items (commands ++ command ∷ []))
    → HandsOn command (old, bytes) (record mid { text = text }, after)
hands_out {E} old mid text bytes after command is not writes =
    let machine : mid.machine ≡ old.machine = ap (λ (c : Conversion E). c.machine) is in
    let options : mid.options ≡ old.options = ap (λ (c : Conversion E). c.options) is in
    let kept : mid.kept ≡ old.kept = ap (λ (c : Conversion E). c.kept) is in
    let was : mid.text ≡ old.text = ap (λ (c : Conversion E). c.text) is in
    let none : old.options.merge ≡ None =
    sym (ap (λ (c : Conversion E). c.options.merge) is) ∙ none_is mid.options.merge not in record {
      options = options;
      machine = machine;
      comes = λ start said known hands come.
          let empty : old.kept.items ≡ [] = come.alone none in
          let left : mid.kept.items ≡ [] = ap (λ k. k.items) kept ∙ empty in
          let out : come.commands ++ commands_of old.kept.items ≡ come.commands =
          ap (λ (lines : List Placed). come.commands ++ commands_of lines) empty ∙ append-nil come.commands in
          let then : (come.commands ++ command ∷ []) ++ [] ≡ come.commands ++ command ∷ [] = append-nil (come.commands ++ command ∷ []) in
          record {
            commands = come.commands ++ command ∷ [];
            lines = writes start come.commands (subst (λ (t : Output). WritesLines start bytes t.text.items come.commands) (sym was) come.lines);
            alone = λ _. left;
            apart = λ some. absurd (true≢false (sym some ∙ not));
            follows =
                subst (λ (m : Machine). Follows (asks_reports mid.options.reports) said ((come.commands ++ command ∷ []) ++ commands_of mid.kept.items) (known_in m))
                (sym machine)
                (subst (λ (o : Options). Follows (asks_reports o.reports) said ((come.commands ++ command ∷ []) ++ commands_of mid.kept.items) (known_in old.machine))
                (sym options)
                (subst (λ (lines : List Placed). Follows (asks_reports old.options.reports) said ((come.commands ++ command ∷ []) ++ commands_of lines) (known_in old.machine))
                (sym left)
                (subst (λ (given : List Command). Follows (asks_reports old.options.reports) said given (known_in old.machine)) (sym then)
                (subst (λ (given : List Command). Follows (asks_reports old.options.reports) said (given ++ command ∷ []) (known_in old.machine)) out
                (gave said (come.commands ++ commands_of old.kept.items) (command ∷ []) known (known_in old.machine) come.follows hands)))));
            opens =
                subst (λ (m : Machine). OpensFree ((come.commands ++ command ∷ []) ++ commands_of mid.kept.items ++ waits (known_in m)) (names_in m))
                (sym machine)
                (subst (λ (lines : List Placed). OpensFree ((come.commands ++ command ∷ []) ++ commands_of lines ++ waits (known_in old.machine)) (names_in old.machine))
                (sym left)
                (subst (λ (given : List Command). OpensFree (given ++ waits (known_in old.machine)) (names_in old.machine)) (sym then)
                (subst (λ (given : List Command). OpensFree ((given ++ command ∷ []) ++ waits (known_in old.machine)) (names_in old.machine)) out
                (opens_then (come.commands ++ commands_of old.kept.items) command known (known_in old.machine) hands come.opens))));
          };
    }

-- It is kept, to be joined.
pub hands_kept : {E : Type 0} (old mid new : Conversion E) (bytes : Option (List ℕ)) (line : Placed)
    → mid ≡ record old { naming = mid.naming } → new ≡ record mid { kept = new.kept } → is_some mid.options.merge ≡ true
    → new.kept.items ≡ mid.kept.items ++ line ∷ [] → HandsOn line.command (old, bytes) (new, bytes)
hands_kept {E} old mid new bytes line is then some more =
    let machine : new.machine ≡ old.machine = ap (λ (c : Conversion E). c.machine) then ∙ ap (λ (c : Conversion E). c.machine) is in
    let options : new.options ≡ old.options = ap (λ (c : Conversion E). c.options) then ∙ ap (λ (c : Conversion E). c.options) is in
    let was : new.text ≡ old.text = ap (λ (c : Conversion E). c.text) then ∙ ap (λ (c : Conversion E). c.text) is in
    let merge : is_some new.options.merge ≡ true = ap (λ (c : Conversion E). is_some c.options.merge) then ∙ some in
    let before : new.kept.items ≡ old.kept.items ++ line ∷ [] =
    more ∙ ap (λ (c : Conversion E). c.kept.items ++ line ∷ []) is in record {
      options = options;
      machine = machine;
      comes = λ start said known hands come.
          let out : (come.commands ++ commands_of old.kept.items) ++ line.command ∷ [] ≡ come.commands ++ commands_of new.kept.items =
          append_assoc come.commands (commands_of old.kept.items) (line.command ∷ [])
          ∙ ap (λ (rest : List Command). come.commands ++ rest) (sym (commands-append old.kept.items (line ∷ [])))
          ∙ ap (λ (lines : List Placed). come.commands ++ commands_of lines) (sym before) in
          record {
            commands = come.commands;
            lines = subst (λ (t : Output). WritesLines start bytes t.text.items come.commands) (sym was) come.lines;
            alone = λ no. absurd (true≢false (sym merge ∙ ap is_some no));
            apart = λ _. come.apart (sym (ap (λ (o : Options). is_some o.merge) options) ∙ merge);
            follows =
                subst (λ (m : Machine). Follows (asks_reports new.options.reports) said (come.commands ++ commands_of new.kept.items) (known_in m))
                (sym machine)
                (subst (λ (o : Options). Follows (asks_reports o.reports) said (come.commands ++ commands_of new.kept.items) (known_in old.machine))
                (sym options)
                (subst (λ (given : List Command). Follows (asks_reports old.options.reports) said given (known_in old.machine)) out
                (gave said (come.commands ++ commands_of old.kept.items) (line.command ∷ []) known (known_in old.machine) come.follows hands)));
            opens =
                subst (λ (m : Machine). OpensFree (come.commands ++ commands_of new.kept.items ++ waits (known_in m)) (names_in m)) (sym machine)
                (subst (λ (given : List Command). OpensFree (given ++ waits (known_in old.machine)) (names_in old.machine)) out
                (opens_then (come.commands ++ commands_of old.kept.items) line.command known (known_in old.machine) hands come.opens));
          };
    }
