use Rattle.std.proofs.Common.{◌<◌, ◌++◌, ◌∙◌, ap, sym, take, length, rules}
use Rattle.log_session.specs.Naming.{name_line, names_text, told_of}
use Rattle.log_session.proofs.NamingLemmas.{names_next}
use Rattle.log_session.proofs.naming.Naming.text.Goals as goal

pub loop-birth-preserved : goal.loop-birth-preserved
loop-birth-preserved c =
    let naming = c.args.self.now in
    let birth = c.loop-birth.birth in
    let inside : birth < length naming.numbers.items = search rules in
    c.in_ok-add_line.ensures
    ∙ ap (λ text. text ++ name_line c.index.result.now (told_of naming.texts.entries birth)) c.loop-birth.invariant
    ∙ ap (λ n. names_text naming.texts.entries 0 (take birth naming.numbers.items) ++ name_line n (told_of naming.texts.entries birth))
    c.index.ensures
    ∙ sym (names_next naming.texts.entries naming.numbers.items birth c.index.result.now inside)
