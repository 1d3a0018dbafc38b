-- The word ends where it shall.
use Rattle.std.proofs.Common.{◌∙◌, sym}
use Rattle.ms_report.proofs.ColumnLemmas.{room_before, word_put}
use Rattle.ms_report.proofs.line.Line.put_word.Goals as goal

pub invariant_of-self : goal.invariant_of-self
invariant_of-self c =
    word_put c.self.inside.bytes c.args.word.now c.copy_from_slice.new.self c.self.inside.from c.self.invariant
    c.self.told (room_before c.args.self.now c.self.inside.bytes c.self.inside.from _ (sym c.self.view_is) c.self.told
    c.self.invariant.within c.requires.room) c.requires.ascii (c.copy_from_slice.ensures.after ∙ c.as_bytes.ensures.value)
