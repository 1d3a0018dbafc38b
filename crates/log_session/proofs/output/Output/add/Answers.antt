-- A line more is kept, and then all goes out.
use Rattle.log_session.specs.Output.{line_of}
use Rattle.log_session.proofs.OutputLemmas.{goes_all}
use Rattle.log_session.proofs.TraceLemmas.{line_goes, ok_map}
use Rattle.log_session.proofs.output.Output.add.Goals as goal

pub returns-then-len-ge-PIECE-clause-lines : goal.returns-then-len-ge-PIECE-clause-lines
returns-then-len-ge-PIECE-clause-lines g c =
    ok_map c.write.result _ _
    (λ written start commands lines.
    line_goes start (g.W.Write.contents c.args.output.now) (g.W.Write.contents c.write.new.output) c.args.self.now.text.items
    c.write.new.self.text.items commands c.args.command
    (goes_all (g.W.Write.contents c.args.output.now) c.args.self.now.text.items (line_of c.args.command) c.keep.new.self.text.items
    (g.W.Write.contents c.write.new.output) c.write.new.self.text.items c.in_ok-keep.ensures.text written c.write.ensures.emptied)
    c.in_ok-keep.ensures.valid lines)
    c.write.ensures.written
