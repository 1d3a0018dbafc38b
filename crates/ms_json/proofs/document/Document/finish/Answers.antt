use Rattle.ms_json.proofs.DocumentLemmas.{whole_of}
use Rattle.ms_json.proofs.document.Document.finish.Goals as goal

pub returns : goal.returns
returns c = λ answers its.
    whole_of c.args.self.addresses c.args.settings.now c.args.lines answers c.args.columns.now c.args.end.now
    c.args.names.now _ c.args.self _ _ _ c.self.view_is its c.in_ok-push_closed.ensures.text c.in_ok-push_middle.ensures
    (rw c.deref.ensures at c.in_ok-push_rest.ensures)
