use Rattle.std.proofs.Common.{◌≡◌, ◌++◌, ◌∷◌, [], List, subst, sym, rules}
use Rattle.jvm_log.specs.declared.placed.Placed.{Placed}
use Rattle.log_session.specs.Joining.{IsJoined, alone}
use Rattle.log_session.proofs.joining.add.Goals as goal

pub returns-in_ok-push : goal.returns-in_ok-push
returns-in_ok-push c = λ lines are.
    let same : c.take_in.new.joined.items ≡ c.args.joined.now.items = search rules in
    subst (λ (items : List Placed). IsJoined c.args.most (lines ++ c.args.line ∷ []) items) (sym c.in_ok-push.ensures.items)
    (alone lines c.take_in.new.joined.items c.args.line
    (subst (λ (items : List Placed). IsJoined c.args.most lines items) (sym same) are))
