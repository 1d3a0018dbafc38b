use Rattle.std.proofs.Common.{◌≡◌, ◌<◌, ◌-◌, ◌++◌, ◌∷◌, [], ℕ, get_or, subst, sym, rules}
use Rattle.std.specs.Prelude.{slice_set, vec_len}
use Rattle.log_session.specs.Joining.{IsJoined}
use Rattle.log_session.proofs.JoiningLemmas.{last_takes}
use Rattle.log_session.proofs.joining.take_in.Goals as goal

pub returns-clause-joined : goal.returns-clause-joined
returns-clause-joined c = λ yes lines are.
    let items = c.args.joined.now.items in
    let some : 0 < vec_len c.args.joined.now = search rules in
    let is : c.in-Some.last ≡ get_or items (vec_len c.args.joined.now - 1) c.in-Some.last = search rules in
    let count : c.len-at.result ≡ vec_len c.args.joined.now = search rules in
    subst (λ (n : ℕ). IsJoined c.args.most (lines ++ c.args.line ∷ [])
    (slice_set items (n - 1) (record c.in-Some.last { command = c.in-Some-joining.command }))) (sym count)
    (last_takes c.args.most lines items (vec_len c.args.joined.now) c.in-Some.last c.args.line c.in-Some-joining.command are
    c.args.joined.now.ok.0 some is c.in-Some-joining.ensures.some)
