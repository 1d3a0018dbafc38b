use Rattle.ms_json.proofs.state.push_kinds_if.Goals as goal

pub returns-in-Some : goal.returns-in-Some
returns-in-Some c = rw c.in-Some.is (rw c.as_slice.ensures.value at c.push_kinds.ensures)
