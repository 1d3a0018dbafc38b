use Rattle.std.proofs.Common.{rules, inl}
use Rattle.ms_base.proofs.entries.HashedLemmas.{named_by_name, new_by_name}
use Rattle.ms_base.specs.Hashed.{by_name}
use Rattle.ms_loader.proofs.RefusedLemmas.{arena_refused, new_refused}
use Rattle.ms_loader.proofs.naming.allocate_beside.Goals as goal

pub returns-in-Err-clause-allocates : goal.returns-in-Err-clause-allocates
returns-in-Err-clause-allocates g c =
    let named = named_by_name c.args.others.now.entries c.args.name in
    search rules

pub returns-in-Ok-Occupied-clause-allocates : goal.returns-in-Ok-Occupied-clause-allocates
returns-in-Ok-Occupied-clause-allocates g c =
    let named = named_by_name c.args.others.now.entries c.args.name in
    search rules

pub returns-in_err-block-in-Ok-Vacant-clause-allocates :
    goal.returns-in_err-block-in-Ok-Vacant-clause-allocates
returns-in_err-block-in-Ok-Vacant-clause-allocates g c =
    let named = named_by_name c.args.others.now.entries c.args.name in
    search rules

pub returns-in_ok-block-in-Ok-Vacant-clause-allocates : goal.returns-in_ok-block-in-Ok-Vacant-clause-allocates
returns-in_ok-block-in-Ok-Vacant-clause-allocates g c =
    let named = named_by_name c.args.others.now.entries c.args.name in
    let new = new_by_name c.args.others.now.entries in
    search rules

pub returns-then-refused-clause-allocates : goal.returns-then-refused-clause-allocates
returns-then-refused-clause-allocates g c =
    let named = named_by_name c.args.others.now.entries c.args.name in
    search rules

pub returns-in-Err-clause-refused : goal.returns-in-Err-clause-refused
returns-in-Err-clause-refused g c =
    let named = named_by_name c.args.others.now.entries c.args.name in
    inl (new_refused (by_name c.args.others.now.entries) c.args.name c.args.words c.wanting_room-in-Err.result
    (search rules) c.wanting_room-in-Err.ensures)

pub returns-in-Ok-Occupied-clause-refused : goal.returns-in-Ok-Occupied-clause-refused
returns-in-Ok-Occupied-clause-refused g c =
    let named = named_by_name c.args.others.now.entries c.args.name in
    inl (search rules)

pub returns-in_err-block-in-Ok-Vacant-clause-refused : goal.returns-in_err-block-in-Ok-Vacant-clause-refused
returns-in_err-block-in-Ok-Vacant-clause-refused g c =
    let named = named_by_name c.args.others.now.entries c.args.name in
    arena_refused (by_name c.args.others.now.entries) c.args.name c.args.words _ c.from_residual.result
    (search rules) c.from_residual.ensures.1 c.in_err-block-in-Ok-Vacant.ensures.refused

pub returns-then-refused-clause-refused : goal.returns-then-refused-clause-refused
returns-then-refused-clause-refused g c =
    let named = named_by_name c.args.others.now.entries c.args.name in
    inl (new_refused (by_name c.args.others.now.entries) c.args.name c.args.words c.wanting_room.result
    (search rules) c.wanting_room.ensures)
