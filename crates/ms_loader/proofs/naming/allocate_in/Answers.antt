use Rattle.std.proofs.Common.{◌≡◌, ◌∙◌, ℕ, List, ap, subst, sym}
use Rattle.ms_base.specs.declared.span.Block.{Block}
use Rattle.ms_base.specs.Hashed.{by_name}
use Rattle.std.specs.Prelude.{IfErr}
use Rattle.ms_loader.specs.Naming.{AllocatesNamed, NamedRefused}
use Rattle.ms_loader.specs.Table.{TableView, entries_of, in_row, no_block}
use Rattle.ms_loader.proofs.TableLemmas.{stay_entries}
use Rattle.ms_loader.proofs.BesideLemmas.{beside, with_others}
use Rattle.ms_loader.proofs.RefusedLemmas.{beside_refused}
use Rattle.ms_loader.proofs.naming.allocate_in.Goals as goal

pub returns-then-make_slot-clause-allocates : goal.returns-then-make_slot-clause-allocates
returns-then-make_slot-clause-allocates g c = rw (← c.names.view_is)
    (subst (λ (names : List (ℕ × Block)).
    AllocatesNamed g.S.ChunkSource.grew g.S.ChunkSource.took (g.S.ChunkSource.limits c.args.source.now).policy names
    c.args.arena.now c.args.name c.args.words c.args.source.now c.allocate_in_row.result
    (by_name (entries_of c.allocate_in_row.new.table)) c.allocate_in_row.new.arena c.allocate_in_row.new.source)
    (stay_entries c.names.inside.table c.make_slot.new.self c.make_slot.ensures.stay)
    c.allocate_in_row.ensures.allocates)

pub returns-clause-allocates : goal.returns-clause-allocates
returns-clause-allocates g c =
    let inside = c.names-inside.inside.0.0 in
    let table : TableView =
    record { first = inside.first; row = inside.row.items; others = inside.others.entries } in
    let same : table ≡ c.make_slot.new.self = ap (λ its. its.table) c.names-inside.view_is in
    rw (← c.names.view_is)
    (subst (λ (names : List (ℕ × Block)).
    AllocatesNamed g.S.ChunkSource.grew g.S.ChunkSource.took (g.S.ChunkSource.limits c.args.source.now).policy names
    c.args.arena.now c.args.name c.args.words c.args.source.now c.allocate_beside.result
    (by_name (entries_of (with_others table c.allocate_beside.new.others.entries))) c.allocate_beside.new.arena
    c.allocate_beside.new.source)
    (ap (λ (t : TableView). by_name (entries_of t)) same
    ∙ stay_entries c.names.inside.table c.make_slot.new.self c.make_slot.ensures.stay)
    (beside g.S.ChunkSource.grew g.S.ChunkSource.took (g.S.ChunkSource.limits c.args.source.now).policy table
    c.allocate_beside.new.others.entries c.args.arena.now c.args.name c.args.words c.args.source.now
    c.allocate_beside.result c.allocate_beside.new.arena c.allocate_beside.new.source
    (subst (λ (t : TableView). in_row t.first t.row c.args.name ≡ no_block) (sym same)
    (c.make_slot.ensures.none c.if-make_slot.false)) c.allocate_beside.ensures.allocates))

pub returns-then-make_slot-clause-refused : goal.returns-then-make_slot-clause-refused
returns-then-make_slot-clause-refused g c = rw (← c.names.view_is)
    (subst (λ (names : List (ℕ × Block)).
    IfErr c.allocate_in_row.result (NamedRefused names c.args.name c.args.words))
    (stay_entries c.names.inside.table c.make_slot.new.self c.make_slot.ensures.stay)
    c.allocate_in_row.ensures.refused)

pub returns-clause-refused : goal.returns-clause-refused
returns-clause-refused g c =
    let inside = c.names-inside.inside.0.0 in
    let table : TableView =
    record { first = inside.first; row = inside.row.items; others = inside.others.entries } in
    let same : table ≡ c.make_slot.new.self = ap (λ its. its.table) c.names-inside.view_is in
    rw (← c.names.view_is)
    (subst (λ (names : List (ℕ × Block)).
    IfErr c.allocate_beside.result (NamedRefused names c.args.name c.args.words))
    (ap (λ (t : TableView). by_name (entries_of t)) same
    ∙ stay_entries c.names.inside.table c.make_slot.new.self c.make_slot.ensures.stay)
    (beside_refused table c.args.name c.args.words c.allocate_beside.result
    (subst (λ (t : TableView). in_row t.first t.row c.args.name ≡ no_block) (sym same)
    (c.make_slot.ensures.none c.if-make_slot.false)) c.allocate_beside.ensures.refused))
