use Rattle.std.proofs.Common.{◌≡◌, ◌∙◌, ◌+◌, ◌-◌, List, ap, arith, drop, length, length-drop, take, take_all}
use lib.Seq.{paste}
use Rattle.std.proofs.lemmas.List.Edits.{take-paste}
use Rattle.ms_base.specs.declared.span.Block.{Block}
use Rattle.ms_loader.specs.Table.{TableView, block_in, block_of}
use Rattle.ms_loader.proofs.SlideLemmas.{left_behind}
use Rattle.ms_loader.proofs.naming.table.Table.leave.Goals as goal

pub returns-clause-stay : goal.returns-clause-stay
returns-clause-stay c =
    let first = c.self.inside.first in
    let names = c.args.names in
    let row = c.self.inside.row.items in
    let old = c.self.inside.others.entries in
    let now = c.hand_over.new.others.entries in
    let kept = c.self.inside.row.len - names in
    let long : length (drop names row) ≡ kept = omega (arith, length-drop names row, c.self.inside.row.ok) in
    let same : c.len.result - names ≡ 0 + kept = omega (arith, c.len.ensures) in
    let left : c.truncate.new.self.items ≡ drop names row =
    c.truncate.ensures.items ∙ ap (take (c.len.result - names)) c.copy_within.ensures.items
    ∙ ap (λ n. take n (paste row 0 (drop names row) kept)) same
    ∙ take-paste row 0 (drop names row) kept (omega arith) (omega arith)
    ∙ take_all kept (drop names row) (omega arith) in
    λ name. ap (λ (row : List Block). block_in (first + names) row now name) left
    ∙ left_behind first names row old now
    (λ name. c.in_ok-moved.ensures.all name
    ∙ ap (λ (row : List Block). block_in first (take names row) old name) c.as_slice.ensures.value) name
    ∙ ap (λ (table : TableView). block_of table name) c.self.view_is
