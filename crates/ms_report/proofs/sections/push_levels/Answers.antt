use Rattle.std.proofs.Common.{◌∙◌, ◌+◌, ◌++◌, ℕ, List, ap, arith, drop, get_or, sym}
use Rattle.std.specs.Prelude.{string_bytes}
use Rattle.ms_report.specs.Layout.{header, level_lines, level_table, level_texts, table_line}
use Rattle.ms_report.proofs.SpaceLemmas.{level_more, longer, no_levels}
use Rattle.ms_report.proofs.sections.push_levels.Goals as goal

pub loop-number-init : goal.loop-number-init
loop-number-init c =
    ap (λ (text : List ℕ). text ++ level_lines 0 c.args.space.now.held c.args.space.now.free)
    (sym c.in_ok-push_str.ensures.bytes)

pub loop-number-preserved : goal.loop-number-preserved
loop-number-preserved c =
    let held = c.args.space.now.held in
    let free = c.args.space.now.free in
    let number : ℕ = c.loop-number.number in
    let line : ℕ → ℕ → List ℕ = λ level index.
    table_line level_table (level_texts level (get_or held index 0) (get_or free index 0)) in
    let bytes = string_bytes c.loop-number.text in
    c.loop-number.invariant
    ∙ ap (λ (rest : List ℕ). bytes ++ rest)
    (level_more number held free (omega (arith, c.loop-number-test.true, c.type_inv.space))
    (omega (arith, c.loop-number-test.true, c.type_inv.space)))
    ∙ longer bytes (string_bytes c.push_level.new.text) (line number number)
    (level_lines (number + 1) (drop (number + 1) held) (drop (number + 1) free))
    (c.in_ok-push_level.ensures ∙ ap (λ (n : ℕ). bytes ++ line n c.from-index.result) c.new.ensures
    ∙ ap (λ (index : ℕ). bytes ++ line number index) c.from-index.ensures)

pub returns : goal.returns
returns c =
    no_levels (string_bytes c.args.text.now) (string_bytes c.loop-number.text) (header level_table)
    (level_lines 0 c.args.space.now.held c.args.space.now.free) c.loop-number.number c.args.space.now.held
    c.args.space.now.free (omega (arith, c.loop-number-test.false)) c.loop-number.invariant
