use Rattle.std.proofs.Common.{◌∙◌, ◌-◌, ◌++◌, ℕ, List, ap, replicate}
use Rattle.std.specs.Prelude.{string_bytes}
use Rattle.ms_report.proofs.SpaceLemmas.{few_left, longer, put_last, twelve_fewer}
use Rattle.ms_report.proofs.layout.push_spaces.Goals as goal

pub loop-left-preserved : goal.loop-left-preserved
loop-left-preserved c =
    c.loop-left.invariant
    ∙ ap (λ (rest : List ℕ). string_bytes c.loop-left.text ++ rest)
    (twelve_fewer c.loop-left.left c.loop-left-test.true)
    ∙ longer (string_bytes c.loop-left.text) (string_bytes c.push_str.new.self) (replicate 12 32)
    (replicate (c.loop-left.left - 12) 32) c.in_ok-push_str.ensures.bytes

pub returns : goal.returns
returns c =
    put_last c.push_str-2.result _ (string_bytes c.loop-left.text) (string_bytes c.push_str-2.new.self)
    c.range.result.now (replicate c.loop-left.left 32) c.loop-left.invariant
    (c.range.ensures.value ∙ few_left c.loop-left.left c.loop-left-test.false) c.push_str-2.ensures.bytes
