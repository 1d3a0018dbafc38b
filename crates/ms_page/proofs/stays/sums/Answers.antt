use Rattle.std.proofs.Common.{◌+◌, ◌++◌, ◌∷◌, [], ℕ, ap, arith, get_or, ◌∙◌}
use Rattle.std.proofs.lemmas.List.Sums.{sum_by_more}
use Rattle.ms_page.proofs.StayLemmas.{sums_more}
use Rattle.ms_page.proofs.stays.sums.Goals as goal

pub loop-number-preserved : goal.loop-number-preserved
loop-number-preserved c =
    let numbers = c.args.numbers.now in
    let at = c.loop-number.number-index in
    let its = c.loop-number.invariant in
    record {
      sums =
          sums_more numbers c.loop-number.sums.items c.push.new.self.items at c.loop-number-test.true its.sums
          (c.in_ok-push.ensures.items
          ∙ ap (λ (n : ℕ). c.loop-number.sums.items ++ (n + get_or numbers at 0) ∷ []) its.so_far);
      so_far = omega (arith, its.so_far, sum_by_more (λ (n : ℕ). n) numbers at 0 c.loop-number-test.true);
    }
