use Rattle.std.proofs.Common.{subst}
use Rattle.ms_member.specs.Member.{MemberState}
use Rattle.ms_member.specs.Taking.{AreTheirSums}
use Rattle.ms_c.proofs.seat_telling.nizgrabul_seat_totals.Goals as goal

-- what was found is told as it is
pub returns-in-Some-totals-clause-totals : goal.returns-in-Some-totals-clause-totals
returns-in-Some-totals-clause-totals c = λ _. record {
  member = c.in-Some.member.value;
  totals = c.in-Some-totals.totals;
  is = c.in-Some.ensures.some;
  are =
      subst (λ (member : MemberState). AreTheirSums member.arenas member c.in-Some-totals.totals) c.deref.ensures
      c.in-Some-totals.ensures.sums;
  told = c.loader_sums.ensures;
}
