use Rattle.std.proofs.Common.{◌≡◌, ◌≤◌, ◌<◌, ◌+◌, ℕ, Bool, true, false, List, refl, subst, arith}
use Rattle.ms_base.specs.Part.{is_reserved}
use Rattle.ms_base.specs.Committed.{is_among}
use Rattle.ms_commit.specs.NumberSet.{IsSetBelow}
use Rattle.ms_commit.specs.Nodes.{NodesState}
use Rattle.ms_commit.proofs.NodesLemmas.{member_below}
use Rattle.ms_commit.proofs.nodes.Nodes.next_reserved.Goals as goal

-- Where no slot of a range that reaches up to 64 is there, none from its first on is.
none_on : (slots : List ℕ) (from left k : ℕ) → IsSetBelow 64 slots → 64 ≤ from + left
    → ((n : ℕ) → from ≤ n → n < from + left → is_among slots n ≡ false) → from ≤ k → is_among slots k ≡ false
none_on slots from left k set reaches none low = go (is_among slots k) refl
  where
    go : (b : Bool) → is_among slots k ≡ b → is_among slots k ≡ false
    go false e = e
    go true e = none k low (omega (arith, reaches, member_below 64 slots k set.below e))

pub returns-in-None-clause-none : goal.returns-in-None-clause-none
returns-in-None-clause-none c = λ k low. subst (λ (nodes : NodesState). is_reserved nodes.slots k ≡ false) c.self.view_is
    (none_on c.self.inside.slots c.args.from c.saturating_sub-left.result k c.self.invariant.sound.slots
    (omega (arith, c.saturating_sub-left.ensures)) c.in-None.ensures.none low)
