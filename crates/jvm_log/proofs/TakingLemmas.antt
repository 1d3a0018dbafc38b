-- A line of the log is taken in, between steps that change nothing that is known but the lines held back. Used by
-- `take_in` of `machine`.
use Rattle.std.proofs.Common.{◌≡◌, ◌∙◌, List, Bool, ap, subst, sym}
use Rattle.jvm_log.specs.declared.event.Said.{Said}
use Rattle.jvm_log.specs.declared.machine.Machine.{Machine}
use Rattle.jvm_log.specs.Asking.{Asking}
use Rattle.jvm_log.specs.Giving.{Gives, Takes}
use Rattle.jvm_log.specs.Held.{shortened}
use Rattle.jvm_log.specs.Known.{Known, blocks_in, known_in, loaders_in, request_of}
use Rattle.jvm_log.specs.Living.{Living}
use Rattle.jvm_log.specs.Lying.{Lying}
use Rattle.jvm_log.specs.Waits.{Fixed, fixed_in, lines_in, names_in}

-- The log begins before, and lines may be given up after.
abbrev Begins : Machine → Machine → Type 0
Begins old new = new ≡ record old { began = new.began }

abbrev Shortens : Machine → Machine → Type 0
Shortens old new = new ≡ record old { held = new.held }

pub lines_between : (said : Said) (old begun heeded last : Machine) → Begins old begun → names_in last ≡ names_in heeded
    → lines_in last ≡ shortened (lines_in heeded) → fixed_in last ≡ fixed_in heeded → fixed_in heeded ≡ fixed_in begun
    → Gives said.thread said.event (known_in begun) (names_in heeded) (lines_in heeded)
    → Takes said.thread said.event (known_in old) (names_in last) (known_in last).held
lines_between said old begun heeded last begins names lines same fixed gives =
    let as_before : fixed_in last ≡ fixed_in old = same ∙ fixed ∙ ap fixed_in begins in record {
      lines = lines_in heeded;
      come =
          subst (λ (known : Known). Gives said.thread said.event known (names_in last) (lines_in heeded)) (ap known_in begins)
          (subst (λ (used : List Bool). Gives said.thread said.event (known_in begun) used (lines_in heeded)) (sym names) gives);
      short = lines;
      first = ap (λ (its : Fixed). its.first) as_before;
      closed = ap (λ (its : Fixed). its.closed) as_before;
    }

pub requests_between : (said : Said) (old begun heeded last : Machine) → Begins old begun → Shortens heeded last
    → Asking said.thread said.event (known_in begun) (request_of heeded)
    → Asking said.thread said.event (known_in old) (request_of last)
requests_between said old begun heeded last begins shortens asks =
    subst (λ (known : Known). Asking said.thread said.event known (request_of last)) (ap known_in begins)
    (subst (λ (m : Machine). Asking said.thread said.event (known_in begun) (request_of m)) (sym shortens) asks)

pub loaders_between : (said : Said) (old begun heeded last : Machine) → Begins old begun → Shortens heeded last
    → Living said.thread said.event (known_in begun) (loaders_in heeded)
    → Living said.thread said.event (known_in old) (loaders_in last)
loaders_between said old begun heeded last begins shortens live =
    subst (λ (known : Known). Living said.thread said.event known (loaders_in last)) (ap known_in begins)
    (subst (λ (m : Machine). Living said.thread said.event (known_in begun) (loaders_in m)) (sym shortens) live)

pub blocks_between : (said : Said) (old begun heeded last : Machine) → Begins old begun → Shortens heeded last
    → Lying said.thread said.event (known_in begun) (blocks_in heeded)
    → Lying said.thread said.event (known_in old) (blocks_in last)
blocks_between said old begun heeded last begins shortens lie =
    subst (λ (known : Known). Lying said.thread said.event known (blocks_in last)) (ap known_in begins)
    (subst (λ (m : Machine). Lying said.thread said.event (known_in begun) (blocks_in m)) (sym shortens) lie)
