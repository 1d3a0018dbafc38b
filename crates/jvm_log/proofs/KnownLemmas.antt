-- What is known where nothing comes and nothing goes. Used by the functions of `machine`.
use Rattle.std.proofs.Common.{◌≡◌, ℕ, Bool, true, false, cond, Option, None, refl, sym, ap, subst, nat_eq}
use Rattle.std.specs.Map.{update}
use Rattle.std.proofs.lemmas.Bool.{eqb-true}
use Rattle.ms_trace.specs.declared.trace.Command.{Command}
use Rattle.jvm_log.specs.declared.machine.Machine.{Machine}
use Rattle.jvm_log.specs.Known.{Blocks, Loaders, blocks_in, loaders_in, request_of}
use Rattle.jvm_log.specs.Living.{Counts, Same}
use Rattle.jvm_log.specs.Lying.{Keeps}

-- A key has what it had.
same_at : {X : Type 0} (f : ℕ → Option X) (k q : ℕ) (b : Bool) → nat_eq k q ≡ b → f q ≡ cond b (f k) (f q)
same_at f k q true same = ap f (sym (eqb-true k q same))
same_at f k q false other = refl

update_self : {X : Type 0} (f : ℕ → Option X) (k q : ℕ) → f q ≡ update nat_eq f k (f k) q
update_self f k q = same_at f k q (nat_eq k q) refl

-- So has a thread its request.
pub asks_none : (thread : ℕ) (old new : Machine) → new.requests ≡ old.requests → (q : ℕ)
    → request_of new q ≡ update nat_eq (request_of old) thread (request_of old thread) q
asks_none thread old new same q = rw same (update_self (request_of old) thread q)

-- Loaders are those that were, and have no block more.
pub same_is : (old new : Machine) → loaders_in new ≡ loaders_in old → Same (loaders_in old) (loaders_in new)
same_is old new same =
    subst (λ (its : Loaders). Same (loaders_in old) its) (sym same) (record { loaders = λ q. refl; owners = λ q. refl; births = refl })

pub counts_none : (arena : ℕ) (command : Option Command) (old new : Loaders) → command ≡ None → Same old new → Counts arena command old new
counts_none arena command old new none same = subst (λ (c : Option Command). Counts arena c old new) (sym none) same

-- So are blocks.
pub keeps_is : (old new : Machine) → blocks_in new ≡ blocks_in old → Keeps (blocks_in old) (blocks_in new)
keeps_is old new same =
    subst (λ (its : Blocks). Keeps (blocks_in old) its) (sym same) (record { blocks = λ q. refl; answers = λ q. refl })
