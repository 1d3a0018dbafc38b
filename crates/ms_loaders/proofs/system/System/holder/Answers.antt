use Rattle.std.proofs.Common.{◌≡◌, ℕ, sym, ◌∙◌, true, false, IsTrue, IfSome, IfNone}
use Rattle.std.specs.List.{list_any}
use Rattle.std.specs.Map.{values_of}
use Rattle.std.proofs.lemmas.List.Elements.{recursion_from_All}
use Rattle.ms_base.specs.Committed.{is_among}
use Rattle.ms_pool.specs.Ledger.{Loan, Serves}
use Rattle.ms_loaders.specs.Holder.{is_holder}
use Rattle.ms_loader.specs.Loader.{IsSoundView}
use Rattle.ms_loaders.specs.System.{accounts_of, owners_of, states_of}
use Rattle.ms_loaders.proofs.sums.FitLemmas.{machine_is_good}
use Rattle.ms_loaders.proofs.HolderLemmas.{holder_told, none_holds, only_told}
use Rattle.ms_loaders.proofs.OneHolderLemmas.{one_holder}
use Rattle.ms_loaders.proofs.system.System.holder.Goals as goal
use Rattle.ms_loaders.proofs.system.System.holder.Goals.{After-name_of}

-- What the look for the owner's loader finds, or not, is the holder.
told : (c : After-name_of)
    → IfSome c.name_of.result
    (λ (name : ℕ). list_any (is_holder name c.args.word) (states_of c.self.inside.loaders) ≡ true)
    × IfNone c.name_of.result
    ((name : ℕ) → list_any (is_holder name c.args.word) (states_of c.self.inside.loaders) ≡ false)
told c =
    holder_told c.self.inside.pool c.self.inside.loaders c.args.word c.in-Some.owner c.name_of.result
    (recursion_from_All (Serves c.self.inside.pool) (accounts_of c.self.inside.loaders)
    c.self.invariant.together.served.served)
    (recursion_from_All (λ (loan : Loan). IsTrue (is_among (owners_of c.self.inside.loaders) loan.owner))
    c.self.inside.pool.loans c.self.invariant.together.served.no_other) (sym c.owner_of.ensures ∙ c.in-Some.is)
    c.name_of.ensures.some c.name_of.ensures.none

pub returns-in-Some-clause-held : goal.returns-in-Some-clause-held
returns-in-Some-clause-held c =
    rw (← c.self.view_is) (told (goal.at.returns-in-Some-clause-held c).After-name_of).0

pub returns-in-Some-clause-none : goal.returns-in-Some-clause-none
returns-in-Some-clause-none c =
    rw (← c.self.view_is) (told (goal.at.returns-in-Some-clause-none c).After-name_of).1

-- no other loader holds it too
pub returns-in-Some-clause-only : goal.returns-in-Some-clause-only
returns-in-Some-clause-only c =
    let ledger = c.self.inside.pool in
    let loaders = c.self.inside.loaders in
    rw (← c.self.view_is) (only_told loaders c.args.word c.name_of.result
    (told (goal.at.returns-in-Some-clause-only c).After-name_of).0
    (λ name other one two. one_holder loaders name other c.args.word
    (recursion_from_All IsSoundView (values_of loaders) c.self.invariant.together.loaders_sound)
    (λ space. ((machine_is_good ledger loaders c.self.invariant.together).pools space).held.apart) one two))

pub returns-in-None-clause-none : goal.returns-in-None-clause-none
returns-in-None-clause-none c =
    let ledger = c.self.inside.pool in
    let loaders = c.self.inside.loaders in
    rw (← c.self.view_is) (λ name. none_holds ledger c.args.word loaders name
    (recursion_from_All (Serves ledger) (accounts_of loaders) c.self.invariant.together.served.served)
    (sym c.owner_of.ensures ∙ c.in-None.is))
