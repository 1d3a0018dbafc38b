-- What a source without chunks answers.
use Rattle.std.specs.Prelude.{◌≡◌, ℕ, Bool, Result, Err, OnOk}
use Rattle.ms_base.specs.declared.span.Span.{Span}
use Rattle.ms_base.specs.declared.refusal.Refusal.{Refusal}
use Rattle.ms_base.specs.declared.refusal.Refusal.TheVariants.{ReserveLimit}
use Rattle.ms_pool.specs.Account.{AccountState}

-- No chunk is lent: the limit of nodes is 0, and so many are there.
abbrev pub takes_none : {S : Type 0} → S → AccountState → ℕ → ℕ → ℕ → Result Span Refusal → S → Type 0
takes_none old account wanted most words answer new = answer ≡ Err (ReserveLimit 0 0)

-- None grows.
abbrev pub grows_none : {S : Type 0} → S → AccountState → ℕ → ℕ → Bool → Result Span Refusal → S → Type 0
grows_none old account start total may_enlarge answer new = OnOk answer ⊥
