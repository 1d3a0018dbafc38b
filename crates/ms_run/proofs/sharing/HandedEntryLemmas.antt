-- The entries that go with an account, and the numbers that stand among others. For `hand_on`.
use Rattle.std.proofs.Common.{◌≡◌, ◌≢◌, ℕ, Bool, true, false, cond, not, ◌||◌, List, [], ◌∷◌}
use Rattle.std.proofs.Common.{◌++◌, refl, sym, ap, ◌∙◌, inl, inr, eq-eqb}
use Rattle.std.specs.Prelude.{◌==◌}
use Rattle.std.specs.List.{AllByRecursion}
use Rattle.std.proofs.lemmas.Bool.{eqb-true, false≢true, or_right}
use Rattle.ms_base.specs.declared.span.Chunk.{Chunk}
use Rattle.ms_base.specs.Committed.{is_among}
use Rattle.ms_base.proofs.runs.ApartLemmas.{list_any-with}
use Rattle.ms_pool.specs.Account.{AccountState}
use Rattle.ms_shared.specs.Entries.{Entry, Has, only, all_but}

-- What is true of all in two lists is true of those in each.
pub halves : (P : AccountState → Type 0) (b a : List AccountState) → AllByRecursion P (b ++ a)
    → AllByRecursion P b × AllByRecursion P a
halves P [] a all = (tt, all)
halves P (x ∷ b) a all = let rest = halves P b a all.1 in ((all.0, rest.0), rest.1)

-- Entries of others, of one owner, and of two lists.
others_step : (who : ℕ) (x : Entry) (xs : List Entry) (owner : ℕ) (chunks : List Chunk)
    → (Has (all_but who xs) owner chunks → Has xs owner chunks × (owner ≢ who))
    → (b : Bool) → (x.0 == who) ≡ b → Has (cond (not b) (x ∷ all_but who xs) (all_but who xs)) owner chunks
    → Has (x ∷ xs) owner chunks × (owner ≢ who)
others_step who x xs owner chunks later true same there = (inr (later there).0, (later there).1)
others_step who x xs owner chunks later false past (inl is) =
    (inl is, λ same. false≢true (sym past ∙ eq-eqb x.0 who (ap (λ (entry : Entry). entry.0) is ∙ same)))
others_step who x xs owner chunks later false past (inr there) = (inr (later there).0, (later there).1)

pub of_others : (who : ℕ) (xs : List Entry) (owner : ℕ) (chunks : List Chunk) → Has (all_but who xs) owner chunks
    → Has xs owner chunks × (owner ≢ who)
of_others who [] owner chunks here = absurd here
of_others who (x ∷ xs) owner chunks here =
    others_step who x xs owner chunks (λ there. of_others who xs owner chunks there) (x.0 == who) refl here

one_step : (who : ℕ) (x : Entry) (xs : List Entry) (owner : ℕ) (chunks : List Chunk)
    → (Has (only who xs) owner chunks → owner ≡ who)
    → (b : Bool) → (x.0 == who) ≡ b → Has (cond b (x ∷ only who xs) (only who xs)) owner chunks → owner ≡ who
one_step who x xs owner chunks later true same (inl is) =
    sym (ap (λ (entry : Entry). entry.0) is) ∙ eqb-true x.0 who same
one_step who x xs owner chunks later true same (inr there) = later there
one_step who x xs owner chunks later false past there = later there

pub of_one : (who : ℕ) (xs : List Entry) (owner : ℕ) (chunks : List Chunk) → Has (only who xs) owner chunks → owner ≡ who
of_one who [] owner chunks here = absurd here
of_one who (x ∷ xs) owner chunks here =
    one_step who x xs owner chunks (λ there. of_one who xs owner chunks there) (x.0 == who) refl here

-- A number among others, with one more of them, and itself.
pub with_it : (b a : List ℕ) (more number : ℕ) → is_among (b ++ a) number ≡ true → is_among (b ++ more ∷ a) number ≡ true
with_it b a more number there =
    list_any-with (λ other. other == number) b more a ∙ or_right (more == number) (is_among (b ++ a) number) there

pub it_itself : (b a : List ℕ) (number : ℕ) → is_among (b ++ number ∷ a) number ≡ true
it_itself b a number = list_any-with (λ other. other == number) b number a
    ∙ ap (λ t. t || is_among (b ++ a) number) (eq-eqb number number refl)
