-- What is lent from entries on: what stands at one is a leaf, and what is put there changes that
-- leaf alone.
use Rattle.std.proofs.Common.{◌≡◌, ◌<◌, ◌≤◌, ℕ, zero, suc, ◌+◌, ◌*◌, Bool, true, false, List, [], ◌∷◌, ◌++◌}
use Rattle.std.proofs.Common.{Option, Some, None, length, refl, sym, ap, subst, ◌∙◌, arith}
use Rattle.std.specs.Prelude.{◌==◌, ◌&&◌, ◌||◌, nat_le, nat_lt, slice_set, IsTrue}
use Rattle.std.specs.List.{AllByRecursion, find}
use Rattle.std.proofs.lemmas.Bool.Decides.{nat_tests}
use Rattle.ms_base.specs.declared.span.Span.{Span}
use Rattle.ms_base.specs.Level.{size_of}
use Rattle.ms_buddy.specs.declared.entries.Lending.{Lending}
use Rattle.ms_buddy.specs.Leaves.{AreInOrder, LentLeaf, covers, is_lent, is_same, span_of, with_leaf}
use Rattle.ms_buddy.specs.Entries.{leaf_from, lending_at, lent_from}
use Rattle.ms_buddy.proofs.searches.CoverLemmas.{from_covers}
use Rattle.ms_buddy.proofs.WalkLemmas.{all_weaker}
use Rattle.ms_buddy.proofs.SplitLemmas.{ActsAt}

-- Each leaf starts at the first of the entries or past it.
starts_from : (index : ℕ) (entries : List (Option Lending))
    → AllByRecursion (λ leaf. 128 * index ≤ leaf.start) (lent_from index entries)
starts_from index [] = tt
starts_from index (None ∷ entries) = all_weaker (λ leaf. 128 * (index + 1) ≤ leaf.start) (λ leaf. 128 * index ≤ leaf.start)
    (λ leaf h. omega arith) (lent_from (index + 1) entries) (starts_from (index + 1) entries)
starts_from index (Some lending ∷ entries) = (
  omega arith,
  all_weaker (λ leaf. 128 * (index + 1) ≤ leaf.start) (λ leaf. 128 * index ≤ leaf.start)
      (λ leaf h. omega arith) (lent_from (index + 1) entries) (starts_from (index + 1) entries),
)

past_test : (a b : ℕ) → b ≤ a → nat_lt a b ≡ false
past_test a b h = grind (arith, nat_tests)

below_test : (a b : ℕ) → a < b → nat_lt a b ≡ true
below_test a b h = grind (arith, nat_tests)

comes_first : (added : LentLeaf) (lent : List LentLeaf) → AllByRecursion (λ leaf. added.start ≤ leaf.start) lent
    → with_leaf added lent ≡ added ∷ lent
comes_first added [] all = refl
comes_first added (leaf ∷ lent) all = rw (past_test leaf.start added.start all.0) refl

-- A leaf comes where none was.
pub added : (index at number : ℕ) (entries : List (Option Lending)) (lending : Lending) → at < length entries
    → lending_at entries at ≡ None → number ≡ index + at
    → lent_from index (slice_set entries at (Some lending)) ≡ with_leaf (leaf_from number lending) (lent_from index entries)
added index at number [] lending within none is = absurd (omega (arith, within))
added index zero number (None ∷ entries) lending within none is =
    subst (λ (n : ℕ). leaf_from index lending ∷ lent_from (index + 1) entries
    ≡ with_leaf (leaf_from n lending) (lent_from (index + 1) entries)) (omega (arith, is))
    (sym (comes_first (leaf_from index lending) (lent_from (index + 1) entries)
    (all_weaker (λ leaf. 128 * (index + 1) ≤ leaf.start) (λ leaf. 128 * index ≤ leaf.start)
    (λ leaf h. omega arith) (lent_from (index + 1) entries) (starts_from (index + 1) entries))))
added index zero number (Some other ∷ entries) lending within none is = absurd (cc)
added index (suc at) number (None ∷ entries) lending within none is =
    added (index + 1) at number entries lending (omega (arith, within)) none (omega (arith, is))
added index (suc at) number (Some other ∷ entries) lending within none is =
    ap (λ rest. leaf_from index other ∷ rest)
    (added (index + 1) at number entries lending (omega (arith, within)) none (omega (arith, is)))
    ∙ sym (rw (below_test (128 * index) (128 * number) (omega (arith, is))) refl)

differs : (a b : ℕ) (c : Bool) → b < a → ((a == b) && c) ≡ false
differs a b c h = grind (arith, nat_tests)

differs_below : (a b : ℕ) (c : Bool) → a < b → ((a == b) && c) ≡ false
differs_below a b c h = grind (arith, nat_tests)

head_apart : (index : ℕ) (entry : Option Lending) (entries : List (Option Lending))
    → lent_from index (entry ∷ entries) ≡ lent_from index (entry ∷ []) ++ lent_from (index + 1) entries
head_apart index None entries = refl
head_apart index (Some lending) entries = refl

-- The leaf at an entry changes, as leaves do that are changed at a part.
pub changed : (index at number : ℕ) (entries : List (Option Lending)) (lending : Lending) (entry : Option Lending)
    (part : Span) (change : List LentLeaf → List LentLeaf) → ActsAt part change → lending_at entries at ≡ Some lending
    → number ≡ index + at → part.start ≡ 128 * number
    → lent_from number (entry ∷ []) ≡ change (leaf_from number lending ∷ [])
    → lent_from index (slice_set entries at entry) ≡ change (lent_from index entries)
changed index at number [] lending entry part change acts there is starts now = absurd (cc)
changed index zero number (None ∷ entries) lending entry part change acts there is starts now = absurd (cc)
changed index zero number (Some other ∷ entries) lending entry part change acts there is starts now =
    head_apart index entry entries
    ∙ ap (λ xs. xs ++ lent_from (index + 1) entries)
    (subst (λ (n : ℕ). lent_from n (entry ∷ []) ≡ change (leaf_from n other ∷ [])) (omega (arith, is))
    (subst (λ (l : Option Lending). lent_from number (entry ∷ []) ≡ change (lent_from number (l ∷ []))) (sym there) now))
    ∙ ap (λ ys. change (leaf_from index other ∷ []) ++ ys)
    (sym (acts.others (lent_from (index + 1) entries)
    (all_weaker (λ leaf. 128 * (index + 1) ≤ leaf.start) (λ leaf. is_same part (span_of leaf) ≡ false)
    (λ leaf h. differs leaf.start part.start _ (omega (arith, h, starts, is))) (lent_from (index + 1) entries)
    (starts_from (index + 1) entries))))
    ∙ sym (acts.joined (leaf_from index other ∷ []) (lent_from (index + 1) entries))
changed index (suc at) number (None ∷ entries) lending entry part change acts there is starts now =
    changed (index + 1) at number entries lending entry part change acts there (omega (arith, is)) starts now
changed index (suc at) number (Some other ∷ entries) lending entry part change acts there is starts now =
    ap (λ rest. leaf_from index other ∷ rest)
    (changed (index + 1) at number entries lending entry part change acts there (omega (arith, is)) starts now)
    ∙ ap (λ xs. xs ++ change (lent_from (index + 1) entries))
    (sym (acts.others (leaf_from index other ∷ [])
    (differs_below (128 * index) part.start _ (omega (arith, is, starts)), tt)))
    ∙ sym (acts.joined (leaf_from index other ∷ []) (lent_from (index + 1) entries))

-- A lent part stands at the entry where it starts.
pub record Stands (index : ℕ) (entries : List (Option Lending)) (part : Span) : Type 0 where
  pub at : ℕ
  pub lending : Lending
  pub there : lending_at entries at ≡ Some lending
  pub starts : part.start ≡ 128 * (index + at)
  pub level : part.level ≡ lending.level
  pub within : at < length entries

both : (a b c d : ℕ) → ((a == b) && (c == d)) ≡ true → (b ≡ a) × (d ≡ c)
both a b c d e = (grind (arith, nat_tests), grind (arith, nat_tests))

pub stands : (index : ℕ) (entries : List (Option Lending)) (part : Span) → IsTrue (is_lent (lent_from index entries) part)
    → Stands index entries part
stands index [] part lent = absurd (cc)
stands index (None ∷ entries) part lent = let rest = stands (index + 1) entries part lent in record {
  at = suc rest.at;
  lending = rest.lending;
  there = rest.there;
  starts = omega (arith, rest.starts);
  level = rest.level;
  within = omega (arith, rest.within);
}
stands index (Some other ∷ entries) part lent =
    elim (is_same part (span_of (leaf_from index other))) as (λ b. is_same part (span_of (leaf_from index other)) ≡ b
    → (b || is_lent (lent_from (index + 1) entries) part) ≡ true → Stands index (Some other ∷ entries) part) [
      | true ↦ λ same e. let fields = both (128 * index) part.start other.level part.level same in record {
        at = zero;
        lending = other;
        there = refl;
        starts = omega (arith, fields.0);
        level = fields.1;
        within = omega arith;
      }
      | false ↦ λ same e. let rest = stands (index + 1) entries part e in record {
        at = suc rest.at;
        lending = rest.lending;
        there = rest.there;
        starts = omega (arith, rest.starts);
        level = rest.level;
        within = omega (arith, rest.within);
      }
    ] refl lent

itself : (a b : ℕ) (c : Bool) → (((a == a) && (b == b)) || c) ≡ true
itself a b c = grind (arith, nat_tests)

or_true : (b : Bool) → (b || true) ≡ true
or_true true = refl
or_true false = refl

-- What stands at an entry is lent.
pub is_there : (index at number : ℕ) (entries : List (Option Lending)) (lending : Lending)
    → lending_at entries at ≡ Some lending → number ≡ index + at
    → is_lent (lent_from index entries) (span_of (leaf_from number lending)) ≡ true
is_there index at number [] lending there is = absurd (cc)
is_there index zero number (None ∷ entries) lending there is = absurd (cc)
is_there index zero number (Some other ∷ entries) lending there is =
    subst (λ (n : ℕ). is_lent (leaf_from index other ∷ lent_from (index + 1) entries) (span_of (leaf_from n lending)) ≡ true)
    (omega (arith, is))
    (subst (λ (l : Option Lending). is_lent (leaf_from index other ∷ lent_from (index + 1) entries) (span_from index l) ≡ true)
    there (itself (128 * index) other.level _))
  where
    span_from : ℕ → Option Lending → Span
    span_from index None = record { start = 0; level = 0 }
    span_from index (Some l) = span_of (leaf_from index l)
is_there index (suc at) number (None ∷ entries) lending there is =
    is_there (index + 1) at number entries lending there (omega (arith, is))
is_there index (suc at) number (Some other ∷ entries) lending there is =
    ap (λ b. is_same (span_of (leaf_from number lending)) (span_of (leaf_from index other)) || b)
    (is_there (index + 1) at number entries lending there (omega (arith, is)))
    ∙ or_true (is_same (span_of (leaf_from number lending)) (span_of (leaf_from index other)))

one_lending : (a b : Lending) → Some a ≡ Some b → a ≡ b
one_lending a b e = cc

-- What holds of all leaves holds of the one at an entry.
all_at : (P : LentLeaf → Type 0) (index at number : ℕ) (entries : List (Option Lending)) (lending : Lending)
    → AllByRecursion P (lent_from index entries) → lending_at entries at ≡ Some lending → number ≡ index + at
    → P (leaf_from number lending)
all_at P index at number [] lending all there is = absurd (cc)
all_at P index zero number (None ∷ entries) lending all there is = absurd (cc)
all_at P index zero number (Some other ∷ entries) lending all there is =
    subst (λ (n : ℕ). P (leaf_from n lending)) (omega (arith, is))
    (subst (λ (l : Lending). P (leaf_from index l)) (one_lending other lending there) all.0)
all_at P index (suc at) number (None ∷ entries) lending all there is =
    all_at P (index + 1) at number entries lending all there (omega (arith, is))
all_at P index (suc at) number (Some other ∷ entries) lending all there is =
    all_at P (index + 1) at number entries lending all.1 there (omega (arith, is))

not_in : (a b c : ℕ) (d : Bool) → c ≤ b → (d && nat_lt b c) ≡ false
not_in a b c d h = grind (arith, nat_tests)

-- The leaf at an entry is the first that covers an offset in it.
pub found_there : (index at number offset : ℕ) (entries : List (Option Lending)) (lending : Lending)
    → AreInOrder (lent_from index entries) → lending_at entries at ≡ Some lending → number ≡ index + at
    → covers offset (span_of (leaf_from number lending)) ≡ true
    → find (λ leaf. covers offset (span_of leaf)) (lent_from index entries) ≡ Some (leaf_from number lending)
found_there index at number offset [] lending order there is within = absurd (cc)
found_there index zero number offset (None ∷ entries) lending order there is within = absurd (cc)
found_there index zero number offset (Some other ∷ entries) lending order there is within =
    let same : number ≡ index = omega (arith, is) in
    let own : other ≡ lending = one_lending other lending there in
    let covered : covers offset (span_of (leaf_from index other)) ≡ true =
    subst (λ (l : Lending). covers offset (span_of (leaf_from index l)) ≡ true) (sym own)
    (subst (λ (n : ℕ). covers offset (span_of (leaf_from n lending)) ≡ true) same within) in
    rw covered (ap Some (subst (λ (n : ℕ). leaf_from index other ≡ leaf_from n lending) (sym same)
    (ap (leaf_from index) own)))
found_there index (suc at) number offset (None ∷ entries) lending order there is within =
    found_there (index + 1) at number offset entries lending order there (omega (arith, is)) within
found_there index (suc at) number offset (Some other ∷ entries) lending order there is within =
    let later : 128 * index + size_of other.level ≤ 128 * number =
    all_at (λ leaf. 128 * index + size_of other.level ≤ leaf.start) (index + 1) at number entries lending order.0 there
    (omega (arith, is)) in
    rw (not_in (128 * index) offset (128 * index + size_of other.level) (nat_le (128 * index) offset)
    (omega (arith, later, from_covers (128 * number) offset _ within)))
    (found_there (index + 1) at number offset entries lending order.1 there (omega (arith, is)) within)
