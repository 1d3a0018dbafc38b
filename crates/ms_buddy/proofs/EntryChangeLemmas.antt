-- What is lent once a part's entry changes: lent, given back, with another front, or its parent. The
-- calls of a tree that change use these.
use Rattle.std.proofs.Common.{◌≡◌, ◌<◌, ℕ, zero, suc, ◌*◌, ◌-◌, ◌/◌, true, List, [], ◌∷◌, Option}
use Rattle.std.proofs.Common.{Some, None, length, refl, sym, ap, subst, ◌∙◌, arith}
use Rattle.std.specs.Prelude.{◌==◌, ◌&&◌, slice_set, IsTrue}
use Rattle.std.specs.List.{list_any}
use Rattle.std.proofs.lemmas.Bool.Decides.{nat_tests}
use Rattle.ms_base.specs.declared.span.Span.{Span}
use Rattle.ms_buddy.specs.declared.entries.Lending.{Lending}
use Rattle.ms_buddy.specs.Counts.{holder_of}
use Rattle.ms_buddy.specs.Leaves.{LentLeaf, is_lent, is_same, leaf_of, span_at, span_of, with_front, with_leaf}
use Rattle.ms_buddy.specs.Leaves.{with_parent, without_leaf}
use Rattle.ms_buddy.specs.Entries.{leaf_from, lending_at, lent_from}
use Rattle.ms_buddy.specs.Tree.{Node, free_in, lent_in}
use Rattle.ms_buddy.proofs.searches.CoverLemmas.{same}
use Rattle.ms_buddy.proofs.EntryLemmas.{added, changed, stands}
use Rattle.ms_buddy.proofs.SplitLemmas.{ActsAt, front_acts, parent_acts, without_acts}
use Rattle.ms_buddy.proofs.CallLemmas.{at_entry, IsAsked, none_there}

-- What is lent once the part is put in its place.
pub carve_put : (node : Node) (words : List ℕ) (part : Span) (free : ℕ) (entries : List (Option Lending)) (lending : Lending)
    → IsAsked node words part → lent_in 0 0 node ≡ lent_from 0 entries → part.start / 128 < length entries
    → list_any (is_same (holder_of free part)) (free_in 0 0 node) ≡ true → lending.level ≡ part.level
    → lent_from 0 (slice_set entries (part.start / 128) (Some lending))
    ≡ with_leaf (leaf_of part lending.owner lending.front) (lent_from 0 entries)
carve_put node words part free entries lending is same within any level =
    added 0 (part.start / 128) (part.start / 128) entries lending within
    (none_there node words part free entries is same any) (omega arith)
    ∙ ap (λ (leaf : LentLeaf). with_leaf leaf (lent_from 0 entries))
    (leaf_is (128 * (part.start / 128)) lending.level part.start part.level
    (at_entry part.level part.start is.low is.aligned) level)
  where
    leaf_is : (a b c d : ℕ) → a ≡ c → b ≡ d
        → leaf_of (span_at a b) lending.owner lending.front ≡ leaf_of (span_at c d) lending.owner lending.front
    leaf_is a b c d e f = rw (e, f) refl

-- A lent part at its entry.
pub record AtEntry (entries : List (Option Lending)) (part : Span) : Type 0 where
  pub lending : Lending
  pub there : lending_at entries (part.start / 128) ≡ Some lending
  pub starts : part.start ≡ 128 * (part.start / 128)
  pub level : part.level ≡ lending.level
  pub within : part.start / 128 < length entries

pub at_its_entry : (entries : List (Option Lending)) (part : Span) → IsTrue (is_lent (lent_from 0 entries) part)
    → AtEntry entries part
at_its_entry entries part lent = let s = stands 0 entries part lent in
    let at : s.at ≡ part.start / 128 = omega (arith, s.starts) in record {
      lending = s.lending;
      there = subst (λ (n : ℕ). lending_at entries n ≡ Some s.lending) at s.there;
      starts = omega (arith, s.starts);
      level = s.level;
      within = omega (arith, s.within, at);
    }

-- What is lent once what stands at its entry is another.
pub put_at : (entries : List (Option Lending)) (part : Span) (entry : Option Lending)
    (change : List LentLeaf → List LentLeaf) → ActsAt part change → (a : AtEntry entries part)
    → lent_from (part.start / 128) (entry ∷ []) ≡ change (leaf_from (part.start / 128) a.lending ∷ [])
    → lent_from 0 (slice_set entries (part.start / 128) entry) ≡ change (lent_from 0 entries)
put_at entries part entry change acts a now =
    changed 0 (part.start / 128) (part.start / 128) entries a.lending entry part change acts a.there (omega arith) a.starts now

same_entry : (entries : List (Option Lending)) (part : Span) (a : AtEntry entries part)
    → is_same part (span_of (leaf_from (part.start / 128) a.lending)) ≡ true
same_entry entries part a =
    equal (128 * (part.start / 128)) part.start a.lending.level part.level (sym a.starts) (sym a.level)
  where
    equal : (a b c d : ℕ) → a ≡ b → c ≡ d → ((a == b) && (c == d)) ≡ true
    equal a b c d e f = grind (arith, nat_tests)

pub release_put : (entries : List (Option Lending)) (part : Span) → AtEntry entries part
    → lent_from 0 (slice_set entries (part.start / 128) None) ≡ without_leaf part (lent_from 0 entries)
release_put entries part a =
    put_at entries part None (without_leaf part) (without_acts part) a (rw (same_entry entries part a) refl)

pub front_put : (entries : List (Option Lending)) (part : Span) (front : ℕ) (a : AtEntry entries part)
    → lent_from 0 (slice_set entries (part.start / 128)
    (Some (record { level = part.level; owner = a.lending.owner; front = front })))
    ≡ with_front part front (lent_from 0 entries)
front_put entries part front a =
    put_at entries part (Some (record { level = part.level; owner = a.lending.owner; front = front })) (with_front part front)
    (front_acts part front) a (rw (same_entry entries part a)
    (ap (λ (n : ℕ). leaf_of (span_at (128 * (part.start / 128)) n) a.lending.owner front ∷ [])
    a.level))

pub parent_put : (entries : List (Option Lending)) (part : Span) (front level : ℕ) (a : AtEntry entries part)
    → level ≡ part.level - 1
    → lent_from 0 (slice_set entries (part.start / 128)
    (Some (record { level = level; owner = a.lending.owner; front = front })))
    ≡ with_parent part front (lent_from 0 entries)
parent_put entries part front level a e =
    put_at entries part (Some (record { level = level; owner = a.lending.owner; front = front })) (with_parent part front)
    (parent_acts part front) a (rw (same_entry entries part a)
    (ap (λ (n : ℕ). leaf_of (span_at (128 * (part.start / 128)) n) a.lending.owner front ∷ [])
    (omega (arith, e, a.level))))

-- A list is as long once an element is another.
pub same_length : (entries : List (Option Lending)) (at : ℕ) (entry : Option Lending)
    → length (slice_set entries at entry) ≡ length entries
same_length [] at entry = refl
same_length (first ∷ entries) zero entry = refl
same_length (first ∷ entries) (suc at) entry = ap suc (same_length entries at entry)
