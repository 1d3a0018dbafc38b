-- A leaf that is added to a tree is a loan that is added to the loans.
use Rattle.std.proofs.Common.{◌≡◌, ◌<◌, ◌≤◌, ℕ, ◌+◌, ◌-◌, ◌*◌, ◌/◌, ◌%◌, ◌^◌, mul_assoc, true, false, cond, List, []}
use Rattle.std.proofs.Common.{◌∷◌, ◌++◌, length, get_or, set, map, refl, sym, ap, ◌∙◌, arith, lt-ltb, le-ltb}
use Rattle.std.specs.Prelude.{nat_lt, Result, Ok, Err, OnOk}
use Rattle.std.specs.Result.{is_ok}
use Rattle.std.proofs.Math.Nat.{add-mul-mod_self_right, mod-add-div'}
use Rattle.std.specs.List.{AllByRecursion}
use Rattle.std.proofs.lemmas.Bool.Decides.{nat_tests}
use Rattle.ms_base.specs.declared.span.Chunk.{Chunk}
use Rattle.ms_base.specs.Level.{size_of, root_words}
use Rattle.ms_base.specs.Part.{IsPart}
use Rattle.ms_base.proofs.free.PartLemmas.{size_by_level}
use Rattle.ms_buddy.specs.Leaves.{LentLeaf, AreLeaves, leaf_of, span_at, with_leaf}
use Rattle.ms_buddy.proofs.TreeHalvesLemmas.{size_of-some}
use Rattle.ms_pool.specs.Ledger.{Loan, with_loan}
use Rattle.ms_pool.specs.Keeping.{loan_at, loans_from}
use Rattle.ms_pool.proofs.searches.RootLemmas.{EndsBy, StartsFrom, at_root}

past_before : (added : Loan) (before rest : List Loan) (end : ℕ) → AllByRecursion (EndsBy end) before
    → end ≤ added.chunk.start
    → with_loan added (before ++ rest) ≡ before ++ with_loan added rest
past_before added [] rest end all h = refl
past_before added (loan ∷ before) rest end all h =
    ap (λ b. cond b (loan ∷ with_loan added (before ++ rest)) (added ∷ loan ∷ (before ++ rest)))
    (lt-ltb loan.chunk.start added.chunk.start (omega (arith, all.0, h, size_of-some loan.chunk.level)))
    ∙ ap (λ l. loan ∷ l) (past_before added before rest end all.1 h)

first_after : (added : Loan) (after : List Loan) (start : ℕ) → AllByRecursion (StartsFrom start) after
    → added.chunk.start ≤ start
    → with_loan added after ≡ added ∷ after
first_after added [] start all h = refl
first_after added (loan ∷ after) start all h =
    ap (λ b. cond b (loan ∷ with_loan added after) (added ∷ loan ∷ after))
    (le-ltb loan.chunk.start added.chunk.start (omega (arith, all.0, h)))

moved_test : (a b w : ℕ) → nat_lt (a + w) (b + w) ≡ nat_lt a b
moved_test a b w = grind (arith, nat_tests)

among_own : (root : ℕ) (leaf : LentLeaf) (tree : List LentLeaf) (after : List Loan)
    → AllByRecursion (StartsFrom ((root + 1) * root_words)) after → leaf.start < root_words
    → with_loan (loan_at root leaf) (map (loan_at root) tree ++ after)
    ≡ map (loan_at root) (with_leaf leaf tree) ++ after
among_own root leaf [] after high h =
    first_after (loan_at root leaf) after ((root + 1) * root_words) high (omega (arith, h))
among_own root leaf (x ∷ tree) after high h =
    ap (λ b. cond b (loan_at root x ∷ with_loan (loan_at root leaf) (map (loan_at root) tree ++ after))
    (loan_at root leaf ∷ loan_at root x ∷ (map (loan_at root) tree ++ after)))
    (moved_test x.start leaf.start (root * root_words))
    ∙ elim (nat_lt x.start leaf.start) as (λ b. cond b
    (loan_at root x ∷ with_loan (loan_at root leaf) (map (loan_at root) tree ++ after))
    (loan_at root leaf ∷ loan_at root x ∷ (map (loan_at root) tree ++ after))
    ≡ map (loan_at root) (cond b (x ∷ with_leaf leaf tree) (leaf ∷ x ∷ tree)) ++ after) [
      | true ↦ ap (λ l. loan_at root x ∷ l) (among_own root leaf tree after high h)
      | false ↦ refl
    ]

pub loans_with_leaf : (trees : List (List LentLeaf)) (root : ℕ) (leaf : LentLeaf) → root < length trees
    → AllByRecursion AreLeaves trees → leaf.start < root_words
    → loans_from 0 (set trees root (with_leaf leaf (get_or trees root [])))
    ≡ with_loan (loan_at root leaf) (loans_from 0 trees)
loans_with_leaf trees root leaf within all h =
    let cut = at_root trees 0 root root (omega arith) within all in
    cut.changed (with_leaf leaf (get_or trees root []))
    ∙ ap (λ l. cut.before ++ l) (sym (among_own root leaf (get_or trees root []) cut.after cut.high h))
    ∙ sym (past_before (loan_at root leaf) cut.before (map (loan_at root) (get_or trees root []) ++ cut.after)
    (root * root_words) cut.low (omega arith))
    ∙ ap (with_loan (loan_at root leaf)) (sym cut.whole)

-- A part's offset in its root is a multiple of its size.
pub offset_is_whole : (start level : ℕ) → IsPart start level → start % root_words % size_of level ≡ 0
offset_is_whole start level part =
    sym (add-mul-mod_self_right (start % root_words) (start / root_words * 2 ^ (level - 0)) (size_of level))
    ∙ ap (λ n. n % size_of level)
    (ap (λ t. start % root_words + t)
    (mul_assoc (start / root_words) (2 ^ (level - 0)) (size_of level)
    ∙ ap (λ w. start / root_words * w) (sym (size_by_level 0 level (omega arith) part.0)))
    ∙ mod-add-div' start root_words)
    ∙ part.1

-- The chunk of a leaf at its offset, in the tree of its root.
pub leaf_is_loan : (owner : ℕ) (chunk : Chunk)
    → loan_at (chunk.start / root_words) (leaf_of (span_at (chunk.start % root_words) chunk.level) owner chunk.front)
    ≡ record { owner = owner; chunk = chunk }
leaf_is_loan owner chunk = ap made (mod-add-div' chunk.start root_words)
  where
    made : ℕ → Loan
    made start = record { owner = owner; chunk = record { start = start; level = chunk.level; front = chunk.front } }

-- What holds on success.
pub where_ok : {T E : Type 0} (r : Result T E) (P : Type 0) → is_ok r ≡ true → OnOk r P → P
where_ok (Ok x) P ok h = h
where_ok (Err e) P ok h = absurd (cc)
