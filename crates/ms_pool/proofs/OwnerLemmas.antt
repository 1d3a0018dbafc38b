-- To whom a word is lent: of all loans only those of the word's own root can have it, and of these
-- one has it where a lent leaf covers its offset. `holder` uses this.
use Rattle.std.proofs.Common.{◌≡◌, ◌≤◌, ◌<◌, ℕ, zero, suc, ◌+◌, ◌*◌, ◌/◌, ◌%◌, Bool, true, false, cond, Some, None, Option}
use Rattle.std.proofs.Common.{List, [], ◌∷◌, get_or, length, map, refl, ap, ◌∙◌, arith}
use Rattle.std.specs.Prelude.{nat_le, nat_lt, ◌&&◌}
use Rattle.std.specs.List.{AllByRecursion, find}
use Rattle.std.specs.Option.{option_map, option_or}
use Rattle.std.proofs.lemmas.Bool.{or_parts}
use Rattle.std.proofs.lemmas.Bool.Decides.{nat_tests}
use Rattle.std.proofs.lemmas.List.Folds.{find-append}
use Rattle.ms_base.specs.declared.span.Span.{Span}
use Rattle.ms_base.specs.Interval.{meet}
use Rattle.ms_base.specs.Level.{size_of, root_words}
use Rattle.ms_base.specs.Held.{meets_chunk}
use Rattle.ms_buddy.specs.Leaves.{LentLeaf, AreLeaves, IsLeafAt, chunk_of, covers, free_of, span_of}
use Rattle.ms_buddy.specs.declared.leaf.Leaf.{Leaf}
use Rattle.ms_buddy.specs.declared.leaf.Leaf.TheVariants.{Free, Lent}
use Rattle.ms_buddy.proofs.WalkLemmas.{NonePass, find-none}
use Rattle.ms_pool.specs.Ledger.{Loan}
use Rattle.ms_pool.specs.Keeping.{loan_at, loans_from}
use Rattle.ms_pool.specs.Owners.{is_in_loan, owner_at}
use Rattle.ms_pool.proofs.searches.CoveringLemmas.{covers_both, free_is_clear}
use Rattle.ms_pool.proofs.searches.RootLemmas.{EndsBy, StartsFrom, ends_in_root, starts_from_first}

-- A run that ends by the word, or starts past it, doesn't have it.
ends_before : (start size word : ℕ) → start + size ≤ word → meet start size word 1 ≡ false
ends_before start size word h = grind (arith, nat_tests)

starts_after : (start size word : ℕ) → word < start → meet start size word 1 ≡ false
starts_after start size word h = grind (arith, nat_tests)

none_ends : (end word : ℕ) (loans : List Loan) → end ≤ word → AllByRecursion (EndsBy end) loans
    → NonePass (is_in_loan word) loans
none_ends end word [] h all = tt
none_ends end word (loan ∷ loans) h all =
    (ends_before loan.chunk.start (size_of loan.chunk.level) word (omega (arith, all.0)), none_ends end word loans h all.1)

none_starts : (start word : ℕ) (loans : List Loan) → word < start → AllByRecursion (StartsFrom start) loans
    → NonePass (is_in_loan word) loans
none_starts start word [] h all = tt
none_starts start word (loan ∷ loans) h all = (
  starts_after loan.chunk.start (size_of loan.chunk.level) word (omega (arith, all.0)),
  none_starts start word loans h all.1,
)

-- A leaf covers the offset of a word.
abbrev covers_it : ℕ → LentLeaf → Bool
covers_it offset leaf = covers offset (span_of leaf)

same_test : (start size base offset word : ℕ) → word ≡ base + offset
    → meet (start + base) size word 1 ≡ (nat_le start offset && nat_lt offset (start + size))
same_test start size base offset word e = grind (arith, nat_tests)

-- Of a root's own loans that one has the word whose leaf covers its offset.
own_loan : (root word offset : ℕ) (leaves : List LentLeaf) → word ≡ root * root_words + offset
    → find (is_in_loan word) (map (loan_at root) leaves) ≡ option_map (loan_at root) (find (covers_it offset) leaves)
own_loan root word offset [] e = refl
own_loan root word offset (leaf ∷ leaves) e =
    ap (λ (b : Bool). cond b (Some (loan_at root leaf)) (find (is_in_loan word) (map (loan_at root) leaves)))
    (same_test leaf.start (size_of leaf.level) (root * root_words) offset word e)
    ∙ elim (covers_it offset leaf) as (λ b. cond b (Some (loan_at root leaf))
    (find (is_in_loan word) (map (loan_at root) leaves))
    ≡ option_map (loan_at root) (cond b (Some leaf) (find (covers_it offset) leaves))) [
      | true ↦ refl
      | false ↦ own_loan root word offset leaves e
    ]

or_none : {X : Type 0} (o p : Option X) → p ≡ None → option_or o p ≡ o
or_none None p e = e
or_none (Some x) p e = refl

-- So of all loans.
loan_there : (trees : List (List LentLeaf)) (first i root word offset : ℕ) → first + i ≡ root
    → word ≡ root * root_words + offset → offset < root_words → AllByRecursion AreLeaves trees
    → find (is_in_loan word) (loans_from first trees)
    ≡ option_map (loan_at root) (find (covers_it offset) (get_or trees i []))
loan_there [] first i root word offset at e low all = refl
loan_there (tree ∷ trees) first zero root word offset at e low all =
    let same : first ≡ root = omega (arith, at) in
    find-append (is_in_loan word) (map (loan_at first) tree) (loans_from (first + 1) trees)
    ∙ or_none (find (is_in_loan word) (map (loan_at first) tree)) (find (is_in_loan word) (loans_from (first + 1) trees))
    (find-none (is_in_loan word) (loans_from (first + 1) trees)
    (none_starts ((first + 1) * root_words) word (loans_from (first + 1) trees) (omega (arith, e, low, same))
    (starts_from_first (first + 1) trees)))
    ∙ ap (λ (r : ℕ). find (is_in_loan word) (map (loan_at r) tree)) same
    ∙ own_loan root word offset tree e
loan_there (tree ∷ trees) first (suc i) root word offset at e low all =
    find-append (is_in_loan word) (map (loan_at first) tree) (loans_from (first + 1) trees)
    ∙ ap (λ (o : Option Loan). option_or o (find (is_in_loan word) (loans_from (first + 1) trees)))
    (find-none (is_in_loan word) (map (loan_at first) tree)
    (none_ends ((first + 1) * root_words) word (map (loan_at first) tree) (omega (arith, e, at))
    (ends_in_root first tree all.0.in_root)))
    ∙ loan_there trees (first + 1) i root word offset (omega (arith, at)) e low all.1

-- Where a free leaf covers the offset, no lent one does.
covers_meets : (start size from words offset : ℕ) → from ≤ offset → offset < from + words
    → meet start size from words ≡ false → (nat_le start offset && nat_lt offset (start + size)) ≡ false
covers_meets start size from words offset h k clear = grind (arith, nat_tests, clear)

none_covers : (leaves : List LentLeaf) (offset : ℕ) (part : Span) → part.start ≤ offset
    → offset < part.start + size_of part.level → meets_chunk (map chunk_of leaves) part.start part.level ≡ false
    → NonePass (covers_it offset) leaves
none_covers [] offset part h k clear = tt
none_covers (leaf ∷ leaves) offset part h k clear =
    let both =
    or_parts (meet leaf.start (size_of leaf.level) part.start (size_of part.level))
    (meets_chunk (map chunk_of leaves) part.start part.level) clear in (
      covers_meets leaf.start (size_of leaf.level) part.start (size_of part.level) offset h k both.0,
      none_covers leaves offset part h k both.1,
    )

-- What the leaf at the offset tells.
abbrev pub owner_told : Leaf → Option ℕ
owner_told Free = None
owner_told (Lent owner front) = Some owner

told_by_leaf : (leaf : Leaf) (leaves : List LentLeaf) (root offset : ℕ) (part : Span) → covers offset part ≡ true
    → IsLeafAt offset part leaf leaves (free_of leaves)
    → option_map (λ (loan : Loan). loan.owner) (option_map (loan_at root) (find (covers_it offset) leaves))
    ≡ owner_told leaf
told_by_leaf Free leaves root offset part it at =
    let within = covers_both offset part it in
    ap (λ (o : Option LentLeaf). option_map (λ (loan : Loan). loan.owner) (option_map (loan_at root) o))
    (find-none (covers_it offset) leaves
    (none_covers leaves offset part within.0 within.1 (free_is_clear leaves offset part at)))
told_by_leaf (Lent owner front) leaves root offset part it at =
    ap (λ (o : Option LentLeaf). option_map (λ (loan : Loan). loan.owner) (option_map (loan_at root) o)) at

-- The owner of a word of a root that has a tree.
pub owner_in_root : (trees : List (List LentLeaf)) (word : ℕ) (leaf : Leaf) (part : Span)
    → AllByRecursion AreLeaves trees → covers (word % root_words) part ≡ true
    → IsLeafAt (word % root_words) part leaf (get_or trees (word / root_words) [])
    (free_of (get_or trees (word / root_words) []))
    → owner_at (loans_from 0 trees) word ≡ owner_told leaf
owner_in_root trees word leaf part all it at =
    ap (option_map (λ (loan : Loan). loan.owner))
    (loan_there trees 0 (word / root_words) (word / root_words) word (word % root_words) (omega arith) (omega arith)
    (omega arith) all)
    ∙ told_by_leaf leaf (get_or trees (word / root_words) []) (word / root_words) (word % root_words) part it at

-- A word past all roots has no owner.
none_at : (trees : List (List LentLeaf)) (i : ℕ) → length trees ≤ i → get_or trees i [] ≡ []
none_at [] i h = refl
none_at (tree ∷ trees) zero h = absurd (omega (arith, h))
none_at (tree ∷ trees) (suc i) h = none_at trees i (omega (arith, h))

pub no_owner_past : (trees : List (List LentLeaf)) (word : ℕ) → AllByRecursion AreLeaves trees
    → length trees ≤ word / root_words → owner_at (loans_from 0 trees) word ≡ None
no_owner_past trees word all past =
    ap (option_map (λ (loan : Loan). loan.owner))
    (loan_there trees 0 (word / root_words) (word / root_words) word (word % root_words) (omega arith) (omega arith)
    (omega arith) all)
    ∙ ap (λ (leaves : List LentLeaf). option_map (λ (loan : Loan). loan.owner)
    (option_map (loan_at (word / root_words)) (find (covers_it (word % root_words)) leaves)))
    (none_at trees (word / root_words) past)
