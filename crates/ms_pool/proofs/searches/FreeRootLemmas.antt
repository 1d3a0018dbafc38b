-- The free parts of a root, from the leaves of its own tree: no loan of another root meets it.
use Rattle.std.proofs.Common.{◌≡◌, ◌<◌, ◌≤◌, ℕ, zero, suc, ◌+◌, ◌*◌, true, false, cond, ◌||◌, List, [], ◌∷◌, ◌++◌}
use Rattle.std.proofs.Common.{length, get_or, map, refl, sym, ap, subst, ◌∙◌, arith}
use Rattle.std.specs.List.{AllByRecursion, filter}
use Rattle.std.proofs.lemmas.Bool.Decides.{nat_tests}
use Rattle.std.proofs.lemmas.List.{map-append}
use Rattle.std.proofs.lemmas.List.Elements.{filter-append}
use Rattle.ms_base.specs.declared.kind.Space.{Space}
use Rattle.ms_base.specs.declared.span.Chunk.{Chunk}
use Rattle.ms_base.specs.Interval.{meet}
use Rattle.ms_base.specs.Level.{size_of, root_words, highest_level}
use Rattle.ms_base.specs.Held.{meets_chunk}
use Rattle.ms_base.specs.Spaces.{is_in}
use Rattle.ms_base.specs.FreeParts.{free_within}
use Rattle.ms_base.proofs.free.MovedLemmas.{AgreeInRoot, agree_among_others, free_where_agree}
use Rattle.ms_base.proofs.free.MovedLemmas.{raised_chunk, raised_part}
use Rattle.ms_buddy.specs.Leaves.{LentLeaf, AreLeaves, chunk_of, free_of}
use Rattle.ms_buddy.proofs.TreeHalvesLemmas.{size_of-some}
use Rattle.ms_pool.specs.Ledger.{Loan}
use Rattle.ms_pool.specs.Keeping.{loan_at, loans_from}
use Rattle.ms_pool.proofs.searches.RootLemmas.{AtRoot, EndsBy, StartsFrom, at_root}

abbrev pub chunks_there : Space → List Loan → List Chunk
chunks_there space loans = filter (λ chunk. is_in space chunk.start) (map (λ (loan : Loan). loan.chunk) loans)

pub chunks_there-append : (space : Space) (b a : List Loan)
    → chunks_there space (b ++ a) ≡ chunks_there space b ++ chunks_there space a
chunks_there-append space b a =
    ap (filter (λ (chunk : Chunk). is_in space chunk.start)) (map-append (λ (loan : Loan). loan.chunk) b a)
    ∙ filter-append (λ (chunk : Chunk). is_in space chunk.start) (map (λ (loan : Loan). loan.chunk) b)
    (map (λ (loan : Loan). loan.chunk) a)

-- Loans before or after a root don't meet it.
ends_before : (a s b t : ℕ) → a + s ≤ b → meet a s b t ≡ false
ends_before a s b t h = grind (arith, nat_tests)

starts_after : (a s b t : ℕ) → b + t ≤ a → meet a s b t ≡ false
starts_after a s b t h = grind (arith, nat_tests)

clear_before : (space : Space) (at_ : ℕ) (loans : List Loan) → AllByRecursion (EndsBy at_) loans
    → meets_chunk (chunks_there space loans) at_ 0 ≡ false
clear_before space at_ [] all = refl
clear_before space at_ (loan ∷ loans) all =
    elim (is_in space loan.chunk.start) as (λ b. meets_chunk
    (cond b (loan.chunk ∷ chunks_there space loans) (chunks_there space loans)) at_ 0 ≡ false) [
      | true ↦ ap (λ b. b || meets_chunk (chunks_there space loans) at_ 0)
          (ends_before loan.chunk.start (size_of loan.chunk.level) at_ (size_of 0) all.0)
          ∙ clear_before space at_ loans all.1
      | false ↦ clear_before space at_ loans all.1
    ]

clear_after : (space : Space) (at_ : ℕ) (loans : List Loan) → AllByRecursion (StartsFrom (at_ + size_of 0)) loans
    → meets_chunk (chunks_there space loans) at_ 0 ≡ false
clear_after space at_ [] all = refl
clear_after space at_ (loan ∷ loans) all =
    elim (is_in space loan.chunk.start) as (λ b. meets_chunk
    (cond b (loan.chunk ∷ chunks_there space loans) (chunks_there space loans)) at_ 0 ≡ false) [
      | true ↦ ap (λ b. b || meets_chunk (chunks_there space loans) at_ 0)
          (starts_after loan.chunk.start (size_of loan.chunk.level) at_ (size_of 0) all.0)
          ∙ clear_after space at_ loans all.1
      | false ↦ clear_after space at_ loans all.1
    ]

-- The loans of a root of a space all lie there.
abbrev pub IsRootIn : Space → ℕ → Type 0
IsRootIn space root = (offset : ℕ) → offset < root_words → is_in space (offset + root * root_words) ≡ true

pub own_there : (space : Space) (root : ℕ) (leaves : List LentLeaf) → IsRootIn space root
    → AllByRecursion (λ leaf. leaf.start + size_of leaf.level ≤ root_words) leaves
    → chunks_there space (map (loan_at root) leaves) ≡ map (raised_chunk (root * root_words)) (map chunk_of leaves)
own_there space root [] inside all = refl
own_there space root (leaf ∷ leaves) inside all =
    ap (λ b. cond b ((loan_at root leaf).chunk ∷ chunks_there space (map (loan_at root) leaves))
    (chunks_there space (map (loan_at root) leaves)))
    (inside leaf.start (omega (arith, all.0, size_of-some leaf.level)))
    ∙ ap (λ (l : List Chunk). (loan_at root leaf).chunk ∷ l) (own_there space root leaves inside all.1)

pub at_tree : (trees : List (List LentLeaf)) (i : ℕ) → i < length trees → AllByRecursion AreLeaves trees
    → AreLeaves (get_or trees i [])
at_tree [] i within all = absurd (omega arith)
at_tree (t ∷ trees) zero within all = all.0
at_tree (t ∷ trees) (suc i) within all = at_tree trees i (omega arith) all.1

-- So what the loans of a space meet in it is what the leaves of its tree meet.
pub agree_in_root : (space : Space) (trees : List (List LentLeaf)) (root : ℕ) → root < length trees
    → AllByRecursion AreLeaves trees → IsRootIn space root
    → AgreeInRoot (chunks_there space (loans_from 0 trees)) (map chunk_of (get_or trees root [])) (root * root_words)
agree_in_root space trees root within all inside =
    subst (λ (l : List Chunk). AgreeInRoot l (map chunk_of tree) (root * root_words)) (sym whole)
    (agree_among_others (chunks_there space cut.before) (map chunk_of tree) (chunks_there space cut.after)
    (root * root_words)
    (clear_before space (root * root_words) cut.before cut.low)
    (clear_after space (root * root_words) cut.after (wider cut.after cut.high)))
  where
    cut : AtRoot trees 0 root root
    cut = at_root trees 0 root root (omega arith) within all

    tree : List LentLeaf
    tree = get_or trees root []

    whole : chunks_there space (loans_from 0 trees)
        ≡ chunks_there space cut.before
        ++ (map (raised_chunk (root * root_words)) (map chunk_of tree) ++ chunks_there space cut.after)
    whole =
        ap (chunks_there space) cut.whole
        ∙ chunks_there-append space cut.before (map (loan_at root) tree ++ cut.after)
        ∙ ap (λ (l : List Chunk). chunks_there space cut.before ++ l)
        (chunks_there-append space (map (loan_at root) tree) cut.after
        ∙ ap (λ (l : List Chunk). l ++ chunks_there space cut.after)
        (own_there space root tree inside (at_tree trees root within all).in_root))

    wider : (loans : List Loan) → AllByRecursion (StartsFrom ((root + 1) * root_words)) loans
        → AllByRecursion (StartsFrom (root * root_words + size_of 0)) loans
    wider [] all = all
    wider (loan ∷ loans) all = (omega (arith, all.0), wider loans all.1)

-- And its free parts are the free leaves of its tree, moved up.
pub free_in_root : (space : Space) (trees : List (List LentLeaf)) (root : ℕ) → root < length trees
    → AllByRecursion AreLeaves trees → IsRootIn space root
    → free_within (chunks_there space (loans_from 0 trees)) highest_level (root * root_words)
    ≡ map (raised_part (root * root_words)) (free_of (get_or trees root []))
unfolding free_of
free_in_root space trees root within all inside =
    free_where_agree (chunks_there space (loans_from 0 trees)) (map chunk_of (get_or trees root [])) (root * root_words)
    (agree_in_root space trees root within all inside)
