-- Blocks in the order of best fit: where a block goes, and which one fits first, in a list that is
-- joined of a tree's left side, its block in the middle, and its right side. Used by the tree's
-- functions.
use Rattle.std.proofs.Common.{◌≡◌, ◌≢◌, ℕ, ◌<◌, ◌≤◌, true, false, List, [], ◌∷◌, ◌++◌, Option, Some, None, refl, ap}
use Rattle.std.proofs.Common.{sym, ◌∙◌, ◌+◌, arith, length}
use Rattle.std.specs.Prelude.{nat_le, if◌then◌else◌}
use Rattle.std.specs.List.{AllByRecursion}
use Rattle.std.proofs.lemmas.List.{append-nil}
use Rattle.std.proofs.lemmas.Bool.{le-leb, lt-leb}
use Rattle.std.proofs.lemmas.Bool.Decides.{nat_tests}
use Rattle.ms_base.specs.declared.span.Block.{Block}
use Rattle.ms_blocks.specs.Rank.{ranks_before, IsRanked, with_ranked, first_fit, without_fit}

-- The order is transitive.
pub ranks_on : (a b c : Block) → ranks_before a b ≡ true → ranks_before b c ≡ true → ranks_before a c ≡ true
ranks_on a b c h k = grind (arith, nat_tests)

-- What ranks before has no more words.
pub words_rise : (a b : Block) → ranks_before a b ≡ true → a.words ≤ b.words
words_rise a b h = grind (arith, nat_tests)

-- What holds of all holds of the first ones, and what follows of each follows of all.
pub all_so : {X : Type 0} (P Q : X → Type 0) (xs : List X) → ((x : X) → P x → Q x) → AllByRecursion P xs
    → AllByRecursion Q xs
all_so P Q [] so all = tt
all_so P Q (x ∷ xs) so all = (so x all.0, all_so P Q xs so all.1)

pub all_left : (P : Block → Type 0) (left right : List Block) → AllByRecursion P (left ++ right) → AllByRecursion P left
all_left P [] right h = tt
all_left P (other ∷ left) right h = (h.0, all_left P left right h.1)

-- The parts of a ranked list around one of its blocks are ranked.
pub ranked_left : (left right : List Block) (middle : Block) → IsRanked (left ++ middle ∷ right) → IsRanked left
ranked_left [] right middle h = tt
ranked_left (other ∷ left) right middle h = (all_left _ left (middle ∷ right) h.0, ranked_left left right middle h.1)

pub ranked_right : (left right : List Block) (middle : Block) → IsRanked (left ++ middle ∷ right) → IsRanked right
ranked_right [] right middle h = h.1
ranked_right (other ∷ left) right middle h = ranked_right left right middle h.1

-- What holds of all holds of the middle.
of_middle : (P : Block → Type 0) (left right : List Block) (middle : Block) → AllByRecursion P (left ++ middle ∷ right)
    → P middle
of_middle P [] right middle h = h.0
of_middle P (other ∷ left) right middle h = of_middle P left right middle h.1

-- A block goes to the right of a middle that ranks before it, and else to the left.
pub with_ranked-right : (left right : List Block) (middle block : Block) → IsRanked (left ++ middle ∷ right)
    → ranks_before middle block ≡ true
    → with_ranked (left ++ middle ∷ right) block ≡ left ++ middle ∷ with_ranked right block
with_ranked-right [] right middle block h before = rw before refl
with_ranked-right (other ∷ left) right middle block h before =
    let past : ranks_before other block ≡ true = ranks_on other middle block
    (of_middle (λ later. ranks_before other later ≡ true) left right middle h.0) before in
    rw past (ap (λ blocks. other ∷ blocks) (with_ranked-right left right middle block h.1 before))

pub with_ranked-left : (left right : List Block) (middle block : Block) → ranks_before middle block ≡ false
    → with_ranked (left ++ middle ∷ right) block ≡ with_ranked left block ++ middle ∷ right
with_ranked-left [] right middle block behind = rw behind refl
with_ranked-left (other ∷ left) right middle block behind =
    elim (ranks_before other block) as (λ b. (if b then other ∷ with_ranked
    (left ++ middle ∷ right) block else block ∷ other ∷ (left ++ middle ∷ right)) ≡
    (if b then other ∷ with_ranked left block else block ∷ other ∷ left) ++ middle ∷ right) [
      | true ↦ ap (λ blocks. other ∷ blocks) (with_ranked-left left right middle block behind)
      | false ↦ refl
    ]

-- Where the middle is too small, so is all to its left.
left_too_small : (left right : List Block) (middle other : Block) (words : ℕ)
    → AllByRecursion (λ later. ranks_before other later ≡ true) (left ++ middle ∷ right) → middle.words < words
    → nat_le words other.words ≡ false
left_too_small left right middle other words h few =
    let rise : other.words ≤ middle.words = words_rise other middle
    (of_middle (λ later. ranks_before other later ≡ true) left right middle h) in
    lt-leb words other.words (omega arith)

pub first_fit-right : (left right : List Block) (middle : Block) (words : ℕ) → IsRanked (left ++ middle ∷ right)
    → middle.words < words
    → first_fit (left ++ middle ∷ right) words ≡ first_fit right words
first_fit-right [] right middle words h few = rw (lt-leb words middle.words few) refl
first_fit-right (other ∷ left) right middle words h few = rw (left_too_small left right middle other words h.0 few)
    (first_fit-right left right middle words h.1 few)

pub without_fit-right : (left right : List Block) (middle : Block) (words : ℕ) → IsRanked (left ++ middle ∷ right)
    → middle.words < words
    → without_fit (left ++ middle ∷ right) words ≡ left ++ middle ∷ without_fit right words
without_fit-right [] right middle words h few = rw (lt-leb words middle.words few) refl
without_fit-right (other ∷ left) right middle words h few =
    rw (left_too_small left right middle other words h.0 few)
    (ap (λ blocks. other ∷ blocks) (without_fit-right left right middle words h.1 few))

-- What fits first to the left fits first of all.
pub first_fit-left : (left rest : List Block) (words : ℕ) (found : Block) → first_fit left words ≡ Some found
    → first_fit (left ++ rest) words ≡ Some found
first_fit-left [] rest words found e = absurd (cc)
first_fit-left (other ∷ left) rest words found e =
    elim (nat_le words other.words) as (λ b. (if b then Some other else first_fit left words) ≡ Some found
    → (if b then Some other else first_fit (left ++ rest) words) ≡ Some found) [
      | true ↦ λ e. e
      | false ↦ λ e. first_fit-left left rest words found e
    ] e

pub without_fit-left : (left rest : List Block) (words : ℕ) (found : Block) → first_fit left words ≡ Some found
    → without_fit (left ++ rest) words ≡ without_fit left words ++ rest
without_fit-left [] rest words found e = absurd (cc)
without_fit-left (other ∷ left) rest words found e =
    elim (nat_le words other.words) as (λ b. (if b then Some other else first_fit left words) ≡ Some found
    → (if b then left ++ rest else other ∷ without_fit (left ++ rest) words) ≡
    (if b then left else other ∷ without_fit left words) ++ rest) [
      | true ↦ λ e. refl
      | false ↦ λ e. ap (λ blocks. other ∷ blocks) (without_fit-left left rest words found e)
    ] e

-- What doesn't fit is passed over.
pub first_fit-past : (left rest : List Block) (words : ℕ) → first_fit left words ≡ None
    → first_fit (left ++ rest) words ≡ first_fit rest words
first_fit-past [] rest words none = refl
first_fit-past (other ∷ left) rest words none =
    elim (nat_le words other.words) as (λ b. (if b then Some other else first_fit left words) ≡ None
    → (if b then Some other else first_fit (left ++ rest) words) ≡ first_fit rest words) [
      | true ↦ λ none. absurd (cc)
      | false ↦ λ none. first_fit-past left rest words none
    ] none

pub without_fit-past : (left rest : List Block) (words : ℕ) → first_fit left words ≡ None
    → without_fit (left ++ rest) words ≡ left ++ without_fit rest words
without_fit-past [] rest words none = refl
without_fit-past (other ∷ left) rest words none =
    elim (nat_le words other.words) as (λ b. (if b then Some other else first_fit left words) ≡ None
    → (if b then left ++ rest else other ∷ without_fit (left ++ rest) words)
    ≡ other ∷ (left ++ without_fit rest words)) [
      | true ↦ λ none. absurd (cc)
      | false ↦ λ none. ap (λ blocks. other ∷ blocks) (without_fit-past left rest words none)
    ] none

-- Where nothing to the left fits, a middle that does is the first.
first_fit-middle : (left right : List Block) (middle : Block) (words : ℕ) → first_fit left words ≡ None
    → words ≤ middle.words → first_fit (left ++ middle ∷ right) words ≡ Some middle
first_fit-middle left right middle words none enough =
    first_fit-past left (middle ∷ right) words none ∙ rw (le-leb words middle.words enough) refl

without_fit-middle : (left right : List Block) (middle : Block) (words : ℕ) → first_fit left words ≡ None
    → words ≤ middle.words → without_fit (left ++ middle ∷ right) words ≡ left ++ right
without_fit-middle left right middle words none enough =
    let here : without_fit (middle ∷ right) words ≡ right = rw (le-leb words middle.words enough) refl in
    without_fit-past left (middle ∷ right) words none ∙ ap (λ blocks. left ++ blocks) here

-- Where nothing fits, nothing goes.
pub without_fit-none : (blocks : List Block) (words : ℕ) → first_fit blocks words ≡ None
    → without_fit blocks words ≡ blocks
without_fit-none blocks words none =
    ap (λ all. without_fit all words) (sym (append-nil blocks)) ∙ without_fit-past blocks [] words none
    ∙ append-nil blocks

-- A block inserted on the right or on the left side.
pub insert_right : (left right grown : List Block) (middle block : Block) → IsRanked (left ++ middle ∷ right)
    → ranks_before middle block ≡ true
    → (IsRanked right → grown ≡ with_ranked right block)
    → left ++ middle ∷ grown ≡ with_ranked (left ++ middle ∷ right) block
insert_right left right grown middle block ranked before e =
    ap (λ blocks. left ++ middle ∷ blocks) (e (ranked_right left right middle ranked))
    ∙ sym (with_ranked-right left right middle block ranked before)

pub insert_left : (left right grown : List Block) (middle block : Block) → IsRanked (left ++ middle ∷ right)
    → ranks_before middle block ≡ false
    → (IsRanked left → grown ≡ with_ranked left block)
    → grown ++ middle ∷ right ≡ with_ranked (left ++ middle ∷ right) block
insert_left left right grown middle block ranked behind e =
    ap (λ blocks. blocks ++ middle ∷ right) (e (ranked_left left right middle ranked))
    ∙ sym (with_ranked-left left right middle block behind)

-- The first fit taken from the right side, from the left side, or from the middle.
pub take_right : (left right rest : List Block) (middle : Block) (words : ℕ) → IsRanked (left ++ middle ∷ right)
    → middle.words < words
    → (IsRanked right → rest ≡ without_fit right words)
    → left ++ middle ∷ rest ≡ without_fit (left ++ middle ∷ right) words
take_right left right rest middle words ranked few e =
    ap (λ blocks. left ++ middle ∷ blocks) (e (ranked_right left right middle ranked))
    ∙ sym (without_fit-right left right middle words ranked few)

pub find_right : (left right : List Block) (middle : Block) (words : ℕ) (found : Option Block)
    → IsRanked (left ++ middle ∷ right) → middle.words < words
    → (IsRanked right → first_fit right words ≡ found) → first_fit (left ++ middle ∷ right) words ≡ found
find_right left right middle words found ranked few e = first_fit-right left right middle words ranked few
    ∙ e (ranked_right left right middle ranked)

pub take_left : (left right rest : List Block) (middle found : Block) (words : ℕ) → IsRanked (left ++ middle ∷ right)
    → (IsRanked left → first_fit left words ≡ Some found) → (IsRanked left → rest ≡ without_fit left words)
    → rest ++ middle ∷ right ≡ without_fit (left ++ middle ∷ right) words
take_left left right rest middle found words ranked found_is e =
    let in_left = ranked_left left right middle ranked in
    ap (λ blocks. blocks ++ middle ∷ right) (e in_left)
    ∙ sym (without_fit-left left (middle ∷ right) words found (found_is in_left))

pub find_left : (left right : List Block) (middle found : Block) (words : ℕ) → IsRanked (left ++ middle ∷ right)
    → (IsRanked left → first_fit left words ≡ Some found) → first_fit (left ++ middle ∷ right) words ≡ Some found
find_left left right middle found words ranked found_is = first_fit-left left (middle ∷ right) words found
    (found_is (ranked_left left right middle ranked))

pub take_middle : (left right rest joined : List Block) (middle : Block) (words : ℕ) → IsRanked (left ++ middle ∷ right)
    → words ≤ middle.words
    → (IsRanked left → first_fit left words ≡ None) → (IsRanked left → rest ≡ without_fit left words)
    → joined ≡ rest ++ right → joined ≡ without_fit (left ++ middle ∷ right) words
take_middle left right rest joined middle words ranked enough none e join =
    let in_left = ranked_left left right middle ranked in
    join ∙ ap (λ blocks. blocks ++ right) (e in_left ∙ without_fit-none left words (none in_left))
    ∙ sym (without_fit-middle left right middle words (none in_left) enough)

pub find_middle : (left right : List Block) (middle : Block) (words : ℕ) → IsRanked (left ++ middle ∷ right)
    → words ≤ middle.words
    → (IsRanked left → first_fit left words ≡ None) → first_fit (left ++ middle ∷ right) words ≡ Some middle
find_middle left right middle words ranked enough none = first_fit-middle left right middle words
    (none (ranked_left left right middle ranked)) enough

-- An addition and a removal keep a list ranked.
pub all_with : (P : Block → Type 0) (blocks : List Block) (block : Block) → AllByRecursion P blocks → P block
    → AllByRecursion P (with_ranked blocks block)
all_with P [] block all here = (here, tt)
all_with P (other ∷ blocks) block all here =
    elim (ranks_before other block) as (λ b. AllByRecursion P
    (if b then other ∷ with_ranked blocks block else block ∷ other ∷ blocks)) [
      | true ↦ (all.0, all_with P blocks block all.1 here)
      | false ↦ (here, all)
    ]

pub all_without : (P : Block → Type 0) (blocks : List Block) (words : ℕ) → AllByRecursion P blocks
    → AllByRecursion P (without_fit blocks words)
all_without P [] words all = tt
all_without P (other ∷ blocks) words all =
    elim (nat_le words other.words) as (λ b. AllByRecursion P
    (if b then blocks else other ∷ without_fit blocks words)) [
      | true ↦ all.1
      | false ↦ (all.0, all_without P blocks words all.1)
    ]

all_behind : (block other : Block) (blocks : List Block) → ranks_before block other ≡ true
    → AllByRecursion (λ later. ranks_before other later ≡ true) blocks
    → AllByRecursion (λ later. ranks_before block later ≡ true) blocks
all_behind block other blocks before all = all_so _ _ blocks (λ later. ranks_on block other later before) all

other_way : (a b : Block) → ranks_before a b ≡ false → b.start ≢ a.start → ranks_before b a ≡ true
other_way a b behind differ = grind (arith, nat_tests)

pub ranked_with : (blocks : List Block) (block : Block) → IsRanked blocks
    → AllByRecursion (λ (other : Block). block.start ≢ other.start) blocks → IsRanked (with_ranked blocks block)
ranked_with [] block ranked differ = (tt, tt)
ranked_with (other ∷ blocks) block ranked differ =
    elim (ranks_before other block) as (λ b. ranks_before other block ≡ b
    → IsRanked (if b then other ∷ with_ranked blocks block else block ∷ other ∷ blocks)) [
      | true ↦ λ before. (
        all_with (λ later. ranks_before other later ≡ true) blocks block ranked.0 before,
        ranked_with blocks block ranked.1 differ.1,
      )
      | false ↦ λ behind. let before = other_way other block behind differ.0 in
          ((before, all_behind block other blocks before ranked.0), ranked)
    ] refl

pub ranked_without : (blocks : List Block) (words : ℕ) → IsRanked blocks → IsRanked (without_fit blocks words)
ranked_without [] words ranked = tt
ranked_without (other ∷ blocks) words ranked =
    elim (nat_le words other.words) as (λ b. IsRanked (if b then blocks else other ∷ without_fit blocks words)) [
      | true ↦ ranked.1
      | false ↦ (
        all_without (λ later. ranks_before other later ≡ true) blocks words ranked.0,
        ranked_without blocks words ranked.1,
      )
    ]

-- They make it longer and shorter by one.
pub length_with : (blocks : List Block) (block : Block) → length (with_ranked blocks block) ≡ length blocks + 1
length_with [] block = refl
length_with (other ∷ blocks) block =
    elim (ranks_before other block) as (λ b. length (if b then other ∷ with_ranked blocks block else block ∷ other ∷ blocks)
    ≡ length (other ∷ blocks) + 1) [
      | true ↦ omega (arith, length_with blocks block)
      | false ↦ omega arith
    ]

pub length_without : (blocks : List Block) (words : ℕ) (found : Block) → first_fit blocks words ≡ Some found
    → length blocks ≡ length (without_fit blocks words) + 1
length_without [] words found e = absurd (cc)
length_without (other ∷ blocks) words found e =
    elim (nat_le words other.words) as (λ b. (if b then Some other else first_fit blocks words) ≡ Some found
    → length (other ∷ blocks) ≡ length (if b then blocks else other ∷ without_fit blocks words) + 1) [
      | true ↦ λ e. omega arith
      | false ↦ λ e. omega (arith, length_without blocks words found e)
    ] e
