-- A row of names that slides on: the blocks of the names that it leaves are among the others then.
-- The functions of `naming/table` use these.
use Rattle.std.proofs.Common.{◌≡◌, ◌≢◌, ◌+◌, ◌-◌, ◌<◌, ◌≤◌, ℕ, cond, Some, None, Option, List, [], ◌∷◌, refl, sym, ap}
use Rattle.std.proofs.Common.{true, false, Bool, IsTrue, IsFalse, true≢false, append-nil, get_or-drop, drop_of_length-le}
use Rattle.std.proofs.Common.{◌∙◌, ◌++◌, arith, take, drop, length, inl, inr}
use Rattle.std.specs.Prelude.{nat_eq}
use Rattle.std.specs.Map.{lookup}
use Rattle.std.proofs.lemmas.Bool.{cases_eq, cases_lt, eq-eqb, ne_eqb}
use Rattle.std.proofs.lemmas.List.{get_or_past, get_or-take, length-take}
use Rattle.std.proofs.Math.Seq.{take-length}
use Rattle.ms_base.specs.declared.span.Block.{Block}
use Rattle.ms_loader.specs.Table.{IsTable, at_slot, block_in, in_row, no_block, unless_none}
use Rattle.ms_loader.proofs.TableLemmas.{at_its_slot, before_row}

-- A cut list has the blocks of the slots before its end, and none further on.
cut_has : (row : List Block) (n slot : ℕ) → slot < n → at_slot (take n row) slot ≡ at_slot row slot
cut_has row n slot less = get_or-take n row slot no_block less

cut_lacks : (row : List Block) (n slot : ℕ) → n ≤ slot → at_slot (take n row) slot ≡ no_block
cut_lacks row n slot past = get_or_past (take n row) slot no_block (omega (arith, past, length-take n row))

-- So has a cut row.
cut_row : (first n name : ℕ) (row : List Block) → name < first + n → in_row first (take n row) name ≡ in_row first row name
cut_row first n name row less = elim (cases_lt name first) [
  | inl before ↦ before_row first (take n row) name before ∙ sym (before_row first row name before)
  | inr from ↦
      at_its_slot first (take n row) (name - first) name (omega (arith, from))
      ∙ cut_has row n (name - first) (omega (arith, from, less))
      ∙ sym (at_its_slot first row (name - first) name (omega (arith, from)))
]

past_cut : (first n name : ℕ) (row : List Block) → first + n ≤ name → in_row first (take n row) name ≡ no_block
past_cut first n name row past =
    at_its_slot first (take n row) (name - first) name (omega (arith, past))
    ∙ cut_lacks row n (name - first) (omega (arith, past))

-- With one slot more it differs there alone.
one_longer : (first at name : ℕ) (row : List Block) → name ≢ first + at
    → in_row first (take (at + 1) row) name ≡ in_row first (take at row) name
one_longer first at name row differ = elim (cases_lt name (first + at)) [
  | inl less ↦ cut_row first (at + 1) name row (omega (arith, less)) ∙ sym (cut_row first at name row less)
  | inr from ↦
      past_cut first (at + 1) name row (omega (arith, from, differ)) ∙ sym (past_cut first at name row from)
]

in_others : (first : ℕ) (row more : List Block) (others : List (ℕ × Block)) (name : ℕ)
    → in_row first row name ≡ in_row first more name → block_in first row others name ≡ block_in first more others name
in_others first row more others name same = ap (λ block. unless_none block (lookup (nat_eq name) others)) same

-- What the names so far have among the others, once the next one was handed over, or has no block.
pub one_more : (first at key : ℕ) (row : List Block) (block : Block) (old now new : List (ℕ × Block)) → key ≡ first + at
    → block ≡ at_slot row at → nat_eq block.words 0 ≡ false
    → ((name : ℕ) → lookup (nat_eq name) now ≡ block_in first (take at row) old name)
    → ((name : ℕ) → lookup (nat_eq name) new ≡ cond (nat_eq key name) (Some block) (lookup (nat_eq name) now))
    → (name : ℕ) → lookup (nat_eq name) new ≡ block_in first (take (at + 1) row) old name
one_more first at key row block old now new is here some so_far sets name = elim (cases_eq key name) [
  | inl same ↦
      sets name ∙ ap (λ b. cond b (Some block) (lookup (nat_eq name) now)) (eq-eqb key name same)
      ∙ sym (ap (λ b. unless_none b (lookup (nat_eq name) old))
      (at_its_slot first (take (at + 1) row) at name (sym same ∙ is) ∙ cut_has row (at + 1) at (omega arith) ∙ sym here)
      ∙ ap (λ b. cond b (lookup (nat_eq name) old) (Some block)) some)
  | inr differ ↦
      sets name ∙ ap (λ b. cond b (Some block) (lookup (nat_eq name) now)) (ne_eqb key name differ) ∙ so_far name
      ∙ sym (in_others first (take (at + 1) row) (take at row) old name
      (one_longer first at name row (λ e. differ (is ∙ sym e))))
]

pub none_more : (first at : ℕ) (row : List Block) (block : Block) (old now : List (ℕ × Block))
    → block ≡ at_slot row at → nat_eq block.words 0 ≡ true
    → ((name : ℕ) → lookup (nat_eq name) now ≡ block_in first (take at row) old name)
    → (name : ℕ) → lookup (nat_eq name) now ≡ block_in first (take (at + 1) row) old name
none_more first at row block old now here none so_far name = elim (cases_eq name (first + at)) [
  | inl same ↦
      so_far name
      ∙ ap (λ b. unless_none b (lookup (nat_eq name) old)) (past_cut first at name row (omega (arith, same)))
      ∙ sym (ap (λ b. unless_none b (lookup (nat_eq name) old))
      (at_its_slot first (take (at + 1) row) at name same ∙ cut_has row (at + 1) at (omega arith) ∙ sym here)
      ∙ ap (λ b. cond b (lookup (nat_eq name) old) (Some block)) none)
  | inr differ ↦
      so_far name
      ∙ sym (in_others first (take (at + 1) row) (take at row) old name (one_longer first at name row differ))
]

-- A row whose first names are among the others has lost none.
pub left_behind : (first names : ℕ) (row : List Block) (old now : List (ℕ × Block))
    → ((name : ℕ) → lookup (nat_eq name) now ≡ block_in first (take names row) old name)
    → (name : ℕ) → block_in (first + names) (drop names row) now name ≡ block_in first row old name
left_behind first names row old now all name = elim (cases_lt name (first + names)) [
  | inl before ↦
      ap (λ b. unless_none b (lookup (nat_eq name) now)) (before_row (first + names) (drop names row) name before)
      ∙ all name ∙ in_others first (take names row) row old name (cut_row first names name row before)
  | inr past ↦
      ap (λ b. unless_none b (lookup (nat_eq name) now)) (dropped past)
      ∙ ap (λ other. unless_none (in_row first row name) other) (all name
      ∙ ap (λ b. unless_none b (lookup (nat_eq name) old)) (past_cut first names name row past))
]
  where
    dropped : first + names ≤ name → in_row (first + names) (drop names row) name ≡ in_row first row name
    dropped past =
        at_its_slot (first + names) (drop names row) (name - (first + names)) name (omega (arith, past))
        ∙ get_or-drop names row (name - (first + names)) no_block
        ∙ sym (at_its_slot first row (names + (name - (first + names))) name (omega (arith, past)))

-- A row that was written is all of what lent it, and as long as it was.
written_back : (count : ℕ) (new old : List Block) → length new ≡ length old → count ≡ length old
    → take count (new ++ drop (length new) old) ≡ new
written_back count new old same is =
    ap (λ (l : List Block). take count (new ++ l)) (drop_of_length-le old (omega (arith, same)))
    ∙ ap (take count) (append-nil new) ∙ ap (λ (n : ℕ). take n new) (is ∙ sym same) ∙ take-length new

pub fits_again : (first count : ℕ) (new old : List Block) → length new ≡ length old → count ≡ length old
    → IsTable first old → IsTable first (take count (new ++ drop (length new) old))
fits_again first count new old same is fits =
    omega (arith, same, is, fits, ap length (written_back count new old same is))

-- Where a name had a block in the row, which is cleared there, and goes from the others, it has
-- none; all others have what they had.
anew : (is : Bool) (new old : Block) (now others : Option Block) → new ≡ cond is no_block old
    → now ≡ cond is None others → unless_none new now ≡ cond is None (unless_none old others)
anew true new old now others cleared gone = ap (λ b. unless_none b now) cleared ∙ gone
anew false new old now others cleared gone = ap (λ b. unless_none b now) cleared ∙ ap (unless_none old) gone

abbrev Clears : ℕ → ℕ → List Block → List Block → Block → Type 0
Clears first name old new none =
    (other : ℕ) → in_row first new other ≡ cond (nat_eq name other) none (in_row first old other)

was_set : (set : Bool) (block : Block) (Sets : Type 0) → nat_eq block.words 0 ≡ false → (IsTrue set → Sets)
    → (IsFalse set → block ≡ no_block) → Sets
was_set true block Sets some sets none = sets refl
was_set false block Sets some sets none = absurd (true≢false (sym (ap (λ b. nat_eq b.words 0) (none refl)) ∙ some))

either : (b : Bool) (block : Option Block) → block ≡ cond b block block
either true block = refl
either false block = refl

pub none_left : (name : ℕ) (others : List (ℕ × Block)) → length others ≡ 0 → (other : ℕ)
    → lookup (nat_eq other) others ≡ cond (nat_eq name other) None (lookup (nat_eq other) others)
none_left name [] is other = either (nat_eq name other) None
none_left name (one ∷ more) is other = absurd (omega (arith, is))

pub goes : (first count name : ℕ) (new lent old : List Block) (none : Block) (set : Bool)
    (now others : List (ℕ × Block)) → lent ≡ old → length new ≡ length lent → count ≡ length old → none ≡ no_block
    → nat_eq (in_row first old name).words 0 ≡ false → (IsTrue set → Clears first name lent new none)
    → (IsFalse set → in_row first lent name ≡ no_block)
    → ((other : ℕ) → lookup (nat_eq other) now ≡ cond (nat_eq name other) None (lookup (nat_eq other) others))
    → (other : ℕ) → block_in first (take count (new ++ drop (length new) old)) now other
    ≡ cond (nat_eq name other) None (block_in first old others other)
goes first count name new lent old none set now others value same is cleared some sets lacks gone other =
    anew (nat_eq name other) _ (in_row first old other) _ _
    (ap (λ row. in_row first row other) (written_back count new old (same ∙ ap length value) is)
    ∙ was_set set (in_row first old name) (Clears first name lent new none) some sets
    (λ no. ap (λ row. in_row first row name) (sym value) ∙ lacks no) other
    ∙ ap (λ b. cond (nat_eq name other) b (in_row first lent other)) cleared
    ∙ ap (λ row. cond (nat_eq name other) no_block (in_row first row other)) value)
    (gone other)
