-- The slots that hold no chunk go one after the other, and their granules with them. The proof of
-- `purge` uses them.
use Rattle.std.proofs.Common.{◌≡◌, ◌<◌, ◌≤◌, ℕ, zero, suc, ◌+◌, ◌-◌, ◌*◌, ◌/◌, Bool, true, false, cond, not, ◌&&◌, ◌||◌, ◌==◌, List, []}
use Rattle.std.proofs.Common.{◌∷◌, length, refl, sym, ap, ap₂, subst, ◌∙◌, arith}
use Rattle.std.specs.Prelude.{nat_le}
use Rattle.std.specs.List.{AllByRecursion, filter}
use Rattle.std.specs.List.Sorted.{IsStrictlyIncreasing}
use Rattle.std.proofs.lemmas.Bool.{or_parts}
use Rattle.std.proofs.lemmas.Bool.Decides.{nat_tests}
use Rattle.std.proofs.lemmas.List.Elements.{filter_agree, recursion_from_All}
use Rattle.std.proofs.lemmas.List.Kept.{IsStrictlyIncreasing-filter}
use Rattle.ms_base.specs.declared.kind.Space.TheVariants.{NonClass, Class}
use Rattle.ms_base.proofs.granules.CommittedLemmas.{length_filter}
use Rattle.ms_base.specs.declared.policy.Policy.{Policy}
use Rattle.ms_base.specs.declared.policy.Policy.TheVariants.{Balanced, Aggressive, None as Never}
use Rattle.ms_base.specs.declared.span.Chunk.{Chunk}
use Rattle.ms_base.specs.Part.{is_reserved}
use Rattle.ms_base.specs.Policy.{granule_of, slot_granules}
use Rattle.ms_base.specs.Held.{has_chunk_in}
use Rattle.ms_base.specs.Committed.{committed_with, is_among, is_committed_now}
use Rattle.ms_commit.specs.NumberSet.{is_in_range, without_number, without_range}
use Rattle.ms_commit.specs.Nodes.{NodesState, granules_in, node_granules, without_slot}
use Rattle.ms_commit.proofs.ModelLemmas.{committed_rise, granules_are_committed, is_among-committed}
use Rattle.ms_commit.proofs.NodesLemmas.{in_own_slot}
use Rattle.ms_commit.proofs.RangeLemmas.{filter-filter, is_among-filter}
use Rattle.ms_commit.proofs.SetLemmas.{is_among-without_range}
use Rattle.ms_commit.proofs.SpaceLemmas.{leaves_with_its_granules}
use Rattle.ms_pool.specs.declared.lender.Lender.{Lender}
use Rattle.ms_pool.specs.Ledger.{Ledger, IsSoundLedger, held_in, purged, recommitted}
use Rattle.ms_pool.specs.Keeping.{ledger_of}
use Rattle.ms_pool.proofs.returns.PoolSettleLemmas.{settled_already}

-- A slot stays: it is one of those not looked at yet, or has a chunk.
abbrev pub stays_at : ℕ → List Chunk → ℕ → Bool
stays_at at_ held slot = nat_le at_ slot || has_chunk_in held slot

-- The pool once the first slots were looked at.
abbrev pub slots_left : ℕ → Ledger → List ℕ
slots_left at_ old = filter (stays_at at_ (held_in NonClass old)) old.slots

abbrev pub purged_to : ℕ → Ledger → Ledger
purged_to at_ old = recommitted (record old { slots = slots_left at_ old })

all_stay : (held : List Chunk) (slots : List ℕ) → filter (stays_at 0 held) slots ≡ slots
all_stay held [] = refl
all_stay held (slot ∷ slots) =
    ap (λ (b : Bool). cond (b || has_chunk_in held slot) (slot ∷ filter (stays_at 0 held) slots)
    (filter (stays_at 0 held) slots)) (from_first slot)
    ∙ ap (λ (l : List ℕ). slot ∷ l) (all_stay held slots)
  where
    from_first : (n : ℕ) → nat_le 0 n ≡ true
    from_first n = grind (arith, nat_tests)

pub purged_at_first : (old : Ledger) → IsSoundLedger old → old ≡ purged_to 0 old
purged_at_first old sound =
    sym (ap (λ (l : List ℕ). recommitted (record old { slots = l })) (all_stay (held_in NonClass old) old.slots)
    ∙ settled_already old sound)

-- After all slots those with a chunk are left.
past_all : (held : List Chunk) (slots : List ℕ) → AllByRecursion (λ slot. slot < 64) slots
    → filter (stays_at 64 held) slots ≡ filter (has_chunk_in held) slots
past_all held [] all = refl
past_all held (slot ∷ slots) all =
    ap (λ (b : Bool). cond (b || has_chunk_in held slot) (slot ∷ filter (stays_at 64 held) slots)
    (filter (stays_at 64 held) slots)) (under slot all.0)
    ∙ ap (λ (l : List ℕ). cond (has_chunk_in held slot) (slot ∷ l) l) (past_all held slots all.1)
  where
    under : (n : ℕ) → n < 64 → nat_le 64 n ≡ false
    under n h = grind (arith, nat_tests)

pub purged_at_last : (old mid : Ledger) (at_ : ℕ) → IsSoundLedger old → at_ ≡ 64 → mid ≡ purged_to at_ old
    → mid ≡ purged old
purged_at_last old mid at_ sound end before =
    before ∙ ap (λ (n : ℕ). purged_to n old) end
    ∙ ap (λ (l : List ℕ). recommitted (record old { slots = l }))
    (past_all (held_in NonClass old) old.slots
    (recursion_from_All (λ slot. slot < 64) old.slots (sound.spaces NonClass).below))

-- Past a slot lies any other that isn't below it.
alike : (a n : ℕ) → (n == a) ≡ false → nat_le a n ≡ nat_le (a + 1) n
alike a n e = grind (arith, nat_tests)

-- A slot that isn't reserved, or has a chunk, changes nothing.
unreserved_alike : (at_ : ℕ) (held : List Chunk) (slots : List ℕ) → is_among slots at_ ≡ false
    → filter (stays_at at_ held) slots ≡ filter (stays_at (at_ + 1) held) slots
unreserved_alike at_ held [] none = refl
unreserved_alike at_ held (slot ∷ slots) none =
    let parts = or_parts (slot == at_) (is_among slots at_) none in
    ap (λ (b : Bool). cond (b || has_chunk_in held slot) (slot ∷ filter (stays_at at_ held) slots)
    (filter (stays_at at_ held) slots)) (alike at_ slot parts.0)
    ∙ ap (λ (l : List ℕ). cond (stays_at (at_ + 1) held slot) (slot ∷ l) l) (unreserved_alike at_ held slots parts.1)

pub skips_unreserved : (old mid : Ledger) (at_ : ℕ) → mid ≡ purged_to at_ old → is_reserved mid.slots at_ ≡ false
    → mid ≡ purged_to (at_ + 1) old
skips_unreserved old mid at_ before none =
    before ∙ ap (λ (l : List ℕ). recommitted (record old { slots = l }))
    (unreserved_alike at_ (held_in NonClass old) old.slots
    (among (stays_at at_ (held_in NonClass old) at_) (is_among old.slots at_)
    (here at_ (has_chunk_in (held_in NonClass old) at_))
    (sym (is_among-filter (stays_at at_ (held_in NonClass old)) old.slots at_)
    ∙ sym (ap (λ (l : Ledger). is_reserved l.slots at_) before) ∙ none)))
  where
    here : (n : ℕ) (b : Bool) → (nat_le n n || b) ≡ true
    here n b = grind (arith, nat_tests)

    among : (a b : Bool) → a ≡ true → (a && b) ≡ false → b ≡ false
    among true b e f = f
    among false b e f = absurd (cc)

-- Up to the next reserved slot nothing changes.
pub skips_up_to : (old mid : Ledger) (from n : ℕ) → mid ≡ purged_to from old
    → ((k : ℕ) → from ≤ k → k < from + n → is_reserved mid.slots k ≡ false) → mid ≡ purged_to (from + n) old
skips_up_to old mid from zero before none = subst (λ (at_ : ℕ). mid ≡ purged_to at_ old) (omega arith) before
skips_up_to old mid from (suc n) before none =
    subst (λ (at_ : ℕ). mid ≡ purged_to at_ old) (omega arith)
    (skips_unreserved old mid (from + n)
    (skips_up_to old mid from n before (λ k low high. none k low (omega arith))) (none (from + n) (omega arith) (omega arith)))

pub skips_to : (old mid : Ledger) (from to : ℕ) → from ≤ to → mid ≡ purged_to from old
    → ((k : ℕ) → from ≤ k → k < to → is_reserved mid.slots k ≡ false) → mid ≡ purged_to to old
skips_to old mid from to up before none =
    subst (λ (at_ : ℕ). mid ≡ purged_to at_ old) there
    (skips_up_to old mid from (to - from) before (λ k low high. none k low (omega arith)))
  where
    there : from + (to - from) ≡ to
    there = omega arith

held_alike : (at_ : ℕ) (held : List Chunk) (slot : ℕ) → has_chunk_in held at_ ≡ true
    → stays_at at_ held slot ≡ stays_at (at_ + 1) held slot
held_alike at_ held slot has = go (slot == at_) refl
  where
    same_number : (a n : ℕ) → (n == a) ≡ true → a ≡ n
    same_number a n e = grind (arith, nat_tests)

    or_held : (a b c : Bool) → c ≡ true → (a || c) ≡ (b || c)
    or_held true true c e = refl
    or_held true false c e = sym e
    or_held false true c e = e
    or_held false false c e = refl

    go : (b : Bool) → (slot == at_) ≡ b → stays_at at_ held slot ≡ stays_at (at_ + 1) held slot
    go true e =
        or_held (nat_le at_ slot) (nat_le (at_ + 1) slot) (has_chunk_in held slot)
        (ap (has_chunk_in held) (sym (same_number at_ slot e)) ∙ has)
    go false e = ap (λ (b : Bool). b || has_chunk_in held slot) (alike at_ slot e)

pub skips_held : (old mid : Ledger) (at_ : ℕ) → mid ≡ purged_to at_ old → has_chunk_in (held_in NonClass mid) at_ ≡ true
    → mid ≡ purged_to (at_ + 1) old
skips_held old mid at_ before has =
    before ∙ ap (λ (l : List ℕ). recommitted (record old { slots = l }))
    (filter_agree (stays_at at_ (held_in NonClass old)) (stays_at (at_ + 1) (held_in NonClass old))
    (λ slot. held_alike at_ (held_in NonClass old) slot
    (sym (ap (λ (l : Ledger). has_chunk_in (held_in NonClass l) at_) before) ∙ has)) old.slots)

-- A slot without a chunk goes, and its granules.
slot_goes : (at_ : ℕ) (held : List Chunk) (slots : List ℕ) → has_chunk_in held at_ ≡ false
    → without_number (filter (stays_at at_ held) slots) at_ ≡ filter (stays_at (at_ + 1) held) slots
slot_goes at_ held slots none =
    filter-filter (stays_at at_ held) (λ slot. not (slot == at_)) slots
    ∙ filter_agree (λ slot. stays_at at_ held slot && not (slot == at_)) (stays_at (at_ + 1) held)
    (λ slot. go slot (slot == at_) refl) slots
  where
    gone : (a n : ℕ) → (n == a) ≡ true → nat_le (a + 1) n ≡ false
    gone a n e = grind (arith, nat_tests)

    same_number : (a n : ℕ) → (n == a) ≡ true → a ≡ n
    same_number a n e = grind (arith, nat_tests)

    none_of : (x y z : Bool) → y ≡ false → z ≡ false → (x && false) ≡ (y || z)
    none_of true false false e f = refl
    none_of false false false e f = refl
    none_of x true z e f = absurd (cc)
    none_of x false true e f = absurd (cc)

    all_of : (x y : Bool) → x ≡ y → (x && true) ≡ y
    all_of true y e = e
    all_of false y e = e

    go : (slot : ℕ) (b : Bool) → (slot == at_) ≡ b
        → (stays_at at_ held slot && not (slot == at_)) ≡ stays_at (at_ + 1) held slot
    go slot true e = ap (λ (b : Bool). stays_at at_ held slot && not b) e
        ∙ none_of (stays_at at_ held slot) (nat_le (at_ + 1) slot) (has_chunk_in held slot) (gone at_ slot e)
        (ap (has_chunk_in held) (sym (same_number at_ slot e)) ∙ none)
    go slot false e = ap (λ (b : Bool). stays_at at_ held slot && not b) e
        ∙ all_of (stays_at at_ held slot) (stays_at (at_ + 1) held slot)
        (ap (λ (b : Bool). b || has_chunk_in held slot) (alike at_ slot e))

some_granules : (policy : Policy) → 0 < slot_granules (granule_of policy)
some_granules Balanced = omega arith
some_granules Aggressive = omega arith
some_granules Never = omega arith

granules_go : (policy : Policy) (before slots : List ℕ) (held : List Chunk) (at_ n : ℕ) → IsStrictlyIncreasing slots
    → n ≡ slot_granules (granule_of policy)
    → without_range (committed_with policy before held slots) (at_ * n) n
    ≡ committed_with policy before held (without_number slots at_)
granules_go policy before slots held at_ n rise e =
    granules_are_committed policy before held (without_number slots at_)
    (without_range (committed_with policy before held slots) (at_ * n) n)
    (IsStrictlyIncreasing-filter (λ slot. not (slot == at_)) slots rise)
    (IsStrictlyIncreasing-filter (λ k. not (is_in_range (at_ * n) n k)) (committed_with policy before held slots)
    (committed_rise policy before held slots rise))
    (λ k. is_among-without_range (committed_with policy before held slots) (at_ * n) n k
    ∙ ap₂ (λ (a b : Bool). not a && b) (in_own_slot at_ n k (subst (λ (m : ℕ). 0 < m) (sym e) (some_granules policy)))
    (is_among-committed policy before held slots k)
    ∙ ap (λ (m : ℕ). not (at_ == k / m)
    && (is_committed_now policy before held k && is_reserved slots (k / slot_granules (granule_of policy)))) e
    ∙ ordered (at_ == k / slot_granules (granule_of policy)) (k / slot_granules (granule_of policy) == at_)
    (is_committed_now policy before held k)
    (is_reserved slots (k / slot_granules (granule_of policy))) (turned at_ (k / slot_granules (granule_of policy)))
    ∙ ap (λ (b : Bool). is_committed_now policy before held k && b)
    (sym (is_among-filter (λ slot. not (slot == at_)) slots (k / slot_granules (granule_of policy)))))
  where
    turned : (a b : ℕ) → (a == b) ≡ (b == a)
    turned a b = grind (arith, nat_tests)

    ordered : (a b now among : Bool) → a ≡ b → (not a && (now && among)) ≡ (now && (not b && among))
    ordered a b now among e = rw e (all b now among)
      where
        all : (b now among : Bool) → (not b && (now && among)) ≡ (now && (not b && among))
        all true true among = refl
        all true false among = refl
        all false true among = refl
        all false false among = refl

pub drops : (old : Ledger) (mid : Lender) (at_ : ℕ) → IsSoundLedger old → at_ < 64
    → mid.nodes.limits.granule ≡ granule_of old.limits.policy
    → ledger_of mid ≡ purged_to at_ old → has_chunk_in (held_in NonClass (ledger_of mid)) at_ ≡ false
    → ledger_of (record mid { nodes = without_slot mid.nodes at_ }) ≡ purged_to (at_ + 1) old
drops old mid at_ sound low granule before none =
    ap₂ (λ (l : List ℕ) (own : List ℕ). made (ledger_of mid) l own (granules_in Class nodes))
    (ap (λ (l : Ledger). without_number l.slots at_) before ∙ slot_goes at_ held old.slots clear)
    ((leaves_with_its_granules mid.nodes at_ low).out
    ∙ ap (λ (l : Ledger). without_range l.committed (at_ * n) n) before
    ∙ granules_go old.limits.policy old.committed (slots_left at_ old) held at_ n
    (IsStrictlyIncreasing-filter (stays_at at_ held) old.slots (sound.spaces NonClass).slots) (ap slot_granules granule)
    ∙ ap (committed_with old.limits.policy old.committed held) (slot_goes at_ held old.slots clear))
    ∙ ap (λ (own : List ℕ). made (ledger_of mid) (slots_left (at_ + 1) old) now own)
    ((leaves_with_its_granules mid.nodes at_ low).class_stays ∙ ap (λ (l : Ledger). l.class_committed) before)
    ∙ ap (λ (l : Ledger). made l (slots_left (at_ + 1) old) now (purged_to at_ old).class_committed) before
  where
    nodes : NodesState
    nodes = without_slot mid.nodes at_

    n : ℕ
    n = node_granules mid.nodes

    held : List Chunk
    held = held_in NonClass old

    now : List ℕ
    now = committed_with old.limits.policy old.committed held (slots_left (at_ + 1) old)

    made : Ledger → List ℕ → List ℕ → List ℕ → Ledger
    made l slots committed class_committed =
        record l { slots = slots; committed = committed; class_committed = class_committed }

    clear : has_chunk_in held at_ ≡ false
    clear = sym (ap (λ (l : Ledger). has_chunk_in (held_in NonClass l) at_) before) ∙ none

-- No slot comes.
pub no_more_slots : (old mid : Ledger) (at_ : ℕ) → mid ≡ purged_to at_ old → length mid.slots ≤ length old.slots
no_more_slots old mid at_ before =
    subst (λ (l : Ledger). length l.slots ≤ length old.slots) (sym before)
    (length_filter (stays_at at_ (held_in NonClass old)) old.slots)
