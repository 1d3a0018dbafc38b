-- The maps of roots: cell by cell, and slot by slot of those that a space may have. `root_map`
-- and `push_maps` use these.
use Rattle.std.proofs.Common.{◌≡◌, ◌<◌, ◌≤◌, ℕ, suc, ◌+◌, ◌-◌, ◌*◌, Bool, true, cond, map}
use Rattle.std.proofs.Common.{List, [], ◌∷◌, ◌++◌, get_or, length, set}
use Rattle.std.proofs.Common.{refl, sym, ap, ◌∙◌, arith, append_assoc}
use Rattle.std.specs.List.{flat_map, range_with_len}
use Rattle.std.proofs.lemmas.List.{map-append}
use Rattle.std.proofs.lemmas.List.Edits.{fill_by_more}
use Rattle.std.proofs.lemmas.List.FromFn.{fill_by_all}
use Rattle.ms_base.specs.declared.kind.Space.{Space}
use Rattle.ms_base.specs.Part.{is_reserved}
use Rattle.ms_base.specs.State.{PoolState}
use Rattle.ms_commit.specs.Nodes.{NodesState, all_slots}
use Rattle.ms_pool.specs.declared.lender.Lender.{Lender}
use Rattle.ms_pool.specs.declared.mapping.Cell.{Cell}
use Rattle.ms_pool.specs.declared.mapping.Cell.TheVariants.{Free}
use Rattle.ms_pool.specs.declared.mapping.RootMap.{RootMap}
use Rattle.ms_pool.specs.Keeping.{IsKept, ledger_of}
use Rattle.ms_pool.specs.Ledger.{state_in}
use Rattle.ms_pool.specs.Mapping.{RootCells, map_in, map_of, maps_of, maps_of_slot, cell_in, root_cells}
use Rattle.ms_pool.proofs.searches.SearchLemmas.{flat_map-filter}
use Rattle.ms_pool.proofs.searches.SlotLoopLemmas.{end_slot, first_slot, slots_are}

-- All cells told make the map.
abbrev root_cells_of : ℕ → List Cell → RootCells
root_cells_of root cells = record { root = root; cells = cells }

pub map_is : (pool : PoolState) (root : ℕ) (told : RootMap) → told.root ≡ root → length told.cells ≡ root_cells
    → ((k : ℕ) → k < root_cells → get_or told.cells k Free ≡ cell_in pool root k)
    → map_in told ≡ map_of pool root
unfolding map_of
map_is pool root told same full all =
    ap (λ (r : ℕ). root_cells_of r told.cells) same
    ∙ ap (root_cells_of root) (fill_by_all (cell_in pool root) told.cells root_cells Free full all)

pub one_more_cell : (cell : ℕ → Cell) (cells : List Cell) (number : ℕ) (told : Cell) → number < length cells
    → told ≡ cell number → ((k : ℕ) → k < number → get_or cells k Free ≡ cell k)
    → (k : ℕ) → k < number + 1 → get_or (set cells number told) k Free ≡ cell k
one_more_cell cell cells number told there same so_far k h =
    ap (λ (p : Cell). get_or (set cells number p) k Free) same
    ∙ fill_by_more cell cells number Free there so_far k h

-- What a slot gives: the maps of its roots, where it is reserved.
abbrev pub maps_by : NodesState → PoolState → ℕ → List RootCells
maps_by nodes pool slot = cond (is_reserved (all_slots nodes) slot) (maps_of_slot pool slot) []

pub both_pushed : (pool : PoolState) (slot : ℕ) (reserved : Bool) (old once both : List RootMap) (lower upper : RootMap)
    → reserved ≡ true → once ≡ old ++ lower ∷ [] → both ≡ once ++ upper ∷ [] → map_in lower ≡ map_of pool (2 * slot)
    → map_in upper ≡ map_of pool (2 * slot + 1)
    → map map_in both ≡ map map_in old ++ cond reserved (maps_of_slot pool slot) []
both_pushed pool slot reserved old once both lower upper is first second low high =
    ap (map map_in) (
    second
    ∙ ap (λ (l : List RootMap). l ++ upper ∷ []) first
    ∙ append_assoc old (lower ∷ []) (upper ∷ [])
    )
    ∙ map-append map_in old (lower ∷ upper ∷ [])
    ∙ ap (λ (m : RootCells). map map_in old ++ m ∷ map_in upper ∷ []) low
    ∙ ap (λ (m : RootCells). map map_in old ++ map_of pool (2 * slot) ∷ m ∷ []) high
    ∙ ap (λ b. map map_in old ++ cond b (maps_of_slot pool slot) []) (sym is)

-- The maps of the slots from a number on.
abbrev pub maps_left : NodesState → PoolState → ℕ → ℕ → List RootCells
maps_left nodes pool slot end = flat_map (maps_by nodes pool) (range_with_len slot (end - slot))

pub maps_are : (space : Space) (lender : Lender) → IsKept lender
    → maps_of (state_in space (ledger_of lender))
    ≡ maps_left lender.nodes (state_in space (ledger_of lender)) (first_slot space) (end_slot space lender.nodes)
unfolding maps_of
maps_are space lender kept =
    ap (flat_map (maps_of_slot (state_in space (ledger_of lender)))) (slots_are space lender.nodes kept.nodes)
    ∙ flat_map-filter (is_reserved (all_slots lender.nodes)) (maps_of_slot (state_in space (ledger_of lender)))
    (range_with_len (first_slot space) (end_slot space lender.nodes - first_slot space))

pub next_slot : (nodes : NodesState) (pool : PoolState) (so_far added whole : List RootCells) (slot end : ℕ)
    → slot < end
    → added ≡ so_far ++ maps_by nodes pool slot → so_far ++ maps_left nodes pool slot end ≡ whole
    → added ++ maps_left nodes pool (slot + 1) end ≡ whole
next_slot nodes pool so_far added whole slot end h e same =
    ap (λ (l : List RootCells). l ++ maps_left nodes pool (slot + 1) end) e
    ∙ append_assoc so_far (maps_by nodes pool slot) (maps_left nodes pool (slot + 1) end)
    ∙ ap (λ (n : ℕ). so_far ++ flat_map (maps_by nodes pool) (range_with_len slot n)) one_more
    ∙ same
  where
    one_more : suc (end - (slot + 1)) ≡ end - slot
    one_more = omega (arith, h)

pub no_slot : (nodes : NodesState) (pool : PoolState) (so_far whole : List RootCells) (slot end : ℕ) → end ≤ slot
    → so_far ++ maps_left nodes pool slot end ≡ whole → so_far ≡ whole
no_slot nodes pool so_far whole slot end h same =
    sym (append_nil so_far)
    ∙ ap (λ (n : ℕ). so_far ++ flat_map (maps_by nodes pool) (range_with_len slot n)) none
    ∙ same
  where
    none : 0 ≡ end - slot
    none = omega (arith, h)

    append_nil : (l : List RootCells) → l ++ [] ≡ l
    append_nil [] = refl
    append_nil (x ∷ l) = ap (λ (r : List RootCells). x ∷ r) (append_nil l)
