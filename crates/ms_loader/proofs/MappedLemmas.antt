-- Entries whose values are mapped: the names stay, and each change of the entries is one of the
-- mapped ones. For a loader's blocks and a system's loaders.
use Rattle.std.proofs.Common.{◌≡◌, ℕ, true, false, cond, Some, None, List, [], ◌∷◌, map, refl, ap, ◌∙◌, option_map}
use Rattle.std.specs.Ordering.{nat_cmp, match_ordering}
use Rattle.std.specs.declared.cmp.Ordering.TheVariants.{Less, Equal, Greater}
use Rattle.std.specs.List.{AllByRecursion}
use Rattle.std.specs.Map.{keys_of, values_of}
use Rattle.std.specs.BTreeMap.{is_at}
use Rattle.std.proofs.lemmas.Map.Made.{lookup-map_values}
use Rattle.ms_base.specs.Names.{named, with_new, with_changed, without, AreNamed}

abbrev pub mapped : {X Y : Type 0} → (X → Y) → List (ℕ × X) → List (ℕ × Y)
mapped f entries = map (λ e. (e.0, f e.1)) entries

-- What has a name.
pub named-mapped : {X Y : Type 0} (f : X → Y) (entries : List (ℕ × X)) (name : ℕ)
    → named (mapped f entries) name ≡ option_map f (named entries name)
named-mapped f entries name = lookup-map_values f (is_at (nat_cmp name)) entries

pub found-mapped : {X Y : Type 0} (f : X → Y) (entries : List (ℕ × X)) (name : ℕ) (x : X) → named entries name ≡ Some x
    → named (mapped f entries) name ≡ Some (f x)
found-mapped f entries name x found = named-mapped f entries name ∙ ap (option_map f) found

pub missing-mapped : {X Y : Type 0} (f : X → Y) (entries : List (ℕ × X)) (name : ℕ) → named entries name ≡ None
    → named (mapped f entries) name ≡ None
missing-mapped f entries name none = named-mapped f entries name ∙ ap (option_map f) none

-- The changes.
pub new-mapped : {X Y : Type 0} (f : X → Y) (entries : List (ℕ × X)) (name : ℕ) (x : X)
    → mapped f (with_new entries name x) ≡ with_new (mapped f entries) name (f x)
new-mapped f [] name x = refl
new-mapped {X} {Y} f (e ∷ es) name x =
    elim (nat_cmp name e.0) as (λ o. mapped f
    (match_ordering o ((name, x) ∷ e ∷ es) ((e.0, x) ∷ es) (e ∷ with_new es name x))
    ≡ match_ordering o ((name, f x) ∷ (e.0, f e.1) ∷ mapped f es) ((e.0, f x) ∷ mapped f es)
    ((e.0, f e.1) ∷ with_new (mapped f es) name (f x))) [
      | Less ↦ refl
      | Equal ↦ refl
      | Greater ↦ ap (λ (l : List (ℕ × Y)). (e.0, f e.1) ∷ l) (new-mapped f es name x)
    ]

pub changed-mapped : {X Y : Type 0} (f : X → Y) (entries : List (ℕ × X)) (name : ℕ) (x : X)
    → mapped f (with_changed entries name x) ≡ with_changed (mapped f entries) name (f x)
changed-mapped f [] name x = refl
changed-mapped {X} {Y} f (e ∷ es) name x =
    elim (is_at (nat_cmp name) e.0) as (λ b. mapped f (cond b ((e.0, x) ∷ es) (e ∷ with_changed es name x))
    ≡ cond b ((e.0, f x) ∷ mapped f es) ((e.0, f e.1) ∷ with_changed (mapped f es) name (f x))) [
      | true ↦ refl
      | false ↦ ap (λ (l : List (ℕ × Y)). (e.0, f e.1) ∷ l) (changed-mapped f es name x)
    ]

pub without-mapped : {X Y : Type 0} (f : X → Y) (entries : List (ℕ × X)) (name : ℕ)
    → mapped f (without entries name) ≡ without (mapped f entries) name
without-mapped f [] name = refl
without-mapped {X} {Y} f (e ∷ es) name =
    elim (is_at (nat_cmp name) e.0) as (λ b. mapped f (cond b es (e ∷ without es name))
    ≡ cond b (mapped f es) ((e.0, f e.1) ∷ without (mapped f es) name)) [
      | true ↦ refl
      | false ↦ ap (λ (l : List (ℕ × Y)). (e.0, f e.1) ∷ l) (without-mapped f es name)
    ]

pub keys-mapped : {X Y : Type 0} (f : X → Y) (entries : List (ℕ × X)) → keys_of (mapped f entries) ≡ keys_of entries
keys-mapped f [] = refl
keys-mapped f (e ∷ es) = ap (λ (l : List ℕ). e.0 ∷ l) (keys-mapped f es)

pub rises-mapped : {X Y : Type 0} (f : X → Y) (entries : List (ℕ × X)) → AreNamed entries → AreNamed (mapped f entries)
rises-mapped f entries rises = rw (keys-mapped f entries) rises

pub values-mapped : {X Y : Type 0} (f : X → Y) (entries : List (ℕ × X))
    → values_of (mapped f entries) ≡ map f (values_of entries)
values-mapped f [] = refl
values-mapped {X} {Y} f (e ∷ es) = ap (λ (l : List Y). f e.1 ∷ l) (values-mapped f es)

-- Two maps that agree on the values.
pub mapped-agree : {X Y : Type 0} (f g : X → Y) (entries : List (ℕ × X))
    → AllByRecursion (λ (x : X). f x ≡ g x) (values_of entries) → mapped f entries ≡ mapped g entries
mapped-agree f g [] all = refl
mapped-agree {X} {Y} f g (e ∷ es) all =
    ap (λ (y : Y). (e.0, y) ∷ mapped f es) all.0
    ∙ ap (λ (l : List (ℕ × Y)). (e.0, g e.1) ∷ l) (mapped-agree f g es all.1)

-- A map that differs from another at one name.
pub changed_where : {X Y : Type 0} (f g : X → Y) (entries : List (ℕ × X)) (name : ℕ) (x : X) (y : Y)
    → named entries name ≡ Some x → g x ≡ y
    → AllByRecursion (λ (z : X). g z ≡ f z) (values_of (without entries name))
    → mapped g entries ≡ with_changed (mapped f entries) name y
changed_where f g [] name x y found value all = absurd (cc)
changed_where {X} {Y} f g (e ∷ es) name x y found value all =
    elim (is_at (nat_cmp name) e.0) as (λ b. cond b (Some e.1) (named es name) ≡ Some x
    → AllByRecursion (λ (z : X). g z ≡ f z) (values_of (cond b es (e ∷ without es name)))
    → (e.0, g e.1) ∷ mapped g es ≡ cond b ((e.0, y) ∷ mapped f es) ((e.0, f e.1) ∷ with_changed (mapped f es) name y)) [
      | true ↦ λ found all. let its : e.1 ≡ x = cc in
          ap (λ (z : Y). (e.0, z) ∷ mapped g es) (ap g its ∙ value)
          ∙ ap (λ (l : List (ℕ × Y)). (e.0, y) ∷ l) (mapped-agree g f es all)
      | false ↦ λ found all. ap (λ (z : Y). (e.0, z) ∷ mapped g es) all.0
          ∙ ap (λ (l : List (ℕ × Y)). (e.0, f e.1) ∷ l) (changed_where f g es name x y found value all.1)
    ] found all

-- Nothing changes where none has the name.
pub without_missing : {X : Type 0} (entries : List (ℕ × X)) (name : ℕ) → named entries name ≡ None
    → without entries name ≡ entries
without_missing [] name none = refl
without_missing {X} (e ∷ es) name none =
    elim (is_at (nat_cmp name) e.0) as (λ b. cond b (Some e.1) (named es name) ≡ None
    → cond b es (e ∷ without es name) ≡ e ∷ es) [
      | true ↦ λ none. absurd (cc)
      | false ↦ λ none. ap (λ (l : List (ℕ × X)). e ∷ l) (without_missing es name none)
    ] none
