-- Loaders numbered by their first lines, and the workers that they come to by turns; for turn.rt
-- and replaying.rt.
use Rattle.std.proofs.Common.{◌≡◌, ◌≤◌, ◌<◌, ◌+◌, ◌%◌, ℕ, zero, suc, Bool, true, false, not, cond, ◌||◌, Option, Some}
use Rattle.std.proofs.Common.{None, List, [], ◌∷◌, ◌++◌, length, slice_get, refl, sym, ap, ◌∙◌, subst, arith, eq-eqb}
use Rattle.std.proofs.Common.{length-append, get_or-set_same, ◌⊎◌, inl, inr, take, drop, get_or, replicate}
use Rattle.std.proofs.Common.{drop_of_length-le}
use Rattle.std.specs.Prelude.{◌==◌, slice_index_or, slice_set}
use Rattle.std.specs.List.{filter}
use Rattle.std.proofs.Math.Nat.{add-mod, add-mod-mod, mod-eq_of_lt}
use Rattle.std.proofs.Math.Seq.{take-length}
use Rattle.std.proofs.lemmas.Bool.{eqb-true, or_right, both_ways, or_parts}
use Rattle.std.proofs.lemmas.Bool.Decides.{nat_tests}
use Rattle.std.proofs.lemmas.List.{get_or-set_other, append-nil, take_more}
use Rattle.std.proofs.lemmas.List.Elements.{filter-append}
use Rattle.std.proofs.lemmas.List.Folds.{list_any-append}
use Rattle.std.proofs.lemmas.Nat.{mod_below}
use Rattle.ms_run.specs.Workers.{loader_if, named_by, name_first, loaders_in, IsByTurn}
use Rattle.ms_base.specs.declared.step.Step.{Step}
use Rattle.ms_base.specs.Committed.{is_among}
use Rattle.ms_base.specs.Request.{loader_of}
use Rattle.ms_trace.specs.declared.trace.Command.{Command}
use Rattle.ms_trace.specs.declared.trace.Command.TheVariants.{Step as Asks}
use Rattle.ms_trace.specs.declared.trace.Line.{Line}
use Rattle.ms_trace.specs.Steps.{step_of}
use Rattle.ms_run.specs.Turn.{TurnState, shares_in, position_in, worker_by, AreFirst, IsNumbered, AssignsTo, Assigns}
use Rattle.ms_run.specs.Shares.{AreWithin}

-- A name after others, where it isn't among them.
abbrev name_last : Option ℕ → List ℕ → List ℕ
name_last None names = names
name_last (Some name) names = cond (is_among names name) names (names ++ name ∷ [])

abbrev names_but : ℕ → List ℕ → List ℕ
names_but name names = filter (λ other. not (other == name)) names

-- Among those that differ from a name another is as before.
among_others : (name other : ℕ) (names : List ℕ) → (name == other) ≡ false
    → is_among (names_but name names) other ≡ is_among names other
among_others name other [] differ = refl
among_others name other (x ∷ names) differ =
    elim (x == name) as (λ b. (x == name) ≡ b
    → is_among (cond (not b) (x ∷ names_but name names) (names_but name names)) other
    ≡ ((x == other) || is_among names other)) [
      | true ↦ λ same. among_others name other names differ
          ∙ ap (λ b. b || is_among names other) (sym (subst (λ (n : ℕ). (n == other) ≡ false) (sym (eqb-true x name same)) differ))
      | false ↦ λ away. ap (λ b. (x == other) || b) (among_others name other names differ)
    ] refl

-- A line at the end of others.
first_last : (o p : Option ℕ) (names : List ℕ) → name_first o (name_last p names) ≡ name_last p (name_first o names)
first_last None p names = refl
first_last (Some name) None names = refl
first_last (Some name) (Some other) names =
    elim (name == other) as (λ b. (name == other) ≡ b
    → name ∷ names_but name (cond (is_among names other) names (names ++ other ∷ []))
    ≡ cond (b || is_among (names_but name names) other) (name ∷ names_but name names)
    ((name ∷ names_but name names) ++ other ∷ [])) [
      | true ↦ λ same. ap (λ (l : List ℕ). name ∷ l) (gone same (is_among names other))
      | false ↦ λ differ. rw (among_others name other names differ) (stays differ (is_among names other))
    ] refl
  where
    gone : (name == other) ≡ true → (b : Bool) → names_but name (cond b names (names ++ other ∷ [])) ≡ names_but name names
    gone same true = refl
    gone same false =
        filter-append (λ n. not (n == name)) names (other ∷ [])
        ∙ ap (λ b. names_but name names ++ cond (not b) (other ∷ []) []) (eq-eqb other name (sym (eqb-true name other same)))
        ∙ append-nil (names_but name names)

    stays : (name == other) ≡ false → (b : Bool)
        → name ∷ names_but name (cond b names (names ++ other ∷ []))
        ≡ cond b (name ∷ names_but name names) ((name ∷ names_but name names) ++ other ∷ [])
    stays differ true = refl
    stays differ false = ap (λ (l : List ℕ). name ∷ l)
        (filter-append (λ n. not (n == name)) names (other ∷ [])
        ∙ ap (λ b. names_but name names ++ cond (not b) (other ∷ []) []) turned)
      where
        turned : (other == name) ≡ false
        turned = grind (arith, nat_tests)

loaders_more : (lines : List Line) (line : Line)
    → loaders_in (lines ++ line ∷ []) ≡ name_last (named_by line) (loaders_in lines)
loaders_more [] line = alone (named_by line)
  where
    alone : (o : Option ℕ) → name_first o [] ≡ name_last o []
    alone None = refl
    alone (Some name) = refl
loaders_more (x ∷ lines) line =
    ap (name_first (named_by x)) (loaders_more lines line) ∙ first_last (named_by x) (named_by line) (loaders_in lines)

-- A name is among others where it has a number.
among_if_there : (names : List ℕ) (number name : ℕ) → slice_get names number ≡ Some name → is_among names name ≡ true
among_if_there [] number name found = absurd (cc)
among_if_there (x ∷ names) zero name found =
    ap (λ b. b || is_among names name) (eq-eqb x name (let same : x ≡ name = cc in same))
among_if_there (x ∷ names) (suc number) name found =
    or_right (x == name) (is_among names name) (among_if_there names number name found)

there_if_among : (names : List ℕ) (name : ℕ) → is_among names name ≡ true → (number : ℕ) × (slice_get names number ≡ Some name)
there_if_among [] name is = absurd (cc)
there_if_among (x ∷ names) name is =
    elim (x == name) as (λ b. (x == name) ≡ b → (b || is_among names name) ≡ true
    → (number : ℕ) × (slice_get (x ∷ names) number ≡ Some name)) [
      | true ↦ λ same e. (0, ap (λ (n : ℕ). Some n) (eqb-true x name same))
      | false ↦ λ differ e. let rest = there_if_among names name e in (suc rest.0, rest.1)
    ] refl is

-- In a list with one more at its end each is where it was, or the last.
there_or_last : (names : List ℕ) (last number name : ℕ) → slice_get (names ++ last ∷ []) number ≡ Some name
    → (slice_get names number ≡ Some name) ⊎ ((number ≡ length names) × (name ≡ last))
there_or_last [] last zero name found = inr (refl, (let same : last ≡ name = cc in sym same))
there_or_last [] last (suc number) name found = absurd (cc)
there_or_last (x ∷ names) last zero name found = inl found
there_or_last (x ∷ names) last (suc number) name found =
    elim (there_or_last names last number name found) [
      | inl there ↦ inl there
      | inr is ↦ inr (ap (λ (n : ℕ). suc n) is.0, is.1)
    ]

pub next_worker : (n m : ℕ) → (n % m + 1) % m ≡ (n + 1) % m
next_worker n m = turned (n % m) 1 ∙ add-mod-mod 1 n m ∙ turned 1 n
  where
    turned : (a b : ℕ) → (a + b) % m ≡ (b + a) % m
    turned a b = ap (λ (k : ℕ). k % m) (let e : a + b ≡ b + a = omega arith in e)

-- No line has been numbered, and then one more.
pub none_numbered : (workers : ℕ) (first : List ℕ) → 1 ≤ workers
    → ((name : ℕ) → slice_index_or first name 255 ≡ 255) → IsNumbered [] workers first 0
none_numbered workers first some none = record {
  loaders = λ number name found. absurd (cc);
  others = λ name away. none name;
  next_is = sym (mod-eq_of_lt some);
}

module _ (lines : List Line) (workers : ℕ) (first : List ℕ) (next : ℕ) (its : IsNumbered lines workers first next)
    (some : 1 ≤ workers) (few : workers ≤ 8) where
  known : (name worker : ℕ) (new : List ℕ) (came : Bool) → AssignsTo first name worker new came
      → is_among (loaders_in lines) name ≡ true → came ≡ false
  known name worker new came told is =
      let there = there_if_among (loaders_in lines) name is in
      let has = its.loaders there.0 name there.1 in
      let below = mod_below there.0 workers some in
      let small : slice_index_or first name 0 < 255 = omega (arith, has, below, few) in
      told.came_is ∙ (let no : (slice_index_or first name 0 == 255) ≡ false = grind (arith, nat_tests) in no)

  unknown : (name worker : ℕ) (new : List ℕ) (came : Bool) → AssignsTo first name worker new came
      → is_among (loaders_in lines) name ≡ false → came ≡ true
  unknown name worker new came told away =
      told.came_is ∙ eq-eqb (slice_index_or first name 0) 255
      (within_default first name told.within ∙ its.others name away)
    where
      within_default : (xs : List ℕ) (at : ℕ) → at < length xs → slice_index_or xs at 0 ≡ slice_index_or xs at 255
      within_default [] at less = absurd (omega (arith, less))
      within_default (x ∷ xs) zero less = refl
      within_default (x ∷ xs) (suc at) less = within_default xs at (omega (arith, less))

  -- The next loader has the next worker.
  new_numbered : (name : ℕ) (new : List ℕ) (more : List Line) → name < length first
      → is_among (loaders_in lines) name ≡ false → loaders_in more ≡ loaders_in lines ++ name ∷ []
      → new ≡ slice_set first name next → IsNumbered more workers new ((next + 1) % workers)
  new_numbered name new more within away are made = record {
    loaders = λ number other found. elim (there_or_last (loaders_in lines) name number other
        (subst (λ (l : List ℕ). slice_get l number ≡ Some other) are found)) [
          | inl there ↦ ap (λ (l : List ℕ). slice_index_or l other 0) made
              ∙ get_or-set_other first name other next 0 (λ e. differs (among_if_there (loaders_in lines) number other there) e)
              ∙ its.loaders number other there
          | inr last ↦ ap (λ (l : List ℕ). slice_index_or l other 0) made
              ∙ ap (λ (n : ℕ). slice_index_or (slice_set first name next) n 0) last.1
              ∙ get_or-set_same first name next 0 within ∙ its.next_is ∙ ap (λ (n : ℕ). n % workers) (sym last.0)
        ];
    others = λ other none.
        let apart = or_parts (is_among (loaders_in lines) other) ((name == other) || false)
        (sym (list_any-append (λ n. n == other) (loaders_in lines) (name ∷ []))
        ∙ ap (λ (l : List ℕ). is_among l other) (sym are) ∙ none) in
        ap (λ (l : List ℕ). slice_index_or l other 255) made
        ∙ get_or-set_other first name other next 255
        (λ e. both_ways (name == other) (or_parts (name == other) false apart.1).0 (eq-eqb name other (sym e)))
        ∙ its.others other apart.0;
    next_is = ap (λ (n : ℕ). (n + 1) % workers) its.next_is ∙ next_worker (length (loaders_in lines)) workers
        ∙ ap (λ (n : ℕ). n % workers) (sym (ap length are ∙ length-append (loaders_in lines) (name ∷ [])));
  }
    where
      differs : {other : ℕ} → is_among (loaders_in lines) other ≡ true → other ≡ name → ⊥
      differs is e = both_ways (is_among (loaders_in lines) name) away (sym (ap (is_among (loaders_in lines)) e) ∙ is)

  -- A line more is numbered.
  named_numbered : (o : Option ℕ) (line : Line) (new : List ℕ) (came : Bool) → named_by line ≡ o
      → Assigns first o next new came
      → IsNumbered (lines ++ line ∷ []) workers new (cond came ((next + 1) % workers) next)
  named_numbered None line new came is told =
      same_numbered (loaders_more lines line ∙ ap (λ (o : Option ℕ). name_last o (loaders_in lines)) is) told.1 told.0
    where
      same_numbered : loaders_in (lines ++ line ∷ []) ≡ loaders_in lines → new ≡ first → came ≡ false
          → IsNumbered (lines ++ line ∷ []) workers new (cond came ((next + 1) % workers) next)
      same_numbered are same stays = rw (stays, same) (record {
        loaders = λ number name found. its.loaders number name (subst (λ (l : List ℕ). slice_get l number ≡ Some name) are found);
        others = λ name away. its.others name (ap (λ (l : List ℕ). is_among l name) (sym are) ∙ away);
        next_is = its.next_is ∙ ap (λ (l : List ℕ). length l % workers) (sym are);
      })
  named_numbered (Some name) line new came is told =
      elim (is_among (loaders_in lines) name) as (λ b. is_among (loaders_in lines) name ≡ b
      → loaders_in (lines ++ line ∷ []) ≡ cond b (loaders_in lines) (loaders_in lines ++ name ∷ [])
      → IsNumbered (lines ++ line ∷ []) workers new (cond came ((next + 1) % workers) next)) [
        | true ↦ λ there are. same_again are (known name next new came told there)
        | false ↦ λ away are.
            let comes = unknown name next new came told away in
            rw comes (new_numbered name new (lines ++ line ∷ []) told.within away are
            (told.new_is ∙ ap (λ b. cond b (slice_set first name next) first) comes))
      ] refl (loaders_more lines line ∙ ap (λ (o : Option ℕ). name_last o (loaders_in lines)) is)
    where
      same_again : loaders_in (lines ++ line ∷ []) ≡ loaders_in lines → came ≡ false
          → IsNumbered (lines ++ line ∷ []) workers new (cond came ((next + 1) % workers) next)
      same_again are stays =
          rw (stays, told.new_is ∙ ap (λ b. cond b (slice_set first name next) first) stays) (record {
            loaders = λ number other found. its.loaders number other (subst (λ (l : List ℕ). slice_get l number ≡ Some other) are found);
            others = λ other away. its.others other (ap (λ (l : List ℕ). is_among l other) (sym are) ∙ away);
            next_is = its.next_is ∙ ap (λ (l : List ℕ). length l % workers) (sym are);
          })

  pub step_numbered : (line : Line) (step : Step) (named : Option ℕ) (worker : ℕ) (new : List ℕ) (came is : Bool)
      → line.command ≡ Asks step → named ≡ loader_of step → worker ≡ next → Assigns first named worker new came
      → came ≡ is → IsNumbered (lines ++ line ∷ []) workers new (cond is ((next + 1) % workers) next)
  step_numbered line step named worker new came is asks names same told are =
      subst (λ b. IsNumbered (lines ++ line ∷ []) workers new (cond b ((next + 1) % workers) next)) are
      (named_numbered named line new came (ap (λ (command : Command). loader_if (step_of command)) asks ∙ sym names)
      (subst (λ (n : ℕ). Assigns first named n new came) same told))

  pub end_numbered : (line : Line) → step_of line.command ≡ None → IsNumbered (lines ++ line ∷ []) workers first next
  end_numbered line none = named_numbered None line first false (ap loader_if none) (refl, refl)

pub numbered_more : (lines : List Line) (at : ℕ) (line : Line) (workers : ℕ) (first : List ℕ) (next : ℕ)
    → at < length lines → IsNumbered (take at lines ++ get_or lines at line ∷ []) workers first next
    → IsNumbered (take (at + 1) lines) workers first next
numbered_more lines at line workers first next more its = rw (take_more lines at line more) its

pub all_numbered : (lines : List Line) (at workers : ℕ) (first : List ℕ) (next : ℕ) → at ≡ length lines
    → IsNumbered (take at lines) workers first next → AreFirst lines workers first
all_numbered lines at workers first next ends its =
    subst (λ (l : List Line). AreFirst l workers first) (ap (λ (n : ℕ). take n lines) ends ∙ take-length lines)
    its.loaders

-- A slice that was written is all of what lent it.
pub written_back : (count : ℕ) (new old : List ℕ) → length new ≡ length old → count ≡ length old
    → take count (new ++ drop (length new) old) ≡ new
written_back count new old same is =
    ap (λ (l : List ℕ). take count (new ++ l)) (drop_of_length-le old (omega (arith, same)))
    ∙ ap (take count) (append-nil new) ∙ ap (λ (n : ℕ). take n new) (is ∙ sym same) ∙ take-length new

pub all_unnamed : (count : ℕ) (items : List ℕ) → items ≡ replicate count 255 → (name : ℕ)
    → slice_index_or items name 255 ≡ 255
all_unnamed count items are name = ap (λ (l : List ℕ). slice_index_or l name 255) are ∙ each count name 255
  where
    each : (n at value : ℕ) → slice_index_or (replicate n value) at value ≡ value
    each zero at value = refl
    each (suc n) zero value = refl
    each (suc n) (suc at) value = each n at value

-- Workers that are told by number, and by the phase, come by turns.
pub by_turn : (lines : List Line) (workers : ℕ) (first : List ℕ) (at phase : ℕ) → AreFirst lines workers first
    → at ≡ phase % workers → IsByTurn lines workers phase (worker_by first at workers)
by_turn lines workers first at phase numbered is = record {
  purge = refl;
  loaders = λ number name found.
      ap (λ (n : ℕ). (n + at) % workers) (numbered number name found)
      ∙ ap (λ (n : ℕ). (number % workers + n) % workers) is ∙ sym (add-mod number phase workers);
}

-- Each position is that of a share.
pub position_within : (turn : TurnState) → 1 ≤ shares_in turn → AreWithin (position_in turn) (shares_in turn)
position_within turn some name = omega (arith, some)
