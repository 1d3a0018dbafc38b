-- A word keeps its value through each request that leaves it, so a read is answered by the last
-- value written.
use Rattle.std.proofs.Common.{◌≡◌, ℕ, true, false, not, ◌&&◌, Some, None, List, [], ◌∷◌, ◌++◌}
use Rattle.std.proofs.Common.{sym, ap, ◌∙◌, subst, inl, inr}
use Rattle.std.specs.Prelude.{◌==◌, slice_get, slice_set}
use Rattle.std.proofs.lemmas.Bool.{and_parts, not-true, cases_eq}
use Rattle.ms_base.specs.declared.kind.Space.{Space}
use Rattle.ms_base.specs.declared.kind.Space.TheVariants.{NonClass, Class}
use Rattle.ms_base.specs.Spaces.{space_at}
use Rattle.ms_base.specs.Live.{LiveBlock}
use Rattle.ms_base.specs.declared.step.Step.{Step}
use Rattle.ms_base.specs.declared.step.Step.TheVariants.{New, Alloc, Calloc, Write, Read, Free, Unload, Purge}
use Rattle.ms_base.specs.declared.step.Reply.{Reply}
use Rattle.ms_base.specs.declared.step.Reply.TheVariants.{Ok as Done, At, Value, Refused}
use Rattle.ms_base.specs.declared.refusal.Refusal.{Refusal}
use Rattle.ms_base.specs.declared.refusal.Refusal.TheVariants.{OutOfMemory}
use Rattle.ms_base.specs.Names.{named, with_new, with_changed, without}
use Rattle.ms_base.specs.State.{LoaderState, Machine, empty_loader}
use Rattle.ms_base.specs.Live.{block_words}
use Rattle.ms_base.specs.Transition.{Allocates, Writes, Reads, Frees, Unloads, Makes, Leaves, Transition}
use Rattle.ms_base.specs.Transition.{with_allocated, with_freed, zeroed}
use Rattle.ms_base.specs.Run.{Run}
use Rattle.ms_base.specs.Request.{alloc_in}
use Rattle.ms_base.specs.Laws.Word.{changes_word, leave_word, ReadsAfter}
use Rattle.ms_base.proofs.entries.LookupLemmas.{named_changed_same, named_changed_other, named_new_same}
use Rattle.ms_base.proofs.entries.LookupLemmas.{named_new_other, named_without_other}
use Rattle.ms_base.proofs.machine.ContentsLemmas.{get_set_same, get_set_other, get_zero, all_same, same_one}
use Rattle.ms_base.proofs.machine.ContentsLemmas.{both_same}

-- A word of a block that is there can be read as this value alone.
pub record HoldsWord (loaders : List (ℕ × LoaderState)) (name block index value : ℕ) : Type 0 where
  pub loader : LoaderState
  pub found : LiveBlock
  pub has : named loaders name ≡ Some loader
  pub block_is : named loader.blocks block ≡ Some found
  pub word : (read : ℕ) → slice_get found.contents index ≡ Some read → read ≡ value

-- A change of another loader.
beside : (loaders after : List (ℕ × LoaderState)) (name block index value : ℕ) → named after name ≡ named loaders name
    → HoldsWord loaders name block index value → HoldsWord after name block index value
beside loaders after name block index value same h =
    record { loader = h.loader; found = h.found; has = same ∙ h.has; block_is = h.block_is; word = h.word }

-- A change of the loader's other blocks.
pub in_changed_loader : (loaders : List (ℕ × LoaderState)) (at name block index value : ℕ) (before after : LoaderState)
    → named loaders at ≡ Some before → (at ≡ name → named after.blocks block ≡ named before.blocks block)
    → HoldsWord loaders name block index value → HoldsWord (with_changed loaders at after) name block index value
in_changed_loader loaders at name block index value before after found same h = elim (cases_eq at name) [
  | inl e ↦
      let one : Some before ≡ Some h.loader = sym found ∙ ap (named loaders) e ∙ h.has in
      let its : before ≡ h.loader = cc in
      record {
        loader = after;
        found = h.found;
        has = subst (λ (n : ℕ). named (with_changed loaders at after) n ≡ Some after) e
            (named_changed_same loaders at before after found);
        block_is = same e ∙ ap (λ (l : LoaderState). named l.blocks block) its ∙ h.block_is;
        word = h.word;
      }
  | inr differ ↦ beside loaders (with_changed loaders at after) name block index value
      (named_changed_other loaders at after name differ) h
]

-- A new loader has another name.
after_new : (old new : Machine) (at : ℕ) (made : LoaderState) (name block index value : ℕ) → Makes old at made new
    → HoldsWord old.loaders name block index value → HoldsWord new.loaders name block index value
after_new old new at made name block index value m h =
    rw m.after
    (beside old.loaders (with_new old.loaders at made) name block index value
    (named_new_other old.loaders at made name (λ e. taken (ap (named old.loaders) (sym e)))) h)
  where
    taken : named old.loaders name ≡ named old.loaders at → ⊥
    taken e = let both : Some h.loader ≡ None = sym h.has ∙ e ∙ m.unused in cc

-- A new block has another name, or is another loader's.
after_alloc : (old new : Machine) (space : Space) (at other words start name block index value : ℕ)
    → Allocates old space at other words start new → HoldsWord old.loaders name block index value
    → HoldsWord new.loaders name block index value
after_alloc old new space at other words start name block index value a h =
    rw a.after (in_changed_loader old.loaders at name block index value a.before
    (with_allocated space a.before a.arena other (zeroed start (block_words words))) a.found
    (λ e. named_new_other a.before.blocks other (zeroed start (block_words words)) block (λ blocks. taken e blocks)) h)
  where
    taken : at ≡ name → other ≡ block → ⊥
    taken e blocks =
        let one : Some a.before ≡ Some h.loader = sym a.found ∙ ap (named old.loaders) e ∙ h.has in
        let its : a.before ≡ h.loader = cc in
        let both : Some h.found ≡ None = sym h.block_is ∙ ap (λ (l : LoaderState). named l.blocks block) (sym its)
        ∙ ap (named a.before.blocks) (sym blocks) ∙ a.unused in
        cc

-- A write to another word of the block.
after_same_block : (loaders : List (ℕ × LoaderState)) (name block index value : ℕ) (loader : LoaderState)
    (found : LiveBlock) (i written : ℕ) → named loaders name ≡ Some loader → named loader.blocks block ≡ Some found
    → (i ≡ index → ⊥) → HoldsWord loaders name block index value
    → HoldsWord
    (with_changed loaders name
    (record loader {
      blocks = with_changed loader.blocks block
          (record found { contents = slice_set found.contents i written });
    })) name block index value
after_same_block loaders name block index value loader found i written has block_is differ h =
    let one : Some loader ≡ Some h.loader = sym has ∙ h.has in
    let its : loader ≡ h.loader = cc in
    let other : Some found ≡ Some h.found = sym block_is ∙ ap (λ (l : LoaderState). named l.blocks block) its
    ∙ h.block_is in
    let its_block : found ≡ h.found = cc in
    record {
      loader = record loader {
        blocks = with_changed loader.blocks block
            (record found { contents = slice_set found.contents i written });
      };
      found = record found { contents = slice_set found.contents i written };
      has = named_changed_same loaders name loader _ has;
      block_is = named_changed_same loader.blocks block found _ block_is;
      word = λ read e. h.word read
          (ap (λ (b : LiveBlock). slice_get b.contents index) (sym its_block)
          ∙ sym (get_set_other found.contents i index written differ) ∙ e);
    }

after_write : (old new : Machine) (at other i written name block index value : ℕ) → Writes old at other i written new
    → ((at == name) && (other == block) && (i == index)) ≡ false → HoldsWord old.loaders name block index value
    → HoldsWord new.loaders name block index value
after_write old new at other i written name block index value w leaves h = rw w.after (elim (cases_eq other block) [
  | inl blocks ↦ elim (cases_eq at name) [
    | inl e ↦ subst (λ (n : ℕ). HoldsWord (with_changed old.loaders at after) n block index value) e
        (subst (λ (n : ℕ). HoldsWord (with_changed old.loaders at after) at n index value) blocks
        (after_same_block old.loaders at other index value w.loader w.found i written w.has.loader_is w.has.block_is
        (another e blocks) (rw (e, blocks) h)))
    | inr differ ↦ in_changed_loader old.loaders at name block index value w.loader after w.has.loader_is
        (λ e. absurd (differ e)) h
  ]
  | inr differ ↦ in_changed_loader old.loaders at name block index value w.loader after w.has.loader_is
      (λ e. named_changed_other w.loader.blocks other _ block differ) h
])
  where
    after : LoaderState
    after = record w.loader {
      blocks = with_changed w.loader.blocks other
          (record w.found { contents = slice_set w.found.contents i written });
    }

    another : at ≡ name → other ≡ block → i ≡ index → ⊥
    another e blocks words = let t = all_same name block index in let f = rw (e, blocks, words) at leaves in cc

-- A block freed that is another.
after_free : (old new : Machine) (at other name block index value : ℕ) → Frees old at other new
    → ((at == name) && (other == block)) ≡ false → HoldsWord old.loaders name block index value
    → HoldsWord new.loaders name block index value
after_free old new at other name block index value f leaves h =
    rw f.after (in_changed_loader old.loaders at name block index value f.loader
    (with_freed (space_at f.found.start) f.loader other f.kept) f.has.loader_is
    (λ e. named_without_other f.loader.blocks other block (λ blocks. another e blocks)) h)
  where
    another : at ≡ name → other ≡ block → ⊥
    another e blocks = let t = both_same name block in let f = rw (e, blocks) at leaves in cc

-- A loader unloaded that is another.
after_unload : (old new : Machine) (at name block index value : ℕ) → Unloads old at new → (at == name) ≡ false
    → HoldsWord old.loaders name block index value → HoldsWord new.loaders name block index value
after_unload old new at name block index value u leaves h =
    rw u.after
    (beside old.loaders (without old.loaders at) name block index value
    (named_without_other old.loaders at name another) h)
  where
    another : at ≡ name → ⊥
    another e = let t = same_one name in let f = rw e at leaves in cc

-- A request refused.
after_refusal : (old new : Machine) (step : Step) (refusal : Refusal) (name block index value : ℕ)
    → Leaves old step refusal new → HoldsWord old.loaders name block index value
    → HoldsWord new.loaders name block index value
after_refusal old new (New at kind) OutOfMemory name block index value l h = elim l [
  | inl same ↦ rw same h
  | inr counted ↦ rw counted h
]
after_refusal old new _ _ name block index value l h = rw l h

-- Any request that leaves the word.
after_step : (old new : Machine) (step : Step) (reply : Reply) (name block index value : ℕ)
    → Transition old step reply new → changes_word name block index step reply ≡ false
    → HoldsWord old.loaders name block index value → HoldsWord new.loaders name block index value
after_step old new step (Refused refusal) name block index value t leaves h =
    after_refusal old new step refusal name block index value t.1 h
after_step old new (New at kind) Done name block index value t leaves h =
    after_new old new at (empty_loader kind) name block index value t.0 h
after_step old new (Alloc at other words) (At start) name block index value t leaves h =
    after_alloc old new NonClass at other words start name block index value t.0 h
after_step old new (Calloc at other words) (At start) name block index value t leaves h =
    after_alloc old new Class at other words start name block index value t.0 h
after_step old new (Write at other i written) Done name block index value t leaves h =
    after_write old new at other i written name block index value t.0 leaves h
after_step old new (Read at other i) (Value read) name block index value t leaves h = rw t.0.after h
after_step old new (Free at other) Done name block index value t leaves h =
    after_free old new at other name block index value t.0 leaves h
after_step old new (Unload at) Done name block index value t leaves h =
    after_unload old new at name block index value t.0 leaves h
after_step old new Purge Done name block index value t leaves h = rw t.0 h
after_step old new _ _ name block index value t leaves h = absurd t.0

-- A read answers the word.
after_read : (old new : Machine) (name block index value read : ℕ) → Reads old name block index read new
    → HoldsWord old.loaders name block index value → read ≡ value
after_read old new name block index value read r h =
    let one : Some r.loader ≡ Some h.loader = sym r.has.loader_is ∙ h.has in
    let its : r.loader ≡ h.loader = cc in
    let other : Some r.found ≡ Some h.found = sym r.has.block_is ∙ ap (λ (l : LoaderState). named l.blocks block) its
    ∙ h.block_is in
    let its_block : r.found ≡ h.found = cc in
    h.word read (ap (λ (b : LiveBlock). slice_get b.contents index) (sym its_block) ∙ r.word)

-- So does a read after requests that leave it.
after_run : (old new : Machine) (steps : List Step) (replies : List Reply) (name block index value read : ℕ)
    → Run old (steps ++ Read name block index ∷ []) (replies ++ Value read ∷ []) new
    → leave_word name block index steps replies ≡ true → HoldsWord old.loaders name block index value → read ≡ value
after_run old new [] [] name block index value read run leaving h =
    after_read old run.0 name block index value read run.1.0 h
after_run old new [] (r ∷ []) name block index value read run leaving h = absurd run.2
after_run old new [] (r ∷ q ∷ replies) name block index value read run leaving h = absurd run.2
after_run old new (s ∷ []) [] name block index value read run leaving h = absurd run.2
after_run old new (s ∷ t ∷ steps) [] name block index value read run leaving h = absurd run.2
after_run old new (s ∷ steps) (r ∷ replies) name block index value read run leaving h =
    let both = and_parts (not (changes_word name block index s r)) (leave_word name block index steps replies) leaving
    in
    after_run run.0 new steps replies name block index value read run.2 both.1
    (after_step old run.0 s r name block index value run.1 (not-true (changes_word name block index s r) both.0) h)

-- A written word is read as what was written.
pub read_after_write : (old : Machine) (name block index written value : ℕ)
    → ReadsAfter old name block index (Write name block index written) Done value → value ≡ written
read_after_write old name block index written value r =
    after_run r.run.0 r.new r.steps r.replies name block index written value r.run.2 r.leaving (rw w.after (record {
      loader = after;
      found = record w.found { contents = slice_set w.found.contents index written };
      has = named_changed_same old.loaders name w.loader after w.has.loader_is;
      block_is = named_changed_same w.loader.blocks block w.found _ w.has.block_is;
      word = λ read e. get_set_same w.found.contents index written read e;
    }))
  where
    w : Writes old name block index written r.run.0
    w = r.run.1.0

    after : LoaderState
    after = record w.loader {
      blocks = with_changed w.loader.blocks block
          (record w.found { contents = slice_set w.found.contents index written });
    }

-- A word of a new block is read as 0.
after_alloc_in : (space : Space) (old mid new : Machine) (name block index words start value : ℕ) (steps : List Step)
    (replies : List Reply)
    → Allocates old space name block words start mid
    → Run mid (steps ++ Read name block index ∷ []) (replies ++ Value value ∷ []) new
    → leave_word name block index steps replies ≡ true → value ≡ 0
after_alloc_in space old mid new name block index words start value steps replies a run leaving =
    after_run mid new steps replies name block index 0 value run leaving (rw a.after (record {
      loader = after;
      found = zeroed start (block_words words);
      has = named_changed_same old.loaders name a.before after a.found;
      block_is = named_new_same a.before.blocks block (zeroed start (block_words words));
      word = λ read e. get_zero (block_words words) index read e;
    }))
  where
    after : LoaderState
    after = with_allocated space a.before a.arena block (zeroed start (block_words words))

pub read_after_alloc : (space : Space) (old : Machine) (name block index words start value : ℕ)
    → ReadsAfter old name block index (alloc_in space name block words) (At start) value → value ≡ 0
read_after_alloc NonClass old name block index words start value r =
    after_alloc_in NonClass old r.run.0 r.new name block index words start value r.steps r.replies r.run.1.0 r.run.2
    r.leaving
read_after_alloc Class old name block index words start value r =
    after_alloc_in Class old r.run.0 r.new name block index words start value r.steps r.replies r.run.1.0 r.run.2
    r.leaving
