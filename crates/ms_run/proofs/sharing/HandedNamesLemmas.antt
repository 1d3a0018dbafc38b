-- Both seats' loaders, and their names, once one was handed on. For `hand_on`.
use Rattle.std.proofs.Common.{◌≡◌, ℕ, Some, None, refl, sym, ap}
use Rattle.std.proofs.Common.{◌∙◌, inl, inr, false}
use Rattle.std.specs.Option.{is_some}
use Rattle.std.proofs.lemmas.Option.{none-some}
use Rattle.ms_base.specs.declared.kind.Space.TheVariants.{NonClass, Class}
use Rattle.ms_base.specs.Names.{AreNamed, named, with_new, without}
use Rattle.ms_base.proofs.entries.LookupLemmas.{named_new_same, named_new_other, named_without_other}
use Rattle.ms_base.proofs.events.SeenEntryLemmas.{named_without_same}
use Rattle.ms_loader.specs.Loader.{LoaderView}
use Rattle.ms_shared.specs.SeatView.{SeatState, without_account, with_account}
use Rattle.ms_run.specs.Dealing.{Loaded, AreBeside, IsHanded}
use Rattle.ms_loader_map.proofs.NamedLemmas.{missing}
use Rattle.ms_run.proofs.sharing.HandOnLemmas.{handed}

-- Each seat serves its own then, by what the calls say.
pub beside_after : (name : ℕ) (v : LoaderView) (loaders others after others_after : Loaded)
    (from to from_end to_end : SeatState)
    → named loaders name ≡ Some v → named others name ≡ None → AreBeside from.knows loaders to.knows others
    → from_end ≡ record from {
      knows = without_account v.class_owner Class (without_account v.owner NonClass from.knows);
    }
    → to_end ≡ record to {
      knows = with_account v.class_owner Class (without_account v.owner NonClass from.knows)
          (with_account v.owner NonClass from.knows to.knows);
    }
    → after ≡ without loaders name → others_after ≡ with_new others name v
    → AreBeside from_end.knows after to_end.knows others_after
beside_after name v loaders others after others_after from to from_end to_end found none its from_is to_is left made =
    rw (ap (λ (s : SeatState). s.knows) from_is, ap (λ (s : SeatState). s.knows) to_is, left, made)
    (handed name v loaders others from.knows to.knows found its none)

-- What has a name then.
pub handed_names : (name : ℕ) (v : LoaderView) (loaders others after others_after : Loaded) → AreNamed loaders
    → named loaders name ≡ Some v
    → after ≡ without loaders name → others_after ≡ with_new others name v
    → IsHanded name loaders others after others_after
handed_names name v loaders others after others_after names found left made = rw (left, made) (record {
  gone = named_without_same loaders name names;
  there = inl ((λ none. none-some v (sym none ∙ found)), named_new_same others name v ∙ sym found);
  stay = λ other differ. (named_without_other loaders name other differ, named_new_other others name v other differ);
})

-- Where no loader has the name, all stays.
pub none_handed : (name : ℕ) (loaders others : Loaded) → is_some (named loaders name) ≡ false
    → IsHanded name loaders others loaders others
none_handed name loaders others none = record {
  gone = missing (named loaders name) none;
  there = inr (missing (named loaders name) none, refl);
  stay = λ other differ. (refl, refl);
}
