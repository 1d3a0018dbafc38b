use Rattle.std.proofs.Common.{◌∙◌, sym, ap}
use Rattle.ms_shared.specs.SeatView.{SeatState}
use Rattle.ms_run.proofs.sharing.HandOnLemmas.{serves_first, serves_second, counts_first, counts_second}
use Rattle.ms_run.proofs.sharing.HandedNamesLemmas.{beside_after}
use Rattle.ms_run.proofs.sharing.HandedNamesLemmas.{handed_names}
use Rattle.ms_run.proofs.metered.DealtUseLemmas.{used_handed}
use Rattle.ms_run.proofs.dealing.hand_on.Goals as goal

pub hand_accounts-requires-clause-served : goal.hand_accounts-requires-clause-served
hand_accounts-requires-clause-served c =
    serves_first c.args.name c.in-Some.loader _ c.args.to.now.loaders _ c.args.to.now.seat.knows
    (sym c.remove.ensures.found ∙ c.in-Some.is) c.requires.crews.beside

pub hand_accounts-requires-clause-counted : goal.hand_accounts-requires-clause-counted
hand_accounts-requires-clause-counted c =
    counts_first c.args.name c.in-Some.loader _ c.args.to.now.loaders _ c.args.to.now.seat.knows
    (sym c.remove.ensures.found ∙ c.in-Some.is) c.requires.crews.beside

pub hand_accounts-requires-clause-class_served : goal.hand_accounts-requires-clause-class_served
hand_accounts-requires-clause-class_served c =
    serves_second c.args.name c.in-Some.loader _ c.args.to.now.loaders _ c.args.to.now.seat.knows (sym c.remove.ensures.found ∙ c.in-Some.is)
    c.requires.crews.beside

pub hand_accounts-requires-clause-class_counted : goal.hand_accounts-requires-clause-class_counted
hand_accounts-requires-clause-class_counted c =
    counts_second c.args.name c.in-Some.loader _ c.args.to.now.loaders _ c.args.to.now.seat.knows (sym c.remove.ensures.found ∙ c.in-Some.is)
    c.requires.crews.beside

pub returns-clause-crews : goal.returns-clause-crews
returns-clause-crews c = record {
  own = ap (λ (seat : SeatState). seat.id) c.hand_accounts.ensures.from ∙ c.requires.crews.own;
  to_own = ap (λ (seat : SeatState). seat.id) c.hand_accounts.ensures.to ∙ c.requires.crews.to_own;
  beside = beside_after c.args.name c.in-Some.loader _ _ _ _ c.args.from.now.seat c.args.to.now.seat _ _
      (sym c.remove.ensures.found ∙ c.in-Some.is) c.in-Ok.ensures.fresh c.requires.crews.beside
      c.hand_accounts.ensures.from c.hand_accounts.ensures.to c.remove.ensures.rest c.in-Ok.ensures.inserted;
}

pub returns-clause-handed : goal.returns-clause-handed
returns-clause-handed c =
    handed_names _ c.in-Some.loader _ _ _ _ c.requires.crews.beside.manned.names (sym c.remove.ensures.found ∙ c.in-Some.is)
    c.remove.ensures.rest c.in-Ok.ensures.inserted

pub returns-clause-used : goal.returns-clause-used
returns-clause-used c =
    used_handed c.args.from.now.loaders c.args.to.now.loaders _ _ c.args.name c.in-Some.loader
    (sym c.remove.ensures.found ∙ c.in-Some.is) c.remove.ensures.rest c.in-Ok.ensures.fresh c.in-Ok.ensures.inserted

pub returns-clause-from : goal.returns-clause-from
returns-clause-from c = record {
  number = ap (λ (seat : SeatState). seat.number) c.hand_accounts.ensures.from;
  events = ap (λ (seat : SeatState). seat.events) c.hand_accounts.ensures.from;
}

pub returns-clause-to : goal.returns-clause-to
returns-clause-to c = record {
  number = ap (λ (seat : SeatState). seat.number) c.hand_accounts.ensures.to;
  events = ap (λ (seat : SeatState). seat.events) c.hand_accounts.ensures.to;
}
