-- The machine takes in what a line says, and what it gives is handed on.
use Rattle.std.proofs.Common.{rules, ◌≢◌, ◌≡◌, ◌∙◌, [], ◌∷◌, ap, subst, sym}
use Rattle.jvm_log.specs.declared.event.Event.TheVariants.{OtherRelease}
use Rattle.jvm_log.specs.declared.machine.Machine.{Machine}
use Rattle.jvm_log.specs.Following.{Learns}
use Rattle.jvm_log.specs.Held.{IsAwaiting}
use Rattle.jvm_log.specs.Known.{known_in}
use Rattle.jvm_log.specs.Waits.{UsesNames, is_closed}
use Rattle.log_session.specs.UnderWay.{held_in}
use Rattle.log_session.specs.declared.conversion.Conversion.{Conversion}
use Rattle.log_session.proofs.TraceLemmas.{ok_both, ok_map}
use Rattle.log_session.proofs.UnderWayLemmas.{goes_on, takes_in}
use Rattle.log_session.proofs.conversion.ConversionListener.hear.Goals as goal

pub returns : goal.returns
returns g c =
    let other : c.args.said.event ≢ OtherRelease = search rules in
    let its = c.in_ok-trouble.ensures in
    let learns : IsAwaiting (held_in c.args.self.now) → Learns c.args.said (known_in c.args.self.now.machine) (known_in c.take_in.new.self) =
    λ awaits. record {
      awaits = awaits;
      lines = its.lines;
      requests = its.requests;
      loaders = its.loaders;
      blocks = its.blocks;
      asked = its.reports;
    } in
    let machine : c.take_in.new.self ≡ c.learn.new.self.machine =
    sym (ap (λ (its : Conversion g.row.E.Denot). its.machine) c.in_ok-learn.ensures
    ∙ ap (λ (its : Conversion g.row.E.Denot). its.machine) c.in_ok-warn.ensures) in
    let bytes = g.W.Write.contents c.args.output.now in
    ok_map c.hand_on.result _ _
    (λ (on, (same, stops)). (
      other,
      λ awaits. (
        record { more = same ∙ ap (λ (m : Machine). is_closed m) (sym machine) ∙ its.lines.closed ∙ awaits.more; first = stops },
        goes_on (c.args.said ∷ []) [] (c.args.self.now, bytes) (c.learn.new.self, bytes)
            (c.hand_on.new.self, g.W.Write.contents c.hand_on.new.output)
            (takes_in c.args.self.now c.learn.new.self bytes c.args.said
            (subst (λ (m : Machine). Learns c.args.said (known_in c.args.self.now.machine) (known_in m)) machine (learns awaits))
            (subst (UsesNames c.args.self.now.machine) machine its.names)
            (ap (λ (its : Conversion g.row.E.Denot). its.options) c.in_ok-learn.ensures
            ∙ ap (λ (its : Conversion g.row.E.Denot). its.options) c.in_ok-warn.ensures)
            (ap (λ (its : Conversion g.row.E.Denot). its.kept) c.in_ok-learn.ensures
            ∙ ap (λ (its : Conversion g.row.E.Denot). its.kept) c.in_ok-warn.ensures)
            (ap (λ (its : Conversion g.row.E.Denot). its.text) c.in_ok-learn.ensures
            ∙ ap (λ (its : Conversion g.row.E.Denot). its.text) c.in_ok-warn.ensures))
            on,
      ),
    ))
    (ok_both c.hand_on.result _ _ c.hand_on.ensures.comes
    (ok_both c.hand_on.result _ _ c.hand_on.ensures.closed c.hand_on.ensures.stops))
