use Rattle.std.proofs.Common.{rules, ◌≡◌, ◌+◌, ◌-◌, sym, ap, ◌∙◌, arith}
use Rattle.ms_shared.specs.SeatView.{LockState}
use Rattle.ms_shared.specs.LockRule.{Sat, spare_part}
use Rattle.ms_shared.proofs.SeatCutLemmas.{cut, cuts_blank, join}
use Rattle.ms_shared.proofs.HandLemmas.{cuts_account, gives, takes}
use Rattle.ms_shared.proofs.shared_pool.SharedPool.pass.Goals as goal

pub split_seat-note-requires : goal.split_seat-note-requires
split_seat-note-requires g c =
    let id = ap (λ (l : LockState). l.id) (sym c.self.view_is) in let parts = c.requires.from.parts in (
      c.requires.from.own
          ∙ id,
      search rules,
      cut _ _ _ _ _ _
          (cuts_account g.B.Owner.owner g.B.Owner.space c.args.from.now.me.0 (omega arith) c.requires.counted),
    )

pub join_seat-requires : goal.join_seat-requires
join_seat-requires g c =
    let id = ap (λ (l : LockState). l.id) (sym c.self.view_is) in let note = c.split_seat-note.ensures in let parts =
    c.requires.to.parts in (
      c.requires.to.own ∙ id,
      note.3 ∙ c.requires.from.own ∙ id,
      ap (λ (m : Sat). m.1) note.4,
      search rules,
      join _ _ _ _ _ _ (omega arith) c.requires.to.free (ap (λ (m : Sat). m.0.taken) note.4),
    )

pub split_seat-part-requires : goal.split_seat-part-requires
split_seat-part-requires g c =
    let id = ap (λ (l : LockState). l.id) (sym c.self.view_is) in let note = c.split_seat-note.ensures in let to =
    c.join_seat.ensures in
    let two = c.requires.to.parts in let one : c.split_seat-note.result.me.0.parts ≡ 1 =
    ap (λ (m : Sat). m.0.parts) note.4 in
    let three : c.join_seat.new.seat.me.0.parts ≡ c.args.to.now.me.0.parts + c.split_seat-note.result.me.0.parts =
    ap (λ (m : Sat). m.0.parts) to.2 in (
      to.0 ∙ c.requires.to.own
          ∙ id,
      search rules,
      cut _ _ _ _ _ _ (cuts_blank c.join_seat.new.seat.me.0 _ 1 (omega arith) (omega arith) (omega arith)),
    )

pub join_seat-requires-2 : goal.join_seat-requires-2
join_seat-requires-2 g c =
    let id = ap (λ (l : LockState). l.id) (sym c.self.view_is) in let from = c.split_seat-note.ensures in let part =
    c.split_seat-part.ensures in
    let two = c.requires.from.parts in
    let one : c.split_seat-note.new.seat.me.0.parts ≡ c.args.from.now.me.0.parts - 1 =
    ap (λ (m : Sat). m.0.parts) from.2 in (
      from.0 ∙ c.requires.from.own ∙ id,
      part.3 ∙ c.join_seat.ensures.0 ∙ c.requires.to.own ∙ id,
      ap (λ (m : Sat). m.1) part.4,
      search rules,
      join _ _ _ _ _ _ (omega arith) (ap (λ (m : Sat). m.0.taken) from.2 ∙ c.requires.from.free)
          (ap (λ (m : Sat). m.0.taken) part.4),
    )

pub returns-clause-from_own : goal.returns-clause-from_own
returns-clause-from_own g c = c.join_seat-2.ensures.0 ∙ c.split_seat-note.ensures.0

pub returns-clause-from : goal.returns-clause-from
returns-clause-from g c =
    gives c.split_seat-note.new.seat.me c.split_seat-part.result.me _ _ _ c.join_seat-2.ensures.2 (ap (λ (m : Sat). m.0) c.split_seat-note.ensures.2)
    (ap (λ (m : Sat). m.0) c.split_seat-part.ensures.4 ∙ ap (λ (m : Sat). spare_part m.0) c.join_seat.ensures.2)
    (ap (λ (m : Sat). m.1) c.split_seat-note.ensures.2 ∙ c.requires.from.slots)

pub returns-clause-to_own : goal.returns-clause-to_own
returns-clause-to_own g c = c.split_seat-part.ensures.0 ∙ c.join_seat.ensures.0

pub returns-clause-to : goal.returns-clause-to
returns-clause-to g c =
    takes c.args.to.now.me c.split_seat-note.result.me _ _ _ c.split_seat-part.ensures.2 c.join_seat.ensures.2
    (ap (λ (m : Sat). m.0) c.split_seat-note.ensures.4) c.requires.to.slots
