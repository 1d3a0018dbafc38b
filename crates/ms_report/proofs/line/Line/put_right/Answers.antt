-- The digits end where they shall, and what stands before them is blank.
use Rattle.std.proofs.Common.{◌∙◌, ◌≤◌, ◌++◌, ap, sym, arith, decimal, length, length-drop}
use Rattle.ms_report.specs.Layout.{right_in}
use Rattle.ms_report.proofs.ColumnLemmas.{digits_fit, number_put, room_before}
use Rattle.ms_report.proofs.line.Line.put_right.Goals as goal

pub write_digits-start-requires : goal.write_digits-start-requires
write_digits-start-requires c =
    let room : 20 ≤ c.self.inside.from =
    room_before c.args.self.now c.self.inside.bytes c.self.inside.from 20 (sym c.self.view_is) c.self.told
    c.self.invariant.within c.requires.room in (
      omega (arith, digits_fit c.args.number c.ranges.number.fits, room),
      omega (arith, c.self.told, c.self.invariant.within),
    )

pub invariant_of-self : goal.invariant_of-self
invariant_of-self c =
    let digits = c.write_digits-start.ensures in
    let put =
    number_put c.self.inside.bytes c.write_digits-start.new.buf c.args.width c.args.number c.self.inside.from
    c.write_digits-start.result c.min-self-inside.result c.self.invariant c.ranges.number.fits c.requires.width
    (room_before c.args.self.now c.self.inside.bytes c.self.inside.from 20 (sym c.self.view_is) c.self.told
    c.self.invariant.within c.requires.room) digits.start digits.before digits.written c.min-self-inside.ensures in
    put.is_line

pub returns : goal.returns
returns c =
    let digits = c.write_digits-start.ensures in
    let put =
    number_put c.self.inside.bytes c.write_digits-start.new.buf c.args.width c.args.number c.self.inside.from
    c.write_digits-start.result c.min-self-inside.result c.self.invariant c.ranges.number.fits c.requires.width
    (room_before c.args.self.now c.self.inside.bytes c.self.inside.from 20 (sym c.self.view_is) c.self.told
    c.self.invariant.within c.requires.room) digits.start digits.before digits.written c.min-self-inside.ensures in
    record {
      written = put.written ∙ ap (λ later. right_in c.args.width (decimal c.args.number) ++ later) c.self.view_is;
      near = omega (
        arith,
        put.near,
        ap length c.self.view_is,
        length-drop c.self.inside.from c.self.inside.bytes,
        length-drop c.min-self-inside.result c.write_digits-start.new.buf,
        c.self.told,
        c.write_digits-start.auto.buf,
      );
    }
