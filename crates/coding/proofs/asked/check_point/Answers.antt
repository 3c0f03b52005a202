-- `check_point` is the list of checks, test by test.
use Rattle.std.proofs.Common.{rules, arith, sym, ◌*◌, nat_abs, length, eq-eqb, ne_eqb, le-leb}
use Rattle.std.proofs.lemmas.Bool.{lt-leb}
use Rattle.coding.specs.Answers.{check_point}
use Rattle.coding.specs.Laws.Asked.{checked-allowed}
use Rattle.coding.proofs.asked.check_point.Goals as goal

pub returns-then-e-ne8 : goal.returns-then-e-ne8
unfolding check_point
returns-then-e-ne8 c = rw (sym c.in_ok-check_settings.ensures, ne_eqb (length c.args.e.now) 8 c.if-e-ne8.true)

pub layers-requires : goal.layers-requires
layers-requires c = checked-allowed c.args.s (sym c.in_ok-check_settings.ensures)

pub returns-then-room-layers : goal.returns-then-room-layers
unfolding check_point
returns-then-room-layers c = rw (sym c.in_ok-check_settings.ensures, eq-eqb (length c.args.e.now) 8 c.if-e-ne8.false, lt-leb (8 * nat_abs c.args.s.m) c.args.room (omega arith))

pub returns-in_err-check_settings : goal.returns-in_err-check_settings
unfolding check_point
returns-in_err-check_settings c = rw (sym c.in_err-check_settings.ensures) (search rules)

pub returns-then-good_point : goal.returns-then-good_point
unfolding check_point
returns-then-good_point c =
    rw (sym c.in_ok-check_settings.ensures, eq-eqb (length c.args.e.now) 8 c.if-e-ne8.false, le-leb (8 * nat_abs c.args.s.m) c.args.room (omega arith), sym c.if-good_point.ensures)

pub returns-else-good_point : goal.returns-else-good_point
unfolding check_point
returns-else-good_point c =
    rw (sym c.in_ok-check_settings.ensures, eq-eqb (length c.args.e.now) 8 c.if-e-ne8.false, le-leb (8 * nat_abs c.args.s.m) c.args.room (omega arith), sym c.if-good_point.ensures)
