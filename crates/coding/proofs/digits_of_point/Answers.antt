-- `digits_of_point` answers what is left over and writes the digits where nothing is refused.
use Rattle.std.proofs.Common.{rules, arith, sym, ◌∙◌, ◌≡◌, ◌*◌, ◌^◌, ◌<◌, ◌++◌, length, drop, w64}
use Rattle.std.specs.Prelude.{ℤ, nat_abs}
use Rattle.std.proofs.lemmas.Int.{to_z-of_z}
use lib.Signed.{mag}
use mir.Val.{SFits, to_z, of_z}
use Rattle.integers.specs.Laws.Sums.{sized-more}
use Rattle.refusals.specs.Limits.{point_most}
use Rattle.coding.specs.Answers.{coded, digit_room}
use Rattle.coding.specs.Laws.Asked.{allowed-base, PointTaken, point-taken, leftover-narrow}
use Rattle.layers.specs.E8.{digits8, leftover8}
use Rattle.layers.proofs.Laws.E8.{digits8-long}
use Rattle.coding.proofs.digits_of_point.Goals as goal
use Rattle.coding.proofs.digits_of_point.Goals.{In_ok-check_point, After-layers, After-digits-g}

taken : (c : In_ok-check_point) → PointTaken c.args.s c.args.e.now (length c.args.out.now)
taken c = point-taken c.args.s c.args.e.now (length c.args.out.now) (sym c.in_ok-check_point.ensures)

-- the base as the layers take it is that of the settings
settled : (z q : ℤ) → z ≡ q → mag z < 2 ^ 63 → to_z w64 (of_z w64 z) ≡ q
settled z q e h = let k : SFits w64 z = record { sfits = h } in to_z-of_z w64 z k ∙ e

-- what is coded
coded_is : (c : After-digits-g)
    → (c.digits-g.result ≡ leftover8 (nat_abs c.args.s.q) (nat_abs c.args.s.m) c.args.e.now)
    × (c.digits-g.new.out ≡ digits8 (nat_abs c.args.s.q) (nat_abs c.args.s.m) c.args.e.now ++ drop (8 * nat_abs c.args.s.m) c.args.out.now)
coded_is c = rw (settled c.base.result c.args.s.q c.base.ensures c.base.type_inv, c.widen.ensures, c.layers.ensures) at c.digits-g.ensures

pub widen-requires : goal.widen-requires
widen-requires c = (taken c).input.long

pub base-requires : goal.base-requires
base-requires c = (taken (goal.at.base-requires c).In_ok-check_point).allowed

pub layers-requires : goal.layers-requires
layers-requires c = (taken (goal.at.layers-requires c).In_ok-check_point).allowed

pub digits-g-requires : goal.digits-g-requires
digits-g-requires c = let h = taken (goal.at.digits-g-requires c).In_ok-check_point in
    rw (settled c.base.result c.args.s.q c.base.ensures c.base.type_inv, c.widen.ensures, c.layers.ensures) (
      allowed-base c.args.s.q c.args.s.m h.allowed,
      sized-more 8 point_most c.args.e.now h.input (2 ^ 26) (omega arith),
      h.fits,
    )

pub narrow-requires : goal.narrow-requires
narrow-requires c =
    let d = goal.at.narrow-requires c in
    rw (coded_is d.After-digits-g).0 (leftover-narrow c.args.s c.args.e.now (length c.args.out.now) (taken d.In_ok-check_point))

pub returns-in_err-check_point : goal.returns-in_err-check_point
unfolding coded digit_room
returns-in_err-check_point c = record { answer = rw (sym c.in_err-check_point.ensures) (search rules); room = rw (sym c.in_err-check_point.ensures) }

pub returns : goal.returns
unfolding coded digit_room
returns c =
    let k = coded_is (goal.at.returns c).After-digits-g in
    record {
      answer = rw (sym c.in_ok-check_point.ensures, c.narrow.ensures, k.0);
      room = rw (sym c.in_ok-check_point.ensures, digits8-long (nat_abs c.args.s.q) (nat_abs c.args.s.m) c.args.e.now) k.1;
    }
