-- `point_of_digits` answers the decoded point where nothing is refused.
use Rattle.std.proofs.Common.{rules, arith, sym, ◌∙◌, ◌≡◌, ◌^◌, ◌<◌, w64}
use Rattle.std.specs.Prelude.{ℤ, nat_abs}
use Rattle.std.proofs.lemmas.Int.{to_z-of_z}
use lib.Signed.{mag}
use mir.Val.{SFits, to_z, of_z}
use Rattle.coding.specs.Answers.{decoded}
use Rattle.coding.specs.Laws.Asked.{allowed-base, DigitsTaken, digits-taken, decoded-narrow}
use Rattle.layers.specs.E8.{decode8}
use Rattle.coding.proofs.point_of_digits.Goals as goal
use Rattle.coding.proofs.point_of_digits.Goals.{In_ok-check_digits}

taken : (c : In_ok-check_digits) → DigitsTaken c.args.s c.args.ds.now
taken c = digits-taken c.args.s c.args.ds.now (sym c.in_ok-check_digits.ensures)

-- the base as the layers take it is that of the settings
settled : (z q : ℤ) → z ≡ q → mag z < 2 ^ 63 → to_z w64 (of_z w64 z) ≡ q
settled z q e h = let k : SFits w64 z = record { sfits = h } in to_z-of_z w64 z k ∙ e

pub base-requires : goal.base-requires
base-requires c = (taken c).allowed

pub layers-requires : goal.layers-requires
layers-requires c = (taken (goal.at.layers-requires c).In_ok-check_digits).allowed

pub decode_one-e-requires : goal.decode_one-e-requires
decode_one-e-requires c =
    let h = taken (goal.at.decode_one-e-requires c).In_ok-check_digits in
    rw (settled c.base.result c.args.s.q c.base.ensures c.base.type_inv, c.layers.ensures) (allowed-base c.args.s.q c.args.s.m h.allowed, omega (arith, h.allowed.power), h.code)

pub narrow-requires : goal.narrow-requires
narrow-requires c =
    let e : c.decode_one-e.result ≡ decode8 (nat_abs c.args.s.q) (nat_abs c.args.s.m) c.args.ds.now = rw (settled c.base.result c.args.s.q c.base.ensures c.base.type_inv, c.layers.ensures) at c.decode_one-e.ensures in
    rw e (decoded-narrow c.args.s c.args.ds.now (taken (goal.at.narrow-requires c).In_ok-check_digits))

pub returns-in_err-check_digits : goal.returns-in_err-check_digits
unfolding decoded
returns-in_err-check_digits c = record { answer = rw (sym c.in_err-check_digits.ensures) (search rules) }

pub returns : goal.returns
unfolding decoded
returns c =
    let d : c.decode_one-e.result ≡ decode8 (nat_abs c.args.s.q) (nat_abs c.args.s.m) c.args.ds.now = rw (settled c.base.result c.args.s.q c.base.ensures c.base.type_inv, c.layers.ensures) at c.decode_one-e.ensures in
    let e : c.narrow.result ≡ decode8 (nat_abs c.args.s.q) (nat_abs c.args.s.m) c.args.ds.now = c.narrow.ensures ∙ d in
    record { answer = rw (sym c.in_ok-check_digits.ensures, e) }
