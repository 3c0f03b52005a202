-- W + 1 fits 64 bits, and each step is one that the trial takes; the step that fits is in reach, so that its bytes stand in the room.
use Rattle.std.proofs.Common.{◌≡◌, sym, ◌∙◌, ap, subst, true, ℕ, ◌+◌, ◌^◌, ◌≤◌, ℤ, pos, nat_abs, ◌+ℤ◌, le_refl, arith, SFits, w32, w64, to_z-of_z}
use Rattle.integers.specs.Laws.Sizes.{fits-abs, fits-mag}
use Rattle.integers.specs.Vectors.{«at»}
use Rattle.rounding.specs.Rounding.{Divisor}
use Rattle.layers.specs.E8.{e8, nearest}
use Rattle.layers.proofs.Laws.Bases.{base-two}
use Rattle.layers.specs.Sizes.{width, long_power, Base}
use Rattle.blocks.specs.Laws.Fitting.{Walked, walked_here}
use Rattle.blocks.specs.Laws.Sizes.{divisor-positive, width-under}
use Rattle.blocks.specs.Laws.Theorems.{fits-in-reach}
use Rattle.blocks.specs.Trials.{fits, room_at}
use Rattle.blocks.proofs.code_block.Goals as goal

-- W + 1
module _ (q : ℤ) (base : Base q) (m : ℕ) (h : nat_abs q ^ m ≤ long_power) {w : ℤ} (e : w ≡ pos (width (nat_abs q) m)) where
  reach-is : w +ℤ pos 1 ≡ pos (width (nat_abs q) m + 1)
  reach-is = ap (λ (y : ℤ). y +ℤ pos 1) e

  reach-fits : SFits w64 (w +ℤ pos 1)
  reach-fits = subst (SFits w64) (sym reach-is) (fits-abs (pos (width (nat_abs q) m + 1)) (omega (arith, width-under (nat_abs q) m m (base-two q base) (le_refl m) h)))

step_fits : (z : ℤ) → Divisor z → SFits w32 z
step_fits z h = fits-mag w32 z (omega (arith, h.most))

pub overflow_add-reach : goal.overflow_add-reach
overflow_add-reach c =
    let f : SFits w64 c.width-reach.result = record { sfits = c.width-reach.type_inv } in
    simp (to_z-of_z, f) (reach-fits c.args.q c.requires.2 c.args.m c.requires.3 (simp (to_z-of_z, c.ranges.q) at c.width-reach.ensures))

pub try_place-requires : goal.try_place-requires
try_place-requires c =
    let r = c.requires in let z = «at» c.args.steps.now c.loop-t.t in
    let d : Divisor z = r.1.each c.loop-t.t c.loop-t-test.true in let e : c.from.result ≡ z = simp (to_z-of_z, step_fits z d) at c.from.ensures in
    let f : SFits w64 c.from.result = record { sfits = c.from.type_inv } in let g : SFits w64 c.width-reach.result = record { sfits = c.width-reach.type_inv } in
    let w : c.width-reach.result ≡ pos (width (nat_abs c.args.q) c.args.m) = simp (to_z-of_z, c.ranges.q) at c.width-reach.ensures in
    let h = reach-fits c.args.q r.2 c.args.m r.3 w in
    simp (to_z-of_z, c.ranges.q, f, g, h)
    (r.0, subst Divisor (sym e) d, omega (arith, r.1.few), reach-is c.args.q r.2 c.args.m r.3 w, r.2, r.3, c.loop-t.auto.out ∙ r.4)

pub returns-then-try_place-clause-room : goal.returns-then-try_place-clause-room
returns-then-try_place-clause-room c =
    let r = c.requires in let q = nat_abs c.args.q in let m = c.args.m in let x = c.args.x.now in let steps = c.args.steps.now in let t = c.loop-t.t in let z = «at» steps t in
    let d : Divisor z = r.1.each t c.loop-t-test.true in let e : c.from.result ≡ z = simp (to_z-of_z, step_fits z d) at c.from.ensures in
    let f : SFits w64 c.from.result = record { sfits = c.from.type_inv } in
    let tested : c.try_place.result ≡ fits e8 nearest q m z x = (simp (to_z-of_z, c.ranges.q, f) at c.try_place.ensures.answer) ∙ ap (λ (z : ℤ). fits e8 nearest q m z x) e in
    let room : c.try_place.new.out ≡ room_at e8 nearest q m t z x c.loop-t.out = (simp (to_z-of_z, c.ranges.q, f) at c.try_place.ensures.room) ∙ ap (λ (z : ℤ). room_at e8 nearest q m t z x c.loop-t.out) e in
    let walked : Walked e8 nearest q m x steps c.args.out.now t c.loop-t.out = simp (to_z-of_z, c.ranges.q) at c.loop-t.invariant in
    let fit : fits e8 nearest q m z x ≡ true = sym tested ∙ c.if-try_place.true in
    let two : 2 ≤ q = base-two c.args.q r.2 in
    room ∙ (walked_here e8 nearest q m x steps c.args.out.now t c.loop-t.out walked c.loop-t-test.true (fits-in-reach e8 nearest x r.0.long q m (omega arith) z (divisor-positive z d) fit) fit).1
