-- `half_sums` sums the products: after i turns the inner products of the first i readings with the first i coordinates, and with these lowered.
use Rattle.std.proofs.Common.{◌≡◌, refl, sym, ◌∙◌, subst, List, map, ℕ, suc, ◌^◌, ◌<◌, ◌≤◌, ℤ, nat_abs, ◌+ℤ◌, ◌*ℤ◌, length, take, add-one, arith}
use mir.Syntax.{w16, w32}
use mir.Val.{SFits}
use mir.Facts.{to_z-of_z}
use Rattle.integers.specs.Vectors.{«at», dot, Bounded}
use Rattle.integers.specs.Laws.Sizes.{fits-mag, abs-mul-le}
use Rattle.integers.specs.Laws.Sums.{dot-take-suc, dot-bound, at_map}
use Rattle.rounding.specs.Rounding.{lowered}
use Rattle.slices.specs.Laws.Sums.{lowered-sized}
use Rattle.slices.proofs.sums.half_sums.Goals as goal
use Rattle.slices.proofs.sums.half_sums.Goals.{After-from, After-from-in-loop-i}

-- turn i: the product of a reading and a number, and the sum after it
module _ (X a : List ℤ) (few : length X ≤ 8) (x : Bounded (2 ^ 24) X) (e : Bounded 8 a) (i : ℕ) where
  abbrev product : ℤ
  product = «at» X i *ℤ «at» a i

  fx : SFits w32 («at» X i)
  fx = fits-mag w32 («at» X i) (omega (arith, x i))

  fa : SFits w32 («at» a i)
  fa = fits-mag w32 («at» a i) (omega (arith, e i))

  fp : SFits w32 product
  fp = fits-mag w32 product (omega (arith, abs-mul-le («at» X i) («at» a i) (x i) (e i)))

  fs : i < length X → SFits w32 (dot (take i X) (take i a) +ℤ product)
  fs h = subst (SFits w32) (dot-take-suc X a i) (fits-mag w32 (dot (take (suc i) X) (take (suc i) a)) (omega (arith, dot-bound (2 ^ 24) 8 X a x e (suc i), few)))

-- what the odd half leaves
odd-small : (s : ℤ) (a : List ℤ) → nat_abs s ≤ 4 → Bounded 4 a → Bounded 8 (map (lowered s) a)
odd-small s a h k = (lowered-sized (length a) s a h (record { long = refl; small = k })).small

-- the coordinate, and the same lowered
even_is : (c : After-from) → c.from.result ≡ «at» c.args.a.now c.loop-i.i
even_is c = let f : SFits w16 («at» c.args.a.now c.loop-i.i) = fits-mag w16 _ (omega (arith, c.requires.3 c.loop-i.i)) in c.from.ensures ∙ to_z-of_z f

odd_is : (c : After-from-in-loop-i) → c.from-in-loop-i.result ≡ «at» (map (lowered c.args.s) c.args.a.now) c.loop-i.i
odd_is c =
    let i = c.loop-i.i in
    let a = c.args.a.now in
    let s = c.args.s in
    let f : SFits w16 («at» a i) = fits-mag w16 _ (omega (arith, c.requires.3 i)) in
    let l : c.lowered.result ≡ «at» (map (lowered s) a) i = (simp (to_z-of_z, c.ranges.s, f) at c.lowered.ensures) ∙ sym (at_map (lowered s) a i (omega (arith, c.requires.0, c.loop-i-test.true))) in
    let g : SFits w16 («at» (map (lowered s) a) i) = fits-mag w16 _ (omega (arith, odd-small s a c.requires.5 c.requires.3 i)) in
    (rw l at c.from-in-loop-i.ensures) ∙ to_z-of_z g

pub overflow_mul-even : goal.overflow_mul-even
overflow_mul-even c =
    let X = c.args.x.now in let i = c.loop-i.i in let x = c.requires.2 in let a = c.args.a.now in let e : Bounded 8 a = λ k. omega (arith, c.requires.3 k) in
    rw (even_is c) (simp (to_z-of_z, fx X a c.requires.1 x e i, fa X a c.requires.1 x e i) (fp X a c.requires.1 x e i))

pub overflow_add-even : goal.overflow_add-even
overflow_add-even c =
    let X = c.args.x.now in let i = c.loop-i.i in let x = c.requires.2 in let a = c.args.a.now in let e : Bounded 8 a = λ k. omega (arith, c.requires.3 k) in
    rw (even_is c) (simp (to_z-of_z, fx X a c.requires.1 x e i, fa X a c.requires.1 x e i, fp X a c.requires.1 x e i, c.loop-i.invariant.even) (fs X a c.requires.1 x e i c.loop-i-test.true))

pub overflow_mul-odd : goal.overflow_mul-odd
overflow_mul-odd c =
    let X = c.args.x.now in let i = c.loop-i.i in let x = c.requires.2 in let a = map (lowered c.args.s) c.args.a.now in let e = odd-small c.args.s c.args.a.now c.requires.5 c.requires.3 in
    rw (odd_is c) (simp (to_z-of_z, fx X a c.requires.1 x e i, fa X a c.requires.1 x e i) (fp X a c.requires.1 x e i))

pub overflow_add-odd : goal.overflow_add-odd
overflow_add-odd c =
    let X = c.args.x.now in let i = c.loop-i.i in let x = c.requires.2 in let a = map (lowered c.args.s) c.args.a.now in let e = odd-small c.args.s c.args.a.now c.requires.5 c.requires.3 in
    let sum = simp (to_z-of_z, c.ranges.s) at c.loop-i.invariant.odd in
    rw (odd_is c) (simp (to_z-of_z, fx X a c.requires.1 x e i, fa X a c.requires.1 x e i, fp X a c.requires.1 x e i, sum) (fs X a c.requires.1 x e i c.loop-i-test.true))

pub loop-i-preserved : goal.loop-i-preserved
loop-i-preserved c =
    let X = c.args.x.now in let i = c.loop-i.i in let x = c.requires.2 in let few = c.requires.1 in
    let a = c.args.a.now in let e : Bounded 8 a = λ k. omega (arith, c.requires.3 k) in
    let b = map (lowered c.args.s) a in let f = odd-small c.args.s a c.requires.5 c.requires.3 in
    let sum = simp (to_z-of_z, c.ranges.s) at c.loop-i.invariant.odd in
    let even = even_is (goal.at.loop-i-preserved c).After-from in
    let odd = odd_is (goal.at.loop-i-preserved c).After-from-in-loop-i in
    record {
      even = rw even (simp (to_z-of_z, fx X a few x e i, fa X a few x e i, fp X a few x e i, fs X a few x e i c.loop-i-test.true, c.loop-i.invariant.even, add-one) (sym (dot-take-suc X a i)));
      odd = rw odd (simp (to_z-of_z, c.ranges.s, fx X b few x f i, fa X b few x f i, fp X b few x f i, fs X b few x f i c.loop-i-test.true, sum, add-one) (sym (dot-take-suc X b i)));
    }
