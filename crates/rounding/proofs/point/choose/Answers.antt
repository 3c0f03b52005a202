-- `choose` passes over the roundings once, and chooses by what that sees.
use mathlib.Core.Path.{◌≡◌, sym, ◌∙◌, ap₂, subst}
use mathlib.Core.List.{List, map}
use Prim.Native.Nat.{◌^◌, ◌≤◌}
use native.Mathlib.Omega.{arith}
use lib.IntN.{ℤ, pos, nat_abs, ◌*ℤ◌}
use mir.Syntax.{w64}
use mir.Val.{SFits}
use mir.Facts.{to_z-of_z}
use Rattle.std.proofs.lemmas.List.{map-id}
use Rattle.integers.specs.Laws.Sizes.{fits-abs}
use Rattle.integers.specs.Laws.Sums.{sized-more}
use Rattle.integers.specs.Vectors.{«at», Sized}
use Rattle.rounding.proofs.Laws.Choice.{sign_small}
use Rattle.rounding.proofs.Laws.Mended.{rounds-sized, lefts-sized}
use Rattle.rounding.proofs.Laws.Passes.{scan-ready, from_first}
use Rattle.rounding.specs.Pass.{Ready, scanned_from, chosen}
use Rattle.rounding.specs.Rounding.{Divisor, Step, round, left, sign}
use Rattle.rounding.proofs.point.choose.Goals as goal
use Rattle.rounding.proofs.point.choose.Goals.{After-sign}

-- the roundings f of d, which leave a
module _ (s : ℤ) (d f a : List ℤ) (s≤ : Divisor s) (h : Sized 8 (2 ^ 30) d) (f-is : f ≡ map (round (pos 2 *ℤ s)) d) (a-is : a ≡ map (left (pos 2 *ℤ s)) d) where
  step : Step (2 ^ 14) s
  step = record { least = s≤.least; most = s≤.most }

  f-sized : Sized 8 (2 ^ 32) f
  f-sized = rw f-is (rounds-sized s s≤ d h)

  a-sized : Sized 8 (nat_abs s) a
  a-sized = rw a-is (lefts-sized s s≤ d h)

  lent : Sized 8 (2 ^ 32) (map (λ (x : ℤ). x) f) × Sized 8 (2 ^ 14) (map (λ (x : ℤ). x) a)
  lent = rw (map-id f, map-id a) (f-sized, sized-more 8 (nat_abs s) a a-sized (2 ^ 14) s≤.most)

  ready : Ready (2 ^ 14) (2 ^ 32) s (scanned_from s 0 8 f a)
  ready = scan-ready (2 ^ 14) (2 ^ 32) s s≤.most f a f-sized.small a-sized.small

pub scanned-requires : goal.scanned-requires
scanned-requires c = let e = simp (to_z-of_z, c.ranges.s) at c.rounds.ensures in let l = lent c.args.s c.args.d.now _ _ c.requires.0 c.requires.1 e.0 e.1 in
    simp (to_z-of_z, c.ranges.s) (omega arith, (l.0, l.1, step c.args.s c.args.d.now _ _ c.requires.0 c.requires.1 e.0 e.1, omega arith, omega arith))

-- what the calls have made
module _ (c : After-sign) where
  abbrev s : ℤ
  s = c.args.s

  abbrev f : List ℤ
  f = c.rounds.new.f

  abbrev a : List ℤ
  a = c.rounds.new.a

  f-is : f ≡ map (round (pos 2 *ℤ s)) c.args.d.now
  f-is = (simp (to_z-of_z, c.ranges.s) at c.rounds.ensures).0

  a-is : a ≡ map (left (pos 2 *ℤ s)) c.args.d.now
  a-is = (simp (to_z-of_z, c.ranges.s) at c.rounds.ensures).1

  scan-is : c.scanned.result ≡ scanned_from s 0 8 f a
  scan-is = simp (to_z-of_z, c.ranges.s, map-id) at c.scanned.ensures

  way-is : c.sign.result ≡ sign («at» a 0)
  way-is = let g : SFits w64 («at» a 0) = fits-abs _ (omega (arith, (a-sized s c.args.d.now f a c.requires.0 c.requires.1 f-is a-is).small 0, c.requires.0.most)) in simp (to_z-of_z, g) at c.sign.ensures

  way-small : nat_abs c.sign.result ≤ 1
  way-small = subst (λ (w : ℤ). nat_abs w ≤ 1) (sym way-is) (sign_small («at» a 0))

  fw : SFits w64 c.sign.result
  fw = fits-abs _ (omega (arith, way-small))

pub chosen-requires : goal.chosen-requires
chosen-requires c = simp (to_z-of_z, c.ranges.s, fw c) (
  step (s c) c.args.d.now (f c) (a c) c.requires.0 c.requires.1 (f-is c) (a-is c),
  subst (Ready (2 ^ 14) (2 ^ 32) (s c)) (sym (scan-is c)) (ready (s c) c.args.d.now (f c) (a c) c.requires.0 c.requires.1 (f-is c) (a-is c)),
  way-small c,
)

pub returns : goal.returns
returns c = let n = c.before in (f-is n, a-is n, (simp (to_z-of_z, c.ranges.s, fw n) at c.chosen.ensures) ∙ ap₂ (chosen (s n)) (scan-is n ∙ from_first (s n) 8 (f n) (a n)) (way-is n))
