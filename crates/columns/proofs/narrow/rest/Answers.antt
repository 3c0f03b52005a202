-- `rest` rounds, passes over the roundings once, chooses a half and takes it off, mended; `rest-code` says that this takes off s times the nearest point.
use mathlib.Core.Path.{◌≡◌, sym, ◌∙◌, ap, ap₂, subst}
use mathlib.Core.List.{List, map}
use Prim.Native.Nat.{◌≤◌}
use native.Mathlib.Omega.{arith}
use lib.IntN.{ℤ, pos, nat_abs, ◌*ℤ◌}
use lib.Signed.{◌<ℤ◌}
use mir.Syntax.{w16}
use mir.Val.{SFits}
use mir.Facts.{to_z-of_z}
use Rattle.integers.specs.Laws.Sizes.{fits-mag}
use Rattle.integers.specs.Laws.Sums.{sized-more}
use Rattle.integers.specs.Vectors.{«at», Sized, sub_v, scale_v}
use Rattle.lattice.specs.Computed.{nearest_point}
use Rattle.rounding.proofs.Laws.Choice.{sign_small, chosen-small}
use Rattle.columns.specs.Laws.Narrow.{few-divisor, narrow-few, rounds-few, lefts-few, scan-part, part-slender, from_first, rest-code}
use Rattle.rounding.proofs.Laws.Reciprocals.{twice-pos}
use Rattle.rounding.proofs.Laws.Scans.{scan-ranged}
use Rattle.columns.specs.Narrow.{Few, Narrow, Slender, left_by}
use Rattle.rounding.specs.Pass.{Scan, Choice, scanned, scanned_from, chosen}
use Rattle.rounding.specs.Rounding.{round, left, sign}
use Rattle.columns.proofs.narrow.rest.Goals as goal
use Rattle.columns.proofs.narrow.rest.Goals.{After-sign}

-- the roundings f of d, which leave a
module _ (s : ℤ) (d f a : List ℤ) (n : Narrow s d) (f-is : f ≡ map (round (pos 2 *ℤ s)) d) (a-is : a ≡ map (left (pos 2 *ℤ s)) d) where
  few : Few s
  few = narrow-few n

  f-sized : Sized 8 2 f
  f-sized = rw f-is (rounds-few n)

  a-left : Sized 8 (nat_abs s) a
  a-left = rw a-is (lefts-few n)

  a-sized : Sized 8 16 a
  a-sized = sized-more 8 (nat_abs s) a a-left 16 n.most

  slender : Slender s (scanned_from s 0 8 f a)
  slender = part-slender s few (scan-part s few (nat_abs s) n.most f a f-sized.small a-left.small 0 8 (omega arith) (omega arith))

  -- the choice h that they lead to
  module _ (h : Choice) (h-is : h ≡ chosen s (scanned_from s 0 8 f a) (sign («at» a 0))) where
    abbrev F : List ℤ
    F = map (round (pos 2 *ℤ s)) d

    abbrev A : List ℤ
    A = map (left (pos 2 *ℤ s)) d

    s> : pos 0 <ℤ s
    s> = (twice-pos s n.least).1

    by-d : h ≡ chosen s (scanned s 8 F A) (sign («at» A 0))
    by-d = h-is ∙ ap (λ (m : Scan). chosen s m (sign («at» a 0))) (from_first s 8 f a) ∙ ap₂ (λ (f a : List ℤ). chosen s (scanned s 8 f a) (sign («at» a 0))) f-is a-is

    small : (nat_abs h.parity ≤ 1) × (nat_abs h.step ≤ 2)
    small = let k = chosen-small s s> d n.long (few-divisor few) (scan-ranged s F A (few-divisor few) (λ i. omega (arith, (rounds-few n).small i)) (lefts-few n).small) in
        subst (λ (h : Choice). (nat_abs h.parity ≤ 1) × (nat_abs h.step ≤ 2)) (sym by-d) (k.0, k.2)

    rest-is : left_by s h a ≡ sub_v d (scale_v s (nearest_point s d))
    rest-is = ap₂ (left_by s) by-d a-is ∙ rest-code s s> d n.long

pub scanned-requires : goal.scanned-requires
scanned-requires c = let e = simp (to_z-of_z, c.ranges.s) at c.rounds.ensures in let s = c.args.s in let d = c.args.d.now in
    simp (to_z-of_z, c.ranges.s) (f-sized s d _ _ c.requires e.0 e.1, a-sized s d _ _ c.requires e.0 e.1, narrow-few c.requires, omega arith, omega arith)

-- what the calls have made
module _ (c : After-sign) where
  abbrev s : ℤ
  s = c.args.s

  abbrev d : List ℤ
  d = c.args.d.now

  abbrev f : List ℤ
  f = c.rounds.new.f

  abbrev a : List ℤ
  a = c.rounds.new.a

  f-is : f ≡ map (round (pos 2 *ℤ s)) d
  f-is = (simp (to_z-of_z, c.ranges.s) at c.rounds.ensures).0

  a-is : a ≡ map (left (pos 2 *ℤ s)) d
  a-is = (simp (to_z-of_z, c.ranges.s) at c.rounds.ensures).1

  scan-is : c.scanned.result ≡ scanned_from s 0 8 f a
  scan-is = simp (to_z-of_z, c.ranges.s) at c.scanned.ensures

  way-is : c.sign.result ≡ sign («at» a 0)
  way-is = let g : SFits w16 («at» a 0) = fits-mag w16 _ (omega (arith, (a-sized s d f a c.requires f-is a-is).small 0)) in simp (to_z-of_z, g) at c.sign.ensures

  way-small : nat_abs c.sign.result ≤ 1
  way-small = subst (λ (w : ℤ). nat_abs w ≤ 1) (sym way-is) (sign_small («at» a 0))

  fw : SFits w16 c.sign.result
  fw = fits-mag w16 _ (omega (arith, way-small))

  made : {h : Choice} → h ≡ chosen s c.scanned.result c.sign.result → h ≡ chosen s (scanned_from s 0 8 f a) (sign («at» a 0))
  made e = e ∙ ap₂ (chosen s) scan-is way-is

pub chosen-c-requires : goal.chosen-c-requires
chosen-c-requires c = simp (to_z-of_z, c.ranges.s, fw c) (narrow-few c.requires, subst (Slender (s c)) (sym (scan-is c)) (slender (s c) (d c) (f c) (a c) c.requires (f-is c) (a-is c)), way-small c)

pub left-requires : goal.left-requires
left-requires c = let n = c.before.before in let k = small (s n) (d n) (f n) (a n) c.requires (f-is n) (a-is n) c.chosen-c.result (made n (simp (to_z-of_z, c.ranges.s, fw n) at c.chosen-c.ensures)) in
    simp (to_z-of_z, c.ranges.s) (a-sized (s n) (d n) (f n) (a n) c.requires (f-is n) (a-is n), narrow-few c.requires, k.0, k.1)

pub returns : goal.returns
returns c = let n = c.before.before.before in (simp (to_z-of_z, c.ranges.s) at c.left.ensures)
    ∙ rest-is (s n) (d n) (f n) (a n) c.requires (f-is n) (a-is n) c.chosen-c.result (made n (simp (to_z-of_z, c.ranges.s, fw n) at c.chosen-c.ensures))
