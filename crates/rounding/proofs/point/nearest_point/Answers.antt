-- `nearest_point` mends the chosen half; `nearest_point-code` says that this is the nearest point.
use mathlib.Core.Path.{◌≡◌, ◌∙◌, ap, ap₂}
use mathlib.Core.List.{List, map}
use Prim.Native.Nat.{◌^◌, ◌<◌, ◌≤◌}
use native.Mathlib.Omega.{arith}
use lib.IntN.{ℤ, pos, nat_abs, ◌+ℤ◌, ◌*ℤ◌}
use lib.ListN.{set}
use mir.Syntax.{w64}
use mir.Val.{SFits}
use mir.Facts.{to_z-of_z}
use Rattle.integers.specs.Laws.Sizes.{fits-abs, fits-add}
use Rattle.integers.specs.Laws.Sums.{sized-more}
use Rattle.integers.specs.Vectors.{«at», Sized}
use Rattle.rounding.proofs.Laws.Choice.{spread-small, chosen-small, nearest_point-code}
use Rattle.rounding.proofs.Laws.Mended.{rounds-sized, lefts-sized}
use Rattle.rounding.proofs.Laws.Reciprocals.{twice-pos}
use Rattle.rounding.proofs.Laws.Scans.{scan-ranged}
use Rattle.lattice.specs.Computed.{nearest_point}
use Rattle.rounding.specs.Pass.{Choice, scanned, chosen, spread_by}
use Rattle.rounding.specs.Rounding.{Divisor, round, left, sign}
use Rattle.rounding.proofs.point.nearest_point.Goals as goal

-- the choice h of a vector d, by its roundings f, which leave a
pub record Chosen (s : ℤ) (d f a : List ℤ) (h : Choice) : Type 0 where
  pub f-is : f ≡ map (round (pos 2 *ℤ s)) d
  pub a-is : a ≡ map (left (pos 2 *ℤ s)) d
  pub h-is : h ≡ chosen s (scanned s 8 f a) (sign («at» a 0))

module _ {s : ℤ} {d f a : List ℤ} {h : Choice} (m : Chosen s d f a h) (s≤ : Divisor s) (l : Sized 8 (2 ^ 30) d) where
  f-sized : Sized 8 (2 ^ 32) f
  f-sized = rw m.f-is (rounds-sized s s≤ d l)

  a-sized : Sized 8 (2 ^ 14) a
  a-sized = rw m.a-is (sized-more 8 (nat_abs s) _ (lefts-sized s s≤ d l) (2 ^ 14) s≤.most)

  small : (nat_abs h.parity ≤ 1) × (h.place < 8) × (nat_abs h.step ≤ 2)
  small = rw (m.h-is, m.f-is, m.a-is) (chosen-small s (twice-pos s s≤.least).1 d l.long s≤ (scan-ranged s (map (round (pos 2 *ℤ s)) d) (map (left (pos 2 *ℤ s)) d) s≤ (rounds-sized s s≤ d l).small (lefts-sized s s≤ d l).small))

  -- the half e, not yet mended
  module _ (e : List ℤ) (e-is : e ≡ spread_by h.parity f a) where
    entry-small : nat_abs («at» e h.place) ≤ 2 ^ 34
    entry-small = rw e-is (spread-small h.parity f a small.0 f-sized.small h.place small.1)

    fe : SFits w64 («at» e h.place)
    fe = fits-abs _ (omega (arith, entry-small))

    ft : SFits w64 h.step
    ft = fits-abs _ (omega (arith, small.2))

    fet : SFits w64 («at» e h.place +ℤ h.step)
    fet = fits-add («at» e h.place) h.step (omega (arith, entry-small, small.2))

    point-is : set e h.place («at» e h.place +ℤ h.step) ≡ nearest_point s d
    point-is = ap₂ (λ (e : List ℤ) (h : Choice). set e h.place («at» e h.place +ℤ h.step)) (e-is ∙ ap₂ (λ (f a : List ℤ). spread_by h.parity f a) m.f-is m.a-is ∙ ap (λ (h : Choice). spread_by h.parity (map (round (pos 2 *ℤ s)) d) (map (left (pos 2 *ℤ s)) d)) by-d) by-d
        ∙ nearest_point-code s (twice-pos s s≤.least).1 d l.long
      where
        by-d : h ≡ chosen s (scanned s 8 (map (round (pos 2 *ℤ s)) d) (map (left (pos 2 *ℤ s)) d)) (sign («at» (map (left (pos 2 *ℤ s)) d) 0))
        by-d = m.h-is ∙ ap₂ (λ (f a : List ℤ). chosen s (scanned s 8 f a) (sign («at» a 0))) m.f-is m.a-is

made : {s : ℤ} {d f a : List ℤ} {h : Choice} → (f ≡ map (round (pos 2 *ℤ s)) d) × (a ≡ map (left (pos 2 *ℤ s)) d) × (h ≡ chosen s (scanned s 8 f a) (sign («at» a 0))) → Chosen s d f a h
made e = record { f-is = e.0; a-is = e.1; h-is = e.2 }

parity-fits : (p : ℤ) → nat_abs p ≤ 1 → SFits w64 p
parity-fits p l = fits-abs _ (omega (arith, l))

pub spread-e-requires : goal.spread-e-requires
spread-e-requires c = let m = made (simp (to_z-of_z, c.ranges.s) at c.choose-c.ensures) in let k = small m c.requires.0 c.requires.1 in
    simp (to_z-of_z, parity-fits c.choose-c.result.parity k.0) (k.0, f-sized m c.requires.0 c.requires.1, a-sized m c.requires.0 c.requires.1)

pub offset_bounds-e-c : goal.offset_bounds-e-c
offset_bounds-e-c c = let k = small (made (simp (to_z-of_z, c.ranges.s) at c.choose-c.ensures)) c.requires.0 c.requires.1 in record { fits = omega (arith, k.1) }

pub bounds-e-c : goal.bounds-e-c
bounds-e-c c = (small (made (simp (to_z-of_z, c.ranges.s) at c.choose-c.ensures)) c.requires.0 c.requires.1).1

pub overflow_add-e : goal.overflow_add-e
overflow_add-e c = let m = made (simp (to_z-of_z, c.ranges.s) at c.choose-c.ensures) in let e = simp (to_z-of_z, parity-fits c.choose-c.result.parity (small m c.requires.0 c.requires.1).0) at c.spread-e.ensures in
    simp (to_z-of_z, fe m c.requires.0 c.requires.1 c.spread-e.result e, ft m c.requires.0 c.requires.1 c.spread-e.result e) (fet m c.requires.0 c.requires.1 c.spread-e.result e)

pub offset_bounds-e-c-2 : goal.offset_bounds-e-c-2
offset_bounds-e-c-2 c = let k = small (made (simp (to_z-of_z, c.ranges.s) at c.choose-c.ensures)) c.requires.0 c.requires.1 in record { fits = omega (arith, k.1) }

pub bounds-e-c-2 : goal.bounds-e-c-2
bounds-e-c-2 c = (small (made (simp (to_z-of_z, c.ranges.s) at c.choose-c.ensures)) c.requires.0 c.requires.1).1

pub returns : goal.returns
returns c = let m = made (simp (to_z-of_z, c.ranges.s) at c.choose-c.ensures) in let e = simp (to_z-of_z, parity-fits c.choose-c.result.parity (small m c.requires.0 c.requires.1).0) at c.spread-e.ensures in
    simp (to_z-of_z, fe m c.requires.0 c.requires.1 c.spread-e.result e, ft m c.requires.0 c.requires.1 c.spread-e.result e, fet m c.requires.0 c.requires.1 c.spread-e.result e) (point-is m c.requires.0 c.requires.1 c.spread-e.result e)
