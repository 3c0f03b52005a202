-- `fill_lows` counts the low digits up: after t turns the first t columns hold what the passes over their roundings see, and the first t lists what is left.
use Rattle.std.proofs.Common.{◌≡◌, sym, ◌∙◌, ap, ap₂, subst, List, [], ◌∷◌, ℕ, ◌+◌, ◌<◌, ◌≤◌, ℤ, nat_abs, take, add-one, arith}
use mir.Syntax.{w16}
use mir.Val.{SFits, to_z, of_z}
use mir.Facts.{to_z-of_z}
use Rattle.integers.specs.Laws.Sizes.{fits-mag}
use Rattle.integers.specs.Laws.Sums.{sized-more}
use Rattle.integers.specs.Vectors.{«at», Sized}
use Rattle.columns.specs.Narrow.{Few, Part, scanned_from}
use Rattle.layers.specs.Digits.{IsLayer, digits_of}
use Rattle.layers.proofs.Laws.Bases.{base-two}
use Rattle.layers.specs.Sizes.{Base}
use Rattle.rounding.specs.Pass.{Scan}
use Rattle.rounding.specs.Rounding.{sign}
use Rattle.coding.specs.Counting.{counted_up}
use Rattle.coding.specs.Laws.Counting.{counted_next}
use Rattle.slices.specs.Lanes.{lane_of, low_at, lane_at}
use Rattle.slices.specs.Laws.Lanes.{base-few, rounds-sized, rests-sized, digits-part, part-any, low-layer, first_three, lows-more}
use Rattle.slices.specs.Slices.{rounds_of, rests_of, low_digits}
use Rattle.slices.proofs.choices.fill_lows.Goals as goal

-- turn t, and its digits
record Turn (q : ℤ) (d t : ℕ) (ds : List ℕ) : Type 0 where
  base : Base q
  small : nat_abs q ≤ 4
  last : d < nat_abs q
  ds-is : ds ≡ digits_of (nat_abs q) 4 t

-- at the base as the code reads it
turn : {a : ℤ} → {d t : ℕ} → {ds : List ℕ} → SFits w16 a → Base a → nat_abs a ≤ 4 → d < nat_abs a → ds ≡ digits_of (nat_abs (to_z w16 (of_z w16 a))) 4 t → Turn (to_z w16 (of_z w16 a)) d t ds
turn f b s l e = record { base = simp (to_z-of_z, f) b; small = simp (to_z-of_z, f) s; last = simp (to_z-of_z, f) l; ds-is = e }

module _ {q : ℤ} {d t : ℕ} {ds : List ℕ} (u : Turn q d t ds) where
  abbrev N : ℕ
  N = nat_abs q

  -- the roundings of its low digits, and what these leave
  abbrev F : List ℤ
  F = rounds_of q (low_at q d t)

  abbrev R : List ℤ
  R = rests_of q (low_at q d t)

  most : N ≤ 16
  most = omega (arith, u.small)

  few : Few q
  few = base-few q u.base most

  low : IsLayer 8 N (low_at q d t)
  low = low-layer q u.base most d u.last t

  seen : Part 16 8 (scanned_from q 0 3 F R)
  seen = part-any most (omega arith) (digits-part q u.base most (low_at q d t) low 0 3 (omega arith) (omega arith))

  counted : {es : List ℕ} → es ≡ counted_up N ds → es ≡ digits_of N 4 (t + 1)
  counted e = e ∙ ap (counted_up N) u.ds-is ∙ counted_next N (omega (arith, base-two q u.base)) 4 t ∙ ap (digits_of N 4) (sym (add-one t))

  -- as the code has them
  module _ {r : List ℕ} (r-is : r ≡ low_digits ds d) {f a : List ℤ} (h : (f ≡ rounds_of q r) × (a ≡ rests_of q r)) where
    digits_are : r ≡ low_at q d t
    digits_are = r-is ∙ ap (λ (l : List ℕ). low_digits l d) u.ds-is

    f-is : f ≡ F
    f-is = h.0 ∙ ap (rounds_of q) digits_are

    a-is : a ≡ R
    a-is = h.1 ∙ ap (rests_of q) digits_are

    f-sized : Sized 8 2 f
    f-sized = subst (Sized 8 2) (sym f-is) (rounds-sized q u.base most (low_at q d t) low)

    a-sized : Sized 8 16 a
    a-sized = subst (Sized 8 16) (sym a-is) (sized-more 8 N R (rests-sized q u.base most (low_at q d t) low) 16 most)

    fa : (i : ℕ) → SFits w16 («at» a i)
    fa i = fits-mag w16 _ (omega (arith, a-sized.small i))

    three : «at» a 0 ∷ «at» a 1 ∷ «at» a 2 ∷ [] ≡ take 3 R
    three = first_three a a-sized.long ∙ ap (take 3) a-is

    -- and what the pass over them sees
    module _ {w : Scan} (w-is : w ≡ scanned_from q 0 3 f a) where
      scan-is : w ≡ scanned_from q 0 3 F R
      scan-is = w-is ∙ ap₂ (scanned_from q 0 3) f-is a-is

      scan_seen : Part 16 8 w
      scan_seen = subst (Part 16 8) (sym scan-is) seen

      lane-is : {v : ℤ} → {l : List ℤ} → v ≡ sign («at» a 0) → l ≡ lane_of w v → l ≡ lane_at q d t
      lane-is v-is e = e ∙ ap₂ lane_of scan-is (v-is ∙ ap (λ (l : List ℤ). sign («at» l 0)) a-is)

pub scanned-c-requires : goal.scanned-c-requires
scanned-c-requires c =
    let u = turn c.ranges.q c.requires.0 c.requires.1 c.requires.2 c.loop-t.invariant.0 in
    (f-sized u c.low_digits.ensures c.round_digits.ensures, a-sized u c.low_digits.ensures c.round_digits.ensures, few u, omega arith, omega arith)

pub lane_of-requires : goal.lane_of-requires
lane_of-requires c =
    let u = turn c.ranges.q c.requires.0 c.requires.1 c.requires.2 c.loop-t.invariant.0 in
    scan_seen u c.low_digits.ensures c.round_digits.ensures c.scanned-c.ensures

pub loop-t-preserved : goal.loop-t-preserved
loop-t-preserved c =
    let u = turn c.ranges.q c.requires.0 c.requires.1 c.requires.2 c.loop-t.invariant.0 in
    let q : ℤ = to_z w16 (of_z w16 c.args.q) in
    let e = c.low_digits.ensures in
    let r = c.round_digits.ensures in
    let a = c.round_digits.new.a in
    let f = fa u e r in
    let f0 = f 0 in
    let g : SFits w16 c.sign.result = record { sfits = c.sign.type_inv } in
    let way : c.sign.result ≡ sign («at» a 0) = simp (to_z-of_z, f0) at c.sign.ensures in
    let lane : c.lane_of.result ≡ lane_at q c.args.last c.loop-t.t = lane-is u e r c.scanned-c.ensures way (simp (to_z-of_z, g) at c.lane_of.ensures) in
    let below : c.loop-t.t < 256 = omega (arith, c.loop-t-test.true, c.requires.3) in
    simp (to_z-of_z, f 0, f 1, f 2) (
      counted u c.count_up.ensures,
      (f-sized u e r).long,
      (a-sized u e r).long,
      lows-more q c.args.last c.loop-t.t c.loop-t.lanes c.loop-t.lows c.put_lane.new.lanes c.lane_of.result («at» a 0 ∷ «at» a 1 ∷ «at» a 2 ∷ []) below c.loop-t.invariant.3 c.put_lane.ensures lane (three u e r),
    )
