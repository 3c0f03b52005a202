-- `fill` counts the high digits up: after g turns the first g runs are chosen, and the first g lists what is left.
use Rattle.std.proofs.Common.{◌≡◌, sym, ◌∙◌, ap, ap₂, subst, List, [], ◌∷◌, ℕ, ◌+◌, ◌*◌, ◌%◌, ◌<◌, ◌≤◌, ℤ, pos, nat_abs, get_or, drop, mod-lt, add-one, arith}
use lib.Signed.{yes_non_neg}
use mir.Syntax.{w16}
use mir.Val.{SFits, to_z, of_z}
use mir.Facts.{to_z-of_z}
use Rattle.integers.specs.Laws.Signed.{≤ℤ-trans}
use Rattle.integers.specs.Laws.Sizes.{fits-mag}
use Rattle.integers.specs.Laws.Sums.{sized-more}
use Rattle.integers.specs.Vectors.{«at», Sized}
use Rattle.columns.specs.Narrow.{Few, Part, scanned_from}
use Rattle.layers.specs.Digits.{IsLayer, digits_of}
use Rattle.layers.proofs.Laws.Bases.{base-two}
use Rattle.layers.specs.Laws.Entries.{digits_of-layer}
use Rattle.layers.specs.Sizes.{Base}
use Rattle.rounding.specs.Pass.{Scan}
use Rattle.coding.specs.Counting.{counted_up}
use Rattle.coding.specs.Laws.Counting.{counted_next}
use Rattle.slices.specs.Lanes.{Lane, Lanes, high_at, scan_at, Lows, RunPut}
use Rattle.slices.specs.Laws.Choices.{chosen_more, chosen-all}
use Rattle.slices.specs.Laws.Lanes.{grid-same, base-few, rounds-sized, rests-sized, high-layer, lane-at, scan-at, last-five}
use Rattle.slices.specs.Laws.Powers.{run_size, row_count, rows_few, slice-few, run_room, digit_room, low-within}
use Rattle.slices.specs.Slices.{Slice, rounds_of, rests_of, high_digits}
use Rattle.slices.proofs.Halves.fill.Goals as goal

-- turn g, and its digits
record Turn (q : ℤ) (d g : ℕ) (ds : List ℕ) : Type 0 where
  base : Base q
  small : nat_abs q ≤ 4
  last : d < nat_abs q
  within : g < row_count q
  ds-is : ds ≡ digits_of (nat_abs q) 4 g

-- at the base as the code reads it
turn : {a : ℤ} → {d g : ℕ} → {ds : List ℕ} → SFits w16 a → Base a → nat_abs a ≤ 4 → d < nat_abs a → g < row_count (to_z w16 (of_z w16 a)) → ds ≡ digits_of (nat_abs (to_z w16 (of_z w16 a))) 4 g → Turn (to_z w16 (of_z w16 a)) d g ds
turn f b s l w e = record { base = simp (to_z-of_z, f) b; small = simp (to_z-of_z, f) s; last = simp (to_z-of_z, f) l; within = w; ds-is = e }

module _ {q : ℤ} {d g : ℕ} {ds : List ℕ} (u : Turn q d g ds) where
  abbrev N : ℕ
  N = nat_abs q

  abbrev size : ℕ
  size = run_size q

  N> : 0 < N
  N> = omega (arith, base-two q u.base)

  most : N ≤ 16
  most = omega (arith, u.small)

  few : Few q
  few = base-few q u.base most

  below : g < 256
  below = omega (arith, u.within, rows_few q u.small)

  digits : IsLayer 4 N ds
  digits = subst (IsLayer 4 N) (sym u.ds-is) (digits_of-layer N N> 4 g)

  first-is : get_or ds 0 0 ≡ g % N
  first-is = ap (λ (l : List ℕ). get_or l 0 0) u.ds-is

  first-less : get_or ds 0 0 < N
  first-less = subst (λ (i : ℕ). i < N) (sym first-is) (mod-lt g N>)

  low_room : size * get_or ds 0 0 + size ≤ 256
  low_room = omega (arith, digit_room q (get_or ds 0 0) first-less, rows_few q u.small)

  room : size * g + size ≤ 16384
  room = omega (arith, run_room q g u.within, slice-few q u.small)

  high : IsLayer 8 N (high_at q d g)
  high = high-layer q u.base most d u.last g

  seen : Part N 5 (scan_at q d g)
  seen = scan-at q u.base most d u.last g

  lanes-are : {lanes lows : List (List ℤ)} → Lows q d (row_count q) lanes lows → Lanes q (size * (g % N)) size lanes
  lanes-are k t h = subst (Lane N 3) (sym (k.lane (size * (g % N) + t) (low-within q (base-two q u.base) g t h))) (lane-at q u.base most d u.last (size * (g % N) + t))

  lanes_first : {lanes lows : List (List ℤ)} → Lows q d (row_count q) lanes lows → Lanes q (size * get_or ds 0 0) size lanes
  lanes_first {lanes} k = subst (λ (j : ℕ). Lanes q (size * j) size lanes) (sym first-is) (lanes-are k)

  counted : {es : List ℕ} → es ≡ counted_up N ds → es ≡ digits_of N 4 (g + 1)
  counted e = e ∙ ap (counted_up N) u.ds-is ∙ counted_next N N> 4 g ∙ ap (digits_of N 4) (sym (add-one g))

  -- the roundings of its high digits, and what these leave
  module _ {r : List ℕ} (r-is : r ≡ high_digits ds d) {f a : List ℤ} (h : (f ≡ rounds_of q r) × (a ≡ rests_of q r)) where
    digits_are : r ≡ high_at q d g
    digits_are = r-is ∙ ap (λ (l : List ℕ). high_digits l d) u.ds-is

    f-is : f ≡ rounds_of q (high_at q d g)
    f-is = h.0 ∙ ap (rounds_of q) digits_are

    a-is : a ≡ rests_of q (high_at q d g)
    a-is = h.1 ∙ ap (rests_of q) digits_are

    f-sized : Sized 8 2 f
    f-sized = subst (Sized 8 2) (sym f-is) (rounds-sized q u.base most (high_at q d g) high)

    a-sized : Sized 8 16 a
    a-sized = subst (Sized 8 16) (sym a-is) (sized-more 8 N (rests_of q (high_at q d g)) (rests-sized q u.base most (high_at q d g) high) 16 most)

    fa : (i : ℕ) → SFits w16 («at» a i)
    fa i = fits-mag w16 _ (omega (arith, a-sized.small i))

    five : «at» a 3 ∷ «at» a 4 ∷ «at» a 5 ∷ «at» a 6 ∷ «at» a 7 ∷ [] ≡ drop 3 (rests_of q (high_at q d g))
    five = last-five a a-sized.long ∙ ap (drop 3) a-is

    -- and what the pass over them sees
    module _ {w : Scan} (w-is : w ≡ scanned_from q 3 5 f a) where
      scan-is : w ≡ scan_at q d g
      scan-is = w-is ∙ ap₂ (scanned_from q 3 5) f-is a-is

      scan_seen : Part N 5 w
      scan_seen = subst (Part N 5) (sym scan-is) seen

      put_is : {lanes : List (List ℤ)} → {c c' : List ℕ} → RunPut q (size * get_or ds 0 0) size lanes w (size * g) c c' → RunPut q (size * (g % N)) size lanes (scan_at q d g) (size * g) c c'
      put_is {lanes} {c} {c'} p =
          subst (λ (n : Scan). RunPut q (size * (g % N)) size lanes n (size * g) c c') scan-is
          (subst (λ (i : ℕ). RunPut q (size * i) size lanes w (size * g) c c') first-is p)

pub fill_lows-requires : goal.fill_lows-requires
fill_lows-requires c = simp (to_z-of_z, c.ranges.q) (c.requires.0, c.requires.1, c.requires.2, rows_few c.args.q c.requires.1, grid-same 7 256 (pos 0), c.requires.4)

pub offset_bounds-self-g : goal.offset_bounds-self-g
offset_bounds-self-g c = let h = below (turn c.ranges.q c.requires.0 c.requires.1 c.requires.2 c.loop-g-test.true c.loop-g.invariant.digits) in omega (arith, h)

pub bounds-self-g : goal.bounds-self-g
bounds-self-g c = below (turn c.ranges.q c.requires.0 c.requires.1 c.requires.2 c.loop-g-test.true c.loop-g.invariant.digits)

pub scanned-high-requires : goal.scanned-high-requires
scanned-high-requires c = let u = turn c.ranges.q c.requires.0 c.requires.1 c.requires.2 c.loop-g-test.true c.loop-g.invariant.digits in
    (f-sized u c.high_digits.ensures c.round_digits.ensures, a-sized u c.high_digits.ensures c.round_digits.ensures, few u, omega arith, omega arith)

pub overflow_mul-from : goal.overflow_mul-from
overflow_mul-from c = let h = low_room (turn c.ranges.q c.requires.0 c.requires.1 c.requires.2 c.loop-g-test.true c.loop-g.invariant.digits) in rw c.from.ensures (omega (arith, h))

pub overflow_mul-three-in-loop-g : goal.overflow_mul-three-in-loop-g
overflow_mul-three-in-loop-g c = let h = room (turn c.ranges.q c.requires.0 c.requires.1 c.requires.2 c.loop-g-test.true c.loop-g.invariant.digits) in omega (arith, h)

pub put_run-requires : goal.put_run-requires
put_run-requires c =
    let u = turn c.ranges.q c.requires.0 c.requires.1 c.requires.2 c.loop-g-test.true c.loop-g.invariant.digits in
    let h = room u in
    let long = c.loop-g.invariant.chosen.long in
    rw c.from.ensures (few u, c.fill_lows.ensures.grid, low_room u, lanes_first u c.fill_lows.ensures, scan_seen u c.high_digits.ensures c.round_digits.ensures c.scanned-high.ensures, omega (arith, h, long), omega (arith, long))

pub overflow_cast-q : goal.overflow_cast-q
overflow_cast-q c = simp (to_z-of_z, c.ranges.q) (yes_non_neg (≤ℤ-trans (pos 0) (pos 2) c.args.q (record { le = tt }) c.requires.0.least), record { fits = omega (arith, c.requires.1) })

pub loop-g-preserved : goal.loop-g-preserved
loop-g-preserved c =
    let u = turn c.ranges.q c.requires.0 c.requires.1 c.requires.2 c.loop-g-test.true c.loop-g.invariant.digits in
    let q : ℤ = to_z w16 (of_z w16 c.args.q) in
    let e = c.high_digits.ensures in
    let r = c.round_digits.ensures in
    let a = c.round_digits.new.a in
    let f = fa u e r in
    let counted-up : c.count_up.new.ds ≡ digits_of (nat_abs q) 4 (c.loop-g.g + 1) = counted u c.count_up.ensures in
    let within : c.loop-g.g < row_count q = c.loop-g-test.true in
    let put = rw c.from.ensures at c.put_run.ensures in
    let highs : List ℤ = «at» a 3 ∷ «at» a 4 ∷ «at» a 5 ∷ «at» a 6 ∷ «at» a 7 ∷ [] in
    simp (to_z-of_z, f 3, f 4, f 5, f 6, f 7) (record {
      digits = counted-up;
      f_long = (f-sized u e r).long;
      a_long = (a-sized u e r).long;
      lows_stay = c.loop-g.invariant.lows_stay;
      chosen = chosen_more q u.base u.small c.args.last u.last c.fill_lows.new.lanes c.fill_lows.new.lows c.fill_lows.ensures c.loop-g.g within c.loop-g.self.choices c.put_run.new.choices c.loop-g.self.highs highs c.loop-g.invariant.chosen (put_is u e r c.scanned-high.ensures put) (five u e r);
    })

pub returns : goal.returns
returns c =
    let fq = c.ranges.q in
    let lows = simp (to_z-of_z, fq) at c.fill_lows.ensures in
    let chosen = simp (to_z-of_z, fq) at c.loop-g.invariant.chosen in
    subst (λ (l : List (List ℤ)). Slice c.args.q c.args.last c.loop-g.self.choices l c.loop-g.self.highs) (sym c.loop-g.invariant.lows_stay)
    (chosen-all c.args.q c.requires.0 c.requires.1 c.args.last c.requires.2 c.fill_lows.new.lanes c.fill_lows.new.lows lows c.loop-g.g c.loop-g.self.choices c.loop-g.self.highs (simp (to_z-of_z, fq) at c.loop-g-test.false) chosen)
