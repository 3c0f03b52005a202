-- The runs of a slice: entries in a row, for each of which the high digits leave the same. Each is looked up, and they fill the slice one after another.
use Rattle.std.specs.Prelude.{◌≡◌, refl, Bool, true, false, cond, List, [], ◌++◌, map, ℕ, zero, suc, ◌+◌, ◌*◌, ◌-◌, ◌/◌, ◌%◌, ◌^◌, ◌<◌, ◌≤◌, eqb, ℤ, pos, nat_abs, ◌+ℤ◌, length, get_or, take, drop}
use Rattle.std.proofs.Common.{sym, ◌∙◌, ap, ap₂, subst, mul-le-mul, le_refl, zero-add, arith, get_or-take, get_or-drop}
use Rattle.std.proofs.Math.Decide.{dec_le}
use borrow.Rule.Slice.PartMut.{put_mid}
use Rattle.integers.specs.Laws.Loops.{range_at}
use Rattle.integers.specs.Vectors.{«at», dot, range}
use Rattle.columns.specs.Narrow.{left_by}
use Rattle.layers.proofs.Laws.Bases.{base-two}
use Rattle.rounding.specs.Rounding.{lowered}
use Rattle.slices.specs.Slices.{Sizes, Dots, choice_by, point_by}
use Rattle.slices.specs.Sums.{even_at, odd_at, mend_at, Paired, run_at}
use Rattle.slices.specs.Laws.Parts.{put-long, put-before, put_in}
use Rattle.slices.specs.Laws.Powers.{run_size, row_count, fourth-is, seventh-is, run_room, entry-within, high-row, low-within, low-row}
use Rattle.slices.specs.Laws.Sums.{halved, dot-choice, paired_at}

-- the first g runs of the slice are right
pub record Begun (q : ℤ) (choices : List ℕ) (lows highs : List (List ℤ)) (X : List ℤ) (g : ℕ) (r : List ℤ) : Type 0 where
  pub within : g ≤ row_count q
  pub long : length r ≡ run_size q * row_count q
  pub each : (n : ℕ) → n < run_size q * g → «at» r n ≡ dot X (point_by q choices lows highs n)

-- ---- an entry

-- the sum of a half
half_is : (s : ℤ) (p : ℕ) (X a : List ℤ) → cond (eqb p 0) (dot X a) (dot X (map (lowered s) a)) ≡ dot X (halved s p a)
half_is s p X a = go (eqb p 0)
  where
    go : (b : Bool) → cond b (dot X a) (dot X (map (lowered s) a)) ≡ dot X (cond b a (map (lowered s) a))
    go true = refl
    go false = refl

-- what a run is looked up in: the sums with the low rows, the mends z, and y, which has the sums with the high row g too
pub record Looked (q : ℤ) (lows highs : List (List ℤ)) (X : List ℤ) (g : ℕ) (sums z y : List ℤ) (even odd : ℤ) : Type 0 where
  pub low : Paired (even_at (take 3 X) lows) (odd_at q (take 3 X) lows) (row_count q) sums
  pub mends : z ≡ map (mend_at q X) (range 0 48)
  pub high : Paired (λ (c : ℕ). «at» z (2 * c) +ℤ even) (λ (c : ℕ). «at» z (2 * c + 1) +ℤ odd) 24 y
  pub even_is : even ≡ even_at (drop 3 X) highs g
  pub odd_is : odd ≡ odd_at q (drop 3 X) highs g

module _ (q : ℤ) (lows highs : List (List ℤ)) (X : List ℤ) (g : ℕ) (sums z y : List ℤ) (even odd : ℤ) (l : Looked q lows highs X g sums z y even odd) where
  mend-at : (k : ℕ) → k < 48 → «at» z k ≡ mend_at q X k
  mend-at k h = ap (λ (z : List ℤ). «at» z k) l.mends ∙ range_at (mend_at q X) 0 48 k (pos 0) h ∙ ap (mend_at q X) (zero-add k)

  high-at : (k : ℕ) → k < 48 → «at» y k ≡ mend_at q X k +ℤ dot (drop 3 X) (halved q (k % 2) (get_or highs g []))
  high-at k h = let e : k ≡ 2 * (k / 2) + k % 2 = omega arith in
      ap («at» y) e ∙ paired_at (λ (c : ℕ). «at» z (2 * c) +ℤ even) (λ (c : ℕ). «at» z (2 * c + 1) +ℤ odd) 24 y l.high (k / 2) (k % 2) (omega arith) (omega arith)
      ∙ go (k % 2) (omega arith) e ∙ ap (λ (d : ℤ). mend_at q X k +ℤ d) (half_is q (k % 2) (drop 3 X) (get_or highs g []))
    where
      go : (p : ℕ) → p < 2 → k ≡ 2 * (k / 2) + p
          → cond (eqb p 0) («at» z (2 * (k / 2)) +ℤ even) («at» z (2 * (k / 2) + 1) +ℤ odd) ≡ mend_at q X k +ℤ cond (eqb p 0) (even_at (drop 3 X) highs g) (odd_at q (drop 3 X) highs g)
      go zero m e = let f : 2 * (k / 2) ≡ k = omega arith in ap₂ ◌+ℤ◌ (ap («at» z) f ∙ mend-at k h) l.even_is
      go (suc zero) m e = ap₂ ◌+ℤ◌ (ap («at» z) (sym e) ∙ mend-at k h) l.odd_is
      go (suc (suc p)) m e = absurd (omega arith)

  -- the two sums of a choice are the readings with its point
  pub looked-up : (j k : ℕ) → j < row_count q → k < 48 → length (get_or lows j []) ≡ 3 → length (get_or highs g []) ≡ 5
      → «at» sums (2 * j + k % 2) +ℤ «at» y k ≡ dot X (left_by q (choice_by k) (get_or lows j [] ++ get_or highs g []))
  looked-up j k hj hk l3 h5 =
      ap₂ ◌+ℤ◌ (paired_at (even_at (take 3 X) lows) (odd_at q (take 3 X) lows) (row_count q) sums l.low j (k % 2) hj (omega arith) ∙ half_is q (k % 2) (take 3 X) (get_or lows j [])) (high-at k hk)
      ∙ sym (dot-choice q k X (get_or lows j []) (get_or highs g []) l3 h5)

  -- the entry t of the run g
  module _ (choices : List ℕ) (h : Sizes q choices lows highs) (within : g < row_count q) (t : ℕ) (t< : t < run_size q) where
    abbrev T : ℕ
    T = run_size q

    two : 2 ≤ nat_abs q
    two = base-two q h.base

    abbrev row : ℕ
    row = T * (g % nat_abs q) + t

    row< : row < row_count q
    row< = low-within q two g t t<

    -- is looked up
    pub run-at : run_at (take (2 * T) (drop (2 * (T * (g % nat_abs q))) sums)) y (take T (drop (T * g) choices)) t ≡ dot X (point_by q choices lows highs (T * g + t))
    run-at =
        ap (λ (c : ℕ). «at» (take (2 * T) (drop (2 * (T * (g % nat_abs q))) sums)) (2 * t + c % 2) +ℤ «at» y c) choice-is
        ∙ ap (λ (x : ℤ). x +ℤ «at» y k) (get_or-take (2 * T) (drop (2 * (T * (g % nat_abs q))) sums) (2 * t + k % 2) (pos 0) (omega (arith, t<)) ∙ get_or-drop (2 * (T * (g % nat_abs q))) sums (2 * t + k % 2) (pos 0) ∙ ap («at» sums) place)
        ∙ looked-up row k row< (h.below (T * g + t) (entry-within q g t within t<)) (h.low row (rw (fourth-is q) row<)).long (h.high g (rw (fourth-is q) within)).long
        ∙ ap₂ (λ (i j : ℕ). dot X (left_by q (choice_by k) (get_or lows i [] ++ get_or highs j []))) (sym (low-row q two g t t<)) (sym (high-row q two g t t<))
      where
        k : ℕ
        k = get_or choices (T * g + t) 0

        choice-is : get_or (take T (drop (T * g) choices)) t 0 ≡ k
        choice-is = get_or-take T (drop (T * g) choices) t 0 t< ∙ get_or-drop (T * g) choices t 0

        place : 2 * (T * (g % nat_abs q)) + (2 * t + k % 2) ≡ 2 * row + k % 2
        place = omega arith

-- ---- run after run

module _ (q : ℤ) (choices : List ℕ) (lows highs : List (List ℤ)) (X : List ℤ) where
  -- none yet
  pub begun-none : (r : List ℤ) → length r ≡ nat_abs q ^ 7 → Begun q choices lows highs X 0 r
  begun-none r h = record { within = omega arith; long = h ∙ seventh-is q; each = λ n k. absurd (omega arith) }

  -- the run g too, whose entries were lent and came back
  pub begun_more : (g : ℕ) (e r : List ℤ) → Begun q choices lows highs X g e → g < row_count q → length r ≡ run_size q → ((t : ℕ) → t < run_size q → «at» r t ≡ dot X (point_by q choices lows highs (run_size q * g + t)))
      → Begun q choices lows highs X (g + 1) (put_mid (run_size q * g) (run_size q) e r)
  begun_more g e r b h long each = record {
    within = omega arith;
    long = put-long (T * g) T e r long room ∙ b.long;
    each = λ n k. elim (dec_le (T * g) n) [
      | yes x ↦ let t : ℕ = n - T * g in let is : T * g + t ≡ n = omega arith in
          subst (λ (n : ℕ). «at» (put_mid (T * g) T e r) n ≡ dot X (point_by q choices lows highs n)) is (put_in (T * g) T e r long room (pos 0) t (omega arith) ∙ each t (omega arith))
      | no x ↦ put-before (T * g) T e r long room (pos 0) n (omega arith) ∙ b.each n (omega arith)
    ];
  }
    where
      T : ℕ
      T = run_size q

      room : T * g + T ≤ length e
      room = omega (arith, b.long, run_room q g h)

  -- all runs
  pub begun_all : (g : ℕ) (r : List ℤ) → Begun q choices lows highs X g r → row_count q ≤ g → Dots (nat_abs q ^ 7) (point_by q choices lows highs) X r
  begun_all g r b h = record { long = b.long ∙ sym (seventh-is q); each = λ t k. b.each t (omega (arith, rw (seventh-is q) at k, mul-le-mul (le_refl (run_size q)) h)) }
