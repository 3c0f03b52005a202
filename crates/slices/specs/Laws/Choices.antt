-- The choices of a slice, run after run: the choice of the entry t of the run g by the column of its low digits and the pass over its high ones.
use Rattle.std.specs.Prelude.{◌≡◌, List, [], map, ℕ, ◌+◌, ◌*◌, ◌-◌, ◌%◌, ◌^◌, ◌<◌, ◌≤◌, ℤ, pos, nat_abs, ◌*ℤ◌, length, get_or, take, drop, set}
use Rattle.std.proofs.Common.{sym, ◌∙◌, ap, ap₂, subst, mul-le-mul, le_refl, arith, length-set, get_or-take, get_or-set_same, get_or-set_other}
use Rattle.std.proofs.Math.Decide.{ℕ_discrete, dec_le}
use borrow.Rule.Slice.PartMut.{put_mid}
use Rattle.integers.specs.Vectors.{«at»}
use Rattle.lattice.specs.Basis.{point_of}
use Rattle.columns.specs.Columns.{column}
use Rattle.columns.specs.Narrow.{brief, scanned_from}
use Rattle.layers.proofs.Laws.Bases.{base-two}
use Rattle.layers.specs.Sizes.{Base}
use Rattle.rounding.specs.Pass.{Scan}
use Rattle.rounding.specs.Pass.{scanned, chosen}
use Rattle.rounding.specs.Rounding.{round, left, sign}
use Rattle.slices.specs.Lanes.{low_at, lane_at, high_at, scan_at, Lows, code_by, Run, RunPut}
use Rattle.slices.specs.Laws.Merging.{scanned-merge}
use Rattle.slices.specs.Laws.Parts.{put-long, put-before, put_in}
use Rattle.slices.specs.Laws.Powers.{run_size, row_count, fourth-is, seventh-is, rows_few, entry-within, high-row, low-within, low-row}
use Rattle.slices.specs.Laws.Slices.{slice-low, slice-high}
use Rattle.slices.specs.Slices.{rounds_of, rests_of, choice_of, code_of, merge, slice_digits, Slice}

-- ---- a run

-- the choices of a run, back at its place
pub run-put : (q : ℤ) (from n : ℕ) (lanes : List (List ℤ)) (high : Scan) (i : ℕ) (c r : List ℕ) → i + n ≤ length c → Run q from n lanes high r → RunPut q from n lanes high i c (put_mid i n c r)
run-put q from n lanes high i c r room h = record {
  long = put-long i n c r h.long room;
  each = λ t l. put_in i n c r h.long room 0 t l ∙ h.each t l;
  before = put-before i n c r h.long room 0;
}

-- one more choice of a run
pub run_more : (q : ℤ) (from : ℕ) (lanes : List (List ℤ)) (high : Scan) (t : ℕ) (r : List ℕ) (x : ℕ) → t < length r → ((u : ℕ) → u < t → get_or r u 0 ≡ code_by q (column (pos 0) (from + u) lanes) high) → x ≡ code_by q (column (pos 0) (from + t) lanes) high
    → (u : ℕ) → u < t + 1 → get_or (set r t x) u 0 ≡ code_by q (column (pos 0) (from + u) lanes) high
run_more q from lanes high t r x t< h e u u< = elim (ℕ_discrete u t) [
  | yes i ↦ subst (λ (u : ℕ). get_or (set r t x) u 0 ≡ code_by q (column (pos 0) (from + u) lanes) high) (sym i) (get_or-set_same r t x 0 t< ∙ e)
  | no i ↦ get_or-set_other r t u x 0 i ∙ h u (omega arith)
]

-- ---- the entries of a slice

-- the entry t of the run g
module _ (q : ℤ) (b : Base q) (g t : ℕ) (g< : g < row_count q) (t< : t < run_size q) (d : ℕ) (d< : d < nat_abs q) where
  abbrev n : ℕ
  n = run_size q * g + t

  abbrev j : ℕ
  j = run_size q * (g % nat_abs q) + t

  abbrev ds : List ℕ
  ds = slice_digits (nat_abs q) d n

  some : 0 < nat_abs q
  some = omega arith

  n< : n < nat_abs q ^ 7
  n< = entry-within q g t g< t<

  low_of : (f : ℤ → ℤ) → take 3 (map f (point_of (map pos ds))) ≡ take 3 (map f (point_of (map pos (low_at q d j))))
  low_of f = subst (λ (z : ℕ). take 3 (map f (point_of (map pos ds))) ≡ take 3 (map f (point_of (map pos (low_at q d z))))) (low-row q (base-two q b) g t t<) (slice-low (nat_abs q) some d d< n n< f)

  high-of : (f : ℤ → ℤ) → drop 3 (map f (point_of (map pos ds))) ≡ drop 3 (map f (point_of (map pos (high_at q d g))))
  high-of f = subst (λ (z : ℕ). drop 3 (map f (point_of (map pos ds))) ≡ drop 3 (map f (point_of (map pos (high_at q d z))))) (high-row q (base-two q b) g t t<) (slice-high (nat_abs q) some d d< n n< f)

  scan-split : scanned q 8 (rounds_of q ds) (rests_of q ds) ≡ merge (scanned_from q 0 3 (rounds_of q (low_at q d j)) (rests_of q (low_at q d j))) (scan_at q d g)
  scan-split = let S : ℤ = pos 2 *ℤ q in
      scanned-merge q 2 4 (rounds_of q ds) (rests_of q ds) (rounds_of q (low_at q d j)) (rests_of q (low_at q d j)) (rounds_of q (high_at q d g)) (rests_of q (high_at q d g)) (low_of (round S)) (low_of (left S)) (high-of (round S)) (high-of (left S))

  way_same : «at» (rests_of q ds) 0 ≡ «at» (rests_of q (low_at q d j)) 0
  way_same = sym (get_or-take 3 (rests_of q ds) 0 (pos 0) (omega arith)) ∙ ap (λ (v : List ℤ). «at» v 0) (low_of (left (pos 2 *ℤ q))) ∙ get_or-take 3 (rests_of q (low_at q d j)) 0 (pos 0) (omega arith)

  -- its choice, by the column and the pass over its high digits
  pub entry-choice : code_of (choice_of q ds) ≡ code_by q (lane_at q d j) (scan_at q d g)
  entry-choice = ap₂ (λ (c : Scan) (w : ℤ). code_of (brief (chosen q c (sign w)))) scan-split way_same

-- ---- a slice, run after run

-- the first g runs, and what is left by the first g high digits
pub record Chosen (q : ℤ) (d g : ℕ) (c : List ℕ) (h : List (List ℤ)) : Type 0 where
  pub long : length c ≡ 16384
  pub highs-long : length h ≡ 256
  pub chosen : (n : ℕ) → n < run_size q * g → get_or c n 0 ≡ code_of (choice_of q (slice_digits (nat_abs q) d n))
  pub high : (j : ℕ) → j < g → get_or h j [] ≡ drop 3 (rests_of q (high_at q d j))

-- none yet
pub chosen_none : (q : ℤ) (d : ℕ) (c : List ℕ) (h : List (List ℤ)) → length c ≡ 16384 → length h ≡ 256 → Chosen q d 0 c h
chosen_none q d c h lc lh = record { long = lc; highs-long = lh; chosen = λ n l. absurd (omega arith); high = λ j l. absurd (omega arith) }

module _ (q : ℤ) (b : Base q) (most : nat_abs q ≤ 4) (d : ℕ) (d< : d < nat_abs q) (lanes lows : List (List ℤ)) (k : Lows q d (row_count q) lanes lows) where
  abbrev size : ℕ
  size = run_size q

  -- one more
  pub chosen_more : (g : ℕ) → g < row_count q → (c c' : List ℕ) (h : List (List ℤ)) (x : List ℤ) → Chosen q d g c h → RunPut q (size * (g % nat_abs q)) size lanes (scan_at q d g) (size * g) c c' → x ≡ drop 3 (rests_of q (high_at q d g))
      → Chosen q d (g + 1) c' (set h g x)
  chosen_more g g< c c' h x m p e = record {
    long = p.long ∙ m.long;
    highs-long = length-set h g x ∙ m.highs-long;
    chosen = λ n l. elim (dec_le (size * g) n) [
      | yes y ↦ let t : ℕ = n - size * g in let is : size * g + t ≡ n = omega arith in let t< : t < size = omega arith in
          subst (λ (n : ℕ). get_or c' n 0 ≡ code_of (choice_of q (slice_digits (nat_abs q) d n))) is
          (p.each t t< ∙ ap (λ (l : List ℤ). code_by q l (scan_at q d g)) (k.lane (size * (g % nat_abs q) + t) (low-within q (base-two q b) g t t<)) ∙ sym (entry-choice q b g t g< t< d d<))
      | no y ↦ p.before n (omega arith) ∙ m.chosen n (omega arith)
    ];
    high = λ j l. elim (ℕ_discrete j g) [
      | yes i ↦ subst (λ (j : ℕ). get_or (set h g x) j [] ≡ drop 3 (rests_of q (high_at q d j))) (sym i) (get_or-set_same h g x [] (omega (arith, m.highs-long, rows_few q most)) ∙ e)
      | no i ↦ get_or-set_other h g j x [] i ∙ m.high j (omega arith)
    ];
  }

  -- all
  pub chosen-all : (g : ℕ) (c : List ℕ) (h : List (List ℤ)) → row_count q ≤ g → Chosen q d g c h → Slice q d c lows h
  chosen-all g c h l m = let f = fourth-is q in record {
    choices-long = m.long;
    lows-long = k.long;
    highs-long = m.highs-long;
    chosen = λ n u. m.chosen n (omega (arith, seventh-is q, mul-le-mul (le_refl size) l));
    low = λ j u. k.low j (omega arith);
    high = λ j u. m.high j (omega arith);
  }
