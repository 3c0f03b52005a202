-- Passes side by side: a column written entry by entry, and how large its numbers are.
use Rattle.std.specs.Prelude.{◌≡◌, refl, ◌≢◌, List, [], ◌∷◌, map, ℕ, zero, suc, ◌+◌, ◌<◌, ◌≤◌, ℤ, pos, nat_abs, length, get_or, take, drop, set, replicate, ◌≤ℤ◌}
use Rattle.std.proofs.Common.{sym, ◌∙◌, ap, subst, map-id, arith, length-set, get_or-set_same, get_or-set_other}
use Rattle.std.proofs.Math.Decide.{ℕ_discrete}
use Rattle.std.proofs.lemmas.List.{length-map, length-replicate, get_or-replicate}
use Rattle.integers.specs.Laws.Difference.{ints}
use Rattle.integers.specs.Laws.Loops.{Filled, filled_more, filled-all, map_at, by_entries}
use Rattle.integers.specs.Vectors.{«at», Sized}
use Rattle.lattice.specs.Basis.{point_of}
use Rattle.columns.specs.Columns.{column, Grid}
use Rattle.columns.specs.Laws.Columns.{put-square, put-here, put_other, digit_point-narrow}
use Rattle.columns.specs.Laws.Narrow.{rounds-few, lefts-few, scan-part, part-slender}
use Rattle.columns.specs.Narrow.{Few, Narrow, Part, Slender, scanned_from}
use Rattle.layers.specs.Digits.{IsLayer, digits_of}
use Rattle.layers.proofs.Laws.Bases.{base-two, base-divisor}
use Rattle.layers.specs.Laws.Entries.{digits_of-layer}
use Rattle.layers.specs.Laws.Rows.{below_at}
use Rattle.layers.specs.Sizes.{Base}
use Rattle.rounding.specs.Pass.{Scan}
use Rattle.rounding.proofs.Laws.Choice.{sign_small}
use Rattle.slices.specs.Lanes.{lane_of, scan_of, Lane, LanePut, low_at, lane_at, high_at, scan_at, Lows}
use Rattle.slices.specs.Laws.Merging.{part-merge}
use Rattle.slices.specs.Slices.{rounds_of, rests_of, merge}

-- ---- rows and columns

-- rows of one number
pub grid-same : {A : Type 0} (m n : ℕ) (x : A) → Grid m n (replicate m (replicate n x))
grid-same m n x = record { long = length-replicate m (replicate n x); rows = λ j h. ap length (get_or-replicate m j (replicate n x) [] h) ∙ length-replicate n x }

-- the entry j of a column
pub column-at : {A : Type 0} (blank : A) (t : ℕ) (c : List (List A)) (j : ℕ) → j < length c → get_or (column blank t c) j blank ≡ get_or (get_or c j []) t blank
column-at {A} blank t c j h = map_at (λ (row : List A). get_or row t blank) c j [] blank h

-- a column that is written from the first row on: so far the first j entries, and no other column
pub record Putting (t : ℕ) (l : List ℤ) (o : List (List ℤ)) (j : ℕ) (c : List (List ℤ)) : Type 0 where
  pub grid : Grid 7 256 c
  pub filled : Filled (λ (x : ℤ). x) 7 l j (column (pos 0) t c)
  pub others : (u : ℕ) → u ≢ t → column (pos 0) u c ≡ column (pos 0) u o

module _ (t : ℕ) (t< : t < 256) (l : List ℤ) (long : length l ≡ 7) (o : List (List ℤ)) where
  -- none yet
  pub putting-none : Grid 7 256 o → Putting t l o 0 o
  putting-none g = record { grid = g; filled = record { within = omega arith; long = length-map o _ ∙ g.long; same = refl }; others = λ u ne. refl }

  module _ (j : ℕ) (c : List (List ℤ)) (p : Putting t l o j c) where
    -- one more
    pub putting-more : j < 7 → Putting t l o (j + 1) (set c j (set (get_or c j []) t («at» l j)))
    putting-more h = let z : ℤ = «at» l j in record {
      grid = put-square (pos 0) c p.grid j t h t< z;
      filled = subst (Filled (λ (x : ℤ). x) 7 l (j + 1)) (sym (put-here (pos 0) c p.grid j t h t< z)) (filled_more (λ (x : ℤ). x) 7 l long (pos 0) z refl h p.filled);
      others = λ u ne. put_other (pos 0) c p.grid j t h t< z u ne ∙ p.others u ne;
    }

    -- all
    pub putting-all : 7 ≤ j → LanePut t l o c
    putting-all h = record { grid = p.grid; put = filled-all (λ (x : ℤ). x) 7 l long h p.filled ∙ map-id l; others = p.others }

-- ---- the sizes

not_negative : (n : ℕ) → pos 0 ≤ℤ pos n
not_negative n = simp ints (omega arith)

-- a pass as a column
pub lane-of : {R n : ℕ} (c : Scan) (w : ℤ) → Part R n c → nat_abs w ≤ 1 → Lane R n (lane_of c w)
lane-of c w p h = record {
  whole = λ i l. whole i l;
  part = record { most = p.most; least = p.least; keys = p.keys; sum = p.sum; even = p.even; odd = p.odd };
  way = h;
}
  where
    whole : (i : ℕ) → i < 3 → pos 0 ≤ℤ «at» (lane_of c w) i
    whole zero l = not_negative c.most
    whole (suc zero) l = not_negative c.least
    whole (suc (suc zero)) l = not_negative c.keys
    whole (suc (suc (suc i))) l = absurd (omega arith)

-- any pass of the code
pub part-any : {R n : ℕ} {c : Scan} → R ≤ 16 → n ≤ 8 → Part R n c → Part 16 8 c
part-any h k p = record { most = omega (arith, p.most); least = omega (arith, p.least); keys = omega (arith, p.keys); sum = omega (arith, p.sum); even = omega (arith, p.even); odd = omega (arith, p.odd) }

-- with a pass over the other entries it leads to a choice
pub lane-slender : (s : ℤ) → Few s → (l : List ℤ) (c : Scan) → Lane (nat_abs s) 3 l → Part (nat_abs s) 5 c → Slender s (merge (scan_of l) c)
lane-slender s h l c k p = part-slender s h (part-merge k.part p)

module _ (q : ℤ) (b : Base q) (most : nat_abs q ≤ 16) where
  pub base-few : Few q
  base-few = record { least = (base-divisor q b).least; most = most }

  some : 0 < nat_abs q
  some = omega (arith, base-two q b)

  -- eight digits: their roundings, what these leave, and a pass over some of them
  module _ (ds : List ℕ) (h : IsLayer 8 (nat_abs q) ds) where
    narrow : Narrow q (point_of (map pos ds))
    narrow = digit_point-narrow q b most ds h

    pub rounds-sized : Sized 8 2 (rounds_of q ds)
    rounds-sized = rounds-few narrow

    pub rests-sized : Sized 8 (nat_abs q) (rests_of q ds)
    rests-sized = lefts-few narrow

    pub digits-part : (k n : ℕ) → k < 8 → k + n ≤ 8 → Part (nat_abs q) n (scanned_from q k n (rounds_of q ds) (rests_of q ds))
    digits-part k n = scan-part q base-few (nat_abs q) most (rounds_of q ds) (rests_of q ds) rounds-sized.small rests-sized.small k n

  -- the low digits and the high ones are a layer's
  module _ (d : ℕ) (d< : d < nat_abs q) (j : ℕ) where
    digits : IsLayer 4 (nat_abs q) (digits_of (nat_abs q) 4 j)
    digits = digits_of-layer (nat_abs q) some 4 j

    less : (i : ℕ) → i < 4 → get_or (digits_of (nat_abs q) 4 j) i 0 < nat_abs q
    less i l = below_at (nat_abs q) (digits_of (nat_abs q) 4 j) digits.below i (omega (arith, digits.long))

    pub low-layer : IsLayer 8 (nat_abs q) (low_at q d j)
    low-layer = record { long = refl; below = (less 0 (omega arith), (less 1 (omega arith), (less 2 (omega arith), (less 3 (omega arith), (some, (some, (some, (d<, tt)))))))) }

    pub high-layer : IsLayer 8 (nat_abs q) (high_at q d j)
    high-layer = record { long = refl; below = (some, (some, (some, (less 0 (omega arith), (less 1 (omega arith), (less 2 (omega arith), (less 3 (omega arith), (d<, tt)))))))) }

    pub lane-at : Lane (nat_abs q) 3 (lane_at q d j)
    lane-at = lane-of _ _ (digits-part (low_at q d j) low-layer 0 3 (omega arith) (omega arith)) (sign_small («at» (rests_of q (low_at q d j)) 0))

    pub scan-at : Part (nat_abs q) 5 (scan_at q d j)
    scan-at = digits-part (high_at q d j) high-layer 3 5 (omega arith) (omega arith)

-- ---- the columns of a slice

-- some entries of eight
pub first_three : (a : List ℤ) → length a ≡ 8 → «at» a 0 ∷ «at» a 1 ∷ «at» a 2 ∷ [] ≡ take 3 a
first_three a h = sym (ap (take 3) (by_entries a (pos 0) 8 h))

pub last-five : (a : List ℤ) → length a ≡ 8 → «at» a 3 ∷ «at» a 4 ∷ «at» a 5 ∷ «at» a 6 ∷ «at» a 7 ∷ [] ≡ drop 3 a
last-five a h = sym (ap (drop 3) (by_entries a (pos 0) 8 h))

module _ (q : ℤ) (d : ℕ) where
  -- none yet
  pub lows-none : (lanes lows : List (List ℤ)) → Grid 7 256 lanes → length lows ≡ 256 → Lows q d 0 lanes lows
  lows-none lanes lows g h = record { grid = g; long = h; lane = λ j l. absurd (omega arith); low = λ j l. absurd (omega arith) }

  -- one more
  pub lows-more : (t : ℕ) (lanes lows lanes' : List (List ℤ)) (l x : List ℤ) → t < 256 → Lows q d t lanes lows → LanePut t l lanes lanes' → l ≡ lane_at q d t → x ≡ take 3 (rests_of q (low_at q d t)) → Lows q d (t + 1) lanes' (set lows t x)
  lows-more t lanes lows lanes' l x t< h p e f = record {
    grid = p.grid;
    long = length-set lows t x ∙ h.long;
    lane = λ j k. elim (ℕ_discrete j t) [
      | yes i ↦ subst (λ (j : ℕ). column (pos 0) j lanes' ≡ lane_at q d j) (sym i) (p.put ∙ e)
      | no i ↦ p.others j i ∙ h.lane j (omega arith)
    ];
    low = λ j k. elim (ℕ_discrete j t) [
      | yes i ↦ subst (λ (j : ℕ). get_or (set lows t x) j [] ≡ take 3 (rests_of q (low_at q d j))) (sym i) (get_or-set_same lows t x [] (omega (arith, h.long)) ∙ f)
      | no i ↦ get_or-set_other lows t j x [] i ∙ h.low j (omega arith)
    ];
  }
