-- Layers side by side: what writing one entry does to the columns, and that a layer's digits make a point of narrow coordinates.
use Rattle.std.specs.Prelude.{◌≡◌, refl, ◌≢◌, List, [], ◌∷◌, map, ℕ, zero, suc, ◌+◌, ◌<◌, ◌≤◌, ℤ, negsuc, neg_ℤ, nat_abs, ◌+ℤ◌, ◌-ℤ◌, ◌*ℤ◌, length, get_or, set, replicate, ◌≤ℤ◌, ◌<ℤ◌}
use Rattle.std.proofs.Common.{sym, ◌∙◌, ap₂, subst, map-id, arith, length-set, get_or-set_same, get_or-set_other}
use Rattle.std.proofs.Math.Path.{ap}
use Rattle.std.proofs.Math.Decide.{ℕ_discrete}
use Rattle.std.proofs.Math.IntN.{pos}
use Rattle.std.proofs.lemmas.List.{length-map, get_or-replicate}
use Rattle.std.proofs.Math.Seq.{map-set_same}
use Rattle.integers.specs.Laws.Difference.{ints, by_d, by_d₂, by_d₃}
use Rattle.integers.specs.Laws.Loops.{Filled, filled_more, filled-all, by_entries}
use Rattle.integers.specs.Vectors.{«at», zeros, sub_v, scale_v}
use Rattle.lattice.specs.Basis.{point_of}
use Rattle.lattice.specs.Computed.{nearest_point}
use Rattle.columns.specs.Narrow.{Narrow}
use Rattle.columns.specs.Columns.{column, Grid, Square8, PointColumns}
use Rattle.layers.specs.Digits.{IsLayer}
use Rattle.layers.specs.E8.{layer_point8}
use Rattle.layers.proofs.Laws.Bases.{base-is, base-divisor}
use Rattle.layers.specs.Laws.Rows.{below_at}
use Rattle.layers.specs.Layers.{digit_point, layer_point}
use Rattle.layers.specs.Sizes.{Base}

-- ---- writing the entry t of the row j

map-set : {A B : Type 0} (f : A → B) (l : List A) (j : ℕ) (x : A) → map f (set l j x) ≡ set (map f l) j (f x)
map-set f [] j x = refl
map-set f (y ∷ l) zero x = refl
map-set f (y ∷ l) (suc j) x = ap (λ t. f y ∷ t) (map-set f l j x)

module _ {A : Type 0} (blank : A) {m n : ℕ} (l : List (List A)) (h : Grid m n l) (j t : ℕ) (hj : j < m) (ht : t < n) (z : A) where
  abbrev put : List (List A)
  put = set l j (set (get_or l j []) t z)

  pub put-square : Grid m n put
  put-square = record {
    long = length-set l j _ ∙ h.long;
    rows = λ i hi. elim (ℕ_discrete i j) [
      | yes e ↦ ap (λ (k : ℕ). length (get_or put k [])) e ∙ ap length (get_or-set_same l j (set (get_or l j []) t z) [] (omega (arith, h.long))) ∙ length-set (get_or l j []) t z ∙ h.rows j hj
      | no e ↦ ap length (get_or-set_other l j i (set (get_or l j []) t z) [] e) ∙ h.rows i hi
    ];
  }

  pub put-here : column blank t put ≡ set (column blank t l) j z
  put-here = map-set (λ (row : List A). get_or row t blank) l j (set (get_or l j []) t z) ∙ ap (set (column blank t l) j) (get_or-set_same (get_or l j []) t z blank (omega (arith, h.rows j hj)))

  pub put_other : (u : ℕ) → u ≢ t → column blank u put ≡ column blank u l
  put_other u ne = map-set_same (λ (row : List A). get_or row u blank) l j (set (get_or l j []) t z) [] (get_or-set_other (get_or l j []) t u z blank ne)

-- ---- the layer points, column after column

-- the first t columns hold the points of the first t layers
pub record Pointed (q : ℕ) (c : List (List ℕ)) (t : ℕ) (l : List (List ℤ)) : Type 0 where
  pub within : t ≤ 8
  pub square : Square8 l
  pub done : (u : ℕ) → u < t → column (pos 0) u l ≡ layer_point8 q (column 0 u c)

-- and the first j entries of the next are those of r
pub record Pointing (q : ℕ) (c : List (List ℕ)) (t : ℕ) (r : List ℤ) (j : ℕ) (l : List (List ℤ)) : Type 0 where
  pub before : Pointed q c t l
  pub filled : Filled (λ (x : ℤ). x) 8 r j (column (pos 0) t l)

pub pointed-none : (q : ℕ) (c : List (List ℕ)) → Pointed q c 0 (replicate 8 (zeros 8))
pointed-none q c = record { within = omega arith; square = record { long = refl; rows = λ j h. ap length (get_or-replicate 8 j (zeros 8) [] h) }; done = λ u h. absurd (omega arith) }

module _ (q : ℕ) (c : List (List ℕ)) (t : ℕ) (ht : t < 8) (r : List ℤ) (long : length r ≡ 8) where
  pub pointing-none : {l : List (List ℤ)} → Pointed q c t l → Pointing q c t r 0 l
  pointing-none {l} h = record { before = h; filled = record { within = omega arith; long = length-map l _ ∙ h.square.long; same = refl } }

  pub pointing-more : {j : ℕ} {l : List (List ℤ)} → j < 8 → Pointing q c t r j l → Pointing q c t r (j + 1) (set l j (set (get_or l j []) t («at» r j)))
  pointing-more {j} {l} hj h = let b = h.before in let k = put_other (pos 0) l b.square j t hj ht («at» r j) in record {
    before = record { within = b.within; square = put-square (pos 0) l b.square j t hj ht («at» r j); done = λ u hu. k u (λ e. absurd (omega (arith, e))) ∙ b.done u hu };
    filled = subst (Filled (λ (x : ℤ). x) 8 r (j + 1)) (sym (put-here (pos 0) l b.square j t hj ht («at» r j))) (filled_more (λ (x : ℤ). x) 8 r long (pos 0) («at» r j) refl hj h.filled);
  }

  -- a column is done
  pub pointed-more : r ≡ layer_point8 q (column 0 t c) → {j : ℕ} {l : List (List ℤ)} → 8 ≤ j → Pointing q c t r j l → Pointed q c (t + 1) l
  pointed-more e {j} {l} hj h = record {
    within = omega arith;
    square = h.before.square;
    done = λ u hu. elim (ℕ_discrete u t) [
      | yes i ↦ ap (λ (k : ℕ). column (pos 0) k l) i ∙ filled-all (λ (x : ℤ). x) 8 r long hj h.filled ∙ map-id r ∙ e ∙ ap (λ (k : ℕ). layer_point8 q (column 0 k c)) (sym i)
      | no i ↦ h.before.done u (omega (arith, i))
    ];
  }

pub pointed-all : (q : ℕ) (c : List (List ℕ)) {t : ℕ} {l : List (List ℤ)} → 8 ≤ t → Pointed q c t l → PointColumns q c l
pointed-all q c ht h = record { square = h.square; each = λ u hu. h.done u (omega arith) }

-- ---- the point of eight coefficients, coordinate by coordinate

-- twice a coefficient, less twice the next, and the last
abbrev pub middle : ℤ → ℤ → ℤ → ℤ
middle a b h = pos 2 *ℤ a -ℤ pos 2 *ℤ b +ℤ h

first-row : (a b h : ℤ) → pos 2 *ℤ a +ℤ middle a b h ≡ pos 4 *ℤ a +ℤ (negsuc 1 *ℤ b +ℤ (pos 1 *ℤ h +ℤ pos 0))
first-row = by_d₃ _ λ _ _ _ _ _ _. simp ints (omega arith)

middle-row : (a b h : ℤ) → middle a b h ≡ pos 2 *ℤ a +ℤ (negsuc 1 *ℤ b +ℤ (pos 1 *ℤ h +ℤ pos 0))
middle-row = by_d₃ _ λ _ _ _ _ _ _. simp ints (omega arith)

seventh-row : (g h : ℤ) → pos 2 *ℤ g +ℤ h ≡ pos 2 *ℤ g +ℤ (pos 1 *ℤ h +ℤ pos 0)
seventh-row = by_d₂ _ λ _ _ _ _. simp ints (omega arith)

last_row : (h : ℤ) → h ≡ pos 1 *ℤ h +ℤ pos 0
last_row = by_d _ λ _ _. simp ints (omega arith)

-- a coefficient 0
pub skip : (x d : ℤ) → pos 0 *ℤ x +ℤ d ≡ d
skip = by_d₂ _ λ _ _ _ _. simp ints (omega arith)

-- the coordinates of a list's point
abbrev pub coordinates : ℤ → ℤ → ℤ → ℤ → ℤ → ℤ → ℤ → ℤ → List ℤ
coordinates a b c d e f g h = (pos 2 *ℤ a +ℤ middle a b h) ∷ middle b c h ∷ middle c d h ∷ middle d e h ∷ middle e f h ∷ middle f g h ∷ (pos 2 *ℤ g +ℤ h) ∷ h ∷ []

point_of-list : (a b c d e f g h : ℤ) → coordinates a b c d e f g h ≡ point_of (a ∷ b ∷ c ∷ d ∷ e ∷ f ∷ g ∷ h ∷ [])
point_of-list a b c d e f g h = simp skip
    (ap₂ ◌∷◌ (first-row a b h) (ap₂ ◌∷◌ (middle-row b c h) (ap₂ ◌∷◌ (middle-row c d h) (ap₂ ◌∷◌ (middle-row d e h) (ap₂ ◌∷◌ (middle-row e f h) (ap₂ ◌∷◌ (middle-row f g h) (ap₂ ◌∷◌ (seventh-row g h) (ap₂ ◌∷◌ (last_row h) refl))))))))

pub point_of-coordinates : (v : List ℤ) → length v ≡ 8 → coordinates («at» v 0) («at» v 1) («at» v 2) («at» v 3) («at» v 4) («at» v 5) («at» v 6) («at» v 7) ≡ point_of v
point_of-coordinates v k = point_of-list («at» v 0) («at» v 1) («at» v 2) («at» v 3) («at» v 4) («at» v 5) («at» v 6) («at» v 7) ∙ ap point_of (sym (by_entries v (pos 0) 8 k))

-- ---- the point of a layer's digits is narrow

abbrev Between : ℕ → ℤ → Type 0
Between n x = (neg_ℤ (pos 3 *ℤ pos n) <ℤ x) × (x ≤ℤ (pos 5 *ℤ pos n))

module _ (n : ℕ) where
  first-between : (a b h : ℕ) → a < n → b < n → h < n → Between n (pos 2 *ℤ pos a +ℤ middle (pos a) (pos b) (pos h))
  first-between a b h ha hb hh = simp ints (omega arith)

  middle-between : (a b h : ℕ) → a < n → b < n → h < n → Between n (middle (pos a) (pos b) (pos h))
  middle-between a b h ha hb hh = simp ints (omega arith)

  seventh-between : (g h : ℕ) → g < n → h < n → Between n (pos 2 *ℤ pos g +ℤ pos h)
  seventh-between g h hg hh = simp ints (omega arith)

  last-between : (h : ℕ) → h < n → Between n (pos h)
  last-between h hh = simp ints (omega arith)

abbrev Each : (ℤ → Type 0) → List ℤ → Type 0
Each P [] = Unit {0}
Each P (x ∷ a) = P x × Each P a

each_at : (P : ℤ → Type 0) (a : List ℤ) → Each P a → (i : ℕ) → i < length a → P («at» a i)
each_at P [] h i l = absurd (omega arith)
each_at P (x ∷ a) h zero l = h.0
each_at P (x ∷ a) h (suc i) l = each_at P a h.1 i (omega arith)

module _ (q : ℤ) (b : Base q) (most : nat_abs q ≤ 16) (ds : List ℕ) (h : IsLayer 8 (nat_abs q) ds) where
  abbrev n : ℕ
  n = nat_abs q

  abbrev d : ℕ → ℕ
  d i = get_or ds i 0

  less : (i : ℕ) → i < 8 → d i < n
  less i l = below_at n ds h.below i (omega (arith, h.long))

  abbrev p : List ℤ
  p = coordinates (pos (d 0)) (pos (d 1)) (pos (d 2)) (pos (d 3)) (pos (d 4)) (pos (d 5)) (pos (d 6)) (pos (d 7))

  point-is : p ≡ point_of (map pos ds)
  point-is = point_of-list (pos (d 0)) (pos (d 1)) (pos (d 2)) (pos (d 3)) (pos (d 4)) (pos (d 5)) (pos (d 6)) (pos (d 7)) ∙ ap (λ (l : List ℕ). point_of (map pos l)) (sym (by_entries ds 0 8 h.long))

  all-between : Each (Between n) p
  all-between =
      let l : (i : ℕ) → i < 8 → d i < n = less in let h7 : d 7 < n = l 7 (omega arith) in
      let m : (i : ℕ) → suc i < 8 → Between n (middle (pos (d i)) (pos (d (suc i))) (pos (d 7))) = λ i k. middle-between n (d i) (d (suc i)) (d 7) (l i (omega arith)) (l (suc i) k) h7 in
      (first-between n (d 0) (d 1) (d 7) (l 0 (omega arith)) (l 1 (omega arith)) h7, (m 1 (omega arith), (m 2 (omega arith), (m 3 (omega arith), (m 4 (omega arith), (m 5 (omega arith), (seventh-between n (d 6) (d 7) (l 6 (omega arith)) h7, (last-between n (d 7) h7, tt))))))))

  between : (i : ℕ) → i < 8 → Between n («at» (point_of (map pos ds)) i)
  between i l = subst (λ (v : List ℤ). Between n («at» v i)) point-is (each_at (Between n) p all-between i l)

  pub digit_point-narrow : Narrow q (point_of (map pos ds))
  digit_point-narrow = record {
    least = (base-divisor q b).least;
    most = most;
    long = refl;
    low = λ i l. subst (λ (z : ℤ). neg_ℤ (pos 3 *ℤ z) <ℤ «at» (point_of (map pos ds)) i) (base-is q b) (between i l).0;
    high = λ i l. subst (λ (z : ℤ). «at» (point_of (map pos ds)) i ≤ℤ (pos 5 *ℤ z)) (base-is q b) (between i l).1;
  }

  -- what is left of it is the layer point
  pub layer_point8-rest : sub_v (point_of (map pos ds)) (scale_v q (nearest_point q (point_of (map pos ds)))) ≡ layer_point8 (nat_abs q) ds
  unfolding layer_point digit_point
  layer_point8-rest = ap (λ (z : ℤ). sub_v (point_of (map pos ds)) (scale_v z (nearest_point z (point_of (map pos ds))))) (sym (base-is q b))
