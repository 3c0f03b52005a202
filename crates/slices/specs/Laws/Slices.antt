-- A slice: the point of an entry is that of its digits, taken apart into low and high ones.
use Rattle.std.specs.Prelude.{◌≡◌, refl, List, [], ◌∷◌, ◌++◌, map, ℕ, zero, suc, ◌+◌, ◌*◌, ◌/◌, ◌%◌, ◌^◌, ◌<◌, ◌≤◌, ℤ, pos, nat_abs, ◌*ℤ◌, get_or, take, drop}
use Rattle.std.proofs.Common.{sym, ◌∙◌, ap, ap₂, subst, pow-suc, mod-lt, mod-eq_of_lt, div-lt_iff_lt-mul, arith, take-append-drop, pow-add}
use Rattle.std.proofs.Math.Nat.{pow-zero, pow-succ', one-le-pow, div-add-mod, div-div-eq-div-mul, add-mul-div_left, add-mul-mod_self_left}
use Rattle.integers.specs.Laws.Sums.{sized-more, bounded-take, bounded-drop}
use Rattle.integers.specs.Vectors.{Sized}
use Rattle.columns.specs.Laws.Columns.{skip, layer_point8-rest}
use Rattle.columns.specs.Laws.Narrow.{rest-code}
use Rattle.columns.specs.Narrow.{left_by}
use Rattle.lattice.specs.Basis.{point_of}
use Rattle.layers.specs.Digits.{IsLayer, digits_of}
use Rattle.layers.specs.E8.{layer_point8}
use Rattle.layers.proofs.Laws.Bases.{base-two, base-divisor}
use Rattle.layers.specs.Laws.Entries.{pow-two, digits_of-layer}
use Rattle.layers.specs.Sizes.{Base}
use Rattle.rounding.proofs.Laws.Reciprocals.{twice-pos}
use Rattle.rounding.specs.Rounding.{left}
use Rattle.slices.specs.Lanes.{low_at, high_at}
use Rattle.slices.specs.Laws.Codes.{coded-below, chosen-coded, choice_by-code}
use Rattle.slices.specs.Laws.Lanes.{rests-sized, low-layer, high-layer}
use Rattle.slices.specs.Slices.{rests_of, choice_of, choice_by, low_digits, high_digits, slice_digits, Slice, Sizes, point_by}

-- ---- the digits of a slice

module _ (q : ℕ) (q> : 0 < q) where
  -- a multiple of q^(k+1) leaves the first digit as it is, and over q it is one of q^k
  first_off : (k n h : ℕ) → ((n + q ^ suc k * h) % q ≡ n % q) × ((n + q ^ suc k * h) / q ≡ n / q + q ^ k * h)
  first_off k n h = let e : n + q ^ suc k * h ≡ n + q * (q ^ k * h) = rw (pow-succ' q k) (omega arith) in
      (ap (λ (i : ℕ). i % q) e ∙ add-mul-mod_self_left n q (q ^ k * h), ap (λ (i : ℕ). i / q) e ∙ add-mul-div_left n (q ^ k * h) q>)

  digits_low : (k n h : ℕ) → digits_of q k (n + q ^ k * h) ≡ digits_of q k n
  digits_low zero n h = refl
  digits_low (suc k) n h = let f = first_off k n h in ap₂ ◌∷◌ f.0 (ap (digits_of q k) f.1 ∙ digits_low k (n / q) h)

  -- the first k digits are those of the remainder
  pub digits_mod : (k n : ℕ) → digits_of q k n ≡ digits_of q k (n % q ^ k)
  digits_mod k n = ap (digits_of q k) (omega (arith, div-add-mod n (q ^ k))) ∙ digits_low k (n % q ^ k) (n / q ^ k)

  -- what is below q^(k+m), over q^k
  pub quotient-less : (k m n : ℕ) → n < q ^ (k + m) → n / q ^ k < q ^ m
  quotient-less k m n h = (div-lt_iff_lt-mul (one-le-pow k q q>)).1 (omega (arith, rw (pow-add q k m) at h))

  -- the digits of n below q^k, and one digit more
  pub digits_last : (k n d : ℕ) → n < q ^ k → d < q → digits_of q (suc k) (n + q ^ k * d) ≡ digits_of q k n ++ (d ∷ [])
  digits_last zero n d h l = let e : n + q ^ 0 * d ≡ d = rw (pow-zero q) (omega (arith, rw (pow-zero q) at h)) in ap (λ (i : ℕ). i ∷ []) (ap (λ (i : ℕ). i % q) e ∙ mod-eq_of_lt l)
  digits_last (suc k) n d h l = let f = first_off k n d in ap₂ ◌∷◌ f.0 (ap (digits_of q (suc k)) f.1 ∙ digits_last k (n / q) d ((div-lt_iff_lt-mul q>).1 (rw (pow-suc q k) at h)) l)

-- ---- a slice's points

-- the first three coordinates go by the first four coefficients and the last, the others by all but the first three
module _ (g : ℤ → ℤ) (a b c d e f h l : ℤ) where
  point-low : take 3 (map g (point_of (a ∷ b ∷ c ∷ d ∷ e ∷ f ∷ h ∷ l ∷ []))) ≡ take 3 (map g (point_of (a ∷ b ∷ c ∷ d ∷ pos 0 ∷ pos 0 ∷ pos 0 ∷ l ∷ [])))
  point-low = simp skip refl

  point-high : drop 3 (map g (point_of (a ∷ b ∷ c ∷ d ∷ e ∷ f ∷ h ∷ l ∷ []))) ≡ drop 3 (map g (point_of (pos 0 ∷ pos 0 ∷ pos 0 ∷ d ∷ e ∷ f ∷ h ∷ l ∷ [])))
  point-high = simp skip refl

module _ (q : ℕ) (q> : 0 < q) (d : ℕ) (d< : d < q) (n : ℕ) (n< : n < q ^ 7) (g : ℤ → ℤ) where
  abbrev made : List ℕ → List ℤ
  made ds = map g (point_of (map pos ds))

  abbrev digit : ℕ → ℤ
  digit i = pos (get_or (digits_of q 7 n) i 0)

  slice_is : slice_digits q d n ≡ digits_of q 7 n ++ (d ∷ [])
  slice_is = digits_last q q> 7 n d n< d<

  thrice : n / q / q / q ≡ n / q ^ 3
  thrice = ap (λ (i : ℕ). i / q) (div-div-eq-div-mul n q q) ∙ div-div-eq-div-mul n (q * q) q ∙ ap (λ (i : ℕ). n / i) (sym (pow-suc q 2 ∙ ap (λ (i : ℕ). i * q) (pow-two q)))

  -- a slice's first three coordinates are those of the low digits
  pub slice-low : take 3 (map g (point_of (map pos (slice_digits q d n)))) ≡ take 3 (map g (point_of (map pos (low_digits (digits_of q 4 (n % q ^ 4)) d))))
  slice-low = ap (λ (ds : List ℕ). take 3 (made ds)) slice_is ∙ point-low g (digit 0) (digit 1) (digit 2) (digit 3) (digit 4) (digit 5) (digit 6) (pos d) ∙ ap (λ (l : List ℕ). take 3 (made (low_digits l d))) (digits_mod q q> 4 n)

  -- the others are those of the high digits
  pub slice-high : drop 3 (map g (point_of (map pos (slice_digits q d n)))) ≡ drop 3 (map g (point_of (map pos (high_digits (digits_of q 4 (n / q ^ 3)) d))))
  slice-high = ap (λ (ds : List ℕ). drop 3 (made ds)) slice_is ∙ point-high g (digit 0) (digit 1) (digit 2) (digit 3) (digit 4) (digit 5) (digit 6) (pos d) ∙ ap (λ (i : ℕ). drop 3 (made (high_digits (digits_of q 4 i) d))) thrice

-- what the choice leaves of the rests is the layer point
pub layer-by-choice : (q : ℤ) → Base q → nat_abs q ≤ 16 → (ds : List ℕ) → IsLayer 8 (nat_abs q) ds → left_by q (choice_of q ds) (rests_of q ds) ≡ layer_point8 (nat_abs q) ds
layer-by-choice q b most ds h = rest-code q (twice-pos q (base-divisor q b).least).1 (point_of (map pos ds)) refl ∙ layer_point8-rest q b most ds h

-- ---- a slice

module _ (q : ℤ) (b : Base q) (most : nat_abs q ≤ 4) (d : ℕ) (d< : d < nat_abs q) (choices : List ℕ) (lows highs : List (List ℤ)) (h : Slice q d choices lows highs) where
  abbrev m : ℕ
  m = nat_abs q

  m> : 0 < m
  m> = omega (arith, base-two q b)

  -- the point of an entry is the layer point of its digits
  pub point_by-is : (n : ℕ) → n < nat_abs q ^ 7 → point_by q choices lows highs n ≡ layer_point8 (nat_abs q) (slice_digits (nat_abs q) d n)
  point_by-is n n< =
      let ds : List ℕ = slice_digits m d n in let g : ℤ → ℤ = left (pos 2 *ℤ q) in
      let low : get_or lows (n % m ^ 4) [] ≡ take 3 (rests_of q ds) = h.low (n % m ^ 4) (mod-lt n (one-le-pow 4 m m>)) ∙ sym (slice-low m m> d d< n n< g) in
      let high : get_or highs (n / m ^ 3) [] ≡ drop 3 (rests_of q ds) = h.high (n / m ^ 3) (quotient-less m m> 3 4 n n<) ∙ sym (slice-high m m> d d< n n< g) in
      ap₂ (left_by q) (ap choice_by (h.chosen n n<) ∙ choice_by-code _ _ _) (ap₂ ◌++◌ low high ∙ take-append-drop 3 (rests_of q ds))
      ∙ layer-by-choice q b (omega arith) ds (digits_of-layer m m> 8 (n + m ^ 7 * d))

  -- the rests of eight digits are at most 4
  parts-sized : (ds : List ℕ) → IsLayer 8 m ds → Sized 3 4 (take 3 (rests_of q ds)) × Sized 5 4 (drop 3 (rests_of q ds))
  parts-sized ds k = let r : List ℤ = rests_of q ds in let small = (sized-more 8 m r (rests-sized q b (omega arith) ds k) 4 most).small in
      (record { long = refl; small = bounded-take 4 3 r small }, record { long = refl; small = bounded-drop 4 3 r small })

  -- its arrays have the sizes
  pub slice-sizes : Sizes q choices lows highs
  slice-sizes = record {
    base = b;
    most = most;
    choices-long = h.choices-long;
    lows-long = h.lows-long;
    highs-long = h.highs-long;
    below = λ n n<. subst (λ (k : ℕ). k < 48) (sym (h.chosen n n<)) (coded-below (chosen-coded _ _ _));
    low = λ j j<. subst (Sized 3 4) (sym (h.low j j<)) (parts-sized (low_at q d j) (low-layer q b (omega arith) d d< j)).0;
    high = λ j j<. subst (Sized 5 4) (sym (h.high j j<)) (parts-sized (high_at q d j) (high-layer q b (omega arith) d d< j)).1;
  }
