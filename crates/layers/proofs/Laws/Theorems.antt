-- Coding in layers, for any lattice, rule, q and number of layers m.
use Rattle.std.specs.Prelude.{◌≡◌, refl, ◌↔◌, List, [], ◌∷◌, ℕ, zero, suc, ◌*◌, ◌^◌, ◌<◌, ℤ, pos, neg_ℤ, ◌+ℤ◌, ◌*ℤ◌, length}
use Rattle.std.proofs.Common.{sym, ◌∙◌, ap, ap₂, subst, arith}
use Rattle.std.proofs.Math.Nat.{pow-zero, pow-succ'}
use Rattle.integers.specs.Laws.Difference.{by_d, ints, by_d₂, by_d₃, by_d₄}
use Rattle.integers.specs.Laws.Sums.{entries, lengths, ext}
use Rattle.integers.specs.Vectors.{«at», zeros, add_v, sub_v, scale_v}
use Rattle.layers.specs.Digits.{IsLayers}
use Rattle.layers.specs.Laws.Points.{in-add, in-scale, in-sub, in-zeros}
use Rattle.layers.proofs.Laws.Splitting.{round-in, layer_digits-move, round-move, layer_point-in, layer_digits-are, split, layer_digits-of, round-of}
use Rattle.layers.specs.Laws.Weights.{times-step, decode-next}
use Rattle.layers.specs.Layers.{layer_digits, digits, leftover, layer_point, decode, Apart}
use Rattle.layers.specs.Rule.{Lattice, Rule}

all-step : (g : ℤ) → g ≡ pos 0 +ℤ pos 1 *ℤ g
all-step = by_d _ λ _ _. simp ints (omega arith)

next-step : (q w : ℕ) (l d x : ℤ) → l +ℤ pos q *ℤ (d +ℤ pos w *ℤ x) ≡ l +ℤ pos q *ℤ d +ℤ pos (q * w) *ℤ x
next-step q w = by_d₃ _ λ _ _ _ _ _ _. simp ints (omega arith)

apart-step : (w d x y : ℤ) → d +ℤ w *ℤ x ≡ d +ℤ w *ℤ y +ℤ w *ℤ (x +ℤ neg_ℤ y)
apart-step = by_d₄ _ λ _ _ _ _ _ _ _ _. simp ints (omega arith)

nothing-step : (w d : ℤ) → d +ℤ w *ℤ pos 0 ≡ d
nothing-step = by_d₂ _ λ _ _ _ _. simp ints (omega arith)

all-vec : (n : ℕ) (g : List ℤ) → length g ≡ n → g ≡ add_v (zeros n) (scale_v (pos 1) g)
all-vec n g h = ext (simp lengths (omega arith)) λ i. simp entries (all-step («at» g i))

next-vec : (q w : ℕ) (l d x : List ℤ) → add_v l (scale_v (pos q) (add_v d (scale_v (pos w) x))) ≡ add_v (add_v l (scale_v (pos q) d)) (scale_v (pos (q * w)) x)
next-vec q w l d x = ext (simp lengths (omega arith)) λ i. simp entries (next-step q w («at» l i) («at» d i) («at» x i))

apart-vec : (n : ℕ) (w : ℤ) (d x y : List ℤ) → length d ≡ n → length x ≡ n → length y ≡ n → add_v d (scale_v w x) ≡ add_v (add_v d (scale_v w y)) (scale_v w (sub_v x y))
apart-vec n w d x y hd hx hy = ext (simp lengths (omega arith)) λ i. simp entries (apart-step w («at» d i) («at» x i) («at» y i))

times-vec : (q w : ℕ) (v : List ℤ) → scale_v (pos (q * w)) v ≡ scale_v (pos q) (scale_v (pos w) v)
times-vec q w v = ext (simp lengths) λ i. simp entries (times-step q w («at» v i))

nothing-vec : (n : ℕ) (w : ℤ) (d : List ℤ) → length d ≡ n → add_v d (scale_v w (zeros n)) ≡ d
nothing-vec n w d h = ext (simp lengths (omega arith)) λ i. simp entries (nothing-step w («at» d i))

module _ (L : Lattice) (R : Rule L) (q : ℕ) (q> : 0 < q) where
  -- 1. a point is what its digits decode to, and q^m times what is left over
  pub decode-digits : (m : ℕ) (g : List ℤ) → L.In g → g ≡ add_v (decode L R q (digits L R q m g)) (scale_v (pos (q ^ m)) (leftover L R q m g))
  decode-digits zero g h = rw (pow-zero q) (all-vec L.size g (L.long g h))
  decode-digits (suc m) g h =
      let g' : List ℤ = R.round (pos q) g in let l : List ℤ = layer_point L R q (layer_digits L q g) in
      let d : List ℤ = decode L R q (digits L R q m g') in let x : List ℤ = leftover L R q m g' in
      split L R q q> g h
      ∙ ap (λ (y : List ℤ). add_v l (scale_v (pos q) y)) (decode-digits m g' (round-in L R q q> g h))
      ∙ next-vec q (q ^ m) l d x
      ∙ ap₂ (λ (y : List ℤ) (w : ℕ). add_v y (scale_v (pos w) x)) (sym (decode-next L R q (layer_digits L q g) (digits L R q m g'))) (sym (pow-succ' q m))

  pub leftover-in : (m : ℕ) (g : List ℤ) → L.In g → L.In (leftover L R q m g)
  leftover-in zero g h = h
  leftover-in (suc m) g h = leftover-in m (R.round (pos q) g) (round-in L R q q> g h)

  pub digits_are : (m : ℕ) (g : List ℤ) → L.In g → IsLayers L.size q m (digits L R q m g)
  digits_are zero g h = tt
  digits_are (suc m) g h = (layer_digits-are L R q q> g h, digits_are m (R.round (pos q) g) (round-in L R q q> g h))

  -- 3. every list of layers decodes to a point
  pub decode-in : (m : ℕ) (l : List (List ℕ)) → IsLayers L.size q m l → L.In (decode L R q l)
  decode-in zero [] h = in-zeros L
  decode-in zero (ds ∷ l) h = absurd h
  decode-in (suc m) [] h = absurd h
  decode-in (suc m) (ds ∷ l) h = let y : List ℤ = decode L R q l in
      subst L.In (sym (decode-next L R q ds l)) (in-add L (layer_point L R q ds) (scale_v (pos q) y) (layer_point-in L R q q> ds h.0) (in-scale L (pos q) y (decode-in m l h.1)))

  -- whose digits are that list
  pub digits-decode : (m : ℕ) (l : List (List ℕ)) → IsLayers L.size q m l → digits L R q m (decode L R q l) ≡ l
  digits-decode zero [] h = refl
  digits-decode zero (ds ∷ l) h = absurd h
  digits-decode (suc m) [] h = absurd h
  digits-decode (suc m) (ds ∷ l) h = let y : List ℤ = decode L R q l in let k : L.In y = decode-in m l h.1 in
      ap (digits L R q (suc m)) (decode-next L R q ds l)
      ∙ ap₂ ◌∷◌ (layer_digits-of L R q q> ds h.0 y k) (ap (digits L R q m) (round-of L R q q> ds h.0 y k) ∙ digits-decode m l h.1)

  -- with nothing left over
  pub leftover-decode : (m : ℕ) (l : List (List ℕ)) → IsLayers L.size q m l → leftover L R q m (decode L R q l) ≡ zeros L.size
  leftover-decode zero [] h = refl
  leftover-decode zero (ds ∷ l) h = absurd h
  leftover-decode (suc m) [] h = absurd h
  leftover-decode (suc m) (ds ∷ l) h = let y : List ℤ = decode L R q l in
      ap (leftover L R q (suc m)) (decode-next L R q ds l) ∙ ap (leftover L R q m) (round-of L R q q> ds h.0 y (decode-in m l h.1)) ∙ leftover-decode m l h.1

  -- so a point has nothing left over exactly when its digits decode to it
  pub fits_iff : (m : ℕ) (g : List ℤ) → L.In g → (leftover L R q m g ≡ zeros L.size) ↔ (decode L R q (digits L R q m g) ≡ g)
  fits_iff m g h =
      let d : List ℤ = decode L R q (digits L R q m g) in let k = digits_are m g h in (
        λ e. sym (decode-digits m g h ∙ ap (λ (x : List ℤ). add_v d (scale_v (pos (q ^ m)) x)) e ∙ nothing-vec L.size (pos (q ^ m)) d (L.long d (decode-in m (digits L R q m g) k))),
        λ e. subst (λ (x : List ℤ). leftover L R q m x ≡ zeros L.size) e (leftover-decode m (digits L R q m g) k),
      )

  -- q^m times a point more changes no digit
  digits-move : (m : ℕ) (g v : List ℤ) → L.In g → L.In v → digits L R q m (add_v g (scale_v (pos (q ^ m)) v)) ≡ digits L R q m g
  digits-move zero g v h k = refl
  digits-move (suc m) g v h k = let u : List ℤ = scale_v (pos (q ^ m)) v in let l : L.In u = in-scale L (pos (q ^ m)) v k in
      ap (λ (x : List ℤ). digits L R q (suc m) (add_v g x)) (ap (λ (w : ℕ). scale_v (pos w) v) (pow-succ' q m) ∙ times-vec q (q ^ m) v)
      ∙ ap₂ ◌∷◌ (layer_digits-move L R q q> g u h l)
      (ap (digits L R q m) (round-move L R q q> g u h l) ∙ digits-move m (R.round (pos q) g) v (round-in L R q q> g h) k)

  -- 2. two points have equal digits exactly when they differ by q^m times a point
  pub digits-equal-iff : (m : ℕ) (g g' : List ℤ) → L.In g → L.In g' → (digits L R q m g ≡ digits L R q m g') ↔ Apart L.In (q ^ m) g g'
  digits-equal-iff m g g' h h' =
      let x : List ℤ = leftover L R q m g in let y : List ℤ = leftover L R q m g' in let d : List ℤ = decode L R q (digits L R q m g') in
      let hx : L.In x = leftover-in m g h in let hy : L.In y = leftover-in m g' h' in
      let hd : L.In d = decode-in m (digits L R q m g') (digits_are m g' h') in (
        λ e. record {
          by = sub_v x y;
          «in» = in-sub L x y hx hy;
          is = decode-digits m g h ∙ ap (λ (l : List (List ℕ)). add_v (decode L R q l) (scale_v (pos (q ^ m)) x)) e
              ∙ apart-vec L.size (pos (q ^ m)) d x y (L.long d hd) (L.long x hx) (L.long y hy)
              ∙ ap (λ (t : List ℤ). add_v t (scale_v (pos (q ^ m)) (sub_v x y))) (sym (decode-digits m g' h'));
        },
        λ a. ap (digits L R q m) a.is ∙ digits-move m g' a.by h' a.«in»,
      )
