-- One layer taken off a point, and put back: the point is its layer point and q times what it rounds to.
use Rattle.std.specs.Prelude.{◌≡◌, ℕ, ◌<◌, neg_ℤ, ◌+ℤ◌, ◌*ℤ◌, length, ◌<ℤ◌}
use Rattle.std.proofs.Math.Path.{sym, ap, subst}
use Rattle.std.proofs.Common.{◌∙◌, arith}
use mathlib.Core.List.{List, map}
use Rattle.std.proofs.Math.IntN.{ℤ, pos}
use Rattle.std.proofs.lemmas.List.{length-map}
use Rattle.integers.specs.Laws.Difference.{ints, by_d₂, by_d₄}
use Rattle.integers.specs.Laws.Sums.{entries, lengths, ext}
use Rattle.integers.specs.Vectors.{«at», add_v, sub_v, scale_v}
use Rattle.lattice.specs.Basis.{floors}
use Rattle.layers.specs.Digits.{IsLayer}
use Rattle.layers.specs.Laws.Points.{coefficients-add, in-scale, coefficients-scale, in-sub}
use Rattle.layers.proofs.Laws.Remainders.{remainders-layer, remainders-floors, remainders-move, remainders-digits}
use Rattle.layers.specs.Layers.{remainders, layer_digits, digit_point, layer_point}
use Rattle.layers.specs.Rule.{Lattice, Rule}

pub pos-lt : (q : ℕ) → 0 < q → pos 0 <ℤ pos q
pos-lt q h = simp ints (omega arith)

whole-step : (q p r v : ℤ) → p +ℤ q *ℤ v ≡ p +ℤ neg_ℤ (q *ℤ r) +ℤ q *ℤ (r +ℤ v)
whole-step = by_d₄ _ λ _ _ _ _ _ _ _ _. simp ints (omega arith)

part_step : (q p r y : ℤ) → p +ℤ neg_ℤ (q *ℤ r) +ℤ q *ℤ y ≡ p +ℤ q *ℤ (y +ℤ neg_ℤ r)
part_step = by_d₄ _ λ _ _ _ _ _ _ _ _. simp ints (omega arith)

back_step : (r y : ℤ) → r +ℤ (y +ℤ neg_ℤ r) ≡ y
back_step = by_d₂ _ λ _ _ _ _. simp ints (omega arith)

module _ (n : ℕ) (q : ℤ) (p r v : List ℤ) (hp : length p ≡ n) (hr : length r ≡ n) (hv : length v ≡ n) where
  whole-vec : add_v p (scale_v q v) ≡ add_v (sub_v p (scale_v q r)) (scale_v q (add_v r v))
  whole-vec = ext (simp lengths (omega arith)) λ i. simp entries (whole-step q («at» p i) («at» r i) («at» v i))

  part-vec : add_v (sub_v p (scale_v q r)) (scale_v q v) ≡ add_v p (scale_v q (sub_v v r))
  part-vec = ext (simp lengths (omega arith)) λ i. simp entries (part_step q («at» p i) («at» r i) («at» v i))

back-vec : (r v : List ℤ) → length r ≡ length v → add_v r (sub_v v r) ≡ v
back-vec r v h = ext (simp lengths (omega arith)) λ i. simp entries (back_step («at» r i) («at» v i))

module _ (L : Lattice) (R : Rule L) (q : ℕ) (q> : 0 < q) where
  pub round-in : (g : List ℤ) → L.In g → L.In (R.round (pos q) g)
  round-in g h = R.member (pos q) (pos-lt q q>) g (L.long g h)

  -- what q times a point more does to the digits and to the rounding
  module _ (g v : List ℤ) (h : L.In g) (k : L.In v) where
    pub layer_digits-move : layer_digits L q (add_v g (scale_v (pos q) v)) ≡ layer_digits L q g
    unfolding layer_digits
    layer_digits-move =
        ap (remainders q) (coefficients-add L g (scale_v (pos q) v) h (in-scale L (pos q) v k) ∙ ap (add_v (L.coefficients g)) (coefficients-scale L (pos q) v k))
        ∙ remainders-move q q> (L.coefficients g) (L.coefficients v) (L.coefficients-long g h ∙ sym (L.coefficients-long v k))

    pub round-move : R.round (pos q) (add_v g (scale_v (pos q) v)) ≡ add_v (R.round (pos q) g) v
    round-move = R.moves (pos q) (pos-lt q q>) g v (L.long g h) k

  -- the digits' point, whatever the layer
  module _ (ds : List ℕ) (h : IsLayer L.size q ds) where
    long-digits : length (map pos ds) ≡ L.size
    long-digits = length-map ds pos ∙ h.long

    pub digit_point-in : L.In (digit_point L ds)
    unfolding digit_point
    digit_point-in = L.point_of-in (map pos ds) long-digits

    layer_digits-point : layer_digits L q (digit_point L ds) ≡ ds
    unfolding layer_digits digit_point
    layer_digits-point = ap (remainders q) (L.coefficients-point_of (map pos ds) long-digits) ∙ remainders-digits q q> ds h.below

    pub layer_point-in : L.In (layer_point L R q ds)
    unfolding layer_point
    layer_point-in = let p : List ℤ = digit_point L ds in let r : List ℤ = R.round (pos q) p in in-sub L p (scale_v (pos q) r) digit_point-in (in-scale L (pos q) r (round-in p digit_point-in))

  -- a point is its layer point and q times what it rounds to
  module _ (g : List ℤ) (h : L.In g) where
    pub layer_digits-are : IsLayer L.size q (layer_digits L q g)
    unfolding layer_digits
    layer_digits-are = subst (λ (n : ℕ). IsLayer n q (remainders q (L.coefficients g))) (L.coefficients-long g h) (remainders-layer q q> (L.coefficients g))

    ds : List ℕ
    ds = layer_digits L q g

    is : IsLayer L.size q ds
    unfolding ds
    is = layer_digits-are

    rest : List ℤ
    rest = L.point_of (floors q (L.coefficients g))

    floors-long : length (floors q (L.coefficients g)) ≡ L.size
    floors-long = length-map (L.coefficients g) _ ∙ L.coefficients-long g h

    rest_in : L.In rest
    unfolding rest
    rest_in = L.point_of-in (floors q (L.coefficients g)) floors-long

    parts : g ≡ add_v (digit_point L ds) (scale_v (pos q) rest)
    unfolding rest ds digit_point layer_digits
    parts =
        sym (L.point_of-coefficients g h) ∙ ap L.point_of (remainders-floors q q> (L.coefficients g))
        ∙ L.point_of-add (map pos ds) (scale_v (pos q) (floors q (L.coefficients g))) (long-digits ds is) (length-map (floors q (L.coefficients g)) _ ∙ floors-long)
        ∙ ap (add_v (L.point_of (map pos ds))) (L.point_of-scale (pos q) (floors q (L.coefficients g)) floors-long)

    rounds : R.round (pos q) g ≡ add_v (R.round (pos q) (digit_point L ds)) rest
    rounds = ap (R.round (pos q)) parts ∙ round-move (digit_point L ds) rest (digit_point-in ds is) rest_in

    pub split : g ≡ add_v (layer_point L R q (layer_digits L q g)) (scale_v (pos q) (R.round (pos q) g))
    unfolding layer_point ds
    split =
        let p : List ℤ = digit_point L ds in let r : List ℤ = R.round (pos q) p in let p-in : L.In p = digit_point-in ds is in
        parts ∙ whole-vec L.size (pos q) p r rest (L.long p p-in) (L.long r (round-in p p-in)) (L.long rest rest_in)
        ∙ ap (λ (x : List ℤ). add_v (sub_v p (scale_v (pos q) r)) (scale_v (pos q) x)) (sym rounds)

  -- a layer point and q times a point y: its digits are that layer's, and it rounds to y
  module _ (ds : List ℕ) (h : IsLayer L.size q ds) (y : List ℤ) (k : L.In y) where
    r : List ℤ
    r = R.round (pos q) (digit_point L ds)

    r-in : L.In r
    unfolding r
    r-in = round-in (digit_point L ds) (digit_point-in ds h)

    moved : add_v (layer_point L R q ds) (scale_v (pos q) y) ≡ add_v (digit_point L ds) (scale_v (pos q) (sub_v y r))
    unfolding layer_point r
    moved = part-vec L.size (pos q) (digit_point L ds) r y (L.long (digit_point L ds) (digit_point-in ds h)) (L.long r r-in) (L.long y k)

    pub layer_digits-of : layer_digits L q (add_v (layer_point L R q ds) (scale_v (pos q) y)) ≡ ds
    layer_digits-of = ap (layer_digits L q) moved ∙ layer_digits-move (digit_point L ds) (sub_v y r) (digit_point-in ds h) (in-sub L y r k r-in) ∙ layer_digits-point ds h

    pub round-of : R.round (pos q) (add_v (layer_point L R q ds) (scale_v (pos q) y)) ≡ y
    unfolding r
    round-of = ap (R.round (pos q)) moved ∙ round-move (digit_point L ds) (sub_v y r) (digit_point-in ds h) (in-sub L y r k r-in) ∙ back-vec r y (L.long r r-in ∙ sym (L.long y k))
