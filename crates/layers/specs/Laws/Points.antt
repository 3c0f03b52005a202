-- What follows for every lattice: its points may be added and scaled, and so may their coefficients.
use Rattle.std.specs.Prelude.{◌≡◌, List, ℕ, ℤ, pos, negsuc, neg_ℤ, ◌*ℤ◌, length}
use Rattle.std.proofs.Common.{sym, ◌∙◌, ap, ap₂, arith}
use Rattle.integers.specs.Laws.Difference.{by_d, ints}
use Rattle.integers.specs.Laws.Sums.{entries, length-scale_v, length-zeros, lengths, ext}
use Rattle.integers.specs.Vectors.{«at», zeros, add_v, neg_v, sub_v, scale_v}
use Rattle.layers.specs.Rule.{Lattice}

minus_one : (x : ℤ) → neg_ℤ x ≡ negsuc 0 *ℤ x
minus_one = by_d _ λ _ _. simp ints (omega arith)

neg-scale : (a : List ℤ) → neg_v a ≡ scale_v (negsuc 0) a
neg-scale a = ext (simp lengths) λ i. simp entries (minus_one («at» a i))

none : (x : ℤ) → pos 0 ≡ pos 0 *ℤ x
none = by_d _ λ _ _. simp ints (omega arith)

zeros-scale : (n : ℕ) (a : List ℤ) → length a ≡ n → zeros n ≡ scale_v (pos 0) a
zeros-scale n a h = ext (simp lengths (sym h)) λ i. simp entries (none («at» a i))

module _ (L : Lattice) where
  module _ (a b : List ℤ) (p : L.In a) (q : L.In b) where
    sum-point : add_v a b ≡ L.point_of (add_v (L.coefficients a) (L.coefficients b))
    sum-point = ap₂ add_v (sym (L.point_of-coefficients a p)) (sym (L.point_of-coefficients b q)) ∙ sym (L.point_of-add (L.coefficients a) (L.coefficients b) (L.coefficients-long a p) (L.coefficients-long b q))

    sum-long : length (add_v (L.coefficients a) (L.coefficients b)) ≡ L.size
    sum-long = simp lengths (omega (arith, L.coefficients-long a p, L.coefficients-long b q))

    pub in-add : L.In (add_v a b)
    in-add = rw sum-point (L.point_of-in (add_v (L.coefficients a) (L.coefficients b)) sum-long)

    pub coefficients-add : L.coefficients (add_v a b) ≡ add_v (L.coefficients a) (L.coefficients b)
    coefficients-add = ap L.coefficients sum-point ∙ L.coefficients-point_of (add_v (L.coefficients a) (L.coefficients b)) sum-long

  module _ (k : ℤ) (a : List ℤ) (p : L.In a) where
    scale-point : scale_v k a ≡ L.point_of (scale_v k (L.coefficients a))
    scale-point = ap (scale_v k) (sym (L.point_of-coefficients a p)) ∙ sym (L.point_of-scale k (L.coefficients a) (L.coefficients-long a p))

    scale-long : length (scale_v k (L.coefficients a)) ≡ L.size
    scale-long = length-scale_v k (L.coefficients a) ∙ L.coefficients-long a p

    pub in-scale : L.In (scale_v k a)
    in-scale = rw scale-point (L.point_of-in (scale_v k (L.coefficients a)) scale-long)

    pub coefficients-scale : L.coefficients (scale_v k a) ≡ scale_v k (L.coefficients a)
    coefficients-scale = ap L.coefficients scale-point ∙ L.coefficients-point_of (scale_v k (L.coefficients a)) scale-long

  pub in-sub : (a b : List ℤ) → L.In a → L.In b → L.In (sub_v a b)
  in-sub a b p q = in-add a (neg_v b) p (rw (neg-scale b) (in-scale (negsuc 0) b q))

  pub in-zeros : L.In (zeros L.size)
  in-zeros =
      let z : List ℤ = L.point_of (zeros L.size) in let h : L.In z = L.point_of-in (zeros L.size) (length-zeros L.size) in
      rw (zeros-scale L.size z (L.long z h)) (in-scale (pos 0) z h)
