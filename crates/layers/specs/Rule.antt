-- What coding in layers needs of a lattice, and of a rule that rounds to it. Nothing else is used of either.
use Rattle.std.specs.Prelude.{◌≡◌, List, ℕ, ◌*◌, ◌<◌, ◌≤◌, ℤ, pos, nat_abs, ◌-ℤ◌, ◌*ℤ◌, length, ◌<ℤ◌}
use Rattle.integers.specs.Vectors.{«at», add_v, scale_v}

-- points of `size` coordinates; each has `size` coefficients, and points and coefficients are inverse linear maps
pub record Lattice : Type 1 where
  pub size : ℕ
  pub In : List ℤ → Type 0
  pub point_of : List ℤ → List ℤ
  pub coefficients : List ℤ → List ℤ
  pub long : (e : List ℤ) → In e → length e ≡ size
  pub coefficients-long : (e : List ℤ) → In e → length (coefficients e) ≡ size
  pub point_of-in : (c : List ℤ) → length c ≡ size → In (point_of c)
  pub point_of-coefficients : (e : List ℤ) → In e → point_of (coefficients e) ≡ e
  pub coefficients-point_of : (c : List ℤ) → length c ≡ size → coefficients (point_of c) ≡ c
  pub point_of-add : (a b : List ℤ) → length a ≡ size → length b ≡ size → point_of (add_v a b) ≡ add_v (point_of a) (point_of b)
  pub point_of-scale : (k : ℤ) (a : List ℤ) → length a ≡ size → point_of (scale_v k a) ≡ scale_v k (point_of a)

-- round s d: a point of the lattice for d / s, which moves with d and leaves at most 2 s of each coordinate
pub record Rule (L : Lattice) : Type 0 where
  pub round : ℤ → List ℤ → List ℤ
  pub member : (s : ℤ) → pos 0 <ℤ s → (d : List ℤ) → length d ≡ L.size → L.In (round s d)
  pub moves : (s : ℤ) → pos 0 <ℤ s → (d v : List ℤ) → length d ≡ L.size → L.In v → round s (add_v d (scale_v s v)) ≡ add_v (round s d) v
  pub close : (s : ℤ) → pos 0 <ℤ s → (d : List ℤ) → length d ≡ L.size → (i : ℕ) → i < L.size → nat_abs («at» d i -ℤ s *ℤ «at» (round s d) i) ≤ 2 * nat_abs s
