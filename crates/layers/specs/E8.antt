-- E8 with the nearest point as its rule: what this library codes by. A point is eight doubled numbers.
use Rattle.std.specs.Prelude.{refl, List, ℕ, ℤ}
use Rattle.lattice.specs.Basis.{basis, point_of, coefficients}
use Rattle.lattice.specs.Computed.{nearest_point}
use Rattle.lattice.specs.Doubled.{E8}
use Rattle.lattice.specs.Laws.Basis.{point_of-in, point_of-coefficients, coefficients-point_of}
use Rattle.lattice.specs.Laws.Tables.{apply-add, apply-scale}
use Rattle.lattice.specs.Laws.Theorems.{nearest8, nearest8-moves, nearest8-close}
use Rattle.layers.specs.Digits.{joined, cut}
use Rattle.layers.specs.Layers.{digits, leftover, layer_point, decode}
use Rattle.layers.specs.Rule.{Lattice, Rule}

abbrev pub e8 : Lattice
e8 = record {
  size = 8;
  In = E8;
  point_of = point_of;
  coefficients = coefficients;
  long = λ e h. h.long;
  coefficients-long = λ e h. refl;
  point_of-in = point_of-in;
  point_of-coefficients = point_of-coefficients;
  coefficients-point_of = coefficients-point_of;
  point_of-add = λ a b h k. apply-add basis a b;
  point_of-scale = λ k a h. apply-scale basis k a;
}

abbrev pub nearest : Rule e8
nearest = record {
  round = nearest_point;
  member = λ s s> d h. (nearest8 s s> d h).member;
  moves = λ s s> d v h k. nearest8-moves s s> d v h k;
  close = λ s s> d h. nearest8-close s s> d h;
}

-- the 8 m digits of a point, layer 0 first
abbrev pub digits8 : ℕ → ℕ → List ℤ → List ℕ
digits8 q m e = joined (digits e8 nearest q m e)

-- what m layers leave over of a point
abbrev pub leftover8 : ℕ → ℕ → List ℤ → List ℤ
leftover8 q m e = leftover e8 nearest q m e

-- the point of one layer of eight digits
abbrev pub layer_point8 : ℕ → List ℕ → List ℤ
layer_point8 q ds = layer_point e8 nearest q ds

-- the point of m layers, from their 8 m digits
abbrev pub decode8 : ℕ → ℕ → List ℕ → List ℤ
decode8 q m f = decode e8 nearest q (cut 8 m f)
