-- One pass over the roundings of a vector, and the choice between the halves by what it has seen. No promise to a user cites these.
use Rattle.std.specs.Prelude.{Bool, cond, List, map, ℕ, zero, suc, ◌+◌, ◌*◌, ◌-◌, ◌/◌, ◌%◌, ◌^◌, ◌≤◌, min, max, eqb, ltb, ℤ, pos, negsuc, nat_abs, ◌+ℤ◌, ◌-ℤ◌, ◌*ℤ◌}
use Rattle.std.specs.Int.Signed.{lt_z}
use Rattle.integers.specs.Vectors.{square, «at», range}
use Rattle.rounding.specs.declared.half.Mend as mends
use Rattle.rounding.specs.declared.half.Scan as scans
use Rattle.rounding.specs.declared.point.Choice as choices
use Rattle.lattice.specs.Doubled.{par}
use Rattle.rounding.specs.Rounding.{sign, lowered, key, spot}

-- ---- the structures of the pass, over whole numbers

abbrev pub Scan : Type 0
Scan = scans.Scan ℕ ℤ

abbrev pub Mend : Type 0
Mend = mends.Mend ℕ ℤ

abbrev pub Choice : Type 0
Choice = choices.Choice ℕ ℤ

-- what a structure of the code stands for, where a count is «count» and a number is «value»
module _ {K T : Type 0} («count» : K → ℕ) («value» : T → ℤ) where
  abbrev pub scan_of : scans.Scan K T → Scan
  scan_of c = record { most = «count» c.most; least = «count» c.least; keys = «count» c.keys; sum = «value» c.sum; even = «value» c.even; odd = «value» c.odd }

  abbrev pub mend_of : mends.Mend K T → Mend
  mend_of m = record { place = «count» m.place; step = «value» m.step; cost = «value» m.cost }

  abbrev pub choice_of : choices.Choice K T → Choice
  choice_of h = record { parity = «value» h.parity; place = «count» h.place; step = «value» h.step }

-- ---- the pass

-- one entry more: the rounding f, which leaves r, at the place i
abbrev pub seen : ℤ → Scan → ℤ → ℤ → ℕ → Scan
seen s c f r i = record {
  most = max c.most (key i r);
  least = min c.least (key i r);
  keys = c.keys + key i r;
  sum = c.sum +ℤ f;
  even = c.even +ℤ square r;
  odd = c.odd +ℤ square (lowered s r);
}

-- what the first n entries of the roundings f, which leave r, show
unfoldable pub scanned : ℤ → ℕ → List ℤ → List ℤ → Scan
scanned s zero f r = record { most = key 0 («at» r 0); least = key 0 («at» r 0); keys = 0; sum = pos 0; even = pos 0; odd = pos 0 }
scanned s (suc n) f r = seen s (scanned s n f r) («at» f n) («at» r n) n

-- the same from the entry k on
unfoldable pub scanned_from : ℤ → ℕ → ℕ → List ℤ → List ℤ → Scan
scanned_from s k zero f r = record { most = key k («at» r k); least = key k («at» r k); keys = 0; sum = pos 0; even = pos 0; odd = pos 0 }
scanned_from s k (suc n) f r = seen s (scanned_from s k n f r) («at» f (k + n)) («at» r (k + n)) (k + n)

-- small enough for one entry more, where divisors are up to S and roundings up to W
pub record Fair (S W : ℕ) (c : Scan) : Type 0 where
  pub keys : c.keys ≤ 8 * (16 * S + 15)
  pub sum : nat_abs c.sum ≤ 8 * W
  pub even : nat_abs c.even ≤ 8 * (S * S)
  pub odd : nat_abs c.odd ≤ 32 * (S * S)

-- and for the choice
pub record Ready (S W : ℕ) (s : ℤ) (c : Scan) : Type 0 where
  pub most : c.most ≤ 16 * S + 15
  pub least : c.least ≤ 16 * nat_abs s + 15
  pub fair : Fair S W c

-- a mend of a divisor up to S
pub record Mild (S : ℕ) (m : Mend) : Type 0 where
  pub step : nat_abs m.step ≤ 2
  pub cost : nat_abs m.cost ≤ 8 * (S * S)

-- small enough for one entry more
pub record Light (c : Scan) : Type 0 where
  pub keys : c.keys ≤ 2 ^ 32
  pub sum : nat_abs c.sum ≤ 2 ^ 40
  pub even : nat_abs c.even ≤ 2 ^ 40
  pub odd : nat_abs c.odd ≤ 2 ^ 40

-- and for the choice
pub record Ranged (s : ℤ) (c : Scan) : Type 0 where
  pub most : c.most ≤ 2 ^ 20
  pub least : c.least ≤ 16 * nat_abs s + 15
  pub light : Light c

-- how a half is mended whose greatest key is k: where its sum is odd, a step at the key's entry, doubled
unfoldable pub mended : ℤ → ℕ → Bool → Mend
mended s k odd = record { place = spot k; step = cond odd (cond (ltb (k % 16) 8) (pos 2) (negsuc 1)) (pos 0); cost = cond odd (pos 4 *ℤ s *ℤ (s -ℤ pos (k / 16))) (pos 0) }

-- a mend small enough for the code
pub record Small (m : Mend) : Type 0 where
  pub step : nat_abs m.step ≤ 2
  pub cost : nat_abs m.cost ≤ 2 ^ 40

-- the step at the first entry
abbrev pub first : Mend → ℤ
first m = cond (eqb m.place 0) m.step (pos 0)

-- above 0 where the even half, which leaves the squares a and is mended by x, comes before the odd one, by b and y; w is the way of the first entry
unfoldable pub lead : ℤ → ℤ → Mend → Mend → ℤ → ℤ
lead a b x y w = cond (lt_z (first x) (w +ℤ first y)) (pos 1) (pos 0) -ℤ pos 2 *ℤ ((a +ℤ x.cost) -ℤ (b +ℤ y.cost))

-- the mends of the even half and of the odd one: where the even half has the key k, the odd one has 16 s + 15 - k
abbrev pub even_mend : ℤ → Scan → Mend
even_mend s c = mended s c.most (eqb (par c.sum) 1)

abbrev pub odd_mend : ℤ → Scan → Mend
odd_mend s c = mended s (16 * nat_abs s + 15 - c.least) (eqb (par (c.sum +ℤ pos c.keys)) 1)

-- the choice by them
abbrev pub choose : Bool → Mend → Mend → Choice
choose even x y = record { parity = cond even (pos 0) (pos 1); place = cond even x.place y.place; step = cond even x.step y.step }

unfoldable pub chosen : ℤ → Scan → ℤ → Choice
chosen s c w = choose (lt_z (pos 0) (lead c.even c.odd (even_mend s c) (odd_mend s c) w)) (even_mend s c) (odd_mend s c)

-- the half of parity p, doubled and not yet mended: twice f, and p times the step on
abbrev pub spread_by : ℤ → List ℤ → List ℤ → List ℤ
spread_by p f r = map (λ (i : ℕ). pos 2 *ℤ «at» f i +ℤ p *ℤ sign («at» r i)) (range 0 8)
