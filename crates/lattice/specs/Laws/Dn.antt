-- The nearest whole vector to v / S whose sum has a given parity, for any length: D_n.
use Rattle.std.specs.Prelude.{◌≡◌, refl, ◌⊎◌, ℕ, suc, ◌+◌, ◌%◌, ◌<◌, pos, ◌-ℤ◌, ◌*ℤ◌, length, ◌<ℤ◌}
use Rattle.std.proofs.Common.{◌∙◌, ap, inl, inr, arith}
use mathlib.Core.List.{List, [], ◌∷◌}
use Rattle.std.proofs.Math.Nat.{suc_inj}
use Rattle.std.proofs.Math.Decide.{ℕ_discrete}
use Rattle.std.proofs.Math.IntN.{ℤ}
use Rattle.integers.specs.Vectors.{square, sum_v, ◌≤V◌}
use Rattle.lattice.specs.Computed.{grow, both, nearest_d}
use Rattle.lattice.specs.Doubled.{par}
use Rattle.lattice.specs.Laws.Least.{Least, least-of-two, cons-≤V, least-same}
use Rattle.lattice.specs.Laws.Parity.{par-add, Mid, pick-mid, mid-≤, mid-low}
use Rattle.lattice.specs.Nearest.{cost}

-- as long as v, with a sum of parity p
pub record Summed (p : ℕ) (v f : List ℤ) : Type 0 where
  pub long : length f ≡ length v
  pub parity : par (sum_v f) ≡ p

-- a head of parity a before a tail of parity b
abbrev pub Split : ℕ → ℕ → List ℤ → List ℤ → Type 0
Split a b v [] = ⊥
Split a b v (y ∷ f) = (par y ≡ a) × Summed b v f

-- a sum of parity p has one of two kinds of head
module _ (x : ℤ) (v : List ℤ) where
  pub join : (a b p : ℕ) → (a + b) % 2 ≡ p → (h : List ℤ) → Split a b v h → Summed p (x ∷ v) h
  join a b p e [] s = absurd s
  join a b p e (y ∷ f) s = record { long = ap suc s.1.long; parity = par-add y (sum_v f) ∙ omega (arith, s.0, s.1.parity) }

  pub part : (a b p : ℕ) → a < 2 → b < 2 → (1 + a + b) % 2 ≡ p → (h : List ℤ) → Summed p (x ∷ v) h → Split ((1 + a) % 2) b v h ⊎ Split a ((1 + b) % 2) v h
  part a b p a< b< e [] s = absurd (omega (arith, s.long))
  part a b p a< b< e (y ∷ f) s = elim (ℕ_discrete (par y) a) [
    | yes k ↦ inr (k, record { long = suc_inj s.long; parity = omega (arith, par-add y (sum_v f), s.parity) })
    | no k ↦ inl (omega arith, record { long = suc_inj s.long; parity = omega (arith, par-add y (sum_v f), s.parity) })
  ]

module _ (S : ℤ) (S> : pos 0 <ℤ S) where
  module _ (x : ℤ) (v f : List ℤ) (a b : ℕ) (c : ℤ) (m : Mid S x a c) where
    pub cons-least : Least (Summed b v) (cost S v) f → Least (Split a b v) (cost S (x ∷ v)) (c ∷ f)
    cons-least p = record { member = (m.parity, p.member); least = go }
      where
        go : (g : List ℤ) → Split a b v g → (cost S (x ∷ v) (c ∷ f) ∷ c ∷ f) ≤V (cost S (x ∷ v) g ∷ g)
        go [] s = absurd s
        go (y ∷ g) s = cons-≤V (square (x -ℤ S *ℤ c)) (square (x -ℤ S *ℤ y)) (cost S v f) (cost S v g) c y f g
            (mid-≤ S x a S> c m y s.0) (mid-low S x a S> c m y s.0) (p.least g s.1)

  nil-least : Least (Summed 0 []) (cost S []) []
  nil-least = record { member = record { long = refl; parity = refl }; least = λ g s. inr (refl, tt) }

  only : (x : ℤ) (p : ℕ) → p < 2 → (h : List ℤ) → Summed p (x ∷ []) h → Split p 0 [] h
  only x p p< [] s = absurd (omega (arith, s.long))
  only x p p< (y ∷ []) s = (omega (arith, par-add y (pos 0), s.parity), record { long = refl; parity = refl })
  only x p p< (y ∷ z ∷ f) s = absurd (omega (arith, s.long))

  pub one-least : (x : ℤ) (p : ℕ) → p < 2 → (c : ℤ) → Mid S x p c → Least (Summed p (x ∷ [])) (cost S (x ∷ [])) (c ∷ [])
  one-least x p p< c m = least-same (join x [] p 0 p (omega arith)) (only x p p<) (cons-least x [] [] p 0 c m nil-least)

  pub both-least : (x : ℤ) (v : List ℤ) → Least (Summed 0 (x ∷ v)) (cost S (x ∷ v)) (both S x v).even × Least (Summed 1 (x ∷ v)) (cost S (x ∷ v)) (both S x v).odd
  unfolding both grow
  both-least x [] = let a = pick-mid S x 0 S> (omega arith) in let b = pick-mid S x 1 S> (omega arith) in
      (one-least x 0 (omega arith) _ a, one-least x 1 (omega arith) _ b)
  both-least x (y ∷ v) = let t = both-least y v in let w : List ℤ = y ∷ v in
      let a = pick-mid S x 0 S> (omega arith) in let b = pick-mid S x 1 S> (omega arith) in (
        least-of-two (join x w 0 0 0 refl) (join x w 1 1 0 refl) (part x w 1 0 0 (omega arith) (omega arith) refl)
            (cons-least x w _ 0 0 _ a t.0) (cons-least x w _ 1 1 _ b t.1),
        least-of-two (join x w 0 1 1 refl) (join x w 1 0 1 refl) (part x w 1 1 1 (omega arith) (omega arith) refl)
            (cons-least x w _ 0 1 _ a t.1) (cons-least x w _ 1 0 _ b t.0),
      )

  pub nearest_d-least : (v : List ℤ) → Least (Summed 0 v) (cost S v) (nearest_d S v)
  unfolding nearest_d
  nearest_d-least [] = nil-least
  nearest_d-least (x ∷ v) = (both-least x v).0
