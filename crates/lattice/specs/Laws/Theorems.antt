-- What is proved of the nearest points of E8 and D4.
use Rattle.std.specs.Prelude.{◌≡◌, refl, List, ℕ, ◌*◌, ◌<◌, ◌≤◌, ℤ, pos, nat_abs, ◌-ℤ◌, ◌*ℤ◌, length, ◌<ℤ◌}
use Rattle.std.proofs.Common.{sym, inl, inr, ⊎_elim, arith}
use Rattle.std.specs.Int.Signed.{clash_ℤ, <ℤ_irrefl}
use Rattle.integers.specs.Laws.Signed.{trichotomy}
use Rattle.integers.specs.Vectors.{«at», add_v, scale_v}
use Rattle.lattice.specs.Computed.{nearest_half, nearest_point}
use Rattle.lattice.specs.Doubled.{E8, D4}
use Rattle.lattice.specs.Laws.Close.{doubled-close, half-close}
use Rattle.lattice.specs.Laws.Halves.{nearest_half-least, nearest_point-least}
use Rattle.lattice.specs.Laws.Least.{Least, least-unique, heads}
use Rattle.lattice.specs.Laws.Moves.{doubled-move, half-move}
use Rattle.lattice.specs.Nearest.{cost, Nearest}

-- the least by cost and then by order is the nearest, and back
pub least-nearest : {In : List ℤ → Type 0} {s : ℤ} {d e : List ℤ} → Least In (cost s d) e → Nearest In s d e
least-nearest {s} {d} {e} p = record {
  member = p.member;
  closest = λ f h. heads (cost s d e) (cost s d f) e f (p.least f h);
  first = λ f h q. ⊎_elim (λ l. absurd (<ℤ_irrefl (rw q at l))) (λ r. r.1) (p.least f h);
}

pub nearest-least : {In : List ℤ → Type 0} {s : ℤ} {d e : List ℤ} → Nearest In s d e → Least In (cost s d) e
nearest-least {s} {d} {e} p = record {
  member = p.member;
  least = λ f h. trichotomy (cost s d e) (cost s d f) inl (λ q. inr (q, p.first f h (sym q))) (λ l. clash_ℤ l (p.closest f h));
}

-- exactly one vector is the nearest
pub nearest-unique : {In : List ℤ → Type 0} {s : ℤ} {d e f : List ℤ} → Nearest In s d e → Nearest In s d f → e ≡ f
nearest-unique p q = least-unique (nearest-least p) (nearest-least q)

module _ (s : ℤ) (s> : pos 0 <ℤ s) (d : List ℤ) where
  -- the computed point of E8 is the nearest
  pub nearest8 : length d ≡ 8 → Nearest E8 s d (nearest_point s d)
  nearest8 h = least-nearest (nearest_point-least s s> 8 d h refl)

  -- it moves with its input: s times a point, added to the input, is added to the answer, ties included
  pub nearest8-moves : (v : List ℤ) → length d ≡ 8 → E8 v → nearest_point s (add_v d (scale_v s v)) ≡ add_v (nearest_point s d) v
  nearest8-moves v h k = doubled-move 8 s s> d h v refl k

  -- what is left is at most 2 s in every coordinate
  pub nearest8-close : length d ≡ 8 → (i : ℕ) → i < 8 → nat_abs («at» d i -ℤ s *ℤ «at» (nearest_point s d) i) ≤ 2 * nat_abs s
  nearest8-close h = doubled-close 8 s s> d h refl

  -- the same of D4, whose nearest point is that of the even half
  pub nearest4 : length d ≡ 4 → Nearest D4 s d (nearest_half 0 s d)
  nearest4 h = least-nearest (nearest_half-least s s> 4 d h 0 (omega arith) refl)

  pub nearest4-moves : (v : List ℤ) → length d ≡ 4 → D4 v → nearest_half 0 s (add_v d (scale_v s v)) ≡ add_v (nearest_half 0 s d) v
  nearest4-moves v h k = half-move 4 s s> d h v k

  pub nearest4-close : length d ≡ 4 → (i : ℕ) → i < 4 → nat_abs («at» d i -ℤ s *ℤ «at» (nearest_half 0 s d) i) ≤ 2 * nat_abs s
  nearest4-close h = half-close 4 s s> d h
