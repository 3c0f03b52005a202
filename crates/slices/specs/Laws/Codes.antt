-- A choice as one number: each of its fields is small, so that the number is below 48, and the choice comes back from it.
use Rattle.std.specs.Prelude.{◌≡◌, refl, Bool, true, false, cond, ℕ, ◌+◌, ◌*◌, ◌-◌, ◌/◌, ◌%◌, ◌<◌, ◌≤◌, ltb, eqb, ℤ, pos, negsuc, nat_abs, ◌+ℤ◌, ◌-ℤ◌, ◌≤ℤ◌}
use Rattle.std.proofs.Common.{◌∙◌, ap, mod-eq_of_lt, arith, ltb-true, ltb-false}
use Rattle.std.proofs.Math.Nat.{add-mul-mod_self_left}
use Rattle.std.specs.Int.Signed.{lt_z}
use Rattle.integers.specs.Laws.Difference.{ints}
use Rattle.lattice.specs.Doubled.{par}
use Rattle.rounding.specs.Pass as choices
use Rattle.columns.specs.Narrow.{brief}
use Rattle.rounding.specs.Pass.{Scan}
use Rattle.rounding.specs.Pass.{mended, lead, even_mend, odd_mend, choose, chosen}
use Rattle.rounding.specs.Rounding.{spot}
use Rattle.slices.specs.Slices.{code_of, choice_by}

-- a place among eight, a step of two or none, and back from the number
pub record Coded (h : choices.Choice) : Type 0 where
  pub parity : (pos 0 ≤ℤ h.parity) × (nat_abs h.parity ≤ 1)
  pub place : h.place < 8
  pub step : (nat_abs h.step ≤ 2) × (pos 0 ≤ℤ (h.step +ℤ pos 2)) × (nat_abs (h.step +ℤ pos 2) ≤ 4)
  pub back : choice_by (code_of h) ≡ h

-- its number
pub coded-below : {h : choices.Choice} → Coded h → code_of h < 48
coded-below k = omega (arith, k.parity.1, k.place, k.step.2)

spot-below : (k : ℕ) → spot k < 8
spot-below k = go (ltb (k % 16) 8) (ltb-true (k % 16) 8) (ltb-false (k % 16) 8)
  where
    go : (t : Bool) → (t ≡ true → k % 16 < 8) → (t ≡ false → 8 ≤ k % 16) → cond t (k % 16) (15 - k % 16) < 8
    go true f g = f refl
    go false f g = omega (arith, g refl)

-- a parity p, a place k and a step
module _ (p k : ℕ) (p< : p < 2) (k< : k < 8) where
  -- the step 2 t - 2, back from their number
  code-back : (t : ℕ) → t < 3 → choice_by (p + 2 * k + 8 * (2 * t)) ≡ record { parity = pos p; place = k; step = pos (2 * t) -ℤ pos 2 }
  code-back t t< =
      let at_p : (p + 2 * k + 8 * (2 * t)) % 2 ≡ p = omega arith in
      let half : (p + 2 * k + 8 * (2 * t)) / 2 ≡ k + 8 * t = omega arith in
      let at-k : (p + 2 * k + 8 * (2 * t)) / 2 % 8 ≡ k = ap (λ (i : ℕ). i % 8) half ∙ add-mul-mod_self_left k 8 t ∙ mod-eq_of_lt k< in
      let at-t : (p + 2 * k + 8 * (2 * t)) / 16 ≡ t = omega arith in
      rw (at_p, at-k, at-t) refl

  parity-small : (pos 0 ≤ℤ pos p) × (nat_abs (pos p) ≤ 1)
  parity-small = (simp ints (omega arith), omega arith)

  step-coded : (odd up : Bool) → Coded (record { parity = pos p; place = k; step = cond odd (cond up (pos 2) (negsuc 1)) (pos 0) })
  step-coded true true = record { parity = parity-small; place = k<; step = (omega arith, record { le = tt }, omega arith); back = code-back 2 (omega arith) }
  step-coded true false = record { parity = parity-small; place = k<; step = (omega arith, record { le = tt }, omega arith); back = code-back 0 (omega arith) }
  step-coded false up = record { parity = parity-small; place = k<; step = (omega arith, record { le = tt }, omega arith); back = code-back 1 (omega arith) }

mended-coded : (s : ℤ) (p k : ℕ) (odd : Bool) → p < 2 → Coded (record { parity = pos p; place = (mended s k odd).place; step = (mended s k odd).step })
unfolding mended
mended-coded s p k odd p< = step-coded p (spot k) p< (spot-below k) odd (ltb (k % 16) 8)

module _ (s : ℤ) (c : Scan) (w : ℤ) where
  half-coded : (b : Bool) → Coded (brief (choose b (even_mend s c) (odd_mend s c)))
  half-coded true = mended-coded s 0 c.most (eqb (par c.sum) 1) (omega arith)
  half-coded false = mended-coded s 1 (16 * nat_abs s + 15 - c.least) (eqb (par (c.sum +ℤ pos c.keys)) 1) (omega arith)

  -- every choice that is made is such
  pub chosen-coded : Coded (brief (chosen s c w))
  unfolding chosen
  chosen-coded = half-coded (lt_z (pos 0) (lead c.even c.odd (even_mend s c) (odd_mend s c) w))

  -- it comes back from its number
  pub choice_by-code : choice_by (code_of (brief (chosen s c w))) ≡ brief (chosen s c w)
  choice_by-code = chosen-coded.back
