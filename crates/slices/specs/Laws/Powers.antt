-- The entries of a slice by number: as many runs as a half has rows, each with as many entries as three digits have, and where an entry's low and high rows lie.
use Rattle.std.specs.Prelude.{◌≡◌, ℕ, ◌+◌, ◌*◌, ◌/◌, ◌%◌, ◌^◌, ◌<◌, ◌≤◌, ℤ, nat_abs}
use Rattle.std.proofs.Common.{◌∙◌, ap, ap₂, mul-le-mul, le_refl, zero-add, mod-lt, mod-eq_of_lt, arith, pow-add}
use Rattle.std.proofs.Math.Nat.{pow-succ', div-add-mod, div-eq_of_lt, add-mul-div_left, add-mul-mod_self_left}
use Rattle.layers.specs.Laws.Entries.{pow-two, cubed}

-- the entries of a run, and the rows of a half
abbrev pub run_size : ℤ → ℕ
run_size q = nat_abs q * nat_abs q * nat_abs q

abbrev pub row_count : ℤ → ℕ
row_count q = nat_abs q * run_size q

module _ (q : ℤ) where
  abbrev p : ℕ
  p = nat_abs q

  -- as the contracts write them
  pub cube-is : p ^ 3 ≡ run_size q
  cube-is = pow-succ' p 2 ∙ ap (λ (t : ℕ). p * t) (pow-two p) ∙ omega arith

  pub fourth-is : p ^ 4 ≡ row_count q
  fourth-is = pow-succ' p 3 ∙ ap (λ (t : ℕ). p * t) cube-is

  pub seventh-is : p ^ 7 ≡ run_size q * row_count q
  seventh-is = pow-add p 3 4 ∙ ap₂ ◌*◌ cube-is fourth-is

  -- how large they are
  module _ (h : p ≤ 4) where
    pub size_few : run_size q ≤ 64
    size_few = cubed p h

    pub rows_few : row_count q ≤ 256
    rows_few = mul-le-mul h size_few

    pub slice-few : run_size q * row_count q ≤ 16384
    slice-few = mul-le-mul size_few rows_few

  -- where the run g lies
  pub run_room : (g : ℕ) → g < row_count q → run_size q * g + run_size q ≤ run_size q * row_count q
  run_room g h = omega (arith, mul-le-mul (le_refl (run_size q)) h)

  -- with its entry t
  pub entry-within : (g t : ℕ) → g < row_count q → t < run_size q → run_size q * g + t < p ^ 7
  entry-within g t h k = rw seventh-is (omega (arith, run_room g h))

  -- and where the low rows of the digit i do
  pub digit_room : (i : ℕ) → i < p → run_size q * i + run_size q ≤ row_count q
  digit_room i h = omega (arith, mul-le-mul (le_refl (run_size q)) h)

  module _ (two : 2 ≤ p) (g : ℕ) where
    -- those of the run g
    pub low-room : run_size q * (g % p) + run_size q ≤ row_count q
    low-room = let p> : 0 < p = omega (arith, two) in digit_room (g % p) (mod-lt g p>)

    -- the rows of its entry t
    module _ (t : ℕ) (h : t < run_size q) where
      pub high-row : (run_size q * g + t) / p ^ 3 ≡ g
      high-row = let e : run_size q * g + t ≡ t + run_size q * g = omega arith in
          ap₂ ◌/◌ e cube-is ∙ add-mul-div_left t g (omega arith) ∙ ap (λ (n : ℕ). n + g) (div-eq_of_lt h) ∙ zero-add g

      pub low-within : run_size q * (g % p) + t < row_count q
      low-within = omega (arith, low-room)

      pub low-row : (run_size q * g + t) % p ^ 4 ≡ run_size q * (g % p) + t
      low-row = let e : run_size q * g + t ≡ run_size q * (g % p) + t + row_count q * (g / p) = omega (arith, ap (λ (n : ℕ). run_size q * n) (div-add-mod g p)) in
          ap₂ ◌%◌ e fourth-is ∙ add-mul-mod_self_left (run_size q * (g % p) + t) (row_count q) (g / p) ∙ mod-eq_of_lt low-within
