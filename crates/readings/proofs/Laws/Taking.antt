-- What the answers of taking a reading mean.
use Rattle.readings.specs.declared.Fault.TheVariants.{Missing, OutOfRange}
use Rattle.std.specs.Prelude.{◌≡◌, refl, Bool, true, false, cond, ℕ, ◌*◌, ◌<◌, ◌≤◌, ltb, ℤ, pos, nat_abs, Float, Ok, Err}
use Rattle.std.proofs.Common.{sym, ◌∙◌, subst, arith, lt-ltb, le-ltb, ltb-false, lit≤}
use Rattle.std.proofs.Math.Path.{ap}
use Rattle.std.proofs.lemmas.Bool.{false≢true}
use Rattle.std.specs.Float.Ieee.{nan, up, down, is_nan, nan_bits}
use Rattle.std.specs.Float.{inf, fin, binary32}
use Rattle.std.specs.Float.Ieee.Fits.{down_pos}
use Rattle.std.specs.Float.Ieee.Exact.{HasValue}
use Rattle.std.specs.Float.Ieee.Bits.{nan_bits_is}
use Rattle.readings.specs.Fractions.{signed, nearest, Exactly}
use Rattle.readings.specs.Taking.{units_most, measure_units, measure_float, InRange, measured_number, measured_units, units_value, taken_of, take_bits, taken_number, taken_value, Measured}
use Rattle.readings.proofs.Laws.Nearest.{Nearest, nearest-is, nearest-signed-same, nearest-within, abs-signed}
use Rattle.readings.proofs.Laws.Exact.{fraction-exact}

-- ---- whole units

pub units-beyond : (X : ℤ) → units_most < nat_abs X → measure_units X ≡ Err OutOfRange
unfolding measure_units
units-beyond X h = rw (lt-ltb units_most (nat_abs X) h)

pub units-within : (X : ℤ) → nat_abs X ≤ units_most → measure_units X ≡ Ok X
unfolding measure_units
units-within X h = rw (le-ltb units_most (nat_abs X) h)

pub units-in-range : (X : ℤ) → InRange (measure_units X)
unfolding measure_units
units-in-range X = go (ltb units_most (nat_abs X)) refl
  where
    go : (t : Bool) → ltb units_most (nat_abs X) ≡ t → InRange (cond t (Err OutOfRange) (Ok X))
    go true p = tt
    go false p = ltb-false units_most (nat_abs X) p

-- the units that are found are those that were judged
pub units-same : (X Y : ℤ) → measure_units X ≡ Ok Y → X ≡ Y
unfolding measure_units
units-same X Y = go (ltb units_most (nat_abs X))
  where
    go : (t : Bool) → cond t (Err OutOfRange) (Ok X) ≡ Ok Y → X ≡ Y
    go true p = cc
    go false p = cc

-- ---- floats

pub float-in-range : (f : Float) → InRange (measure_float f)
unfolding measure_float
float-in-range nan = tt
float-in-range (inf sign) = tt
float-in-range (fin sign m power) = units-in-range (nearest (signed sign (1024 * (m * up power))) (down power))

pub float-missing : (f : Float) → is_nan f ≡ true → measure_float f ≡ Err Missing
unfolding is_nan measure_float
float-missing nan p = refl
float-missing (inf sign) p = absurd (false≢true p)
float-missing (fin sign m power) p = absurd (false≢true p)

-- a NaN pattern, quiet or signalling, of any sign and payload, is missing and never a value
pub nan-missing : (bits : ℕ) → nan_bits binary32 bits ≡ true → (take_bits bits ≡ Err Missing) × ((v : Float) → take_bits bits ≡ Ok v → ⊥)
nan-missing bits h =
    let m = ap taken_of (float-missing _ (sym (nan_bits_is binary32 bits) ∙ h)) in
    (m, λ v p. let clash : ◌≡◌ {A = ℕ} 4 0 = ap taken_number (sym m ∙ p) in omega arith)

-- a float f of the value ±a / c
module _ (f : Float) (sign : Bool) (a c : ℕ) (h : 0 < c) (value : HasValue f sign a c) where
  -- f counts as the whole units nearest to 1024 times its value
  pub float-units : measure_float f ≡ measure_units (nearest (signed sign (1024 * a)) c)
  unfolding measure_float
  float-units = go f value
    where
      go : (f : Float) → HasValue f sign a c → measure_float f ≡ measure_units (nearest (signed sign (1024 * a)) c)
      go nan v = absurd v
      go (inf t) v = absurd v
      go (fin t m power) v = ap measure_units (ap (λ (t : Bool). nearest (signed t (1024 * (m * up power))) (down power)) v.0
          ∙ nearest-signed-same sign (1024 * (m * up power)) (down power) (1024 * a) c (down_pos power) h (omega (arith, v.1)))

  -- an X that is found has X - 1/2 < 1024·(±a / c) ≤ X + 1/2
  pub float-nearest : (X : ℤ) → measure_float f ≡ Ok X → Nearest (signed sign (1024 * a)) c X
  float-nearest X p = subst (Nearest (signed sign (1024 * a)) c) (units-same _ X (sym float-units ∙ p)) (nearest-is (signed sign (1024 * a)) c h)

  -- up to 16384 in magnitude there is one (past it, `above-limit`)
  pub float-within : a ≤ 16384 * c → measure_float f ≡ Ok (nearest (signed sign (1024 * a)) c)
  float-within l = float-units ∙ units-within _ (nearest-within (signed sign (1024 * a)) c units_most h (rw (abs-signed sign (1024 * a)) (omega arith)))

-- ---- what is handed out

pub taken-number : (m : Measured) → taken_number (taken_of m) ≡ measured_number m
taken-number (Ok X) = refl
taken-number (Err Missing) = refl
taken-number (Err OutOfRange) = refl

pub taken-value : (m : Measured) → taken_value (taken_of m) ≡ units_value (measured_units m)
taken-value (Ok X) = refl
taken-value (Err Missing) = refl
taken-value (Err OutOfRange) = refl

-- the value is X / 1024 with nothing lost, and +0.0 for 0
pub taken-exact : (m : Measured) → InRange m → Exactly (taken_value (taken_of m)) (measured_units m) 1024
taken-exact (Ok X) h = fraction-exact X 10 h (lit≤ tt)
taken-exact (Err Missing) h = fraction-exact (pos 0) 10 (lit≤ tt) (lit≤ tt)
taken-exact (Err OutOfRange) h = fraction-exact (pos 0) 10 (lit≤ tt) (lit≤ tt)
