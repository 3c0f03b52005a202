-- Document 01's examples of taking a reading, and the edges, by computation.
use Rattle.readings.specs.declared.Fault.TheVariants.{Missing, OutOfRange}
use Rattle.std.specs.Prelude.{◌≡◌, refl, List, [], ◌∷◌, map, ℕ, pos, negsuc, Ok, Err}
use Rattle.std.specs.Float.{binary32}
use Rattle.std.specs.Float.Ieee.{of_bits, round}
use Rattle.readings.specs.Fractions.{nearest}
use Rattle.readings.specs.Taking.{measure_units, measure_float, measure_bits, take_bits, Measured}

-- a pattern, and what it is measured as
abbrev pub examples : List (ℕ × Measured)
examples =
    (0x40e8_0000, Ok (pos 7424)) ∷  -- 7.25
    (0x3a00_0000, Ok (pos 0)) ∷  -- 1/2048
    (0xba00_0000, Ok (negsuc 0)) ∷  -- -1/2048
    (0x3ac0_0000, Ok (pos 1)) ∷  -- 3/2048
    (0x8000_0000, Ok (pos 0)) ∷  -- -0.0
    (0x8000_0001, Ok (pos 0)) ∷  -- the least negative value
    (0x4680_0000, Ok (pos 16777216)) ∷  -- 16384.0
    (0xc680_0000, Ok (negsuc 16777215)) ∷  -- -16384.0
    (0x4680_0001, Err OutOfRange) ∷  -- the next above
    (0xc680_0001, Err OutOfRange) ∷  -- the next below
    (0x7f7f_ffff, Err OutOfRange) ∷  -- the greatest value
    (0x7f80_0000, Err OutOfRange) ∷  -- an infinity
    (0xff80_0000, Err OutOfRange) ∷  -- the other one
    (0x7fc0_0000, Err Missing) ∷  -- a quiet NaN
    (0x7f80_0001, Err Missing) ∷  -- a signalling NaN
    (0xffff_ffff, Err Missing) ∷  -- a NaN with its sign and all its digits set
    []

pub measured-examples : map (λ (row : ℕ × Measured). measure_bits row.0) examples ≡ map (λ (row : ℕ × Measured). row.1) examples
unfolding measure_float measure_units nearest of_bits
measured-examples = refl

-- whole units at their limits
pub units-examples : map measure_units (pos 16777216 ∷ negsuc 16777215 ∷ pos 16777217 ∷ negsuc 16777216 ∷ [])
    ≡ Ok (pos 16777216) ∷ Ok (negsuc 16777215) ∷ (Err OutOfRange) ∷ (Err OutOfRange) ∷ []
unfolding measure_units
units-examples = refl

-- a pattern, and the pattern of the value that is handed out for it
abbrev pub values : List (ℕ × ℕ)
values =
    (0x40e8_0000, 0x40e8_0000) ∷  -- 7.25 is itself
    (0x3a00_0000, 0x0000_0000) ∷  -- 1/2048 gives +0.0
    (0xba00_0000, 0xba80_0000) ∷  -- -1/2048 gives -1/1024
    (0x3ac0_0000, 0x3a80_0000) ∷  -- 3/2048 gives 1/1024
    (0x8000_0000, 0x0000_0000) ∷  -- -0.0 gives +0.0
    (0x8000_0001, 0x0000_0000) ∷  -- so does the least negative value
    (0x4680_0000, 0x4680_0000) ∷  -- 16384.0 is itself
    []

pub taken-examples : map (λ (row : ℕ × ℕ). take_bits row.0) values ≡ map (λ (row : ℕ × ℕ). Ok (of_bits binary32 row.1)) values
unfolding measure_float measure_units nearest of_bits round
taken-examples = refl
