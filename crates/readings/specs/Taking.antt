-- Taking a reading (01, Readings and units): the answer in whole units X of 1/1024, and the value that is handed out.
use Rattle.std.specs.Prelude.{ℕ, ◌*◌, ◌^◌, ◌≤◌, cond, ltb, ℤ, pos, nat_abs, Float, Result, Ok, Err}
use Rattle.std.specs.Float.{nan, inf, fin, binary32}
use Rattle.std.specs.Float.Ieee.{up, down, of_bits}
use Rattle.readings.specs.declared.Fault.{Fault}
use Rattle.readings.specs.declared.Fault.TheVariants.{Missing, OutOfRange}
use Rattle.readings.specs.Fractions.{signed, nearest, fraction}

-- the greatest magnitude of X, which is 16384
abbrev pub units_most : ℕ
units_most = 2 ^ 24

-- a reading in whole units, or why there is none; and the same with its value
abbrev pub Measured : Type 0
Measured = Result ℤ Fault

abbrev pub Taken : Type 0
Taken = Result Float Fault

-- whole units: past that magnitude they are out of range
unfoldable pub measure_units : ℤ → Measured
measure_units X = cond (ltb units_most (nat_abs X)) (Err OutOfRange) (Ok X)

-- a float: every NaN is missing and an infinity is out of range; any other, ±m times a power of two, counts as the whole units nearest to it
unfoldable pub measure_float : Float → Measured
measure_float nan = Err Missing
measure_float (inf sign) = Err OutOfRange
measure_float (fin sign m power) = measure_units (nearest (signed sign (1024 * (m * up power))) (down power))

-- a binary32 pattern counts as its float
abbrev pub measure_bits : ℕ → Measured
measure_bits bits = measure_float (of_bits binary32 bits)

-- X, where there is one, is at most that in magnitude
abbrev pub InRange : Measured → Type 0
InRange (Ok X) = nat_abs X ≤ units_most
InRange (Err Missing) = Unit {0}
InRange (Err OutOfRange) = Unit {0}

-- document 01's number of the answer: 0 for none, 4 missing, 5 out of range
abbrev pub measured_number : Measured → ℕ
measured_number (Ok X) = 0
measured_number (Err Missing) = 4
measured_number (Err OutOfRange) = 5

-- X, and 0 where there is none
abbrev pub measured_units : Measured → ℤ
measured_units (Ok X) = X
measured_units (Err Missing) = pos 0
measured_units (Err OutOfRange) = pos 0

-- the value of X units: X / 1024
abbrev pub units_value : ℤ → Float
units_value X = fraction X 1024

-- what is handed out for a measured reading
abbrev pub taken_of : Measured → Taken
taken_of (Ok X) = Ok (units_value X)
taken_of (Err Missing) = Err Missing
taken_of (Err OutOfRange) = Err OutOfRange

-- taking whole units, and taking a binary32 pattern
abbrev pub take_units : ℤ → Taken
take_units X = taken_of (measure_units X)

abbrev pub take_bits : ℕ → Taken
take_bits bits = taken_of (measure_bits bits)

-- document 01's number of what is handed out
abbrev pub taken_number : Taken → ℕ
taken_number (Ok v) = 0
taken_number (Err Missing) = 4
taken_number (Err OutOfRange) = 5

-- the value, and +0.0 where there is none
abbrev pub taken_value : Taken → Float
taken_value (Ok v) = v
taken_value (Err Missing) = units_value (pos 0)
taken_value (Err OutOfRange) = units_value (pos 0)
