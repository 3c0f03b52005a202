-- Vectors of readings as they are lent: a slice of whole units, or an fvecs record (01, Readings and units; Bytes).
use Rattle.std.specs.Prelude.{◌≡◌, true, List, [], ◌∷◌, map, ℕ, suc, ◌+◌, ◌*◌, ◌/◌, ◌^◌, ℤ, length, Ok, Err}
use Rattle.integers.specs.Vectors.{Bounded, range}
use Rattle.layers.specs.Digits.{cut}
use Rattle.readings.specs.declared.Fault.{Fault}
use Rattle.readings.specs.declared.Fault.TheVariants as fault
use Rattle.readings.specs.Taking.{measure_units, Measured}
use Rattle.readings.specs.Words.{word_at, measure_at}
use Rattle.refusals.specs.declared.Refusal.{Refusal}
use Rattle.refusals.specs.declared.Refusal.TheVariants.{Size, Missing, OutOfRange, Record}
use Rattle.refusals.specs.Limits.{blocks_most}
use Rattle.refusals.specs.Verdicts.{unless, Verdict}
use Rattle.records.specs.Frames.{whole_blocks, good_record}

-- a vector as it is lent: whether its count is allowed, and its readings
pub record Hour : Type 0 where
  pub frame : Verdict
  pub readings : List Measured

-- the readings of whole units, and of an fvecs record
abbrev pub unit_readings : List ℤ → List Measured
unit_readings x = map measure_units x

abbrev pub fvecs_readings : List ℕ → List Measured
fvecs_readings b = map (λ (i : ℕ). measure_at b (4 + 4 * i)) (range 0 (word_at b 0))

-- whole units: refusal 3 unless there are n to 64 n of them, a multiple of n
abbrev pub units_hour : ℕ → List ℤ → Hour
units_hour n x = record { frame = unless (whole_blocks n 1 blocks_most (length x)) (Size 0); readings = unit_readings x }

-- an fvecs record: refusal 10 unless its dimension is such a count and as many binary32 values follow
abbrev pub fvecs_hour : ℕ → List ℕ → Hour
fvecs_hour n b = record { frame = unless (good_record 4 n 1 blocks_most b) (Record 0); readings = fvecs_readings b }

-- the refusal of the reading with the index i
abbrev pub refused_at : Fault → ℕ → Refusal
refused_at fault.Missing i = Missing i
refused_at fault.OutOfRange i = OutOfRange i

-- the first that is none is refused by its index, counted from i: 4 where it is missing, 5 where it is out of range
abbrev pub check_readings : ℕ → List Measured → Verdict
check_readings i [] = Ok tt
check_readings i (Ok X ∷ r) = check_readings (suc i) r
check_readings i (Err fault.Missing ∷ r) = Err (Missing i)
check_readings i (Err fault.OutOfRange ∷ r) = Err (OutOfRange i)

-- X: the whole units of the readings, up to the first that is none
abbrev pub units_taken : List Measured → List ℤ
units_taken [] = []
units_taken (Ok X ∷ r) = X ∷ units_taken r
units_taken (Err fault.Missing ∷ r) = []
units_taken (Err fault.OutOfRange ∷ r) = []

-- K, the number of its blocks
abbrev pub blocks_of : ℕ → Hour → ℕ
blocks_of n h = length h.readings / n

-- X in blocks of n
abbrev pub in_blocks : ℕ → List ℤ → List (List ℤ)
in_blocks n X = cut n (length X / n) X

-- X of an hour whose readings were all taken
pub record UnitsTaken (n : ℕ) (X : List ℤ) : Type 0 where
  pub whole : whole_blocks n 1 blocks_most (length X) ≡ true
  pub small : Bounded (2 ^ 24) X
