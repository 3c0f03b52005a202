use Rattle.std.specs.Prelude.{List, ℕ, ℤ}
use Rattle.records.specs.Vectors as vector
pub use Rattle.records.specs.Vectors.{Hour, unit_readings, fvecs_readings, check_readings, units_taken}

abbrev pub units_hour : List ℤ → vector.Hour
units_hour x = vector.units_hour 8 x

abbrev pub fvecs_hour : List ℕ → vector.Hour
fvecs_hour b = vector.fvecs_hour 8 b

abbrev pub blocks_of : vector.Hour → ℕ
blocks_of h = vector.blocks_of 8 h

abbrev pub in_blocks : List ℤ → List (List ℤ)
in_blocks X = vector.in_blocks 8 X

abbrev pub UnitsTaken : List ℤ → Type 0
UnitsTaken X = vector.UnitsTaken 8 X
