use Rattle.readings.specs.Taking.{Measured}
use Rattle.std.specs.Prelude.{◌≡◌, List, ℕ, ◌+◌, ◌*◌, ◌<◌, ℤ, length, get_or}
use Rattle.readings.specs.Words.{word_at, measure_at}
use Rattle.records.proofs.Laws.Hours as hours
use Rattle.records.specs.Eight.Vectors.{Hour, units_hour, fvecs_hour}
pub use Rattle.records.proofs.Laws.Hours.{Ranged, units_small, taken-all, units-taken, word-missing}

abbrev pub Sound : Hour → Type 0
Sound h = hours.Sound 8 h

pub units-sound : (x : List ℤ) → Sound (units_hour x)
units-sound = hours.units-sound 8

pub fvecs-count : (b : List ℕ) → length (fvecs_hour b).readings ≡ word_at b 0
fvecs-count = hours.fvecs-count 8

pub fvecs-reading : (b : List ℕ) (i : ℕ) (d : Measured) → i < word_at b 0 → get_or (fvecs_hour b).readings i d ≡ measure_at b (4 + 4 * i)
fvecs-reading = hours.fvecs-reading 8

pub fvecs-sound : (b : List ℕ) → Sound (fvecs_hour b)
fvecs-sound = hours.fvecs-sound 8
