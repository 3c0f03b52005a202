-- `no_readings` holds +0.0 throughout, by computation.
use mathlib.Core.Path.{refl}
use lib.Ieee.{of_bits, round}
use Rattle.enkhovrag.proofs.answers.no_readings.Goals as goal

pub returns : goal.returns
unfolding of_bits round
returns c = refl
