-- The constant is the table of the rule: one computation over its 2,048 numbers.
use mathlib.Core.Path.{refl}
use Rattle.lattice.specs.Computed.{lesser, pick, grow, both, nearest_d, nearest_half, nearest_point}
use Rattle.layers.specs.Layers.{digit_point, layer_point}
use Rattle.layers.specs.Table.{layer_table}
use Rattle.layers.proofs.table.layer_points.Goals as goal

pub returns : goal.returns
unfolding layer_table layer_point digit_point nearest_point nearest_half nearest_d both grow lesser pick
returns c = refl
