-- The inverse by the point is each row by it.
use Rattle.std.proofs.Common.{rules, refl, List, [], ℤ, pos}
use Rattle.integers.specs.Floor.{floor_div}
use Rattle.integers.specs.Laws.Arrays.{from_fn-map}
use Rattle.integers.specs.Vectors.{dot}
use Rattle.std.proofs.iter.Serving.{serving}
use Rattle.lattice.specs.Basis.{Table8, inverse}
use Rattle.lattice.specs.Laws.Tables.{table-small}
use Rattle.lattice.proofs.basis.coefficients.Goals as goal

pub from_fn-requires : goal.from_fn-requires
from_fn-requires c = let t : Table8 inverse = table-small inverse refl refl in grind serving

pub returns : goal.returns
returns c = from_fn-map _ (λ (r : List ℤ). floor_div (dot r c.args.e.now) 4) inverse [] (pos 0) refl c.from_fn.ensures.items (λ k y q l e. search rules)
