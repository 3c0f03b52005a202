-- The basis by the coefficients is each row by them.
use Rattle.std.proofs.Common.{rules, refl, List, [], ℤ, pos}
use Rattle.integers.specs.Laws.Arrays.{from_fn-map}
use Rattle.integers.specs.Vectors.{dot}
use Rattle.std.proofs.iter.Serving.{serving}
use Rattle.lattice.specs.Basis.{Table8, basis}
use Rattle.lattice.specs.Laws.Tables.{table-small}
use Rattle.lattice.proofs.basis.point_of.Goals as goal

pub from_fn-requires : goal.from_fn-requires
from_fn-requires c = let t : Table8 basis = table-small basis refl refl in grind serving

pub returns : goal.returns
returns c = from_fn-map _ (λ (r : List ℤ). dot r c.args.c.now) basis [] (pos 0) refl c.from_fn.ensures.items (λ k y q l e. search rules)
