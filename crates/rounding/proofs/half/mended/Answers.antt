-- `mended` reads the mend off the key, field by field.
use Rattle.rounding.specs.Pass.{mended}
use Rattle.rounding.proofs.Laws.Passes.{of_cond}
use Rattle.rounding.proofs.half.mended.Goals as goal

pub returns : goal.returns
unfolding mended
returns g c = let v = g.T.Number.value in cc (of_cond v c.args.odd _ _ c.either.ensures, of_cond v c.args.odd _ _ c.either-2.ensures)
