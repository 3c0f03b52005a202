-- `rising` walks the list: what is left of it rises from the last step seen exactly where the whole list rises from 0.
use Rattle.std.proofs.Common.{◌≡◌, pos}
use Rattle.std.specs.Prelude.{drop}
use Rattle.refusals.specs.Steps.{rising}
use Rattle.refusals.proofs.steps.rising.Given as goal

abbrev pub invariant-loop-s : goal.invariant-loop-s
invariant-loop-s l = rising (pos 0) l.steps ≡ rising l.last (drop l.s-index l.steps)
