-- `layers` puts layer after layer.
use Rattle.listing.specs.Laws.Lines.{layers_from}
use Rattle.listing.specs.Laws.Pages.{Left}
use Rattle.listing.proofs.lines.Page.layers.Given as goal

abbrev pub invariant-loop-k : goal.invariant-loop-k
invariant-loop-k l = Left l.initial.self l.self (layers_from l.ds l.m 0) (layers_from l.ds l.m l.k)
