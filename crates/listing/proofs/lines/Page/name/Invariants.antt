-- `name` puts byte after byte.
use Rattle.std.proofs.Common.{drop}
use Rattle.listing.specs.Laws.Pages.{Left}
use Rattle.listing.proofs.lines.Page.name.Given as goal

abbrev pub invariant-loop-b : goal.invariant-loop-b
invariant-loop-b l = Left l.initial.self l.self l.name (drop l.b-index l.name)
