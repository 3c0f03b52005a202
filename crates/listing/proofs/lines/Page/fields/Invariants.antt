-- `fields` puts field after field.
use Rattle.std.proofs.Common.{drop}
use Rattle.listing.specs.Listing.{fields}
use Rattle.listing.specs.Laws.Pages.{Left}
use Rattle.listing.proofs.lines.Page.fields.Given as goal

abbrev pub invariant-loop-z : goal.invariant-loop-z
invariant-loop-z l = Left l.initial.self l.self (fields l.l) (fields (drop l.z-index l.l))
