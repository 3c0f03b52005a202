-- `greatest` walks the digits: after i of them none of these is past the number held.
use Rattle.std.proofs.Common.{ℕ, ◌<◌, ◌≤◌, get_or}
use Rattle.coding.proofs.asked.greatest.Given as goal

abbrev pub invariant-loop-d : goal.invariant-loop-d
invariant-loop-d l = (j : ℕ) → j < l.d-index → get_or l.ds j 0 ≤ l.top
