-- `digits_size` walks the digits: those that are left, after the value so far, give the same size as all.
use Rattle.std.proofs.Common.{◌≡◌, ◌≤◌, drop}
use Rattle.texts.specs.Answers.{cap, size_after, size_of}
use Rattle.texts.proofs.digits_size.Given as goal

abbrev pub invariant-loop-b : goal.invariant-loop-b
invariant-loop-b l = record { kept : l.v ≤ cap; left : size_of l.ds ≡ size_after l.v (drop l.b-index l.ds) }
