-- `power` multiplies by q as often as m says: after i turns it has q^i, which is at most q^m.
use Rattle.std.proofs.Common.{◌≡◌, ◌^◌}
use Rattle.integers.proofs.power.Given as goal

abbrev pub invariant-loop : goal.invariant-loop
invariant-loop l = l.p ≡ l.q ^ l.counter
