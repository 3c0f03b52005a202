-- `digits` goes up: after i layers it holds what they leave over, and their digits stand in front of what was found.
use Rattle.std.proofs.Common.{◌≡◌, ◌++◌, ◌*◌, nat_abs, drop}
use Rattle.layers.specs.E8.{digits8, leftover8}
use Rattle.layers.proofs.digits.digits.Given as goal

abbrev pub invariant-loop-i : goal.invariant-loop-i
invariant-loop-i l = record { rest : l.g ≡ leftover8 (nat_abs l.q) l.i l.e; written : l.out ≡ digits8 (nat_abs l.q) l.i l.e ++ drop (8 * l.i) l.initial.out }
