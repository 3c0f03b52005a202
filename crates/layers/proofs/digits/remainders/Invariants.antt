-- `remainders` writes eight digits: after k turns the first k are right, and the rest is as found.
use Rattle.std.proofs.Common.{◌≡◌, ◌++◌, nat_abs, take, drop}
use Rattle.layers.specs.Layers.{remainders}
use Rattle.layers.proofs.digits.remainders.Given as goal

abbrev pub invariant-loop-k : goal.invariant-loop-k
invariant-loop-k l = l.out ≡ take l.k (remainders (nat_abs l.q) l.c) ++ drop l.k l.initial.out
