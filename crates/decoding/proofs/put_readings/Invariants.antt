-- `put_readings` writes reading after reading: after i turns the bytes of the first i stand before the rest as found.
use mathlib.Core.Path.{◌≡◌}
use mathlib.Core.List.{◌++◌, map}
use Prim.Native.Nat.{◌*◌}
use lib.ListN.{length, take, drop}
use Rattle.layers.specs.Digits.{joined}
use Rattle.decoding.specs.Decode.{reading_bytes}
use Rattle.decoding.proofs.put_readings.Given as goal

abbrev pub invariant-loop-i : goal.invariant-loop-i
invariant-loop-i l = (length l.out ≡ 32) × (l.out ≡ joined (map (reading_bytes l.s) (take l.i l.e)) ++ drop (4 * l.i) l.initial.out)
