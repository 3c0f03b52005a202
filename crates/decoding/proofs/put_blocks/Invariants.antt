-- `put_blocks` has the points made, then writes block after block, each into its part: after i turns the bytes of the first i stand before the rest as found.
use mathlib.Core.Path.{◌≡◌}
use mathlib.Core.List.{◌++◌, map}
use Prim.Native.Nat.{◌*◌}
use lib.IntN.{nat_abs}
use lib.ListN.{length, drop}
use Rattle.layers.specs.Digits.{joined, cut}
use Rattle.records.specs.Eight.Codes.{block_size}
use Rattle.decoding.specs.Decode.{decoded_bytes}
use Rattle.decoding.proofs.put_blocks.Given as goal

abbrev pub invariant-loop-i : goal.invariant-loop-i
invariant-loop-i l = (length l.out ≡ length l.initial.out)
    × (l.out ≡ joined (map (decoded_bytes (nat_abs l.q) l.m l.steps) (cut (block_size l.m) l.i l.body)) ++ drop (32 * l.i) l.initial.out)
