-- `code_blocks` codes block after block: after i turns the bytes of the first i stand in front, and the blocks left give the same verdict as all.
use mathlib.Core.Path.{◌≡◌}
use mathlib.Core.List.{◌++◌}
use Prim.Native.Nat.{◌*◌, ◌-◌}
use lib.IntN.{nat_abs}
use lib.ListN.{length, drop}
use Rattle.layers.specs.Digits.{cut}
use Rattle.layers.specs.Code.{code8}
use Rattle.encoding.specs.Encode.{check_fits, code_bytes}
use Rattle.encoding.proofs.code_blocks.Given as goal

abbrev pub invariant-loop-i : goal.invariant-loop-i
invariant-loop-i l = (length l.out ≡ length l.initial.out)
    × (check_fits (code8 (nat_abs l.q) l.m) l.steps 0 (cut 8 l.k l.x) ≡ check_fits (code8 (nat_abs l.q) l.m) l.steps l.i (cut 8 (l.k - l.i) (drop (8 * l.i) l.x)))
    × (l.out ≡ code_bytes (code8 (nat_abs l.q) l.m) l.steps (cut 8 l.i l.x) ++ drop (l.n * l.i) l.initial.out)
