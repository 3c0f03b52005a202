-- `width` adds a power of q a turn: after i turns w is that of i layers.
use Rattle.std.proofs.Common.{◌≡◌, pos, nat_abs}
use Rattle.layers.specs.Sizes.{width}
use Rattle.blocks.proofs.width.Given as goal

abbrev pub invariant-loop : goal.invariant-loop
invariant-loop l = l.w ≡ pos (width (nat_abs l.q) l.counter)
