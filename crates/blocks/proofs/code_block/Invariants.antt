-- `code_block` walks the list: what is left of it gives the place and the bytes that the whole list gives, until a step fits.
use Rattle.std.proofs.Common.{nat_abs}
use Rattle.layers.specs.E8.{e8, nearest}
use Rattle.blocks.specs.Laws.Fitting.{Walked}
use Rattle.blocks.proofs.code_block.Given as goal

abbrev pub invariant-loop-t : goal.invariant-loop-t
invariant-loop-t l = Walked e8 nearest (nat_abs l.q) l.m l.x l.steps l.initial.out l.t l.out
