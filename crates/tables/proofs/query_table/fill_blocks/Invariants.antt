-- `fill_blocks` goes through the last digits: after those below d the first q^7 d entries of every part are right.
use mathlib.Core.Path.{◌≡◌}
use Prim.Native.Nat.{◌*◌, ◌^◌}
use lib.IntN.{nat_abs}
use lib.ListN.{length}
use Rattle.tables.specs.Laws.Groups.{FilledTo}
use Rattle.tables.proofs.query_table.fill_blocks.Given as goal

abbrev pub invariant-loop-last : goal.invariant-loop-last
invariant-loop-last l = let b = nat_abs l.q in
    (length l.halves.choices ≡ 16384) × (length l.halves.lows ≡ 256) × (length l.halves.highs ≡ 256) × FilledTo b l.k l.x l.initial.entries (b ^ 7 * l.last) l.entries
