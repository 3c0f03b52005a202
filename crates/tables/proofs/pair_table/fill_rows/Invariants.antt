-- `fill_rows` fills row after row, each in its part: after i turns the first i rows stand before the rest as found.
use mathlib.Core.Path.{◌≡◌}
use mathlib.Core.List.{◌++◌}
use Prim.Native.Nat.{◌*◌}
use lib.ListN.{length, drop}
use Rattle.layers.specs.Digits.{digits_of}
use Rattle.tables.specs.Laws.Entries.{pair_rows}
use Rattle.tables.proofs.pair_table.fill_rows.Given as goal

abbrev pub invariant-loop-i : goal.invariant-loop-i
invariant-loop-i l = (length l.entries ≡ length l.initial.entries) × (l.ds ≡ digits_of 2 8 l.i) × (l.entries ≡ pair_rows l.i ++ drop (256 * l.i) l.initial.entries)
