-- `fill_row` goes through the entries with the digits of each one's number: after j turns the first j entries are right.
use mathlib.Core.Path.{◌≡◌}
use mathlib.Core.List.{◌++◌}
use lib.ListN.{take, drop}
use Rattle.layers.specs.Digits.{digits_of}
use Rattle.layers.specs.E8.{layer_point8}
use Rattle.tables.specs.Tables.{pair_row}
use Rattle.tables.proofs.pair_table.fill_row.Given as goal

abbrev pub invariant-loop-entry : goal.invariant-loop-entry
invariant-loop-entry l = (l.js ≡ digits_of 2 8 l.entry-index) × (l.row ≡ take l.entry-index (pair_row (layer_point8 2 l.ds)) ++ drop l.entry-index l.initial.row)
