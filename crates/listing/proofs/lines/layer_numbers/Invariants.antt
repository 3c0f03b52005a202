-- `layer_numbers` puts the digits after the layer's number: after i turns the first i of them.
use Rattle.std.proofs.Common.{◌≡◌, map, pos, length, take}
use Rattle.std.proofs.lemmas.List.Edits.{sets}
use Rattle.listing.proofs.lines.layer_numbers.Given as goal

abbrev pub invariant-loop-i : goal.invariant-loop-i
invariant-loop-i l = record { long : length l.l ≡ 9; put : l.l ≡ sets l.initial.l 1 (map pos (take l.i l.ds)) }
