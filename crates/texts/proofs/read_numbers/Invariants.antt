-- `read_numbers` walks the parts of the line: two bytes at least for each number, so that the room holds them all.
use Rattle.std.proofs.Common.{◌≡◌, ◌≤◌, length}
use Rattle.texts.specs.Laws.Walks.{Walk}
use Rattle.texts.proofs.read_numbers.Given as goal

abbrev pub invariant-loop-word : goal.invariant-loop-word
invariant-loop-word l = record { few : l.n ≤ length l.line; room : length l.out ≡ length l.initial.out; walk : Walk l.line l.initial.out (length l.yielded) l.n l.out }
