-- `line_end` finds the first newline: the line ends there.
use Rattle.std.proofs.Common.{◌≡◌, ap, ℕ, ◌+◌, drop}
use Rattle.integers.specs.Laws.Loops.{rest-whole}
use Rattle.texts.specs.Answers.{piece_length}
use Rattle.texts.specs.Laws.Pieces.{piece-placed}
use Rattle.texts.specs.Text.{newline}
use Rattle.texts.proofs.line_end.Goals as goal

pub returns-clause-is : goal.returns-clause-is
returns-clause-is c =
    let at_end : c.unwrap_or.result ≡ piece_length newline (drop c.args.from c.args.text.now) = rw (rest-whole c.args.from c.args.text.now) at (piece-placed newline _ c.first_newline.ensures c.unwrap_or.ensures) in
    ap (λ (n : ℕ). c.args.from + n) at_end
