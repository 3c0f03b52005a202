-- `decimal` puts the digits of a tenth of n, and then the last digit.
use Rattle.std.proofs.Common.{◌≡◌, arith, ◌/◌, ◌%◌, [], ◌∷◌}
use Rattle.listing.specs.Laws.Decimal.{decimal-one, decimal-more, decimal-longer}
use Rattle.listing.specs.Laws.Pages.{puts-both, puts-fits}
use Rattle.listing.specs.Listing.{digit_byte, decimal}
use Rattle.listing.proofs.lines.Page.+decimal.Goals.{then-n-ge10, else-n-ge10}
use Rattle.listing.proofs.lines.Page.+decimal.Goals as goal

pub decimal-requires : goal.decimal-requires
decimal-requires t c = (omega (arith, c.decreases, c.if-n-ge10.true), omega (arith, decimal-longer c.args.n c.if-n-ge10.true, c.requires))

pub put-requires : goal.put-requires
put-requires t c = let n = c.args.n in let p = c.args.self.now in elim c.if-n-ge10.branch [
  | then-n-ge10 w ↦ rw w.self-is (puts-fits p w.decimal.new.self (decimal (n / 10)) (digit_byte (n % 10) ∷ []) w.decimal.ensures (rw (decimal-more n w.if-n-ge10.true) at c.requires))
  | else-n-ge10 w ↦ rw w.self-is (rw (decimal-one n w.if-n-ge10.false) at c.requires)
]

pub returns : goal.returns
returns t c = let n = c.args.n in let p = c.args.self.now in elim c.if-n-ge10.branch [
  | then-n-ge10 w ↦ rw (decimal-more n w.if-n-ge10.true) (puts-both p w.decimal.new.self (decimal (n / 10)) (digit_byte (n % 10) ∷ []) w.decimal.ensures c.put.new.self (rw w.self-is at c.put.ensures))
  | else-n-ge10 w ↦ let last : n % 10 ≡ n = omega (arith, w.if-n-ge10.false) in rw (decimal-one n w.if-n-ge10.false) (rw (w.self-is, last) at c.put.ensures)
]
