-- `decimal` puts the digits of a tenth of n, and then the last digit. The measure is n.
use Rattle.listing.proofs.lines.Page.+decimal.Given as goal

abbrev pub decreases-decimal : goal.decreases-decimal
decreases-decimal l = l.n
