-- Digits counted up.
use Rattle.std.specs.Prelude.{cond, List, [], ◌∷◌, ℕ, suc, ltb}

-- the digits of the next entry number: the first that is not q - 1 goes up by one, and those before it become 0
abbrev pub counted_up : ℕ → List ℕ → List ℕ
counted_up q [] = []
counted_up q (d ∷ ds) = cond (ltb (suc d) q) (suc d ∷ ds) (0 ∷ counted_up q ds)
