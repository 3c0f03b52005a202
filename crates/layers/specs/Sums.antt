-- Sums over layers, the layer m counted q^m times: what scores are made of (01, Scores).
use Rattle.std.specs.Prelude.{List, [], ◌∷◌, ℕ, suc, ◌^◌, ℤ, pos, ◌+ℤ◌, ◌*ℤ◌}

-- q^i times f of the first layer, q^(i+1) times f of the next, and so on, together
abbrev pub layer_sum : ℕ → ℕ → (List ℕ → ℤ) → List (List ℕ) → ℤ
layer_sum q i f [] = pos 0
layer_sum q i f (ds ∷ l) = pos (q ^ i) *ℤ f ds +ℤ layer_sum q (suc i) f l

-- f of each layer of a with each of b, layer j with layer k counted q^(i+j+k) times
abbrev pub pair_sum : ℕ → ℕ → (List ℕ → List ℕ → ℤ) → List (List ℕ) → List (List ℕ) → ℤ
pair_sum q i f [] b = pos 0
pair_sum q i f (ds ∷ a) b = layer_sum q i (f ds) b +ℤ pair_sum q (suc i) f a b
