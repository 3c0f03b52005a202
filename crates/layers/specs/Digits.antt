-- What a list of digits is, how a record holds it, and its number in a table (01, Bytes and Scores).
use Rattle.std.specs.Prelude.{◌≡◌, List, [], ◌∷◌, ◌++◌, ℕ, zero, suc, ◌+◌, ◌*◌, ◌/◌, ◌%◌, ◌<◌, length, take, drop}

-- each digit below q
abbrev pub Below : ℕ → List ℕ → Type 0
Below q [] = Unit {0}
Below q (d ∷ ds) = (d < q) × Below q ds

-- one layer: n digits below q
pub record IsLayer (n q : ℕ) (ds : List ℕ) : Type 0 where
  pub long : length ds ≡ n
  pub below : Below q ds

-- m layers
abbrev pub IsLayers : ℕ → ℕ → ℕ → List (List ℕ) → Type 0
IsLayers n q zero [] = Unit {0}
IsLayers n q zero (ds ∷ l) = ⊥
IsLayers n q (suc m) [] = ⊥
IsLayers n q (suc m) (ds ∷ l) = IsLayer n q ds × IsLayers n q m l

-- the layers one after the other, layer 0 first, as a record holds them
abbrev pub joined : {A : Type 0} → List (List A) → List A
joined [] = []
joined (ds ∷ l) = ds ++ joined l

-- such a row of m layers: n m digits below q
pub record IsCode (n q m : ℕ) (f : List ℕ) : Type 0 where
  pub long : length f ≡ n * m
  pub below : Below q f

-- the m layers of such a row
abbrev pub cut : {A : Type 0} → ℕ → ℕ → List A → List (List A)
cut n zero f = []
cut n (suc m) f = take n f ∷ cut n m (drop n f)

-- a layer's entry number: digit k times q^(k-1), the first digit least
abbrev pub entry_of : ℕ → List ℕ → ℕ
entry_of q [] = 0
entry_of q (d ∷ ds) = d + q * entry_of q ds

-- 1, q, q² and q³ as one word, a byte each, the first greatest: what gathers an entry number of four digits
abbrev pub powers : ℕ → ℕ
powers q = 16777216 + 65536 * q + 256 * (q * q) + q * q * q

-- the n digits of the entry number i
abbrev pub digits_of : ℕ → ℕ → ℕ → List ℕ
digits_of q zero i = []
digits_of q (suc n) i = (i % q) ∷ digits_of q n (i / q)
