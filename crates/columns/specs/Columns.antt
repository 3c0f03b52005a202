-- Eight layers side by side: row j holds the digit or coordinate j of each, so that a column is one layer.
use Rattle.std.specs.Prelude.{◌≡◌, List, [], map, ℕ, ◌<◌, ℤ, pos, length, get_or}
use Rattle.layers.specs.Digits.{IsLayer}
use Rattle.layers.specs.E8.{layer_point8}

-- the column t of rows: the entry t of each, `blank` where a row has none
abbrev pub column : {A : Type 0} → A → ℕ → List (List A) → List A
column {A} blank t c = map (λ (row : List A). get_or row t blank) c

-- m rows of n entries
pub record Grid {A : Type 0} (m n : ℕ) (c : List (List A)) : Type 0 where
  pub long : length c ≡ m
  pub rows : (j : ℕ) → j < m → length (get_or c j []) ≡ n

-- eight rows of eight entries
abbrev pub Square8 : {A : Type 0} → List (List A) → Type 0
Square8 c = Grid 8 8 c

-- eight layers of digits
pub record LayerColumns (q : ℕ) (c : List (List ℕ)) : Type 0 where
  pub square : Square8 c
  pub each : (t : ℕ) → t < 8 → IsLayer 8 q (column 0 t c)

-- the layer points r of eight layers of digits c
pub record PointColumns (q : ℕ) (c : List (List ℕ)) (r : List (List ℤ)) : Type 0 where
  pub square : Square8 r
  pub each : (t : ℕ) → t < 8 → column (pos 0) t r ≡ layer_point8 q (column 0 t c)
