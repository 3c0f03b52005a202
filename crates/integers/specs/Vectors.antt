-- Vectors: lists of signed numbers, of any length. An entry past the end counts as 0.
use Rattle.std.specs.Prelude.{◌≡◌, ◌⊎◌, Bool, true, ◌&&◌, List, [], ◌∷◌, map, ℕ, zero, suc, ◌≤◌, ℤ, pos, neg_ℤ, nat_abs, ◌+ℤ◌, ◌*ℤ◌, length, get_or, replicate, ◌<ℤ◌}
use Rattle.std.specs.Int.Signed.{le_z}

abbrev pub square : ℤ → ℤ
square x = x *ℤ x

-- the entry i, counted from 0
abbrev pub «at» : List ℤ → ℕ → ℤ
«at» a i = get_or a i (pos 0)

-- n entries 0
abbrev pub zeros : ℕ → List ℤ
zeros n = replicate n (pos 0)

-- the sum of two vectors, entry by entry
abbrev pub add_v : List ℤ → List ℤ → List ℤ
add_v [] b = b
add_v (x ∷ a) [] = x ∷ a
add_v (x ∷ a) (y ∷ b) = (x +ℤ y) ∷ add_v a b

abbrev pub neg_v : List ℤ → List ℤ
neg_v a = map neg_ℤ a

abbrev pub sub_v : List ℤ → List ℤ → List ℤ
sub_v a b = add_v a (neg_v b)

-- k times a vector
abbrev pub scale_v : ℤ → List ℤ → List ℤ
scale_v k a = map (λ (x : ℤ). k *ℤ x) a

-- the sum of the entries
abbrev pub sum_v : List ℤ → ℤ
sum_v [] = pos 0
sum_v (x ∷ a) = x +ℤ sum_v a

-- the inner product
abbrev pub dot : List ℤ → List ℤ → ℤ
dot [] b = pos 0
dot (x ∷ a) [] = pos 0
dot (x ∷ a) (y ∷ b) = x *ℤ y +ℤ dot a b

-- the lexicographic order: the first entry that differs decides, and a shorter vector comes before its extensions
infix 4 ◌≤V◌
abbrev pub ◌≤V◌ : List ℤ → List ℤ → Type 0
[] ≤V b = Unit {0}
(x ∷ a) ≤V [] = ⊥
(x ∷ a) ≤V (y ∷ b) = (x <ℤ y) ⊎ ((x ≡ y) × (a ≤V b))

-- every entry is at most B in magnitude
abbrev pub Bounded : ℕ → List ℤ → Type 0
Bounded B a = (i : ℕ) → nat_abs («at» a i) ≤ B

-- n entries, each at most B in magnitude
pub record Sized (n B : ℕ) (a : List ℤ) : Type 0 where
  pub long : length a ≡ n
  pub small : Bounded B a

-- ---- whole numbers in a row

-- i, i + 1 .. i + n - 1
abbrev pub range : ℕ → ℕ → List ℕ
range i zero = []
range i (suc n) = i ∷ range (suc i) n

-- ---- tests

-- x lies from least to most
abbrev pub within : ℤ → ℤ → ℤ → Bool
within least most x = le_z least x && le_z x most

-- every entry is at most B in magnitude
abbrev pub small : ℕ → List ℤ → Bool
small B [] = true
small B (x ∷ a) = within (neg_ℤ (pos B)) (pos B) x && small B a
