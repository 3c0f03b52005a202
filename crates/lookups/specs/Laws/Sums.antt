-- Sums over layers as code makes them, from the top layer down: q times what the layers above gave, and one layer more.
use Rattle.std.specs.Prelude.{◌≡◌, refl, List, [], ◌∷◌, map, ℕ, zero, suc, ◌+◌, ◌*◌, ◌-◌, ◌^◌, ◌<◌, ◌≤◌, ℤ, pos, negsuc, nat_abs, ◌+ℤ◌, ◌*ℤ◌, length, take, drop}
use Rattle.std.proofs.Common.{sym, ◌∙◌, ap, ap₂, mul-le-mul, le_refl, le_trans, arith, drop_of_length-le, drop-cons}
use Rattle.std.proofs.Math.Nat.{pow-zero, pow-succ', pow-le-pow_right}
use Rattle.std.proofs.Math.IntN.{*ℤ-zero}
use Rattle.std.proofs.lemmas.List.{length-map}
use Rattle.std.specs.Int.Signed.{mag}
use Rattle.integers.specs.Laws.Difference.{ints, by_d₂}
use Rattle.integers.specs.Laws.Loops.{map_at}
use Rattle.integers.specs.Laws.Sizes.{abs-add, abs-mul}
use Rattle.integers.specs.Vectors.{«at»}
use Rattle.layers.specs.Digits.{IsLayer, IsLayers, cut}
use Rattle.layers.specs.Laws.Weights.{layer_sum-up}
use Rattle.layers.specs.Sums.{layer_sum, pair_sum}
use Rattle.records.specs.Eight.Codes.{step_of}
use Rattle.records.specs.Laws.Parts.{cut-long, cut_at}
use Rattle.refusals.specs.Limits.{m_most}
use Rattle.scores.specs.Scores.{total}
use Rattle.lookups.specs.Scoring.{block_pair_by, block_query_by}

-- the first of a list, q times the second, q^2 times the third, and so on, together
abbrev pub power_sum : ℕ → List ℤ → ℤ
power_sum q [] = pos 0
power_sum q (x ∷ l) = x +ℤ pos q *ℤ power_sum q l

once : (x y : ℤ) → pos 1 *ℤ x +ℤ y ≡ x +ℤ y
once = by_d₂ _ λ _ _ _ _. simp ints (omega arith)

none : (q : ℕ) → pos 0 ≡ pos q *ℤ pos 0
none q = simp ints (omega arith)

both : (q : ℕ) (x y : ℤ) → pos q *ℤ x +ℤ pos q *ℤ y ≡ pos q *ℤ (x +ℤ y)
both q = by_d₂ _ λ _ _ _ _. simp ints (omega arith)

-- sums over layers are such sums
module _ (q : ℕ) where
  -- over those of one block
  pub layer-power : (f : List ℕ → ℤ) (l : List (List ℕ)) → layer_sum q 0 f l ≡ power_sum q (map f l)
  layer-power f [] = refl
  layer-power f (ds ∷ l) =
      ap₂ (λ (w : ℕ) (t : ℤ). pos w *ℤ f ds +ℤ t) (pow-zero q) (layer_sum-up q f 0 l ∙ ap (λ (t : ℤ). pos q *ℤ t) (layer-power f l)) ∙ once (f ds) (pos q *ℤ power_sum q (map f l))

  module _ (f : List ℕ → List ℕ → ℤ) (b : List (List ℕ)) where
    pair_sum-up : (i : ℕ) (a : List (List ℕ)) → pair_sum q (suc i) f a b ≡ pos q *ℤ pair_sum q i f a b
    pair_sum-up i [] = none q
    pair_sum-up i (ds ∷ a) = ap₂ ◌+ℤ◌ (layer_sum-up q (f ds) i b) (pair_sum-up (suc i) a) ∙ both q (layer_sum q i (f ds) b) (pair_sum q (suc i) f a b)

    -- over each of one with each of another
    pub pair-power : (a : List (List ℕ)) → pair_sum q 0 f a b ≡ power_sum q (map (λ (d : List ℕ). power_sum q (map (f d) b)) a)
    pair-power [] = refl
    pair-power (ds ∷ a) = ap₂ ◌+ℤ◌ (layer-power (f ds) b) (pair_sum-up 0 a ∙ ap (λ (t : ℤ). pos q *ℤ t) (pair-power a))

-- sums of equal terms over layers are equal
module _ (q : ℕ) where
  -- over those of one block
  pub layer-same : (f g : List ℕ → ℤ) → ((d : List ℕ) → IsLayer 8 q d → f d ≡ g d) → (i m : ℕ) (l : List (List ℕ)) → IsLayers 8 q m l → layer_sum q i f l ≡ layer_sum q i g l
  layer-same f g e i m [] h = refl
  layer-same f g e i zero (d ∷ l) h = absurd h
  layer-same f g e i (suc m) (d ∷ l) h = ap₂ (λ (x t : ℤ). pos (q ^ i) *ℤ x +ℤ t) (e d h.0) (layer-same f g e (suc i) m l h.1)

  -- over each of one with each of another
  pub pair_same : (f g : List ℕ → List ℕ → ℤ) → ((d e : List ℕ) → IsLayer 8 q d → IsLayer 8 q e → f d e ≡ g d e) → (i m : ℕ) (a b : List (List ℕ)) → IsLayers 8 q m a → (m' : ℕ) → IsLayers 8 q m' b
      → pair_sum q i f a b ≡ pair_sum q i g a b
  pair_same f g e i m [] b h m' k = refl
  pair_same f g e i zero (d ∷ a) b h m' k = absurd h
  pair_same f g e i (suc m) (d ∷ a) b h m' k = ap₂ ◌+ℤ◌ (layer-same (f d) (g d) (λ x. e d x h.0) i m' b k) (pair_same f g e (suc i) m a b h.1 m' k)

-- a sum made from the last term to the first: it holds those from i on, and stays below a power of q times the largest term
pub record Summed (q B : ℕ) (l : List ℤ) (i : ℕ) (z : ℤ) : Type 0 where
  pub within : i ≤ length l
  pub is : z ≡ power_sum q (drop i l)
  pub small : nat_abs z + B ≤ B * q ^ (length l - i)

module _ (q B : ℕ) (l : List ℤ) where
  -- before the last term it is 0
  pub summed-none : (n : ℕ) → length l ≡ n → Summed q B l n (pos 0)
  summed-none n h = let e : length l - n ≡ 0 = omega arith in
      record { within = omega arith; is = ap (power_sum q) (sym (drop_of_length-le l {i = n} (omega arith))); small = rw (e, pow-zero q) (omega arith) }

  module _ (i : ℕ) (z : ℤ) (s : Summed q B l i z) where
    -- the term before i is added
    pub summed-more : 2 ≤ q → 0 < i → (x : ℤ) → x ≡ «at» l (i - 1) → nat_abs x ≤ B → Summed q B l (i - 1) (x +ℤ pos q *ℤ z)
    summed-more two h x e b = let j : ℕ = i - 1 in let up : suc j ≡ i = omega arith in let k : ℕ = length l - i in let more : length l - j ≡ suc k = omega (arith, s.within) in
        record {
          within = omega (arith, s.within);
          is = ap₂ (λ (x z : ℤ). x +ℤ pos q *ℤ z) e (s.is ∙ ap (λ (n : ℕ). power_sum q (drop n l)) (sym up)) ∙ sym (ap (power_sum q) (drop-cons l j (pos 0) (omega (arith, s.within))));
          small = rw (more, pow-succ' q k) (omega (arith, s.small, abs-add x (pos q *ℤ z), abs-mul (pos q) z, mul-le-mul (le_refl q) s.small, mul-le-mul two (le_refl B)));
        }

    -- it stays at most B P where q^n is at most P, n the number of terms
    pub summed-most : 0 < q → (P : ℕ) → q ^ length l ≤ P → nat_abs z ≤ B * P
    summed-most q> P h = let k : q ^ (length l - i) ≤ q ^ length l = pow-le-pow_right q> (omega arith) in omega (arith, s.small, mul-le-mul (le_refl B) (le_trans k h))

    -- after the first term it holds all
    pub summed-all : i ≡ 0 → z ≡ power_sum q l
    summed-all e = s.is ∙ ap (λ (n : ℕ). power_sum q (drop n l)) e

-- the terms of m layers
module _ (g : List ℕ → ℤ) (m : ℕ) (ds : List ℕ) where
  abbrev pub terms : List ℤ
  terms = map g (cut 8 m ds)

  -- one for each
  pub terms-long : length terms ≡ m
  terms-long = length-map (cut 8 m ds) g ∙ cut-long 8 m ds

  -- that of layer j
  pub terms-at : (j : ℕ) → j < m → «at» terms j ≡ g (take 8 (drop (8 * j) ds))
  terms-at j h = map_at g (cut 8 m ds) j [] (pos 0) (omega (arith, cut-long 8 m ds)) ∙ ap g (cut_at 8 m j ds h)

-- for q = 2 and as many terms as a block has layers
pub two-power : (n : ℕ) → n ≤ m_most → 2 ^ n ≤ 2 ^ m_most
two-power n h = let two : 0 < 2 = omega arith in pow-le-pow_right two h

-- a number of layers that is none of 0 to 3 is the most
pub last-layers : (m : ℕ) → m ≤ m_most → (m ≡ 0 → ⊥) → (m ≡ 1 → ⊥) → (m ≡ 2 → ⊥) → (m ≡ 3 → ⊥) → m ≡ 4
last-layers m most f g h k = omega arith

-- a number that was read from n bits, the sign aside, is at most 2^n in magnitude
pub read_small : (B : ℕ) (x : ℤ) → mag x < B → nat_abs x ≤ B
read_small B (pos n) h = omega arith
read_small B (negsuc n) h = omega arith

-- ---- blocks of no layers

total-none : {A B : Type 0} (f : A → B → ℤ) → ((x : A) (y : B) → f x y ≡ pos 0) → (k : List A) (l : List B) → total f k l ≡ pos 0
total-none f h [] l = refl
total-none f h (x ∷ k) [] = refl
total-none f h (x ∷ k) (y ∷ l) = ap₂ ◌+ℤ◌ (h x y) (total-none f h k l)

-- they have the score 0 with others
pub pair-none : (steps steps' t : List ℤ) (k l : List (List ℕ)) → total (block_pair_by 0 steps steps' t) k l ≡ pos 0
unfolding block_pair_by
pair-none steps steps' t = total-none (block_pair_by 0 steps steps' t) (λ b b'. *ℤ-zero (step_of steps b *ℤ step_of steps' b'))

-- and with a query
pub query-none : (q : ℕ) (steps : List ℤ) (k : List (List ℤ)) (l : List (List ℕ)) → total (block_query_by q 0 steps) k l ≡ pos 0
unfolding block_query_by
query-none q steps = total-none (block_query_by q 0 steps) (λ p b. *ℤ-zero (step_of steps b))
