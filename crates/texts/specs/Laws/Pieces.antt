-- A text is walked piece by piece: the first piece, and then those after the mark that ends it.
use Rattle.std.specs.Prelude.{◌≡◌, refl, Bool, true, false, cond, List, [], ◌∷◌, ℕ, zero, suc, ◌+◌, ◌-◌, ◌<◌, ◌≤◌, Option, Some, None, eqb, not, position, unwrap_or, ◌==◌, length, get_or, take, drop}
use Rattle.std.proofs.Common.{◌∙◌, ap, ap₂, arith, length-drop, drop_of_length-le, drop-cons, drop-drop, le-ltb, lt-ltb}
use Rattle.std.proofs.Math.Decide.{dec_le}
use Rattle.std.specs.List.{position_or_len}
use Rattle.texts.specs.Answers.{piece_length}
use Rattle.texts.specs.Text.{led, pieces, full}

module _ (mark : ℕ) where
  -- a piece is no longer than its text
  piece-short : (t : List ℕ) → piece_length mark t ≤ length t
  piece-short [] = omega arith
  piece-short (b ∷ t) = go (eqb b mark) (piece-short t)
    where
      go : (e : Bool) → piece_length mark t ≤ length t → cond e 0 (suc (piece_length mark t)) ≤ suc (length t)
      go true h = omega arith
      go false h = omega arith

  -- and it ends at the first mark, or with the text
  piece-place : (t : List ℕ) → position_or_len (λ b. b == mark) t ≡ piece_length mark t
  piece-place [] = refl
  piece-place (b ∷ t) = go (eqb b mark) (piece-place t)
    where
      go : (e : Bool) → position_or_len (λ b. b == mark) t ≡ piece_length mark t → cond (not e) (1 + position_or_len (λ b. b == mark) t) 0 ≡ cond e 0 (suc (piece_length mark t))
      go true h = refl
      go false h = omega (arith, h)

  placed : (t : List ℕ) → unwrap_or (position (λ b. b == mark) t) (length t) ≡ piece_length mark t
  placed t = elim (dec_le (length t) (piece_length mark t)) [
    | yes h ↦ ap (λ (b : Bool). unwrap_or (cond b (Some (position_or_len (λ b. b == mark) t)) None) (length t)) (le-ltb (position_or_len (λ b. b == mark) t) (length t) (omega (arith, piece-place t))) ∙ omega (arith, piece-short t)
    | no h ↦ ap (λ (b : Bool). unwrap_or (cond b (Some (position_or_len (λ b. b == mark) t)) None) (length t)) (lt-ltb (position_or_len (λ b. b == mark) t) (length t) (omega (arith, piece-place t))) ∙ piece-place t
  ]

  pub piece-placed : (t : List ℕ) {o : Option ℕ} {n : ℕ} → o ≡ position (λ b. b == mark) t → n ≡ unwrap_or o (length t) → n ≡ piece_length mark t
  piece-placed t h e = e ∙ ap (λ (o : Option ℕ). unwrap_or o (length t)) h ∙ placed t

  pub piece-within : (t : List ℕ) (i : ℕ) → i ≤ length t → i + piece_length mark (drop i t) ≤ length t
  piece-within t i h = omega (arith, piece-short (drop i t), length-drop i t)

  -- nor is any other
  pub pieces-short : (t : List ℕ) (i : ℕ) → length (get_or (pieces mark t) i []) ≤ length t
  pieces-short [] i = omega arith
  pieces-short (b ∷ t) i = go (eqb b mark) (pieces mark t) i (λ j. pieces-short t j)
    where
      go : (e : Bool) (l : List (List ℕ)) (i : ℕ) → ((j : ℕ) → length (get_or l j []) ≤ length t) → length (get_or (led e b l) i []) ≤ suc (length t)
      go true l zero h = omega arith
      go true l (suc i) h = omega (arith, h i)
      go false [] zero h = omega arith
      go false [] (suc i) h = omega arith
      go false (p ∷ l) zero h = omega (arith, h 0)
      go false (p ∷ l) (suc i) h = omega (arith, h (suc i))

  -- a piece ends at i or goes on past i
  pub piece-next : (t : List ℕ) (i : ℕ) → i < length t → piece_length mark (drop i t) ≡ cond (eqb (get_or t i 0) mark) 0 (suc (piece_length mark (drop (suc i) t)))
  piece-next t i h = ap (piece_length mark) (drop-cons t i 0 h)

  -- a text that is not empty
  pieces-opened : (t : List ℕ) → 1 ≤ length t → pieces mark t ≡ take (piece_length mark t) t ∷ pieces mark (drop (suc (piece_length mark t)) t)
  pieces-opened [] h = absurd (omega arith)
  pieces-opened (b ∷ t) h = go (eqb b mark) t (λ k. pieces-opened t k)
    where
      go : (e : Bool) (t : List ℕ) → (1 ≤ length t → pieces mark t ≡ take (piece_length mark t) t ∷ pieces mark (drop (suc (piece_length mark t)) t))
          → led e b (pieces mark t) ≡ take (cond e 0 (suc (piece_length mark t))) (b ∷ t) ∷ pieces mark (drop (suc (cond e 0 (suc (piece_length mark t)))) (b ∷ t))
      go true t k = refl
      go false [] k = refl
      go false (x ∷ t) k = ap (led false b) (k (omega arith))

  -- the pieces from i on, the first of which ends at e
  module _ (t : List ℕ) (i e : ℕ) (ends : e ≡ i + piece_length mark (drop i t)) where
    pub pieces-next : i < length t → pieces mark (drop i t) ≡ take (e - i) (drop i t) ∷ pieces mark (drop (e + 1) t)
    pieces-next h = let n : ℕ = piece_length mark (drop i t) in let here : n ≡ e - i = omega arith in let next : i + suc n ≡ e + 1 = omega arith in
        pieces-opened (drop i t) (omega (arith, length-drop i t))
        ∙ ap₂ (λ (k : ℕ) (r : List ℕ). take k (drop i t) ∷ pieces mark r) here (drop-drop (suc n) i t ∙ ap (λ (j : ℕ). drop j t) next)

    pub pieces-some : i < length t → 1 ≤ length (pieces mark (drop i t))
    pieces-some h = omega (arith, ap length (pieces-next h))

    -- nothing follows e but its mark
    pub pieces-last : length t ≤ e + 1 → length (pieces mark (drop i t)) ≤ 1
    pieces-last h = elim (dec_le (length t) i) [
      | yes k ↦ omega (arith, ap (λ (r : List ℕ). length (pieces mark r)) (drop_of_length-le t {i = i} k))
      | no k ↦ omega (arith, ap length (pieces-next (omega arith)), ap (λ (r : List ℕ). length (pieces mark r)) (drop_of_length-le t {i = e + 1} h))
    ]

-- an empty piece is no word
pub full-empty : (p : List ℕ) (l : List (List ℕ)) → length p ≡ 0 → full (p ∷ l) ≡ full l
full-empty [] l h = refl
full-empty (b ∷ p) l h = absurd (omega arith)

-- and another is
pub full-next : (p : List ℕ) (l : List (List ℕ)) → 1 ≤ length p → full (p ∷ l) ≡ p ∷ full l
full-next [] l h = absurd (omega arith)
full-next (b ∷ p) l h = refl
