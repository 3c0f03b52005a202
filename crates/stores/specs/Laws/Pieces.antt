-- Pieces of a store: the first and the rest, one after the other.
use Rattle.std.specs.Prelude.{◌≡◌, List, [], ◌∷◌, ℕ, suc, ◌+◌, ◌*◌, ◌-◌, ◌/◌, ◌<◌, ◌≤◌, length, take, drop, Ok}
use Rattle.std.proofs.Common.{sym, ◌∙◌, ap, arith, length-drop, drop-drop}
use Rattle.std.proofs.Math.Decide.{dec_le}
use Rattle.std.proofs.Math.Nat.{div-eq_of_lt, add-div_right, mul-add-div, lt-mul-div-succ}
use Rattle.layers.specs.Digits.{cut}
use Rattle.records.specs.Eight.Codes.{code_length}
use Rattle.refusals.specs.Verdicts.{first_refusal}
use Rattle.scores.specs.Eight.Scores.{check_code}
use Rattle.stores.specs.Stores.{pieces, check_records}

-- how many pieces of n bytes there are
module _ (n : ℕ) (n> : 0 < n) where
  abbrev pub count : ℕ → ℕ
  count long = (long + (n - 1)) / n

  none : count 0 ≡ 0
  none = div-eq_of_lt (omega arith)

  next : (long : ℕ) → 0 < long → count long ≡ suc (count (long - n))
  next long h = elim (dec_le n long) [
    | yes k ↦ let e : long + (n - 1) ≡ long - n + (n - 1) + n = omega arith in ap (λ (i : ℕ). i / n) e ∙ add-div_right (long - n + (n - 1)) n> ∙ one
    | no k ↦ let e : long + (n - 1) ≡ long - 1 + n = omega arith in let z : long - n + (n - 1) ≡ n - 1 = omega arith in
        ap (λ (i : ℕ). i / n) e ∙ add-div_right (long - 1) n> ∙ one ∙ ap suc (div-eq_of_lt (omega arith) ∙ sym (ap (λ (i : ℕ). i / n) z ∙ div-eq_of_lt (omega arith)))
  ]
    where
      one : {i : ℕ} → i + 1 ≡ suc i
      one = omega arith

  -- all of a store is in them
  pub pieces-hold : (long : ℕ) → long ≤ n * count long
  pieces-hold long = omega (arith, lt-mul-div-succ (long + (n - 1)) n>)

  -- where it is whole pieces, this is their number
  pub pieces_whole : (long k : ℕ) → long ≡ n * k → count long ≡ k
  pieces_whole long k e = let z : k + 0 ≡ k = omega arith in ap count e ∙ mul-add-div n> k (n - 1) ∙ ap (λ (i : ℕ). k + i) (div-eq_of_lt (omega arith)) ∙ z

  pub pieces_none : (f : List ℕ) → length f ≡ 0 → pieces n f ≡ []
  pieces_none f e = ap (λ (i : ℕ). cut n i f) (ap count e ∙ none)

  pub pieces-next : (f : List ℕ) → 0 < length f → pieces n f ≡ take n f ∷ pieces n (drop n f)
  pieces-next f h = let e : length f - n ≡ length (drop n f) = sym (length-drop n f) in
      ap (λ (i : ℕ). cut n i f) (next (length f) h) ∙ ap (λ (i : ℕ). take n f ∷ cut n (count i) (drop n f)) e

-- records from the byte `at` on: the first, then those after it
module _ (steps q m K : ℕ) (b : List ℕ) where
  abbrev n : ℕ
  n = code_length m K

  positive : 0 < n
  positive = omega arith

  pub records-opened : (at : ℕ) → at < length b → check_records steps q m K at (pieces n (drop at b))
      ≡ first_refusal (check_code steps q m K K at (at + 4) (take n (drop at b)) ∷ check_records steps q m K (at + n) (pieces n (drop (at + n) b)) ∷ [])
  records-opened at h =
      ap (check_records steps q m K at) (pieces-next n positive (drop at b) (simp length-drop (omega arith)))
      ∙ ap (λ (f : List ℕ). first_refusal (check_code steps q m K K at (at + 4) (take n (drop at b)) ∷ check_records steps q m K (at + n) (pieces n f) ∷ [])) (drop-drop n at b)

  pub records-done : (at : ℕ) → length b ≤ at → check_records steps q m K at (pieces n (drop at b)) ≡ Ok tt
  records-done at h = ap (check_records steps q m K at) (pieces_none n positive (drop at b) (simp length-drop (omega arith)))
