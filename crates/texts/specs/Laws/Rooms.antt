-- What is put into lent room from a place on, part after part.
use Rattle.std.specs.Prelude.{◌≡◌, refl, List, [], ◌∷◌, ◌++◌, ℕ, suc, ◌+◌, ◌<◌, ◌≤◌, length, get_or, take, drop, set}
use Rattle.std.proofs.Common.{sym, ◌∙◌, ap, ap₂, arith, take_at}
use Rattle.std.proofs.Math.ListN.{get_or-append}
use Rattle.std.proofs.lemmas.List.Edits.{sets, sets-eq}

module _ {A : Type 0} where
  -- b after a
  pub sets-append : (o : List A) (i : ℕ) (a b : List A) → sets (sets o i a) (i + length a) b ≡ sets o i (a ++ b)
  sets-append o i [] b = let e : i + 0 ≡ i = omega arith in ap (λ (j : ℕ). sets o j b) e
  sets-append o i (x ∷ a) b = let e : i + suc (length a) ≡ suc i + length a = omega arith in
      ap (λ (j : ℕ). sets (sets (set o i x) (suc i) a) j b) e ∙ sets-append (set o i x) (suc i) a b

  -- a is put, in x, up to the place j; what is left gives the same room
  pub put_next : (o : List A) (i : ℕ) (a b x : List A) (j : ℕ) → x ≡ sets o i a → j ≡ i + length a → sets o i (a ++ b) ≡ sets x j b
  put_next o i a b x j e h = sym (sets-append o i a b) ∙ ap₂ (λ (x : List A) (j : ℕ). sets x j b) (sym e) (sym h)

  -- one entry after a
  pub sets_more : (o a : List A) (i j : ℕ) (z : A) → j ≡ i + length a → set (sets o i a) j z ≡ sets o i (a ++ (z ∷ []))
  sets_more o a i j z e = ap (λ (j : ℕ). set (sets o i a) j z) e ∙ sets-append o i a (z ∷ [])

  -- at the front: the rest is as found
  pub sets-front : (o a : List A) → length a ≤ length o → sets o 0 a ≡ a ++ drop (length a) o
  sets-front o a h = let z : 0 + length a ≡ length a = omega arith in sets-eq a o 0 (omega arith) ∙ ap (λ (j : ℕ). a ++ drop j o) z

  pub take-front : (o a : List A) → length a ≤ length o → take (length a) (sets o 0 a) ≡ a
  take-front o a h = ap (take (length a)) (sets-front o a h) ∙ take_at a (drop (length a) o) (length a) refl

  pub front_at : (o a : List A) (i : ℕ) (d : A) → length a ≤ length o → i < length a → get_or (sets o 0 a) i d ≡ get_or a i d
  front_at o a i d h k = ap (λ (l : List A). get_or l i d) (sets-front o a h) ∙ get_or-append a (drop (length a) o) d i k
