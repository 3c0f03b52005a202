-- Words as numbers: digits taken one by one, their value kept under a cap, and what is left of the limits then.
use Rattle.std.specs.Prelude.{◌≡◌, refl, Bool, true, false, ◌&&◌, cond, List, [], ◌∷◌, ℕ, suc, ◌+◌, ◌*◌, ◌-◌, ◌<◌, ◌≤◌, min, eqb, leb, ℤ, pos, neg_ℤ, Some, None, length, get_or, drop}
use Rattle.std.proofs.Common.{sym, ◌∙◌, ap, arith, leb-true, eq-eqb, ne_eqb, drop-cons}
use Prim.Native.Char.{code}
use Rattle.std.proofs.Math.Decide.{dec_le}
use Rattle.std.proofs.lemmas.Bool.{lt-leb}
use Rattle.integers.specs.Laws.Tests.{and-true}
use Rattle.texts.specs.Answers.{cap, size_after, size_of, signed, number_told}
use Rattle.texts.specs.Text.{minus, is_digit, all_digits, value_after, has_minus, size_most, is_number, number_in}

-- a digit is from 0 to 9
pub digit-range : (b : ℕ) → is_digit b ≡ true → (code "0" ≤ b) × (b ≤ code "9")
digit-range b e = let t = and-true (leb (code "0") b) (leb b (code "9")) e in (leb-true (code "0") b t.0, leb-true b (code "9") t.1)

-- ---- the cap

cap-next : (v d : ℕ) → min (10 * min v cap + d) cap ≡ min (10 * v + d) cap
cap-next v d = omega arith

-- digits that follow a value that is kept under the cap
cap-after : (v : ℕ) (l : List ℕ) → min (value_after (min v cap) l) cap ≡ min (value_after v l) cap
cap-after v [] = omega arith
cap-after v (b ∷ l) = let d : ℕ = b - code "0" in
    sym (cap-after (10 * min v cap + d) l) ∙ ap (λ (w : ℕ). min (value_after w l) cap) (cap-next v d) ∙ cap-after (10 * v + d) l

-- one digit more, kept under the cap
pub size-next : (v : ℕ) (ds : List ℕ) (i : ℕ) → i < length ds → is_digit (get_or ds i 0) ≡ true
    → size_after v (drop i ds) ≡ size_after (min (10 * v + (get_or ds i 0 - code "0")) cap) (drop (suc i) ds)
size-next v ds i h e = let b : ℕ = get_or ds i 0 in let l : List ℕ = drop (suc i) ds in
    ap (size_after v) (drop-cons ds i 0 h) ∙ ap (λ (t : Bool). cond (t && all_digits l) (Some (min (value_after (10 * v + (b - code "0")) l) cap)) None) e
    ∙ ap (λ (n : ℕ). cond (all_digits l) (Some n) None) (sym (cap-after (10 * v + (b - code "0")) l))

-- or a byte that is none
pub size_none : (v : ℕ) (ds : List ℕ) (i : ℕ) → i < length ds → is_digit (get_or ds i 0) ≡ false → size_after v (drop i ds) ≡ None
size_none v ds i h e = let b : ℕ = get_or ds i 0 in let l : List ℕ = drop (suc i) ds in
    ap (size_after v) (drop-cons ds i 0 h) ∙ ap (λ (t : Bool). cond (t && all_digits l) (Some (min (value_after (10 * v + (b - code "0")) l) cap)) None) e

-- ---- the limits

-- a value under the cap is within a limit, and makes the same number, exactly where the whole value does
limit-same : (f : ℕ → ℤ) (v most : ℕ) → most < cap → cond (leb (min v cap) most) (Some (f (min v cap))) None ≡ cond (leb v most) (Some (f v)) None
limit-same f v most h = elim (dec_le v most) [
  | yes k ↦ ap (λ (n : ℕ). cond (leb n most) (Some (f n)) None) (least k)
  | no k ↦ ap (λ (t : Bool). cond t (Some (f (min v cap))) None) (lt-leb (min v cap) most (omega arith)) ∙ ap (λ (t : Bool). cond t (Some (f v)) None) (sym (lt-leb v most (omega arith)))
]
  where
    least : v ≤ most → min v cap ≡ v
    least k = omega arith

-- digits, after a minus or not, by the value under the cap
signed_same : (neg some all : Bool) (v : ℕ) → signed neg (cond some (cond all (Some (min v cap)) None) None) ≡ cond (some && (all && leb v (size_most neg))) (Some (cond neg (neg_ℤ (pos v)) (pos v))) None
signed_same true true true v = limit-same (λ (n : ℕ). neg_ℤ (pos n)) v (size_most true) (omega arith)
signed_same true true false v = refl
signed_same true false all v = refl
signed_same false true true v = limit-same pos v (size_most false) (omega arith)
signed_same false true false v = refl
signed_same false false all v = refl

-- a word is a number by its sign and by the size of its digits
pub number-told : (w : List ℕ) (neg : Bool) → has_minus w ≡ neg → signed neg (size_of (cond neg (drop 1 w) w)) ≡ number_told w
unfolding is_number number_in
number-told w neg e =
    let ds : Bool → List ℕ = λ t. cond t (drop 1 w) w in let v : Bool → ℕ = λ t. value_after 0 (ds t) in
    signed_same neg (leb 1 (length (ds neg))) (all_digits (ds neg)) (v neg)
    ∙ ap (λ (t : Bool). cond (leb 1 (length (ds t)) && (all_digits (ds t) && leb (v t) (size_most t))) (Some (cond t (neg_ℤ (pos (v t))) (pos (v t)))) None) (sym e)

minus-first : (w : List ℕ) (t : Bool) → 1 ≤ length w → eqb (get_or w 0 0) minus ≡ t → has_minus w ≡ t
minus-first [] t h e = absurd (omega arith)
minus-first (b ∷ w) t h e = e

module _ (w : List ℕ) (some : 1 ≤ length w) where
  pub number-minus : get_or w 0 0 ≡ minus → signed true (size_of (drop 1 w)) ≡ number_told w
  number-minus e = number-told w true (minus-first w true some (eq-eqb (get_or w 0 0) minus e))

  pub number-plain : (get_or w 0 0 ≡ minus → ⊥) → signed false (size_of w) ≡ number_told w
  number-plain e = number-told w false (minus-first w false some (ne_eqb (get_or w 0 0) minus e))
