-- Decimal digits: a number is written with its last digit after the digits of a tenth of it, and what is written is read back.
use Rattle.std.specs.Prelude.{◌≡◌, refl, Bool, true, false, ◌&&◌, cond, List, [], ◌∷◌, ◌++◌, ℕ, zero, suc, ◌+◌, ◌*◌, ◌/◌, ◌%◌, ◌-◌, ◌^◌, ◌<◌, ◌≤◌, leb, ℤ, pos, negsuc, neg_ℤ, length, drop}
use Rattle.std.proofs.Common.{sym, ◌∙◌, ap, ap₂, subst, arith, le-leb, lt-ltb, le-ltb, ne_eqb, length-append, SFits}
use Prim.Native.Char.{code}
use Rattle.std.proofs.Math.Decide.{dec_le}
use Rattle.std.specs.Int.{w32}
use Rattle.integers.specs.Laws.Tests.{and-true}
use Rattle.texts.specs.Laws.Numbers.{digit-range}
use Rattle.listing.specs.Listing.{digit_byte, decimal_in, decimal, written}
use Rattle.texts.specs.Text.{minus, is_digit, all_digits, value_after, has_minus, size_most, is_number, number_in}

-- ---- one digit, or more

small-in : (k n : ℕ) → n < 10 → decimal_in k n ≡ digit_byte n ∷ []
small-in zero n h = refl
small-in (suc k) n h = ap (λ (t : Bool). cond t (digit_byte n ∷ []) (decimal_in k (n / 10) ++ (digit_byte (n % 10) ∷ []))) (lt-ltb n 10 h)

large-in : (k n : ℕ) → 10 ≤ n → decimal_in (suc k) n ≡ decimal_in k (n / 10) ++ (digit_byte (n % 10) ∷ [])
large-in k n h = ap (λ (t : Bool). cond t (digit_byte n ∷ []) (decimal_in k (n / 10) ++ (digit_byte (n % 10) ∷ []))) (le-ltb n 10 h)

-- how many digits there may be at most does not matter
same_in : (k j n : ℕ) → n ≤ k → n ≤ j → decimal_in k n ≡ decimal_in j n
same_in zero j n h l = sym (small-in j n (omega arith))
same_in (suc k) zero n h l = small-in (suc k) n (omega arith)
same_in (suc k) (suc j) n h l = elim (dec_le 10 n) [
  | yes m ↦ large-in k n m ∙ ap (λ (d : List ℕ). d ++ (digit_byte (n % 10) ∷ [])) (same_in k j (n / 10) (omega arith) (omega arith)) ∙ sym (large-in j n m)
  | no m ↦ small-in (suc k) n (omega arith) ∙ sym (small-in (suc j) n (omega arith))
]

pub decimal-one : (n : ℕ) → n < 10 → decimal n ≡ digit_byte n ∷ []
unfolding decimal
decimal-one n h = small-in n n h

pub decimal-more : (n : ℕ) → 10 ≤ n → decimal n ≡ decimal (n / 10) ++ (digit_byte (n % 10) ∷ [])
unfolding decimal
decimal-more zero h = absurd (omega arith)
decimal-more (suc k) h = large-in k (suc k) h ∙ ap (λ (d : List ℕ). d ++ (digit_byte (suc k % 10) ∷ [])) (same_in k (suc k / 10) (suc k / 10) (omega arith) (omega arith))

pub decimal-longer : (n : ℕ) → 10 ≤ n → length (decimal n) ≡ length (decimal (n / 10)) + 1
decimal-longer n h = simp length-append at (ap length (decimal-more n h))

-- what holds of one digit, and of digits with one more, holds of all
by_digits : (P : ℕ → List ℕ → Type 0) → ((n : ℕ) → n < 10 → P n (digit_byte n ∷ [])) → ((n : ℕ) (l : List ℕ) → 10 ≤ n → P (n / 10) l → P n (l ++ (digit_byte (n % 10) ∷ []))) → (n : ℕ) → P n (decimal n)
unfolding decimal
by_digits P one more n = go n n (omega arith)
  where
    go : (k n : ℕ) → n ≤ k → P n (decimal_in k n)
    go zero n h = one n (omega arith)
    go (suc k) n h = step (go k (n / 10)) (dec_le 10 n)
      where
        step : (n / 10 ≤ k → P (n / 10) (decimal_in k (n / 10))) → Dec (10 ≤ n) → P n (decimal_in (suc k) n)
        step rest (yes m) = subst (P n) (sym (large-in k n m)) (more n (decimal_in k (n / 10)) m (rest (omega arith)))
        step rest (no m) = subst (P n) (sym (small-in (suc k) n (omega arith))) (one n (omega arith))

-- ---- what is written is read back

-- digits of the value n
pub record IsDecimal (n : ℕ) (l : List ℕ) : Type 0 where
  pub some : 1 ≤ length l
  pub digits : all_digits l ≡ true
  pub value : value_after 0 l ≡ n

digit-is : (d : ℕ) → d < 10 → is_digit (digit_byte d) ≡ true
digit-is d h = ap₂ ◌&&◌ (le-leb (code "0") (digit_byte d) (omega arith)) (le-leb (digit_byte d) (code "9") (omega arith))

digits_more : (l : List ℕ) (b : ℕ) → all_digits l ≡ true → is_digit b ≡ true → all_digits (l ++ (b ∷ [])) ≡ true
digits_more [] b e f = ap (λ (t : Bool). t && true) f
digits_more (x ∷ l) b e f = let t = and-true (is_digit x) (all_digits l) e in ap₂ ◌&&◌ t.0 (digits_more l b t.1 f)

value-more : (v : ℕ) (l : List ℕ) (b : ℕ) → value_after v (l ++ (b ∷ [])) ≡ 10 * value_after v l + (b - code "0")
value-more v [] b = refl
value-more v (x ∷ l) b = value-more (10 * v + (x - code "0")) l b

pub decimal-is : (n : ℕ) → IsDecimal n (decimal n)
decimal-is = by_digits IsDecimal
    (λ n h. record { some = omega arith; digits = ap (λ (t : Bool). t && true) (digit-is n h); value = omega arith })
    (λ n l h d. record {
      some = simp length-append (omega arith);
      digits = digits_more l (digit_byte (n % 10)) d.digits (digit-is (n % 10) (omega arith));
      value = value-more 0 l (digit_byte (n % 10)) ∙ omega (arith, d.value);
    })

-- digits begin with no minus
digits-plain : (l : List ℕ) → all_digits l ≡ true → has_minus l ≡ false
digits-plain [] e = refl
digits-plain (b ∷ l) e = let t = and-true (is_digit b) (all_digits l) e in ne_eqb b minus (λ m. absurd (omega (arith, (digit-range b t.0).0)))

-- a word of digits, maybe after a minus, within its limit
is-number : (w : List ℕ) (neg : Bool) (n : ℕ) → has_minus w ≡ neg → IsDecimal n (cond neg (drop 1 w) w) → n ≤ size_most neg → (is_number w ≡ true) × (number_in w ≡ cond neg (neg_ℤ (pos n)) (pos n))
unfolding is_number number_in
is-number w neg n e d h =
    let ds : Bool → List ℕ = λ t. cond t (drop 1 w) w in (
      ap (λ (t : Bool). leb 1 (length (ds t)) && (all_digits (ds t) && leb (value_after 0 (ds t)) (size_most t))) e
          ∙ ap₂ ◌&&◌ (le-leb 1 (length (ds neg)) d.some) (ap₂ ◌&&◌ d.digits (le-leb (value_after 0 (ds neg)) (size_most neg) (omega (arith, d.value)))),
      ap (λ (t : Bool). cond t (neg_ℤ (pos (value_after 0 (ds t)))) (pos (value_after 0 (ds t)))) e ∙ ap (λ (v : ℕ). cond neg (neg_ℤ (pos v)) (pos v)) d.value,
    )

-- every number of 32 bits, as it is written, is a number, and that one
pub number_read : (z : ℤ) → SFits w32 z → (is_number (written z) ≡ true) × (number_in (written z) ≡ z)
number_read (pos n) h = let d = decimal-is n in is-number (decimal n) false n (digits-plain (decimal n) d.digits) d (omega (arith, h.sfits))
number_read (negsuc n) h = is-number (minus ∷ decimal (suc n)) true (suc n) refl (decimal-is (suc n)) (omega (arith, h.sfits))

-- ---- lengths

-- a number below 10^k has at most k digits
pub decimal-long : (k n : ℕ) → n < 10 ^ suc k → length (decimal n) ≤ suc k
decimal-long zero n h = omega (arith, ap length (decimal-one n h))
decimal-long (suc k) n h = elim (dec_le 10 n) [
  | yes m ↦ omega (arith, decimal-longer n m, decimal-long k (n / 10) (omega arith))
  | no m ↦ omega (arith, ap length (decimal-one n (omega arith)))
]
