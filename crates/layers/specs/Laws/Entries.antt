-- Entry numbers: a layer's is below q^n, and its digits are the layer; a table of f at 0, 1, .. holds f i at i.
use Rattle.std.specs.Prelude.{◌≡◌, refl, List, [], ◌∷◌, ◌++◌, map, ℕ, zero, suc, ◌+◌, ◌*◌, ◌/◌, ◌%◌, ◌^◌, ◌<◌, ◌≤◌, ℤ, length, get_or, take, drop}
use Rattle.std.proofs.Common.{sym, ◌∙◌, ap, ap₂, mul-le-mul, le_refl, mod-lt, mod-eq_of_lt, arith, length-append, length-drop, take-append-drop, pow-add, take_at, drop_at, drop-cons, drop-drop, take_all, length-take-le}
use Rattle.std.proofs.Math.Nat.{suc_inj, div-eq_of_lt, add-mul-div_left, add-mul-mod_self_left, pow-zero, pow-succ'}
use Rattle.integers.specs.Vectors.{range}
use Rattle.layers.specs.Digits.{Below, IsLayer, joined, entry_of, powers, digits_of}

pub entry_of-less : (q : ℕ) (ds : List ℕ) → Below q ds → entry_of q ds < q ^ length ds
entry_of-less q [] h = rw (pow-zero q) (omega arith)
entry_of-less q (d ∷ ds) h = rw (pow-succ' q (length ds)) (omega (arith, h.0, mul-le-mul (le_refl q) (entry_of-less q ds h.1)))

-- ---- a layer's number in two halves, each gathered by one product

entry_of-append : (q : ℕ) (a b : List ℕ) → entry_of q (a ++ b) ≡ entry_of q a + q ^ length a * entry_of q b
entry_of-append q [] b = rw (pow-zero q) (omega arith)
entry_of-append q (d ∷ a) b = rw (pow-succ' q (length a)) (omega (arith, ap (λ (t : ℕ). q * t) (entry_of-append q a b)))

pub pow-two : (q : ℕ) → q ^ 2 ≡ q * q
pow-two q = pow-succ' q 1 ∙ ap (λ (t : ℕ). q * t) (pow-succ' q 0 ∙ ap (λ (t : ℕ). q * t) (pow-zero q) ∙ omega arith)

pub pow-four : (q : ℕ) → q ^ 4 ≡ q * q * (q * q)
pow-four q = pow-add q 2 2 ∙ ap₂ ◌*◌ (pow-two q) (pow-two q)

pub entry_of-halves : (q : ℕ) (ds : List ℕ) → length ds ≡ 8 → entry_of q (take 4 (drop 0 ds)) + q * q * q * q * entry_of q (take 4 (drop 4 ds)) ≡ entry_of q ds
entry_of-halves q ds h =
    let f : q ^ length (take 4 ds) ≡ q * q * q * q = ap (λ (n : ℕ). q ^ n) (length-take-le 4 ds (omega arith)) ∙ pow-four q ∙ omega arith in
    ap₂ (λ (w : ℕ) (b : List ℕ). entry_of q (take 4 ds) + w * entry_of q b) (sym f) (take_all 4 (drop 4 ds) (simp length-drop (omega arith)))
    ∙ sym (entry_of-append q (take 4 ds) (drop 4 ds)) ∙ ap (entry_of q) (take-append-drop 4 ds)

-- the word of four digits, from the digits
pub word-is : (ds : List ℕ) (i : ℕ) → i + 4 ≤ length ds → get_or ds i 0 + 256 * get_or ds (i + 1) 0 + 65536 * get_or ds (i + 2) 0 + 16777216 * get_or ds (i + 3) 0 ≡ entry_of 256 (take 4 (drop i ds))
word-is ds i h =
    let next : (j k : ℕ) → suc j ≡ k → j < length ds → get_or ds j 0 ∷ drop k ds ≡ drop j ds = λ j k e l. ap (λ (n : ℕ). get_or ds j 0 ∷ drop n ds) (sym e) ∙ sym (drop-cons ds j 0 l) in
    omega arith
    ∙ ap (λ (l : List ℕ). entry_of 256 (take 4 (get_or ds i 0 ∷ get_or ds (i + 1) 0 ∷ get_or ds (i + 2) 0 ∷ l))) (next (i + 3) (i + 4) (omega arith) (omega arith))
    ∙ ap (λ (l : List ℕ). entry_of 256 (take 4 (get_or ds i 0 ∷ get_or ds (i + 1) 0 ∷ l))) (next (i + 2) (i + 3) (omega arith) (omega arith))
    ∙ ap (λ (l : List ℕ). entry_of 256 (take 4 (get_or ds i 0 ∷ l))) (next (i + 1) (i + 2) (omega arith) (omega arith))
    ∙ ap (λ (l : List ℕ). entry_of 256 (take 4 l)) (next i (i + 1) (omega arith) (omega arith))

-- the powers of a q that is gathered so
module _ (q : ℕ) (h : q ≤ 4) where
  pub squared : q * q ≤ 16
  squared = mul-le-mul h h

  pub cubed : q * q * q ≤ 64
  cubed = mul-le-mul squared h

  pub fourth : q * q * q * q ≤ 256
  fourth = mul-le-mul cubed h

  pub powers-small : powers q < 2 ^ 25
  powers-small = omega (arith, squared, cubed)

-- two words of four bytes each: where below the fourth byte of their product nothing is carried, that byte has the number
module _ (q a b c d : ℕ) where
  abbrev number : ℕ
  number = entry_of q (a ∷ b ∷ c ∷ d ∷ [])

  abbrev low : ℕ
  low = 65536 * (a * q + b * (q * q) + c * (q * q * q)) + 256 * (a * (q * q) + b * (q * q * q)) + a * (q * q * q)

  fourth-byte : low < 16777216 → number < 256 → entry_of 256 (a ∷ b ∷ c ∷ d ∷ []) * powers q / 16777216 % 256 ≡ number
  fourth-byte low-less less =
      let high : ℕ = b + c * q + d * (q * q) + 256 * (c + d * q) + 65536 * d in
      let whole : entry_of 256 (a ∷ b ∷ c ∷ d ∷ []) * powers q ≡ low + 16777216 * (number + 256 * high) = omega arith in
      ap (λ (n : ℕ). n / 16777216 % 256) whole
      ∙ ap (λ (n : ℕ). n % 256) (add-mul-div_left low (number + 256 * high) (omega arith) ∙ ap (λ (t : ℕ). t + (number + 256 * high)) (div-eq_of_lt low-less) ∙ omega arith)
      ∙ add-mul-mod_self_left number 256 high ∙ mod-eq_of_lt less

gather : (q a b c d : ℕ) → q ≤ 4 → a < q → b < q → c < q → d < q → entry_of 256 (a ∷ b ∷ c ∷ d ∷ []) * powers q / 16777216 % 256 ≡ entry_of q (a ∷ b ∷ c ∷ d ∷ [])
gather q a b c d h ha hb hc hd =
    let two : q * q ≤ 16 = squared q h in let three : q * q * q ≤ 64 = cubed q h in
    let a3 : a ≤ 3 = omega arith in let b3 : b ≤ 3 = omega arith in let c3 : c ≤ 3 = omega arith in let d3 : d ≤ 3 = omega arith in
    fourth-byte q a b c d (omega (arith, mul-le-mul a3 h, mul-le-mul b3 two, mul-le-mul c3 three, mul-le-mul a3 two, mul-le-mul b3 three, mul-le-mul a3 three)) (omega (arith, mul-le-mul b3 h, mul-le-mul c3 two, mul-le-mul d3 three))

pub gathered : (q : ℕ) (l : List ℕ) → length l ≡ 4 → q ≤ 4 → Below q l → entry_of 256 l * powers q / 16777216 % 256 ≡ entry_of q l
gathered q (a ∷ b ∷ c ∷ d ∷ []) e h k = gather q a b c d h k.0 k.1.0 k.1.1.0 k.1.1.1.0
gathered q [] e h k = absurd (omega arith)
gathered q (a ∷ []) e h k = absurd (omega arith)
gathered q (a ∷ b ∷ []) e h k = absurd (omega arith)
gathered q (a ∷ b ∷ c ∷ []) e h k = absurd (omega arith)
gathered q (a ∷ b ∷ c ∷ d ∷ f ∷ l) e h k = absurd (omega arith)

-- eight digits below 2 by one product: the second four join the first, each 16 times
pub gathered-two : (l r : List ℕ) → length l ≡ 4 → length r ≡ 4 → Below 2 l → Below 2 r → (entry_of 256 l + 16 * entry_of 256 r) * powers 2 / 16777216 % 256 ≡ entry_of 2 l + 16 * entry_of 2 r
gathered-two (a ∷ b ∷ c ∷ d ∷ []) r e h k m = second r h m
  where
    second : (r : List ℕ) → length r ≡ 4 → Below 2 r → (entry_of 256 (a ∷ b ∷ c ∷ d ∷ []) + 16 * entry_of 256 r) * powers 2 / 16777216 % 256 ≡ entry_of 2 (a ∷ b ∷ c ∷ d ∷ []) + 16 * entry_of 2 r
    second (x ∷ y ∷ z ∷ w ∷ []) h m =
        ap (λ (n : ℕ). n * powers 2 / 16777216 % 256) (omega arith)
        ∙ fourth-byte 2 (a + 16 * x) (b + 16 * y) (c + 16 * z) (d + 16 * w) (omega (arith, k.0, k.1.0, k.1.1.0, m.0, m.1.0, m.1.1.0)) (omega (arith, k.0, k.1.0, k.1.1.0, k.1.1.1.0, m.0, m.1.0, m.1.1.0, m.1.1.1.0))
        ∙ omega arith
    second [] h m = absurd (omega arith)
    second (x ∷ []) h m = absurd (omega arith)
    second (x ∷ y ∷ []) h m = absurd (omega arith)
    second (x ∷ y ∷ z ∷ []) h m = absurd (omega arith)
    second (x ∷ y ∷ z ∷ w ∷ v ∷ l) h m = absurd (omega arith)
gathered-two [] r e h k m = absurd (omega arith)
gathered-two (a ∷ []) r e h k m = absurd (omega arith)
gathered-two (a ∷ b ∷ []) r e h k m = absurd (omega arith)
gathered-two (a ∷ b ∷ c ∷ []) r e h k m = absurd (omega arith)
gathered-two (a ∷ b ∷ c ∷ d ∷ f ∷ l) r e h k m = absurd (omega arith)

pub digits_of-entry_of : (q n : ℕ) (ds : List ℕ) → length ds ≡ n → Below q ds → digits_of q n (entry_of q ds) ≡ ds
digits_of-entry_of q zero [] e h = refl
digits_of-entry_of q zero (d ∷ ds) e h = absurd (omega arith)
digits_of-entry_of q (suc n) [] e h = absurd (omega arith)
digits_of-entry_of q (suc n) (d ∷ ds) e h = let r : ℕ = entry_of q ds in
    ap₂ ◌∷◌ (add-mul-mod_self_left d q r ∙ mod-eq_of_lt h.0)
    (ap (digits_of q n) (add-mul-div_left d r (omega (arith, h.0)) ∙ ap (λ (t : ℕ). t + r) (div-eq_of_lt h.0) ∙ omega arith) ∙ digits_of-entry_of q n ds (suc_inj e) h.1)

pub digits_of-layer : (q : ℕ) → 0 < q → (n i : ℕ) → IsLayer n q (digits_of q n i)
digits_of-layer q q> zero i = record { long = refl; below = tt }
digits_of-layer q q> (suc n) i = let h = digits_of-layer q q> n (i / q) in record { long = ap suc h.long; below = (mod-lt i q>, h.below) }

-- rows of n, joined: row j stands from n j
module _ (f : ℕ → List ℤ) (n : ℕ) (long : (i : ℕ) → length (f i) ≡ n) where
  pub row_at : (i k j : ℕ) → j < k → take n (drop (n * j) (joined (map f (range i k)))) ≡ f (i + j)
  row_at i zero j h = absurd (omega arith)
  row_at i (suc k) zero h = let r : List ℤ = joined (map f (range (suc i) k)) in let e : n * 0 ≡ 0 = omega arith in
      ap (λ (t : ℕ). take n (drop t (f i ++ r))) e ∙ take_at (f i) r n (long i) ∙ ap f (omega arith)
  row_at i (suc k) (suc j) h = let r : List ℤ = joined (map f (range (suc i) k)) in let e : n * suc j ≡ n + n * j = omega arith in
      ap (take n) (ap (λ (t : ℕ). drop t (f i ++ r)) e ∙ sym (drop-drop (n * j) n (f i ++ r)) ∙ ap (drop (n * j)) (drop_at (f i) r n (long i)))
      ∙ row_at (suc i) k j (omega arith) ∙ ap f (omega arith)

  pub rows_long : (i k : ℕ) → length (joined (map f (range i k))) ≡ n * k
  rows_long i zero = omega arith
  rows_long i (suc k) = simp length-append (omega (arith, long i, rows_long (suc i) k))
