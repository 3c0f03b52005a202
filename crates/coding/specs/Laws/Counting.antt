-- Counting up: the digits of an entry number, counted up, are those of the next; all start at 0.
use Rattle.std.specs.Prelude.{◌≡◌, refl, Bool, true, false, cond, List, ◌∷◌, ◌++◌, ℕ, zero, suc, ◌+◌, ◌*◌, ◌/◌, ◌%◌, ◌<◌, ◌≤◌, ltb, length, get_or, take, drop, set, replicate}
use Rattle.std.proofs.Common.{sym, ◌∙◌, ap, ap₂, subst, append-nil, mod-lt, mod-eq_of_lt, arith, ltb-true, ltb-false, lt-ltb, le-ltb, length-set, drop_of_length-le, take_all, drop-cons, drop-set-lt, take-suc-set}
use Rattle.std.proofs.Math.Nat.{div-add-mod, div-eq_of_lt, zero-div, zero-mod, add-mul-div_left, add-mul-mod_self_left, mul-div_right, mul-mod_right}
use Rattle.std.proofs.Math.Seq.{append_snoc}
use Rattle.std.proofs.lemmas.List.{set_split}
use Rattle.layers.specs.Digits.{Below, digits_of}
use Rattle.coding.specs.Counting.{counted_up}

-- the digits of 0
pub digits-zero : (q n : ℕ) → digits_of q n 0 ≡ replicate n 0
digits-zero q zero = refl
digits-zero q (suc n) = ap₂ ◌∷◌ (zero-mod q) (ap (digits_of q n) (zero-div q) ∙ digits-zero q n)

-- one more than i, where its first digit is not the last, and where it is
module _ (q : ℕ) (q> : 0 < q) (i : ℕ) where
  split : (r : ℕ) → r ≡ suc (i % q) → suc i ≡ r + q * (i / q)
  split r e = omega (arith, div-add-mod i q)

  goes-up : suc (i % q) < q → (suc i % q ≡ suc (i % q)) × (suc i / q ≡ i / q)
  goes-up h = let e = split (suc (i % q)) refl in (
    ap (λ (n : ℕ). n % q) e ∙ add-mul-mod_self_left (suc (i % q)) q (i / q) ∙ mod-eq_of_lt h,
    ap (λ (n : ℕ). n / q) e ∙ add-mul-div_left (suc (i % q)) (i / q) q> ∙ ap (λ (n : ℕ). n + i / q) (div-eq_of_lt h) ∙ omega arith,
  )

  carries : q ≤ suc (i % q) → (suc i % q ≡ 0) × (suc i / q ≡ suc (i / q))
  carries h =
      let e : suc i ≡ q * suc (i / q) = omega (arith, mod-lt i q>, div-add-mod i q) in
      (ap (λ (n : ℕ). n % q) e ∙ mul-mod_right q (suc (i / q)), ap (λ (n : ℕ). n / q) e ∙ mul-div_right (suc (i / q)) q>)

-- the digits of i, counted up, are those of i + 1
pub counted_next : (q : ℕ) → 0 < q → (n i : ℕ) → counted_up q (digits_of q n i) ≡ digits_of q n (suc i)
counted_next q q> zero i = refl
counted_next q q> (suc n) i = go (ltb (suc (i % q)) q) (ltb-true (suc (i % q)) q) (ltb-false (suc (i % q)) q) (counted_next q q> n (i / q))
  where
    go : (t : Bool) → (t ≡ true → suc (i % q) < q) → (t ≡ false → q ≤ suc (i % q)) → counted_up q (digits_of q n (i / q)) ≡ digits_of q n (suc (i / q))
        → cond t (suc (i % q) ∷ digits_of q n (i / q)) (0 ∷ counted_up q (digits_of q n (i / q))) ≡ (suc i % q) ∷ digits_of q n (suc i / q)
    go true f g next = let k = goes-up q q> i (f refl) in ap₂ (λ (d j : ℕ). d ∷ digits_of q n j) (sym k.0) (sym k.1)
    go false f g next = let k = carries q q> i (g refl) in ap (λ (l : List ℕ). 0 ∷ l) next ∙ ap₂ (λ (d j : ℕ). d ∷ digits_of q n j) (sym k.0) (sym k.1)

-- a walk that counts the digits o up in place: at the digit k those before it are done, and the rest is to be counted up
pub record Carrying (q : ℕ) (o : List ℕ) (k : ℕ) (ds : List ℕ) : Type 0 where
  pub long : length ds ≡ length o
  pub below : Below q (drop k ds)
  pub same : counted_up q o ≡ take k ds ++ counted_up q (drop k ds)

module _ (q : ℕ) (o : List ℕ) (k : ℕ) (ds : List ℕ) (c : Carrying q o k ds) where
  -- nothing is left
  pub carrying-done : length ds ≤ k → ds ≡ counted_up q o
  carrying-done h = sym (c.same ∙ ap₂ (λ (a b : List ℕ). a ++ counted_up q b) (take_all k ds h) (drop_of_length-le ds {i = k} h) ∙ append-nil ds)

  module _ (within : k < length ds) where
    abbrev d : ℕ
    d = get_or ds k 0

    opened : drop k ds ≡ d ∷ drop (suc k) ds
    opened = drop-cons ds k 0 within

    -- the digit at k is below q
    pub carrying-digit : d < q
    carrying-digit = (subst (Below q) opened c.below).0

    counted_is : (t : Bool) → ltb (suc d) q ≡ t → counted_up q o ≡ take k ds ++ cond t (suc d ∷ drop (suc k) ds) (0 ∷ counted_up q (drop (suc k) ds))
    counted_is t e = c.same ∙ ap (λ (l : List ℕ). take k ds ++ counted_up q l) opened ∙ ap (λ (t : Bool). take k ds ++ cond t (suc d ∷ drop (suc k) ds) (0 ∷ counted_up q (drop (suc k) ds))) e

    -- the digit goes up, and the walk ends
    pub carrying-up : suc d < q → set ds k (suc d) ≡ counted_up q o
    carrying-up h = set_split ds k (suc d) within ∙ sym (counted_is true (lt-ltb (suc d) q h))

    -- it was the last, and the walk goes on
    pub carrying-on : q ≤ suc d → Carrying q o (suc k) (set ds k 0)
    carrying-on h = let rest : drop (suc k) (set ds k 0) ≡ drop (suc k) ds = drop-set-lt (suc k) ds k 0 (omega arith) in
        record {
          long = length-set ds k 0 ∙ c.long;
          below = subst (Below q) (sym rest) (subst (Below q) opened c.below).1;
          same = counted_is false (le-ltb (suc d) q h) ∙ sym (append_snoc (take k ds) 0 (counted_up q (drop (suc k) ds))) ∙ ap₂ (λ (a b : List ℕ). a ++ counted_up q b) (sym (take-suc-set ds k 0 within)) (sym rest);
        }
