-- Arrays made entry by entry: what `from_fn` and `map` give.
use Rattle.std.specs.Prelude.{◌≡◌, refl, List, ◌∷◌, map, ℕ, zero, suc, ◌+◌, ◌<◌, ◌≤◌, length, get_or}
use Rattle.std.proofs.Common.{sym, ◌∙◌, ap, subst, arith}
use Rattle.std.proofs.lemmas.List.{length-map}
use Rattle.std.specs.Array.{IsFromFnResult, IsFromFnResultFrom}
use Rattle.std.specs.Fn.{Mut, Called}
use Rattle.integers.specs.Vectors.{range}
use Rattle.integers.specs.Laws.Loops.{by_entries, map_at}

-- what two functions make of a range is one list where they agree on it
same_range : {B : Type 0} (f h : ℕ → B) (i n : ℕ) → ((j : ℕ) → j < n → f (i + j) ≡ h (i + j)) → map f (range i n) ≡ map h (range i n)
same_range f h i zero e = refl
same_range f h i (suc n) e =
    let z : i + 0 ≡ i = omega arith in
    let s : (j : ℕ) → j < n → f (suc i + j) ≡ h (suc i + j) = λ j l. let y : i + suc j ≡ suc i + j = omega arith in subst (λ (k : ℕ). f k ≡ h k) y (e (suc j) (omega arith)) in
    let t : f i ≡ h i = subst (λ (k : ℕ). f k ≡ h k) z (e 0 (omega arith)) in
    ap (λ (b : _). b ∷ map f (range (suc i) n)) t ∙ ap (λ (l : List _). h i ∷ l) (same_range f h (suc i) n s)

module _ {F B : Type 0} (g : Mut F (ℕ × Unit {0}) B) (h : ℕ → B) {f : F} where
  made_at : (ys : List B) (i n m : ℕ) → i + n ≤ m → ((k : ℕ) (y : B) (q : F) → k < m → Called g f (k, tt) y q → (q ≡ f) × (y ≡ h k))
      → IsFromFnResultFrom g f ys i n → (j : ℕ) (d : B) → j < n → get_or ys (i + j) d ≡ h (i + j)
  made_at ys i zero m l s e j d b = absurd (omega arith)
  made_at ys i (suc n) m l s (q, y, p, c, r) zero d b = let z : i + 0 ≡ i = omega arith in rw z (p.1 d ∙ (s i y q (omega arith) c).1)
  made_at ys i (suc n) m l s (q, y, p, c, r) (suc j) d b =
      let z : i + suc j ≡ i + 1 + j = omega arith in
      rw z (made_at ys (i + 1) n m (omega arith) s (subst (λ (t : F). IsFromFnResultFrom g t ys (i + 1) n) (s i y q (omega arith) c).0 r) j d (omega arith))

  -- an array from a function that each call gives h of its index
  pub from_fn-range : {ys : List B} {n : ℕ} (d : B) → IsFromFnResult g f ys n → ((k : ℕ) (y : B) (q : F) → k < n → Called g f (k, tt) y q → (q ≡ f) × (y ≡ h k)) → ys ≡ map h (range 0 n)
  from_fn-range {ys} {n} d e s = by_entries ys d n e.long ∙ same_range (λ (i : ℕ). get_or ys i d) h 0 n (λ j l. made_at ys 0 n n (omega arith) s e.each j d l)

-- an array from a function that each call gives h of the entry at its index of a list as long
pub from_fn-map : {F A B : Type 0} (g : Mut F (ℕ × Unit {0}) B) (h : A → B) {f : F} {ys : List B} {n : ℕ} (xs : List A) (c : A) (d : B) → length xs ≡ n
    → IsFromFnResult g f ys n → ((k : ℕ) (y : B) (q : F) → k < n → Called g f (k, tt) y q → (q ≡ f) × (y ≡ h (get_or xs k c))) → ys ≡ map h xs
from_fn-map g h {f} {ys} {n} xs c d long e s =
    from_fn-range g (λ (i : ℕ). h (get_or xs i c)) d e s ∙ same_range (λ (i : ℕ). h (get_or xs i c)) (λ (i : ℕ). get_or (map h xs) i d) 0 n (λ j l. let z : 0 + j ≡ j = omega arith in rw z (sym (map_at h xs j c d (omega (arith, long))))) ∙ sym (by_entries (map h xs) d n (simp length-map long))

-- the same of a list, unchanged
pub from_fn-list : {F A : Type 0} (g : Mut F (ℕ × Unit {0}) A) {f : F} {ys : List A} {n : ℕ} (xs : List A) (d : A) → length xs ≡ n
    → IsFromFnResult g f ys n → ((k : ℕ) (y : A) (q : F) → k < n → Called g f (k, tt) y q → (q ≡ f) × (y ≡ get_or xs k d)) → ys ≡ xs
from_fn-list g {n = n} xs d long e s = from_fn-range g (λ (i : ℕ). get_or xs i d) d e s ∙ sym (by_entries xs d n long)
