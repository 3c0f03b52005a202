-- What a loop over a list has done after i turns.
use Rattle.std.specs.Prelude.{◌≡◌, refl, List, [], ◌∷◌, ◌++◌, map, ℕ, zero, suc, ◌+◌, ◌-◌, ◌<◌, ◌≤◌, length, get_or, take, drop, set}
use Rattle.std.proofs.Common.{sym, ◌∙◌, ap, add-one, arith, length-set, length-drop, take-suc, take-suc-set, take_all}
use Rattle.std.proofs.lemmas.List.{map-append}
use Rattle.std.proofs.Math.Nat.{suc_inj}
use Rattle.integers.specs.Vectors.{range}

-- a loop that fills r by f of each entry of a: after i turns the first i are right
module _ {A B : Type 0} (f : A → B) where
  fill_step : (a : List A) (r : List B) (i : ℕ) (d : A) → i < length a → i < length r → take i r ≡ map f (take i a)
      → take (i + 1) (set r i (f (get_or a i d))) ≡ map f (take (i + 1) a)
  fill_step a r i d h k e = rw (add-one i) (take-suc-set r i (f (get_or a i d)) k ∙ ap (λ (l : List B). l ++ (f (get_or a i d) ∷ [])) e ∙ sym (ap (map f) (take-suc a i d h) ∙ map-append f (take i a) (get_or a i d ∷ [])))

  fill_done : (a : List A) (r : List B) (n : ℕ) → length a ≤ n → length r ≤ n → take n r ≡ map f (take n a) → r ≡ map f a
  fill_done a r n h k e = sym (take_all n r k) ∙ e ∙ ap (map f) (take_all n a h)

-- the same as one state: r has n entries, of which the first i are f of those of a
pub record Filled {A B : Type 0} (f : A → B) (n : ℕ) (a : List A) (i : ℕ) (r : List B) : Type 0 where
  pub within : i ≤ n
  pub long : length r ≡ n
  pub same : take i r ≡ map f (take i a)

module _ {A B : Type 0} (f : A → B) (n : ℕ) (a : List A) (long : length a ≡ n) where
  -- one turn more
  pub filled_more : {i : ℕ} {r : List B} (d : A) (z : B) → z ≡ f (get_or a i d) → i < n → Filled f n a i r → Filled f n a (i + 1) (set r i z)
  filled_more {i} {r} d z e h s = rw e (record { within = omega arith; long = length-set r i _ ∙ s.long; same = fill_step f a r i d (omega arith) (omega (arith, s.long)) s.same })

  -- after the last turn
  pub filled-all : {i : ℕ} {r : List B} → n ≤ i → Filled f n a i r → r ≡ map f a
  filled-all {i} {r} h s = fill_done f a r i (omega arith) (omega (arith, s.long)) s.same

-- what is lent from a to the end is all from a on
pub rest-whole : {A : Type 0} (a : ℕ) (f : List A) → take (length f - a) (drop a f) ≡ drop a f
rest-whole a f = take_all (length f - a) (drop a f) (simp length-drop (omega arith))

-- ---- a list by its entries

-- the entry i of what f makes of a list
pub map_at : {A B : Type 0} (f : A → B) (l : List A) (i : ℕ) (d : A) (e : B) → i < length l → get_or (map f l) i e ≡ f (get_or l i d)
map_at f [] i d e h = absurd (omega arith)
map_at f (x ∷ l) zero d e h = refl
map_at f (x ∷ l) (suc i) d e h = map_at f l i d e (omega arith)

pub range-long : (i n : ℕ) → length (range i n) ≡ n
range-long i zero = refl
range-long i (suc n) = ap suc (range-long (suc i) n)

-- the entry j of what f makes of a range
pub range_at : {A : Type 0} (f : ℕ → A) (i n j : ℕ) (d : A) → j < n → get_or (map f (range i n)) j d ≡ f (i + j)
range_at f i zero j d h = absurd (omega arith)
range_at f i (suc n) zero d h = let e : i ≡ i + 0 = omega arith in ap f e
range_at f i (suc n) (suc j) d h = let e : suc i + j ≡ i + suc j = omega arith in range_at f (suc i) n j d (omega arith) ∙ ap f e

module _ {A : Type 0} where
  shift : (f : ℕ → A) (i n : ℕ) → map f (range (suc i) n) ≡ map (λ (k : ℕ). f (suc k)) (range i n)
  shift f i zero = refl
  shift f i (suc n) = ap (λ (l : List A). f (suc i) ∷ l) (shift f (suc i) n)

  pub by_entries : (a : List A) (d : A) (n : ℕ) → length a ≡ n → a ≡ map (λ (i : ℕ). get_or a i d) (range 0 n)
  by_entries [] d zero h = refl
  by_entries [] d (suc n) h = absurd (omega arith)
  by_entries (x ∷ a) d zero h = absurd (omega arith)
  by_entries (x ∷ a) d (suc n) h = ap (λ (l : List A). x ∷ l) (by_entries a d n (suc_inj h) ∙ sym (shift (λ (i : ℕ). get_or (x ∷ a) i d) 0 n))
