-- The best of several scores: it is one of them, none is greater, and each earlier one is smaller; and nothing else is so.
use Rattle.std.specs.Prelude.{◌≡◌, refl, Bool, true, false, cond, List, [], ◌∷◌, ◌++◌, map, ℕ, zero, suc, ◌+◌, ◌<◌, ◌≤◌, ℤ, pos, length, ◌≤ℤ◌, ◌<ℤ◌}
use Rattle.std.proofs.Common.{sym, ◌∙◌, ap, ap₂, subst, subst₂, append-nil, arith, length-append}
use Rattle.std.proofs.lemmas.List.{map-append, length-map}
use Rattle.std.proofs.Math.Decide.{dec_lt}
use Rattle.std.proofs.Math.ListN.{get_or-append}
use Rattle.std.proofs.Math.Seq.{append_snoc, get_or-append_seam}
use Rattle.std.specs.Int.Signed.{lt_z, ≤ℤ_refl, clash_ℤ}
use Rattle.integers.specs.Laws.Linear.{Z}
use Rattle.integers.specs.Laws.Sizes.{lt_z-true, lt_z-false}
use Rattle.integers.specs.Vectors.{«at»}
use Rattle.layers.specs.Digits.{cut}
use Rattle.records.specs.Laws.Parts.{cut-long, cut-more}
use Rattle.stores.specs.declared.Best.{Best}
use Rattle.stores.specs.Stores.{record_at, better, best_from, best_of}

-- what is said of every score of a list and of one more
every : (P : ℤ → Type 0) (l : List ℤ) (z : ℤ) → ((i : ℕ) → i < length l → P («at» l i)) → P z → (i : ℕ) → i < length (l ++ (z ∷ [])) → P («at» (l ++ (z ∷ [])) i)
every P [] z h k zero j = k
every P [] z h k (suc i) j = absurd (omega arith)
every P (x ∷ l) z h k zero j = h 0 (omega arith)
every P (x ∷ l) z h k (suc i) j = every P l z (λ n o. h (suc n) (omega arith)) k i (omega arith)

-- b is the best of the scores l
pub record IsBest (l : List ℤ) (b : Best) : Type 0 where
  pub within : b.hour < length l
  pub own : «at» l b.hour ≡ b.score
  pub greatest : (i : ℕ) → i < length l → «at» l i ≤ℤ b.score
  pub earliest : (i : ℕ) → i < b.hour → «at» l i <ℤ b.score

-- one score more
more-is : (l : List ℤ) (b : Best) (z : ℤ) → IsBest l b → IsBest (l ++ (z ∷ [])) (better b (length l) z)
unfolding better
more-is l b z h = go (lt_z b.score z) (lt_z-true b.score z) (lt_z-false b.score z)
  where
    before : (i : ℕ) → i < length l → «at» (l ++ (z ∷ [])) i ≡ «at» l i
    before i k = get_or-append l (z ∷ []) (pos 0) i k

    go : (t : Bool) → (t ≡ true → b.score <ℤ z) → (t ≡ false → z ≤ℤ b.score) → IsBest (l ++ (z ∷ [])) (cond t (record { hour = length l; score = z }) b)
    go true f g = let above = f refl in
        record {
          within = simp length-append (omega arith);
          own = get_or-append_seam l z [] (pos 0);
          greatest = every (λ (x : ℤ). x ≤ℤ z) l z (λ i k. let x = h.greatest i k in omega (arith, Z, x, above)) (≤ℤ_refl z);
          earliest = λ i k. subst (λ (x : ℤ). x <ℤ z) (sym (before i k)) (let x = h.greatest i k in omega (arith, Z, x, above));
        }
    go false f g = record {
      within = simp length-append (omega (arith, h.within));
      own = before b.hour h.within ∙ h.own;
      greatest = every (λ (x : ℤ). x ≤ℤ b.score) l z h.greatest (g refl);
      earliest = λ i k. subst (λ (x : ℤ). x <ℤ b.score) (sym (before i (omega (arith, h.within)))) (h.earliest i k);
    }

-- and all the others in turn
from_is : (p l : List ℤ) (b : Best) → IsBest p b → IsBest (p ++ l) (best_from b (length p) l)
from_is p [] b h = subst (λ (q : List ℤ). IsBest q b) (sym (append-nil p)) h
from_is p (z ∷ l) b h = let q : List ℤ = p ++ (z ∷ []) in let long : length q ≡ suc (length p) = simp length-append (omega arith) in
    subst₂ (λ (r : List ℤ) (i : ℕ). IsBest r (best_from (better b (length p) z) i l)) (append_snoc p z l) long (from_is q l (better b (length p) z) (more-is p b z h))

pub best-is : (l : List ℤ) → 0 < length l → IsBest l (best_of l)
best-is [] h = absurd (omega arith)
best-is (z ∷ l) h =
    from_is (z ∷ []) l (record { hour = 0; score = z }) (record { within = omega arith; own = refl; greatest = every (λ (x : ℤ). x ≤ℤ z) [] z (λ i k. absurd (omega arith)) (≤ℤ_refl z); earliest = λ i k. absurd (omega arith) })

-- it is one of them
pub best-within : (l : List ℤ) → 0 < length l → (best_of l).hour < length l
best-within l h = (best-is l h).within

pub best-own : (l : List ℤ) → 0 < length l → «at» l (best_of l).hour ≡ (best_of l).score
best-own l h = (best-is l h).own

-- none is greater
pub best-greatest : (l : List ℤ) (i : ℕ) → i < length l → «at» l i ≤ℤ (best_of l).score
best-greatest l i h = (best-is l (omega arith)).greatest i h

-- each earlier one is smaller
pub best-earliest : (l : List ℤ) (i : ℕ) → 0 < length l → i < (best_of l).hour → «at» l i <ℤ (best_of l).score
best-earliest l i h k = (best-is l h).earliest i k

-- the best so far, and one score more
pub best-more : (l : List ℤ) (z : ℤ) → 0 < length l → best_of (l ++ (z ∷ [])) ≡ better (best_of l) (length l) z
best-more [] z h = absurd (omega arith)
best-more (y ∷ l) z h = let e : 1 + length l ≡ suc (length l) = omega arith in go (record { hour = 0; score = y }) 1 l ∙ ap (λ (i : ℕ). better (best_of (y ∷ l)) i z) e
  where
    go : (b : Best) (i : ℕ) (l : List ℤ) → best_from b i (l ++ (z ∷ [])) ≡ better (best_from b i l) (i + length l) z
    go b i [] = let e : i ≡ i + 0 = omega arith in ap (λ (j : ℕ). better b j z) e
    go b i (x ∷ l) = let e : suc i + length l ≡ i + suc (length l) = omega arith in go (better b i x) (suc i) l ∙ ap (λ (j : ℕ). better (best_from (better b i x) (suc i) l) j z) e

-- ---- of the pieces of a list, n entries each, by a score f

module _ (f : List ℕ → ℤ) (n : ℕ) (b : List ℕ) where
  -- the first i pieces and one more
  pub best-next : (i : ℕ) → 1 ≤ i → best_of (map f (cut n (i + 1) b)) ≡ better (best_of (map f (cut n i b))) i (f (record_at n b i))
  best-next i h = let l : List (List ℕ) = cut n i b in let z : ℤ = f (record_at n b i) in let long : length (map f l) ≡ i = length-map l f ∙ cut-long n i b in
      ap (λ (r : List (List ℕ)). best_of (map f r)) (cut-more n i b) ∙ ap best_of (map-append f l (record_at n b i ∷ []))
      ∙ best-more (map f l) z (omega arith) ∙ ap (λ (j : ℕ). better (best_of (map f l)) j z) long

-- no two are the best of the same scores
module _ (l : List ℤ) where
  clash {ℓ} : {A : Type ℓ} (b b' : Best) → IsBest l b → IsBest l b' → b.hour < b'.hour → A
  clash b b' h k m = clash_ℤ (subst (λ (x : ℤ). x <ℤ b'.score) h.own (k.earliest b.hour m)) (subst (λ (x : ℤ). x ≤ℤ b.score) k.own (h.greatest b'.hour k.within))

  pub best-only : (b b' : Best) → IsBest l b → IsBest l b' → b ≡ b'
  best-only b b' h k = same (elim (dec_lt b.hour b'.hour) [
    | yes m ↦ clash b b' h k m
    | no m ↦ elim (dec_lt b'.hour b.hour) [
      | yes n ↦ clash b' b k h n
      | no n ↦ omega arith
    ]
  ])
    where
      same : b.hour ≡ b'.hour → b ≡ b'
      same e = ap₂ (λ (i : ℕ) (z : ℤ). record { hour = i; score = z }) e (sym h.own ∙ ap («at» l) e ∙ k.own)
