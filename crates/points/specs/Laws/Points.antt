-- Points of blocks in lent rows: that they are narrow, where their digits stand, and what a loop over the blocks has written.
use Rattle.std.specs.Prelude.{◌≡◌, refl, List, [], ◌∷◌, ◌++◌, map, ℕ, suc, ◌+◌, ◌*◌, ◌-◌, ◌^◌, ◌<◌, ◌≤◌, ℤ, nat_abs, length, get_or, take, drop, set}
use Rattle.std.proofs.Common.{sym, ◌∙◌, ap, ap₂, add-one, arith, length-append, length-drop, drop-drop, drop-cons}
use Rattle.std.proofs.lemmas.List.{map-append, length-map, set_at}
use Rattle.std.proofs.Math.ListN.{get_or-append}
use Rattle.std.proofs.Math.Seq.{take-nil, append_snoc}
use Rattle.integers.specs.Laws.Loops.{map_at}
use Rattle.integers.specs.Vectors.{Sized}
use Rattle.layers.specs.Digits.{IsCode, cut}
use Rattle.layers.proofs.Laws.Bases.{base-two}
use Rattle.layers.proofs.Laws.E8.{decode-in8, decode-under8}
use Rattle.records.specs.Eight.Codes.{Digital, Coder, AreBlocks, AreCodes, block_size, whole_point}
use Rattle.records.specs.Laws.Parts.{cut-more, cut-long, cut_at}

-- a coder's q and m
pub coder-digital : (q : ℤ) (m : ℕ) (steps : List ℤ) → Coder q m steps → Digital q m
coder-digital q m steps c = record { base = c.base; digit = c.digit; few = c.few; power = c.power }

-- the digits of blocks
pub blocks-codes : (steps q m k : ℕ) (f : List ℕ) → AreBlocks steps q m k f → AreCodes q m k f
blocks-codes steps q m k f h = record { long = h.long; each = λ i l. (h.each i l).code }

-- a whole point's coordinates fit 16 bits
pub point-narrow : (q : ℤ) (m : ℕ) → Digital q m → (b : List ℕ) → IsCode 8 (nat_abs q) m (drop 1 b) → Sized 8 (2 ^ 14 - 1) (whole_point (nat_abs q) m b)
point-narrow q m d b h =
    let two = base-two q d.base in let q> : 0 < nat_abs q = omega arith in
    record { long = (decode-in8 (nat_abs q) m q> (drop 1 b) h).long; small = λ i. omega (arith, decode-under8 (nat_abs q) m q> (drop 1 b) h two d.power i) }

-- the digits of the block at a stand after its first byte
pub digits-part : {A : Type 0} (m a : ℕ) (f : List A) → drop 1 (take (block_size m) (drop a f)) ≡ take (8 * m) (drop (a + 1) f)
digits-part {A} m a f = let e : 8 * m + 1 ≡ suc (8 * m) = omega arith in
    ap (λ (n : ℕ). drop 1 (take n (drop a f))) e ∙ go (8 * m) (drop a f) ∙ ap (take (8 * m)) (drop-drop 1 a f)
  where
    go : (n : ℕ) (l : List A) → drop 1 (take (suc n) l) ≡ take n (drop 1 l)
    go n [] = sym (take-nil n)
    go n (x ∷ l) = refl

-- a loop writes f of part after part over the rows o: after i turns those of the first i parts stand before the rest as found
module _ {A B : Type 0} (f : List A → B) (n : ℕ) (l : List A) (o : List B) where
  pub rows_more : (i : ℕ) (d : B) → i < length o → set (map f (cut n i l) ++ drop i o) i (f (take n (drop (n * i) l))) ≡ map f (cut n (i + 1) l) ++ drop (i + 1) o
  rows_more i d h = let w : List B = map f (cut n i l) in let x : B = f (take n (drop (n * i) l)) in
      ap (λ (r : List B). set (w ++ r) i x) (drop-cons o i d h)
      ∙ set_at w _ (drop (suc i) o) x i (length-map (cut n i l) f ∙ cut-long n i l)
      ∙ sym (append_snoc w x (drop (suc i) o))
      ∙ ap₂ (λ (w : List B) (j : ℕ). w ++ drop j o) (sym (ap (map f) (cut-more n i l) ∙ map-append f (cut n i l) (take n (drop (n * i) l) ∷ []))) (sym (add-one i))

  -- the row of part i of k
  pub row_at : (k i : ℕ) (d : B) → i < k → get_or (map f (cut n k l) ++ drop k o) i d ≡ f (take n (drop (n * i) l))
  row_at k i d h = let long : length (cut n k l) ≡ k = cut-long n k l in
      get_or-append (map f (cut n k l)) (drop k o) d i (simp length-map (omega arith)) ∙ map_at f (cut n k l) i [] d (omega arith) ∙ ap f (cut_at n k i l h)

  -- there are as many rows as before
  pub rows_long : (k : ℕ) → k ≤ length o → length (map f (cut n k l) ++ drop k o) ≡ length o
  rows_long k h = simp (length-append, length-drop, length-map) (omega (arith, cut-long n k l))
