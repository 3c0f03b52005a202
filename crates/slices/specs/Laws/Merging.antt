-- A pass over some entries, in two parts: what both have seen, together.
use Rattle.std.specs.Prelude.{◌≡◌, refl, List, ℤ, ◌+ℤ◌, take, drop}
use Rattle.std.proofs.Common.{sym, ◌∙◌, get_or-take, get_or-drop}
use Rattle.std.proofs.Math.Path.{ap, ap₂}
use Prim.Native.Nat.{ℕ, zero, suc, ◌+◌, ◌<◌, ◌≤◌}
use native.Mathlib.Omega.{arith}
use Rattle.std.proofs.Math.IntN.{pos, +ℤ_assoc}
use Rattle.integers.specs.Laws.Difference.{ints, by_d₂}
use Rattle.integers.specs.Laws.Sizes.{abs-add}
use Rattle.integers.specs.Vectors.{square, «at»}
use Rattle.columns.specs.Laws.Narrow.{from_first}
use Rattle.columns.specs.Narrow.{Part}
use Rattle.rounding.specs.Pass.{Scan}
use Rattle.rounding.specs.Pass.{seen, scanned, scanned_from}
use Rattle.rounding.specs.Rounding.{key, lowered}
use Rattle.slices.specs.Slices.{merge}

-- two parts are no larger than their entries together
pub part-merge : {R m n : ℕ} {a b : Scan} → Part R m a → Part R n b → Part R (m + n) (merge a b)
part-merge {a = a} {b = b} p q = record {
  most = omega (arith, p.most, q.most);
  least = omega (arith, p.least, q.least);
  keys = omega (arith, p.keys, q.keys);
  sum = omega (arith, p.sum, q.sum, abs-add a.sum b.sum);
  even = omega (arith, p.even, q.even, abs-add a.even b.even);
  odd = omega (arith, p.odd, q.odd, abs-add a.odd b.odd);
}

-- two passes that have seen the same, field by field
pub scan-is : {m m' l l' k k' : ℕ} {x x' y y' z z' : ℤ} → m ≡ m' → l ≡ l' → k ≡ k' → x ≡ x' → y ≡ y' → z ≡ z'
    → ◌≡◌ {A = Scan} (record { most = m; least = l; keys = k; sum = x; even = y; odd = z }) (record { most = m'; least = l'; keys = k'; sum = x'; even = y'; odd = z' })
scan-is {m} {m'} {l} {l'} {k} {k'} {x} {x'} {y} {y'} {z} {z'} em el ek ex ey ez =
    ap₂ (λ (m l : ℕ). record { most = m; least = l; keys = k; sum = x; even = y; odd = z }) em el
    ∙ ap₂ (λ (k : ℕ) (x : ℤ). record { most = m'; least = l'; keys = k; sum = x; even = y; odd = z }) ek ex
    ∙ ap₂ (λ (y z : ℤ). record { most = m'; least = l'; keys = k'; sum = x'; even = y; odd = z }) ey ez

+ℤ-zero : (x y : ℤ) → x +ℤ y ≡ x +ℤ (pos 0 +ℤ y)
+ℤ-zero = by_d₂ _ λ _ _ _ _. simp ints (omega arith)

-- an entry more in the second part, and the first one there
seen-merge : (s : ℤ) (a b : Scan) (f r : ℤ) (i : ℕ) → seen s (merge a b) f r i ≡ merge a (seen s b f r i)
seen-merge s a b f r i = scan-is (omega arith) (omega arith) (omega arith) (+ℤ_assoc a.sum b.sum f) (+ℤ_assoc a.even b.even (square r)) (+ℤ_assoc a.odd b.odd (square (lowered s r)))

first-merge : (s : ℤ) (a : Scan) (f r : ℤ) (i : ℕ) → seen s a f r i ≡ merge a (seen s (record { most = key i r; least = key i r; keys = 0; sum = pos 0; even = pos 0; odd = pos 0 }) f r i)
first-merge s a f r i = scan-is (omega arith) (omega arith) (omega arith) (+ℤ-zero a.sum f) (+ℤ-zero a.even (square r)) (+ℤ-zero a.odd (square (lowered s r)))

-- a pass over t + 1 entries, of which n + 1 are in the second part
joined : (s : ℤ) (k m : ℕ) (f r : List ℤ) (n t : ℕ) → t ≡ m + n → scanned_from s k (suc t) f r ≡ merge (scanned_from s k m f r) (scanned_from s (k + m) (suc n) f r)
unfolding scanned_from
joined s k m f r zero t e = let t-is : t ≡ m = omega arith in let z : k + m + 0 ≡ k + m = omega arith in
    rw (t-is, z) (first-merge s (scanned_from s k m f r) («at» f (k + m)) («at» r (k + m)) (k + m))
joined s k m f r (suc n) zero e = absurd (omega arith)
joined s k m f r (suc n) (suc t) e = let place : k + suc t ≡ k + m + suc n = omega arith in let i : ℕ = k + m + suc n in
    rw place (ap (λ (c : Scan). seen s c («at» f i) («at» r i) i) (joined s k m f r n t (omega arith)) ∙ seen-merge s (scanned_from s k m f r) (scanned_from s (k + m) (suc n) f r) («at» f i) («at» r i) i)

-- a pass reads the entries that it goes over
module _ (s : ℤ) (k N : ℕ) (N> : 0 < N) (f r f' r' : List ℤ) (ef : (i : ℕ) → i < N → «at» f (k + i) ≡ «at» f' (k + i)) (er : (i : ℕ) → i < N → «at» r (k + i) ≡ «at» r' (k + i)) where
  scans-agree : (n : ℕ) → n ≤ N → scanned_from s k n f r ≡ scanned_from s k n f' r'
  unfolding scanned_from
  scans-agree zero l = let z : k + 0 ≡ k = omega arith in ap (λ (x : ℤ). record { most = key k x; least = key k x; keys = 0; sum = pos 0; even = pos 0; odd = pos 0 }) (rw z at (er 0 N>))
  scans-agree (suc n) l = let i : ℕ = k + n in
      ap (λ (c : Scan). seen s c («at» f i) («at» r i) i) (scans-agree n (omega arith)) ∙ ap₂ (λ (x y : ℤ). seen s (scanned_from s k n f' r') x y i) (ef n (omega arith)) (er n (omega arith))

-- vectors that agree in the first m entries, or in those from m on
agree-low : (m : ℕ) (a b : List ℤ) → take m a ≡ take m b → (i : ℕ) → i < m → «at» a (0 + i) ≡ «at» b (0 + i)
agree-low m a b e i l = let z : 0 + i ≡ i = omega arith in rw z (sym (get_or-take m a i (pos 0) l) ∙ ap (λ (v : List ℤ). «at» v i) e ∙ get_or-take m b i (pos 0) l)

agree-high : (m : ℕ) (a b : List ℤ) → drop m a ≡ drop m b → (i : ℕ) → «at» a (m + i) ≡ «at» b (m + i)
agree-high m a b e i = sym (get_or-drop m a i (pos 0)) ∙ ap (λ (v : List ℤ). «at» v i) e ∙ get_or-drop m b i (pos 0)

-- a pass over all entries is one over the first m + 1, of vectors that agree there, and one over the others
pub scanned-merge : (s : ℤ) (m n : ℕ) (f r f' r' f'' r'' : List ℤ) → take (suc m) f ≡ take (suc m) f' → take (suc m) r ≡ take (suc m) r' → drop (suc m) f ≡ drop (suc m) f'' → drop (suc m) r ≡ drop (suc m) r''
    → scanned s (suc (suc m + n)) f r ≡ merge (scanned_from s 0 (suc m) f' r') (scanned_from s (suc m) (suc n) f'' r'')
scanned-merge s m n f r f' r' f'' r'' ef er gf gr = let z : 0 + suc m ≡ suc m = omega arith in
    sym (from_first s (suc (suc m + n)) f r) ∙ (rw z at (joined s 0 (suc m) f r n (suc m + n) refl))
    ∙ ap₂ merge (scans-agree s 0 (suc m) (omega arith) f r f' r' (agree-low (suc m) f f' ef) (agree-low (suc m) r r' er) (suc m) (omega arith))
    (scans-agree s (suc m) (suc n) (omega arith) f r f'' r'' (λ i l. agree-high (suc m) f f'' gf i) (λ i l. agree-high (suc m) r r'' gr i) (suc n) (omega arith))
