-- Tables as linear maps: products, the diagonal, and what makes two tables inverse to each other on a lattice.
use Rattle.std.specs.Prelude.{◌≡◌, refl, Bool, true, ◌&&◌, List, [], ◌∷◌, map, ℕ, zero, suc, ◌^◌, ◌<◌, ◌≤◌, eqb, ℤ, pos, nat_abs, ◌+ℤ◌, ◌*ℤ◌, length, get_or}
use Rattle.std.proofs.Common.{sym, ◌∙◌, ap, ap₂, subst, subst₂, arith, eqb-true, take_all}
use Rattle.std.proofs.Math.Nat.{suc_inj}
use Rattle.std.proofs.Math.Decide.{dec_le}
use Rattle.std.proofs.lemmas.List.{length-map}
use Rattle.std.proofs.Math.ListN.{get_or-map, get_or-eq_default}
use Rattle.integers.specs.Floor.{floor_div, floor_mod}
use Rattle.integers.specs.Laws.Difference.{by_d, ints, by_d₂, by_d₃}
use Rattle.integers.specs.Laws.Floors.{floor-split, floor-unique}
use Rattle.integers.specs.Laws.Loops.{by_entries}
use Rattle.integers.specs.Laws.Sums.{dot-comm, dot-add, dot-scale, dot-add-r, dot-scale-r, dot-zeros, dot-bound}
use Rattle.integers.specs.Laws.Tests.{and-true, sized-small}
use Rattle.integers.specs.Vectors.{zeros, add_v, scale_v, dot, Sized, small}
use Rattle.lattice.specs.Basis.{Table8, apply, comb, times, diag, floors}

pub dot-apply : (r : List ℤ) (B : List (List ℤ)) (c : List ℤ) → dot r (apply B c) ≡ dot (comb r B) c
dot-apply [] B c = refl
dot-apply (x ∷ r) [] c = refl
dot-apply (x ∷ r) (b ∷ B) c = ap₂ ◌+ℤ◌ (sym (dot-scale x b c)) (dot-apply r B c) ∙ sym (dot-add (scale_v x b) (comb r B) c)

pub apply-apply : (W B : List (List ℤ)) (c : List ℤ) → apply W (apply B c) ≡ apply (times W B) c
apply-apply [] B c = refl
apply-apply (r ∷ W) B c = ap₂ ◌∷◌ (dot-apply r B c) (apply-apply W B c)

pub apply-add : (B : List (List ℤ)) (a b : List ℤ) → apply B (add_v a b) ≡ add_v (apply B a) (apply B b)
apply-add [] a b = refl
apply-add (r ∷ B) a b = ap₂ ◌∷◌ (dot-add-r a b r) (apply-add B a b)

pub apply-scale : (B : List (List ℤ)) (k : ℤ) (a : List ℤ) → apply B (scale_v k a) ≡ scale_v k (apply B a)
apply-scale [] k a = refl
apply-scale (r ∷ B) k a = ap₂ ◌∷◌ (dot-scale-r k r a) (apply-scale B k a)

-- a table that the code takes, as a test that computes
abbrev pub rows_small : List (List ℤ) → Bool
rows_small [] = true
rows_small (r ∷ t) = (eqb (length r) 8 && small (2 ^ 4) r) && rows_small t

row_at : (t : List (List ℤ)) → rows_small t ≡ true → (k : ℕ) → k < length t → Sized 8 (2 ^ 4) (get_or t k [])
row_at [] e k h = absurd (omega arith)
row_at (r ∷ t) e zero h = let u = and-true (eqb (length r) 8) (small (2 ^ 4) r) (and-true (eqb (length r) 8 && small (2 ^ 4) r) (rows_small t) e).0 in sized-small 8 (2 ^ 4) r (eqb-true (length r) 8 u.0) u.1
row_at (r ∷ t) e (suc k) h = row_at t (and-true (eqb (length r) 8 && small (2 ^ 4) r) (rows_small t) e).1 k (omega arith)

pub table-small : (t : List (List ℤ)) → length t ≡ 8 → rows_small t ≡ true → Table8 t
table-small t h e = record { long = h; rows = λ k l. row_at t e k (omega arith) }

-- a table of eight rows by a vector, from its rows by it
pub by_rows : (t : List (List ℤ)) (v : List ℤ) → length t ≡ 8 → {a b c d e f g h : ℤ} → a ≡ dot (get_or t 0 []) v → b ≡ dot (get_or t 1 []) v → c ≡ dot (get_or t 2 []) v → d ≡ dot (get_or t 3 []) v
    → e ≡ dot (get_or t 4 []) v → f ≡ dot (get_or t 5 []) v → g ≡ dot (get_or t 6 []) v → h ≡ dot (get_or t 7 []) v → a ∷ b ∷ c ∷ d ∷ e ∷ f ∷ g ∷ h ∷ [] ≡ apply t v
by_rows t v long p q r s u w x y =
    ap₂ ◌∷◌ p (ap₂ ◌∷◌ q (ap₂ ◌∷◌ r (ap₂ ◌∷◌ s (ap₂ ◌∷◌ u (ap₂ ◌∷◌ w (ap₂ ◌∷◌ x (ap₂ ◌∷◌ y refl))))))) ∙ ap (map (λ (r : List ℤ). dot r v)) (sym (by_entries t [] 8 long))

-- a table that the code takes, by a vector that it takes: sums of eight products
pub apply-sized : (t : List (List ℤ)) (v : List ℤ) → Table8 t → Sized 8 (2 ^ 32) v → Sized 8 (2 ^ 39) (apply t v)
apply-sized t v h k = record { long = length-map t _ ∙ h.long; small = λ i. subst (λ (z : ℤ). nat_abs z ≤ 2 ^ 39) (sym (get_or-map (λ (r : List ℤ). dot r v) t i [])) (go i (dec_le 8 i)) }
  where
    go : (i : ℕ) → Dec (8 ≤ i) → nat_abs (dot (get_or t i []) v) ≤ 2 ^ 39
    go i (yes l) = rw (get_or-eq_default t [] {n = i} (omega (arith, h.long))) (omega arith)
    go i (no l) = let r = h.rows i (omega arith) in
        subst₂ (λ (a b : List ℤ). nat_abs (dot a b) ≤ 2 ^ 39) (take_all 8 (get_or t i []) (omega (arith, r.long))) (take_all 8 v (omega (arith, k.long))) (dot-bound (2 ^ 4) (2 ^ 32) (get_or t i []) v r.small k.small 8)

first_step : (k x d : ℤ) → d ≡ pos 0 → k *ℤ x +ℤ d ≡ k *ℤ x
first_step = by_d₃ _ λ _ _ _ _ _ _. simp ints (omega arith)

skip_step : (x d : ℤ) → pos 0 *ℤ x +ℤ d ≡ d
skip_step = by_d₂ _ λ _ _ _ _. simp ints (omega arith)

skip : (x : ℤ) (c : List ℤ) (B : List (List ℤ)) → apply (map (λ (r : List ℤ). pos 0 ∷ r) B) (x ∷ c) ≡ apply B c
skip x c [] = refl
skip x c (r ∷ B) = ap₂ ◌∷◌ (skip_step x (dot r c)) (skip x c B)

pub apply-diag : (k : ℤ) (n : ℕ) (c : List ℤ) → length c ≡ n → apply (diag k n) c ≡ scale_v k c
apply-diag k zero [] h = refl
apply-diag k zero (x ∷ c) h = absurd (omega arith)
apply-diag k (suc n) [] h = absurd (omega arith)
apply-diag k (suc n) (x ∷ c) h = ap₂ ◌∷◌ (first_step k x (dot (zeros n) c) (dot-comm (zeros n) c ∙ dot-zeros c n)) (skip x c (diag k n) ∙ apply-diag k n c (suc_inj h))

-- k divides each entry
abbrev pub Whole : ℕ → List ℤ → Type 0
Whole k [] = Unit {0}
Whole k (x ∷ w) = (floor_mod x k ≡ 0) × Whole k w

over-step : (z : ℤ) → z ≡ z +ℤ pos 0
over-step = by_d _ λ _ _. simp ints (omega arith)

module _ (k : ℕ) (k> : 0 < k) where
  pub floors-scale : (c : List ℤ) → floors k (scale_v (pos k) c) ≡ c
  floors-scale [] = refl
  floors-scale (x ∷ c) = ap₂ ◌∷◌ (floor-unique (pos k *ℤ x) k x 0 k> (over-step (pos k *ℤ x))).0 (floors-scale c)

  pub scale-floors : (w : List ℤ) → Whole k w → scale_v (pos k) (floors k w) ≡ w
  scale-floors [] h = refl
  scale-floors (x ∷ w) h = ap₂ ◌∷◌ (over-step (pos k *ℤ floor_div x k) ∙ sym (floor-split x k k> ∙ ap (λ (r : ℕ). pos k *ℤ floor_div x k +ℤ pos r) h.0)) (scale-floors w h.1)

-- what is asked of the tables
pub record Based (n k : ℕ) (B W : List (List ℤ)) (In : List ℤ → Type 0) : Type 0 where
  pub some : 0 < k
  pub rows : length B ≡ n
  pub back-rows : length W ≡ n
  pub there : times W B ≡ diag (pos k) n
  pub back : times B W ≡ diag (pos k) n
  pub long : (e : List ℤ) → In e → length e ≡ n
  pub whole : (e : List ℤ) → In e → Whole k (apply W e)
  pub points : (c : List ℤ) → length c ≡ n → In (apply B c)

module _ (n k : ℕ) (B W : List (List ℤ)) (In : List ℤ → Type 0) (t : Based n k B W In) where
  pub there_back : (c : List ℤ) → length c ≡ n → floors k (apply W (apply B c)) ≡ c
  there_back c h = ap (floors k) (apply-apply W B c ∙ ap (λ (M : List (List ℤ)). apply M c) t.there ∙ apply-diag (pos k) n c h) ∙ floors-scale k t.some c

  pub back-there : (e : List ℤ) → In e → apply B (floors k (apply W e)) ≡ e
  back-there e h =
      let w : List ℤ = apply W e in
      let p : scale_v (pos k) (apply B (floors k w)) ≡ scale_v (pos k) e =
      sym (apply-scale B (pos k) (floors k w)) ∙ ap (apply B) (scale-floors k t.some w (t.whole e h))
      ∙ apply-apply B W e ∙ ap (λ (M : List (List ℤ)). apply M e) t.back ∙ apply-diag (pos k) n e (t.long e h) in
      sym (floors-scale k t.some (apply B (floors k w))) ∙ ap (floors k) p ∙ floors-scale k t.some e
